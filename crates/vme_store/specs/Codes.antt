-- An edge as one number below 2 ^ 15. (Profile.)
use Rattle.std.specs.Prelude.{◌==◌, ◌+◌, ◌-◌, ◌*◌, ◌/◌, ◌%◌, ℕ, Bool, true, false, Option, Some, None, if◌then◌else◌, nat_lt}
use Rattle.vme_model.specs.declared.signals.Driver.{Driver}
use Rattle.vme_model.specs.declared.signals.Driver.TheVariants.{Controller, Slot}
use Rattle.vme_model.specs.declared.signals.Wire.{Wire}
use Rattle.vme_model.specs.declared.signals.Wire.TheVariants.{Bg, Bclr, Iack, Berr, Br, BgOut, Bbsy, Addr, AddressStrobe, DataStrobe, Irq, IackOut, Dtack}
use Rattle.vme_model.specs.declared.signals.Cycle.{Cycle}
use Rattle.vme_model.specs.declared.signals.Cycle.TheVariants.{Acknowledge, Access}
use Rattle.vme_model.specs.declared.signals.Edge.{Edge}
use Rattle.vme_model.specs.Signals.{driver_number, wire_number}

abbrev pub fall_code : Bool → ℕ
fall_code true = 1
fall_code false = 0

-- the code of what an address group shows, if anything; levels are 1 to 7, and slots begin at 1
abbrev pub value_code : Option Cycle → ℕ
value_code None = 0
value_code (Some (Acknowledge level)) = level
value_code (Some (Access s)) = s + 7

-- the code of an edge
abbrev pub code_of : Edge → ℕ
code_of e =
    ((driver_number e.driver * 16 + wire_number e.wire) * 2 + fall_code e.fall) * 32
    + value_code e.value

abbrev pub driver_of : ℕ → Driver
driver_of n = if n == 0 then Controller else Slot n

abbrev pub wire_of : ℕ → Wire
wire_of n =
    if nat_lt n 4 then Bg n
    else if n == 4 then Bclr else if n == 5 then Iack else if n == 6 then Berr
    else if n == 7 then Br else if n == 8 then BgOut else if n == 9 then Bbsy
    else if n == 10 then Addr else if n == 11 then AddressStrobe
    else if n == 12 then DataStrobe else if n == 13 then Irq else if n == 14 then IackOut else Dtack

abbrev pub value_of : ℕ → Option Cycle
value_of n =
    if n == 0 then None
    else if nat_lt n 8 then Some (Acknowledge n) else Some (Access (n - 7))

-- the edge for which a code stands
unfoldable pub edge_of : ℕ → Edge
edge_of c = record {
  driver = driver_of (c / 1024 % 32);
  wire = wire_of (c / 64 % 16);
  fall = c / 32 % 2 == 1;
  value = value_of (c % 32);
}
