-- The numbers that stand in the line of an edge.
use Rattle.std.specs.Prelude.{ℕ, Bool, ◌+◌, ◌*◌, if◌then◌else◌}
use Rattle.vme_model.specs.declared.signals.Driver.{Driver}
use Rattle.vme_model.specs.declared.signals.Driver.TheVariants.{Controller, Slot}
use Rattle.vme_model.specs.declared.signals.Wire.{Wire}
use Rattle.vme_model.specs.declared.signals.Wire.TheVariants.{Bg, Bclr, Iack, Berr, Br, BgOut, Bbsy, Addr, AddressStrobe, DataStrobe, Irq, IackOut, Dtack}
use Rattle.vme_model.specs.declared.signals.Cycle.{Cycle}
use Rattle.vme_model.specs.declared.signals.Cycle.TheVariants.{Acknowledge, Access}

-- the number that names a driver
abbrev pub driver_number : Driver → ℕ
driver_number Controller = 0
driver_number (Slot s) = s

-- the number that names what is shown
abbrev pub cycle_number : Cycle → ℕ
cycle_number (Acknowledge v) = v
cycle_number (Access t) = t

-- where the words of a wire stand, and that of a rise or a fall
abbrev pub word_place : Wire → ℕ
word_place (Bg n) = n
word_place Bclr = 4
word_place Iack = 5
word_place Berr = 6
word_place Br = 7
word_place BgOut = 8
word_place Bbsy = 9
word_place Addr = 10
word_place AddressStrobe = 11
word_place DataStrobe = 12
word_place Irq = 13
word_place IackOut = 14
word_place Dtack = 15

abbrev pub move_place : Wire → Bool → ℕ
move_place w fall = 2 * word_place w + (if fall then 1 else 0)
