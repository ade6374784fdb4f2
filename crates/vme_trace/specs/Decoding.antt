-- What the code takes a line for before it compares the line with that edge's spelling. A law says that this is the edge
-- of every line that spells one.
use Rattle.std.specs.Prelude.{◌==◌, ◌&&◌, ◌+◌, ◌-◌, ℕ, Bool, true, List, not, length, slice_index, Option, Some, None, nat_lt, if◌then◌else◌}
use Rattle.vme_model.specs.declared.signals.Driver.{Driver}
use Rattle.vme_model.specs.declared.signals.Driver.TheVariants.{Controller, Slot}
use Rattle.vme_model.specs.declared.signals.Wire.{Wire}
use Rattle.vme_model.specs.declared.signals.Wire.TheVariants.{Bg, Bclr, Iack, Berr, Br, BgOut, Bbsy, Addr, AddressStrobe, DataStrobe, Irq, IackOut, Dtack}
use Rattle.vme_model.specs.declared.signals.Cycle.{Cycle}
use Rattle.vme_model.specs.declared.signals.Cycle.TheVariants.{Acknowledge, Access}
use Rattle.vme_model.specs.declared.signals.Edge.{Edge}

abbrev pub digit : ℕ → ℕ
digit b = b - 48

-- a number of two digits, the first of them 1 or 2
abbrev pub two_digits : ℕ → ℕ → ℕ
two_digits a b = (if a == 50 then 20 else 10) + digit b

-- a wire of the controller, by its first three bytes
abbrev pub control_wire : ℕ → ℕ → ℕ → Wire
control_wire a b c =
    if a == 105 then Iack
    else if b == 103 then Bg (digit c)
    else if b == 99 then Bclr
    else Berr

-- a wire of a board, by its first two bytes
abbrev pub board_wire : ℕ → ℕ → Wire
board_wire a b =
    if a == 98 then (if b == 114 then Br else if b == 103 then BgOut else Bbsy)
    else if a == 97 then (if b == 100 then Addr else AddressStrobe)
    else if a == 100 then (if b == 115 then DataStrobe else Dtack)
    else if b == 114 then Irq
    else IackOut

-- what a line shows behind the blank at a place
abbrev pub cycle_at : List ℕ → ℕ → Cycle
cycle_at line k =
    if slice_index line k == 105 then Acknowledge (digit (slice_index line (k + 1)))
    else if length line == k + 2 then Access (digit (slice_index line (k + 1)))
    else Access (two_digits (slice_index line (k + 1)) (slice_index line (k + 2)))

abbrev pub last : List ℕ → ℕ
last line = slice_index line (length line - 1)

abbrev pub plain_edge : Driver → Wire → ℕ → Edge
plain_edge driver wire sign = record { driver = driver; wire = wire; fall = sign == 45; value = None }

abbrev pub shown_edge : Driver → List ℕ → ℕ → Option Edge
shown_edge driver line k =
    if nat_lt (length line) (k + 2) then None
    else Some (record { driver = driver; wire = Addr; fall = true; value = Some (cycle_at line k) })

-- a fall of the address group, by the first two bytes of its word and the last one of the line
abbrev pub shows_cycle : ℕ → ℕ → ℕ → Bool
shows_cycle a b sign = a == 97 && b == 100 && not (sign == 43)

-- an edge of a board, whose word begins at a place
abbrev pub board_edge : ℕ → List ℕ → ℕ → Option Edge
board_edge slot line k =
    if shows_cycle (slice_index line k) (slice_index line (k + 1)) (last line)
    then shown_edge (Slot slot) line (k + 6)
    else Some (plain_edge (Slot slot) (board_wire (slice_index line k) (slice_index line (k + 1))) (last line))

unfoldable pub guess : List ℕ → Option Edge
guess line =
    if nat_lt (length line) 5 then None
    else if slice_index line 0 == 99
    then Some (plain_edge Controller (control_wire (slice_index line 2) (slice_index line 3) (slice_index line 4)) (last line))
    else if slice_index line 1 == 32 then board_edge (digit (slice_index line 0)) line 2
    else board_edge (two_digits (slice_index line 0) (slice_index line 1)) line 3
