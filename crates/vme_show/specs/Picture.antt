-- The picture of a stretch of a trace: a row for each wire that moves in it, a column for an edge.
-- (The words are those of chapters 2 to 4; what is drawn, and how, is this project's profile.)
-- Characters are given by their codes.
use Rattle.std.specs.Prelude.{◌==◌, ◌+◌, ◌-◌, ◌/◌, ◌%◌, if◌then◌else◌, ℕ, Bool, true, false, Option, Some, None, Result, Ok, Err, List, [], ◌∷◌, ◌++◌, length, map, filter, replicate, is_ok, option_map, codes, decimal, nat_lt}
use Rattle.std.specs.List.{flat_map, list_any, range_with_len}
use Rattle.std.specs.Option.{option_map_or}
use Rattle.vme_model.specs.declared.deliveries.Delivery.{Delivery}
use Rattle.vme_model.specs.declared.refusals.Refused.{Refused}
use Rattle.vme_model.specs.declared.signals.Driver.{Driver}
use Rattle.vme_model.specs.declared.signals.Wire.{Wire}
use Rattle.vme_model.specs.declared.signals.Cycle.{Cycle}
use Rattle.vme_model.specs.declared.signals.Cycle.TheVariants.{Acknowledge, Access}
use Rattle.vme_model.specs.declared.signals.Edge.{Edge}
use Rattle.vme_model.specs.Signals.{is_edge_of}
use Rattle.vme_model.specs.Plan.{Plan, has_driver, drivers}
use Rattle.vme_model.specs.History.{drive, shown}
use Rattle.vme_model.specs.Verdict.{State, verdict, after}
use Rattle.vme_model.specs.Deliveries.{answer}
use Rattle.vme_model.specs.Offers.{wires}
use Rattle.vme_model.specs.Text.{wire_text}
use Rattle.vme_model.specs.Spoken.{driver_name}
use Rattle.vme_model.specs.Stands.{holder, grant_at}

-- an edge, and the backplane on which it is judged
abbrev pub Column : Type 0
Column = State × Edge

-- the edges of a stretch, each judged on what was kept before it
abbrev pub columns : State → List Edge → List Column
columns b [] = []
columns b (e ∷ es) = (b, e) ∷ columns (after b e) es

-- ---- the row of a wire

-- an edge of the wire: `x` if it is refused, `\` a fall, `/` a rise
abbrev pub edge_mark : Bool → Bool → ℕ
edge_mark false fall = 120
edge_mark true true = 92
edge_mark true false = 47

-- the wire is low, or for the address group on: `_`, and otherwise `-`
abbrev pub state_mark : Bool → ℕ
state_mark true = 95
state_mark false = 45

-- the wire at an edge, or at another wire's
abbrev pub mark : Driver → Wire → Column → ℕ
mark d w (b, e) =
    if is_edge_of d w e then edge_mark (is_ok (verdict b e)) e.fall
    else state_mark (drive b.history d w)

-- ---- the rows of what is so after an edge, `.` if there is nothing to print

-- a slot's character: `1` to `9`, and `A` for slot 10 to `L` for slot 21
abbrev pub slot_sign : ℕ → ℕ
slot_sign s = if nat_lt s 10 then 48 + s else 55 + s

abbrev pub slot_mark : Option ℕ → ℕ
slot_mark s = option_map_or slot_sign s 46

-- the slot at which a grant travels (chapter 3)
abbrev pub grant_mark : Column → ℕ
grant_mark (b, e) =
    let now = after b e in slot_mark (option_map (λ at. at.1) (grant_at now.plan now.history))

-- the slot that holds BBSY* low (chapter 3)
abbrev pub holder_mark : Column → ℕ
holder_mark (b, e) = let now = after b e in slot_mark (holder now.plan now.history)

-- an acknowledge by its level's letter, `a` for level 1 to `g` for level 7; an access by its
-- target's character (chapters 2 and 4)
abbrev pub cycle_mark : Option Cycle → ℕ
cycle_mark None = 46
cycle_mark (Some (Acknowledge level)) = 96 + level
cycle_mark (Some (Access s)) = slot_sign s

abbrev pub shown_mark : Column → ℕ
shown_mark (b, e) = let now = after b e in cycle_mark (shown now.plan now.history)

-- `x` refused, `!` accepted with a delivery
abbrev pub answer_mark : Result (Option Delivery) Refused → ℕ
answer_mark (Err refused) = 120
answer_mark (Ok (Some delivery)) = 33
answer_mark (Ok None) = 46

abbrev pub verdict_mark : Column → ℕ
verdict_mark (b, e) = answer_mark (answer b e)

-- ---- lines

-- with color, what is refused is red and a delivery green (ISO 6429)
abbrev pub colored : ℕ → List ℕ
colored c =
    if c == 120 then ((27 ∷ codes "[31m") ++ 120 ∷ []) ++ (27 ∷ codes "[0m")
    else (if c == 33 then ((27 ∷ codes "[32m") ++ 33 ∷ []) ++ (27 ∷ codes "[0m") else c ∷ [])

abbrev pub ink : Bool → ℕ → List ℕ
ink color c = if color then colored c else c ∷ []

-- a label, filled up to eleven characters with blanks
abbrev pub label : List ℕ → List ℕ
label name = name ++ replicate (11 - length name) 32

-- a row: its label, and a character for each column
abbrev pub row : Bool → List ℕ → List ℕ → List ℕ
row color name marks = (label name ++ flat_map (ink color) marks) ++ 10 ∷ []

-- the first line, of n columns from the edge with the number `first` on
abbrev pub title : ℕ → ℕ → List ℕ
title first n =
    (((codes "edges " ++ decimal first) ++ codes " to ") ++ decimal ((first + n) - 1)) ++ 10 ∷ []

-- over each number that 10 divides, the digit before its last
abbrev pub tens : ℕ → ℕ
tens n = if n % 10 == 0 then 48 + n / 10 % 10 else 32

abbrev pub ones : ℕ → ℕ
ones n = 48 + n % 10

-- the characters of so many numbers, after an empty label
abbrev pub numbers_line : (ℕ → ℕ) → ℕ → ℕ → List ℕ
numbers_line digit first n = (label [] ++ map digit (range_with_len first n)) ++ 10 ∷ []

-- how many of n numbers there are up to the last that 10 divides
abbrev pub up_to_tens : ℕ → ℕ → ℕ
up_to_tens first n = n - ((first + n) - 1) % 10

-- the second line ends with that one; if there is none, it is empty
abbrev pub tens_line : ℕ → ℕ → List ℕ
tens_line first n =
    if up_to_tens first n == 0 then 10 ∷ [] else numbers_line tens first (up_to_tens first n)

-- ---- the picture

-- the wires of a plan, the controller's first and then by slot, in the order of its offers
abbrev pub plan_wires : Plan → List (Driver × Wire)
plan_wires p = flat_map (λ d. map (λ w. (d, w)) (filter (has_driver p d) (wires d))) (drivers p)

-- an edge of the wire is among the columns, accepted or refused
abbrev pub is_drawn : List Column → Driver × Wire → Bool
is_drawn cs (d, w) = list_any (λ c. is_edge_of d w c.1) cs

-- the wires that have a row
abbrev pub rows : Plan → List Column → List (Driver × Wire)
rows p cs = filter (is_drawn cs) (plan_wires p)

abbrev pub wire_name : Driver → Wire → List ℕ
wire_name d w = (driver_name d ++ codes " ") ++ wire_text w

abbrev pub wire_row : Bool → List Column → Driver × Wire → List ℕ
wire_row color cs (d, w) = row color (wire_name d w) (map (mark d w) cs)

abbrev pub drawn : Bool → ℕ → Plan → List Column → List ℕ
drawn color first p cs =
    title first (length cs)
    ++ tens_line first (length cs)
    ++ numbers_line ones first (length cs)
    ++ flat_map (wire_row color cs) (rows p cs)
    ++ row color (codes "grant at") (map grant_mark cs)
    ++ row color (codes "holder") (map holder_mark cs)
    ++ row color (codes "shown") (map shown_mark cs)
    ++ row color (codes "verdict") (map verdict_mark cs)

-- the edges of a stretch, the first of which has this number, judged on what was kept before them;
-- nothing of no edges
abbrev pub picture : Bool → ℕ → State → List Edge → List ℕ
picture color first b [] = []
picture color first b (e ∷ es) = drawn color first b.plan (columns b (e ∷ es))
