-- Where a bus stands, and the lines that report it. (The words are those of chapters 2 to 4; what
-- is reported, and its order, is this project's profile.)
use Rattle.std.specs.Prelude.{◌&&◌, ℕ, Bool, false, not, if◌then◌else◌, Option, Some, List, [], ◌∷◌, ◌++◌, length, map, filter, find, nat_lt, decimal, codes}
use Rattle.std.specs.List.{flat_map}
use Rattle.std.specs.Option.{option_map_or}
use Rattle.vme_model.specs.declared.signals.Driver.{Driver}
use Rattle.vme_model.specs.declared.signals.Driver.TheVariants.{Slot}
use Rattle.vme_model.specs.declared.signals.Wire.TheVariants.{Br, BgOut, Bbsy, Addr, Irq}
use Rattle.vme_model.specs.declared.signals.Cycle.{Cycle}
use Rattle.vme_model.specs.declared.signals.Cycle.TheVariants.{Access}
use Rattle.vme_model.specs.declared.signals.Edge.{Edge}
use Rattle.vme_model.specs.Signals.{is_same_wire}
use Rattle.vme_model.specs.Plan.{Plan, up_to, active, grant_chain, drivers}
use Rattle.vme_model.specs.History.{drive, input, addressing, shown}
use Rattle.vme_model.specs.Readings.{readings, is_pending}
use Rattle.vme_model.specs.Rules.{bus_numbers}
use Rattle.vme_model.specs.Verdict.{State}
use Rattle.vme_model.specs.Offers.{wires}
use Rattle.vme_model.specs.Open.{open_edges}
use Rattle.vme_model.specs.Text.{wire_text, sign, argument}
use Rattle.vme_model.specs.Spoken.{driver_name}
use Rattle.vme_model.specs.Numbered.{Numbered, since}
use Rattle.vme_model.specs.Witnesses.{requester_of, interrupter_of, holds_low}
use Rattle.vme_model.specs.Why.{since_text}

-- the slot that holds the bus; the least one, if there were several
abbrev pub holder : Plan → List Edge → Option ℕ
holder p h = find (λ s. drive h (Slot s) Bbsy) (up_to p.slots)

-- a grant of level n stands at slot s of its chain, which has neither passed it on nor taken it
-- (chapter 3)
abbrev pub is_granted_at : Plan → List Edge → ℕ × ℕ → Bool
is_granted_at p h (n, s) =
    input p h (grant_chain n) s && not (drive h (Slot s) BgOut) && not (drive h (Slot s) Bbsy)

-- the levels and slots at which a grant can stand, by chain, then by slot
abbrev pub grant_places : Plan → List (ℕ × ℕ)
grant_places p = flat_map (λ n. map (λ s. (n, s)) (active p (grant_chain n))) bus_numbers

-- the level of the grant that travels, and the slot at which it stands; the first, if there were
-- several
abbrev pub grant_at : Plan → List Edge → Option (ℕ × ℕ)
grant_at p h = find (is_granted_at p h) (grant_places p)

-- a line for each driver that has something to report, the controller first, then by slot
abbrev pub lines_of : State → (Driver → List ℕ) → List ℕ
lines_of b text =
    flat_map (λ d. text d ++ 10 ∷ []) (filter (λ d. nat_lt 0 (length (text d))) (drivers b.plan))

-- words with commas between them
abbrev pub with_commas : List (List ℕ) → List ℕ
with_commas [] = []
with_commas (w ∷ ws) = w ++ flat_map (λ v. codes ", " ++ v) ws

-- those words after a first word; nothing if there are none
abbrev pub listed : List ℕ → Driver → List (List ℕ) → List ℕ
listed first d [] = []
listed first d (w ∷ ws) = ((first ++ driver_name d) ++ codes " ") ++ with_commas (w ∷ ws)

abbrev pub holder_text : State → Numbered → List ℕ
holder_text b k =
    option_map_or (λ s. (codes "holder " ++ decimal s) ++ since_text (since k (Slot s) Bbsy))
    (holder b.plan b.history) (codes "holder none")

abbrev pub grant_text : State → List ℕ
grant_text b =
    option_map_or (λ at. ((codes "grant bg" ++ decimal at.0) ++ codes " at ") ++ decimal at.1)
    (grant_at b.plan b.history) (codes "grant none")

abbrev pub shown_text : State → Numbered → List ℕ
shown_text b k =
    option_map_or
    (λ s. (((codes "shown" ++ argument (shown b.plan b.history)) ++ codes " by ") ++ decimal s)
    ++ since_text (since k (Slot s) Addr))
    (addressing b.plan b.history) (codes "shown none")

-- the word for a board that requests the bus, and for one whose interrupter is pending, with the
-- level
abbrev pub at_level : List ℕ → Driver → ℕ → Option ℕ → List ℕ
at_level first d level n =
    (((first ++ driver_name d) ++ codes " level ") ++ decimal level) ++ since_text n

abbrev pub asks_text : State → Numbered → Driver → List ℕ
asks_text b k d =
    option_map_or
    (λ q. if drive b.history d Br then at_level (codes "asks ") d q.level (since k d Br) else [])
    (requester_of b d) []

abbrev pub pending_text : State → Numbered → Driver → List ℕ
pending_text b k d =
    option_map_or
    (λ i. if is_pending (readings b.plan b.history d) i.level
    then at_level (codes "pending ") d i.level (since k d Irq)
    else [])
    (interrupter_of b d) []

-- the wires that a driver holds low, in the order of its offers; the address group is on or off
abbrev pub low_text : State → Driver → List ℕ
low_text b d =
    listed (codes "low ") d
    (map wire_text (filter (λ w. not (is_same_wire w Addr) && holds_low b w d) (wires d)))

-- an access to another slot than the first
abbrev pub is_later_access : Option Cycle → Bool
is_later_access (Some (Access s)) = nat_lt 1 s
is_later_access _ = false

-- an edge without its driver; either all accesses are open or none is, and one word reports them
abbrev pub open_text : Edge → List ℕ
open_text e = (wire_text e.wire ++ sign e.fall) ++ open_argument e.value
  where
    open_argument : Option Cycle → List ℕ
    open_argument (Some (Access s)) = codes " r1..r21"
    open_argument v = argument v

abbrev pub open_line : State → Driver → List ℕ
open_line b d =
    listed (codes "open ") d
    (map open_text (filter (λ e. not (is_later_access e.value)) (open_edges b d)))

abbrev pub after_text : ℕ → ℕ → List ℕ
after_text n accepted = ((codes "after " ++ decimal n) ++ codes " accepted ") ++ decimal accepted

-- where the bus stands after the first n edges of a trace; k numbers those that were accepted
abbrev pub stands_text : ℕ → State → Numbered → List ℕ
stands_text n b k =
    (after_text n (length b.history) ++ 10 ∷ [])
    ++ (holder_text b k ++ 10 ∷ [])
    ++ (grant_text b ++ 10 ∷ [])
    ++ (shown_text b k ++ 10 ∷ [])
    ++ lines_of b (asks_text b k)
    ++ lines_of b (pending_text b k)
    ++ lines_of b (low_text b)
    ++ lines_of b (open_line b)
