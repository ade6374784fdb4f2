-- Every condition of a guard is in the table of the sources, under the rule of its edge.
use Rattle.std.proofs.Common.{◌≡◌, ℕ, Bool, true, false, List, [], ◌∷◌, ◌++◌, Option, Some, None, refl}
use Rattle.std.specs.Prelude.{◌&&◌, if◌then◌else◌}
use Rattle.std.specs.List.{list_all, list_any}
use Rattle.std.specs.Option.{option_map_or, option_and_then}
use Rattle.vme_model.specs.declared.boards.Release.{Release}
use Rattle.vme_model.specs.declared.boards.Release.TheVariants.{Done, Request}
use Rattle.vme_model.specs.declared.boards.RequesterRow.{RequesterRow}
use Rattle.vme_model.specs.declared.boards.Row.{Row}
use Rattle.vme_model.specs.declared.conditions.Condition.TheVariants.{PassedTheLastBoard}
use Rattle.vme_model.specs.declared.conditions.Tested.{Tested}
use Rattle.vme_model.specs.declared.sentences.Rule.{Rule}
use Rattle.vme_model.specs.declared.sentences.Rule.TheVariants.{G14, G15, G23, G25, S3}
use Rattle.vme_model.specs.declared.signals.Cycle.{Cycle}
use Rattle.vme_model.specs.declared.signals.Cycle.TheVariants.{Acknowledge, Access}
use Rattle.vme_model.specs.declared.signals.Edge.{Edge}
use Rattle.vme_model.specs.declared.signals.Version.{Version}
use Rattle.vme_model.specs.declared.signals.Version.TheVariants.{One, Two}
use Rattle.vme_model.specs.declared.signals.Wire.{Wire}
use Rattle.vme_model.specs.declared.signals.Wire.TheVariants.{Bg, Bclr, Iack, Berr, Br, BgOut, Bbsy, Addr, AddressStrobe, DataStrobe, Irq, IackOut, Dtack}
use Rattle.vme_model.specs.Guards.{Guard, free, conditions}
use Rattle.vme_model.specs.History.{is_past_end, line}
use Rattle.vme_model.specs.Plan.{Plan, grant_chain}
use Rattle.vme_model.specs.Readings.{Readings}
use Rattle.vme_model.specs.Rules.{answers, below_burst, burst_guard, bus_numbers, guard, passes, released, show_guard, shows}
use Rattle.vme_model.specs.Settling.{settling_guard}
use Rattle.vme_model.specs.Sources.{has_condition, rule_of, settling_of}

abbrev pub Has : Rule → Guard → Type 0
Has rule g = list_all (λ (t : Tested). has_condition rule t.condition) (conditions g) ≡ true

by_release : (asked : Bool) (release : Release) → Has G14 (released asked release)
by_release asked (Done burst) = refl
by_release asked Request = refl

by_burst : (cycles : ℕ) (release : Release) → Has G15 (below_burst cycles release)
by_burst cycles (Done burst) = refl
by_burst cycles Request = refl

-- a guard of the requester's row, if there is one
of_requester : (rule : Rule) (f : RequesterRow → Guard) → ((q : RequesterRow) → Has rule (f q)) → (o : Option RequesterRow) → Has rule (option_map_or f o free)
of_requester rule f each None = refl
of_requester rule f each (Some q) = each q

of_board : (rule : Rule) (f : RequesterRow → Guard) → ((q : RequesterRow) → Has rule (f q)) → (o : Option Row) → Has rule (option_map_or f (option_and_then (λ (b : Row). b.requester) o) free)
of_board rule f each None = refl
of_board rule f each (Some b) = of_requester rule f each b.requester

by_value : (handles irq : ℕ → Bool) (v : Option Cycle) → Has G15 (shows handles irq v)
by_value handles irq None = refl
by_value handles irq (Some (Acknowledge level)) = refl
by_value handles irq (Some (Access s)) = refl

by_shown : (pending : ℕ → Bool) (v : Option Cycle) → Has G23 (passes pending v)
by_shown pending None = refl
by_shown pending (Some (Acknowledge level)) = refl
by_shown pending (Some (Access s)) = refl

by_answer : (iack_in iackout : Bool) (pending is_own : ℕ → Bool) (v : Option Cycle) → Has G25 (answers iack_in iackout pending is_own v)
by_answer iack_in iackout pending is_own None = refl
by_answer iack_in iackout pending is_own (Some (Acknowledge level)) = refl
by_answer iack_in iackout pending is_own (Some (Access s)) = refl

-- two guards, both of which the rule has
both : (rule : Rule) (xs ys : List Tested) → list_all (λ (t : Tested). has_condition rule t.condition) xs ≡ true → list_all (λ (t : Tested). has_condition rule t.condition) ys ≡ true
    → list_all (λ (t : Tested). has_condition rule t.condition) (xs ++ ys) ≡ true
both rule [] ys x y = y
both rule (t ∷ xs) ys x y = one (has_condition rule t.condition) x (both rule xs ys)
  where
    one : (b : Bool) → b && list_all (λ (t : Tested). has_condition rule t.condition) xs ≡ true
        → (list_all (λ (t : Tested). has_condition rule t.condition) xs ≡ true → list_all (λ (t : Tested). has_condition rule t.condition) ys ≡ true
        → list_all (λ (t : Tested). has_condition rule t.condition) (xs ++ ys) ≡ true)
        → b && list_all (λ (t : Tested). has_condition rule t.condition) (xs ++ ys) ≡ true
    one true e rest = rest e y
    one false e rest = cc

pub sourced : (version : Version) (r : Readings) (w : Wire) (fall : Bool) (v : Option Cycle) → Has (rule_of w fall) (guard version r w fall v).1
sourced version r (Bg n) true v = refl
sourced One r (Bg n) false v = refl
sourced Two r (Bg n) false v = refl
sourced version r Bclr true v = refl
sourced version r Bclr false v = refl
sourced version r Iack true v = refl
sourced version r Iack false v = refl
sourced version r Berr true v = refl
sourced version r Berr false v = refl
sourced version r Br true v = refl
sourced One r Br false v = refl
sourced Two r Br false v = refl
sourced version r BgOut true v = refl
sourced version r BgOut false v = refl
sourced version r Bbsy true v = refl
sourced version r Bbsy false v = of_board G14 (λ q. released (list_any r.request bus_numbers) q.release) (λ q. by_release (list_any r.request bus_numbers) q.release) r.board
sourced version r Addr true v = both G15 (conditions (burst_guard r)) (conditions (show_guard r v)) (of_board G15 (λ q. below_burst r.cycles q.release) (λ q. by_burst r.cycles q.release) r.board)
    (by_value _ _ v)
sourced version r Addr false v = refl
sourced version r AddressStrobe true v = refl
sourced version r AddressStrobe false v = refl
sourced version r DataStrobe true v = refl
sourced version r DataStrobe false v = refl
sourced version r Irq true v = refl
sourced version r Irq false v = refl
sourced version r IackOut true v = by_shown _ r.shown
sourced version r IackOut false v = refl
sourced version r Dtack true v = by_answer _ _ _ _ r.shown
sourced version r Dtack false v = refl

abbrev pub Settles : Version → Plan → List Edge → Wire → Bool → Type 0
Settles version p h w fall =
    list_all (λ (t : Tested). option_map_or (λ r. has_condition r t.condition) (settling_of w fall) false) (conditions (settling_guard version p h w fall).1) ≡ true

pub settled : (version : Version) (p : Plan) (h : List Edge) (w : Wire) (fall : Bool) → Settles version p h w fall
settled One p h (Bg n) true = refl
settled Two p h (Bg n) true = refl
settled One p h (Bg n) false = refl
settled Two p h (Bg n) false = by_busy (line p h Bbsy)
  where
    by_busy : (busy : Bool) → list_all (λ (t : Tested). has_condition S3 t.condition) (if busy then [] else record { condition = PassedTheLastBoard; holds = is_past_end p h (grant_chain n) } ∷ [])
        ≡ true
    by_busy true = refl
    by_busy false = refl
settled version p h Bclr true = refl
settled version p h Bclr false = refl
settled version p h Iack true = refl
settled version p h Iack false = refl
settled version p h Berr true = refl
settled version p h Berr false = refl
settled version p h Br true = refl
settled version p h Br false = refl
settled version p h BgOut true = refl
settled version p h BgOut false = refl
settled version p h Bbsy true = refl
settled version p h Bbsy false = refl
settled version p h Addr true = refl
settled version p h Addr false = refl
settled version p h AddressStrobe true = refl
settled version p h AddressStrobe false = refl
settled version p h DataStrobe true = refl
settled version p h DataStrobe false = refl
settled version p h Irq true = refl
settled version p h Irq false = refl
settled version p h IackOut true = refl
settled version p h IackOut false = refl
settled version p h Dtack true = refl
settled version p h Dtack false = refl
