-- The letters of a row are those of the only slots that they could be.
use Rattle.std.proofs.Common.{◌≡◌, ◌∙◌, ℕ, ◌≤◌, Bool, true, false, List, [], ◌∷◌, Option, Some, None, Ok, Err, refl, sym, ap, subst, arith}
use Rattle.std.specs.Prelude.{if◌then◌else◌, is_ok, option_map}
use Rattle.std.specs.List.{All}
use Rattle.std.specs.Option.{option_map_or}
use Rattle.std.proofs.lemmas.List.Elements.{All-nil, All-cons}
use Rattle.vme_model.specs.declared.boards.Row.{Row}
use Rattle.vme_model.specs.declared.signals.Driver.TheVariants.{Slot}
use Rattle.vme_model.specs.declared.signals.Wire.TheVariants.{Bbsy}
use Rattle.vme_model.specs.declared.signals.Version.{Version}
use Rattle.vme_model.specs.declared.signals.Edge.{Edge}
use Rattle.vme_model.specs.Plan.{Plan, board, drives, has_driver}
use Rattle.vme_model.specs.History.{drive}
use Rattle.vme_model.specs.Accepted.{IsAccepted}
use Rattle.vme_model.specs.GrantSafety.{Travels, Holds, OneTravels, OneHolds}
use Rattle.vme_model.specs.Safe.{OnEachPrefix}
use Rattle.vme_model.specs.Stands.{holder, grant_at}
use Rattle.vme_model.specs.declared.refusals.Refused.{Refused}
use Rattle.vme_model.specs.declared.refusals.Refused.TheVariants.{NoSuchDriver, AlreadyThere, Rule, NotSettled, TraceFull}
use Rattle.vme_model.specs.Guards.{holds}
use Rattle.vme_model.specs.Readings.{readings}
use Rattle.vme_model.specs.Rules.{rule}
use Rattle.vme_model.specs.Settling.{settling}
use Rattle.vme_model.specs.Verdict.{State, Judgement, IsLegal, after, check, driver_guard, is_other_state, made, room_guard, settled, verdict, verdict_but_full}
use Rattle.vme_model.proofs.Bools.{is_false, is_true, never}
use Rattle.vme_model.proofs.Members.{found_row}
use Rattle.vme_model.proofs.Ranges.{IsRowInRange, in_range}
use Rattle.vme_model.proofs.Safety.{legal_is_safe}
use Rattle.vme_model.proofs.Standing.{holder_holds, grant_travels, none_travels}
use Rattle.vme_slots.proofs.Slots.{find_up_to_first}
use Rattle.vme_histories.proofs.Drivers.{never_drove}
use Rattle.vme_show.specs.Picture.{Column, columns, slot_mark}
use Rattle.vme_show.specs.Letters.{ShowsEveryGrant, ShowsEveryHolder}

whole : (P : List Edge → Type 0) (h : List Edge) → OnEachPrefix P h → P h
whole P [] each = each
whole P (e ∷ h) each = each.0

absent : {X : Type 0} (o : Option X) → ((x : X) → o ≡ Some x → ⊥) → o ≡ None
absent None other = refl
absent (Some x) other = absurd (other x refl)

-- ---- the only grant

pub the_grant : (p : Plan) (h : List Edge) → OneTravels p h → (n s : ℕ) → Travels p h n s → grant_at p h ≡ Some (n, s)
the_grant p h one n s t = by_found (grant_at p h) refl
  where
    by_found : (o : Option (ℕ × ℕ)) → grant_at p h ≡ o → grant_at p h ≡ Some (n, s)
    by_found None is = absurd (none_travels p h is n s t)
    by_found (Some (m, r)) is = let same = one m n r s (grant_travels p h m r is) t in is ∙ ap (λ x. Some (x, r)) same.0 ∙ ap (λ x. Some (n, x)) same.1

no_grant : (p : Plan) (h : List Edge) → ((n s : ℕ) → Travels p h n s → ⊥) → grant_at p h ≡ None
no_grant p h none = absent (grant_at p h) (λ at is. none at.0 at.1 (grant_travels p h at.0 at.1 is))

-- ---- the only holder

-- a board that drives BBSY* stands in a slot of the plan
slot_of : (p : Plan) → IsAccepted p → (s : ℕ) (found : Option Row) → board p s ≡ found → option_map_or (drives Bbsy) found false ≡ true → (1 ≤ s) × (s ≤ p.slots)
slot_of p accepted s None is h = absurd (never h)
slot_of p accepted s (Some r) is h =
    let f = found_row (IsRowInRange p) p.rows s r (in_range p accepted).rows is in
    (subst (λ x. 1 ≤ x) f.slot f.fact.from_one, subst (λ x. x ≤ p.slots) f.slot f.fact.to_last)

holder_stands : (version : Version) (p : Plan) (h : List Edge) → IsAccepted p → IsLegal version p h → (s : ℕ) → Holds h s → (1 ≤ s) × (s ≤ p.slots)
holder_stands version p h accepted legal s low =
    slot_of p accepted s (board p s) refl
    (is_true (has_driver p (Slot s) Bbsy) (λ lacks. never (sym (never_drove version p h (Slot s) Bbsy legal lacks) ∙ low)))

holder_is : (version : Version) (p : Plan) (h : List Edge) → IsAccepted p → IsLegal version p h → OneHolds h → (s : ℕ) → Holds h s → holder p h ≡ Some s
holder_is version p h accepted legal one s low =
    let at = holder_stands version p h accepted legal s low in
    find_up_to_first (λ t. drive h (Slot t) Bbsy) p.slots s at.0 at.1 low
    (λ k from below. is_false (drive h (Slot k) Bbsy) (λ other. let same : k ≡ s = one k s other low in omega (arith, same, below)))

no_holder : (p : Plan) (h : List Edge) → ((s : ℕ) → Holds h s → ⊥) → holder p h ≡ None
no_holder p h none = absent (holder p h) (λ s is. none s (holder_holds p h s is))

-- ---- a column

-- after a legal list each edge leaves a legal list
abbrev IsLegalOn : State → Type 0
IsLegalOn b = IsAccepted b.plan × IsLegal b.version b.plan b.history

-- an edge that is accepted is so with more room, too
without_last : (a b c d r : Bool) (w x y z t : Refused) → check a w (check b x (check c y (check d z (check r t (Ok tt))))) ≡ Ok tt → check a w (check b x (check c y (check d z (Ok tt)))) ≡ Ok tt
without_last true true true true true w x y z t ok = refl
without_last a b c d r w x y z t ok = absurd (cc)

is_allowed : (b : State) (e : Edge) → verdict b e ≡ Ok tt → verdict_but_full b.version b.plan b.history e ≡ Ok tt
is_allowed b e ok =
    without_last (holds (driver_guard b.plan e)) (is_other_state (drive b.history e.driver e.wire) e.fall)
    (rule b.version (readings b.plan b.history e.driver) e.wire e.fall e.value).1 (settled b.version b.plan b.history e) (holds (room_guard b))
    NoSuchDriver AlreadyThere (Rule (rule b.version (readings b.plan b.history e.driver) e.wire e.fall e.value).0) (NotSettled (settling b.version b.plan b.history e.wire e.fall).0) TraceFull ok

stays_legal : (b : State) (e : Edge) → IsLegalOn b → IsLegalOn (after b e)
stays_legal b e l = by_verdict (verdict b e) refl
  where
    by_verdict : (j : Judgement) → verdict b e ≡ j → IsLegalOn (if is_ok j then made b e else b)
    by_verdict (Ok x) is = (l.0, (is_allowed b e is, l.1))
    by_verdict (Err r) is = l

grant_shown : (c : Column) → IsLegalOn (after c.0 c.1) → ShowsEveryGrant c
grant_shown c l =
    let now = after c.0 c.1 in
    let one = whole (OneTravels now.plan) now.history (legal_is_safe now.version now.plan now.history l.0 l.1).one_travels in
    record {
      each = λ n s t. ap (λ o. slot_mark (option_map (λ at. at.1) o)) (the_grant now.plan now.history one n s t);
      none = λ none. ap (λ o. slot_mark (option_map (λ at. at.1) o)) (no_grant now.plan now.history none);
    }

holder_shown : (c : Column) → IsLegalOn (after c.0 c.1) → ShowsEveryHolder c
holder_shown c l =
    let now = after c.0 c.1 in
    let one = whole OneHolds now.history (legal_is_safe now.version now.plan now.history l.0 l.1).one_holder in
    record {
      each = λ s low. ap slot_mark (holder_is now.version now.plan now.history l.0 l.1 one s low);
      none = λ none. ap slot_mark (no_holder now.plan now.history none);
    }

-- ---- all columns

each_column : (P : Column → Type 0) → ((c : Column) → IsLegalOn (after c.0 c.1) → P c) → (b : State) (es : List Edge) → IsLegalOn b → All P (columns b es)
each_column P f b [] l = All-nil P
each_column P f b (e ∷ es) l =
    let next = stays_legal b e l in
    All-cons P (b, e) (columns (after b e) es) (f (b, e) next) (each_column P f (after b e) es next)

pub every_grant : (b : State) (es : List Edge) → IsAccepted b.plan → IsLegal b.version b.plan b.history → All ShowsEveryGrant (columns b es)
every_grant b es accepted legal = each_column ShowsEveryGrant grant_shown b es (accepted, legal)

pub every_holder : (b : State) (es : List Edge) → IsAccepted b.plan → IsLegal b.version b.plan b.history → All ShowsEveryHolder (columns b es)
every_holder b es accepted legal = each_column ShowsEveryHolder holder_shown b es (accepted, legal)
