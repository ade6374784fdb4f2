-- The tenures of a legal list do not overlap.
use Rattle.std.proofs.Common.{◌≡◌, ◌∙◌, ℕ, ◌≤◌, true, false, List, [], ◌∷◌, Option, Some, None, refl, sym, ap, subst, arith}
use Rattle.std.specs.Prelude.{◌==◌, if◌then◌else◌, option_map}
use Rattle.std.specs.Option.{option_map_or}
use Rattle.vme_model.specs.declared.boards.Row.{Row}
use Rattle.vme_model.specs.declared.signals.Version.{Version}
use Rattle.vme_model.specs.declared.signals.Cycle.{Cycle}
use Rattle.vme_model.specs.declared.signals.Driver.TheVariants.{Controller, Slot}
use Rattle.vme_model.specs.declared.signals.Wire.TheVariants.{Bbsy}
use Rattle.vme_model.specs.declared.signals.Edge.{Edge}
use Rattle.vme_model.specs.Accepted.{IsAccepted}
use Rattle.vme_model.specs.GrantSafety.{Holds, OneHolds, is_fall_on}
use Rattle.vme_model.specs.History.{drive}
use Rattle.vme_model.specs.Numbered.{Numbered, edges_in}
use Rattle.vme_model.specs.Plan.{Plan, board, drives}
use Rattle.vme_model.specs.Stands.{holder}
use Rattle.vme_model.specs.Verdict.{IsLegal}
use Rattle.vme_model.proofs.AllowedEdges.{all_passed}
use Rattle.vme_model.proofs.Bools.{is_false, never}
use Rattle.vme_model.proofs.Members.{found_row}
use Rattle.vme_model.proofs.Ranges.{IsRowInRange, in_range}
use Rattle.vme_model.proofs.Safety.{legal_is_safe}
use Rattle.vme_model.proofs.Standing.{holder_holds}
use Rattle.vme_slots.proofs.Slots.{find_up_to_first}
use Rattle.vme_cycles.specs.Transactions.{is_rise_on, tenure_of}
use Rattle.vme_cycles.proofs.NamedEdges.{edge, IsNext, AtEach}
use Rattle.vme_cycles.proofs.OneCycle.{self, still_low}

module _ (v : Version) (p : Plan) (fit : IsAccepted p) where
  one : (h : List Edge) → IsLegal v p h → OneHolds h
  one [] l = (legal_is_safe v p [] fit l).one_holder
  one (e ∷ h) l = (legal_is_safe v p (e ∷ h) fit l).one_holder.0

  -- nobody holds the bus before a board takes it
  free : (k : Numbered) (t : ℕ) (c : Option Cycle) → IsNext v p k (edge (Slot t) Bbsy true c) → (o : Option ℕ) → holder p (edges_in k) ≡ o → holder p (edges_in k) ≡ None
  free k t c l None is = is
  free k t c l (Some s) is =
      let h = edges_in k in
      let takes = ap (λ b. if b then true else drive h (Slot t) Bbsy) (self t) in
      let same = one (edge (Slot t) Bbsy true c ∷ h) l t s takes (still_low (t == s) (drive h (Slot s) Bbsy) (holder_holds p h s is)) in
      let a = all_passed v p h (Slot t) Bbsy true c l.0 in
      absurd (never (sym a.before ∙ subst (λ x. drive h (Slot x) Bbsy ≡ true) (sym same) (holder_holds p h s is)))

  -- a board that has BBSY* stands in a slot of the plan
  within : (t : ℕ) (found : Option Row) → board p t ≡ found → option_map_or (drives Bbsy) found false ≡ true → (1 ≤ t) × (t ≤ p.slots)
  within t None is h = absurd (never h)
  within t (Some r) is h =
      let f = found_row (IsRowInRange p) p.rows t r (in_range p fit).rows is in
      (subst (λ x. 1 ≤ x) f.slot f.fact.from_one, subst (λ x. x ≤ p.slots) f.slot f.fact.to_last)

  -- who holds the bus is found
  held : (h : List Edge) → IsLegal v p h → (t : ℕ) → (1 ≤ t) × (t ≤ p.slots) → Holds h t → holder p h ≡ Some t
  held h l t at low =
      find_up_to_first (λ s. drive h (Slot s) Bbsy) p.slots t at.0 at.1 low
      (λ k from below. is_false (drive h (Slot k) Bbsy) (λ other. let same : k ≡ t = one h l k t other low in omega (arith, same, below)))

  begins_alone : AtEach v p (λ k e. is_fall_on Bbsy e ≡ true → tenure_of p k ≡ None)
  begins_alone k (Slot t) Bbsy true c l is = ap (option_map (λ s. Slot s)) (free k t c l (holder p (edges_in k)) refl)
  begins_alone k Controller Bbsy true c l is = absurd (cc (all_passed v p (edges_in k) Controller Bbsy true c l.0).wire)
  begins_alone k d w true c l is = absurd (cc)
  begins_alone k d w false c l is = absurd (cc)

  ends_own : AtEach v p (λ k e. is_rise_on Bbsy e ≡ true → tenure_of p k ≡ Some e.driver)
  ends_own k (Slot t) Bbsy false c l is =
      let h = edges_in k in
      let a = all_passed v p h (Slot t) Bbsy false c l.0 in
      ap (option_map (λ s. Slot s)) (held h l.1 t (within t (board p t) refl a.exists) a.before)
  ends_own k Controller Bbsy false c l is = absurd (cc (all_passed v p (edges_in k) Controller Bbsy false c l.0).wire)
  ends_own k d w true c l is = absurd (cc)
  ends_own k d w false c l is = absurd (cc)

pub tenure_begins_alone : (v : Version) (p : Plan) (k : Numbered) (n : ℕ) (e : Edge) → IsAccepted p → IsNext v p k e → is_fall_on Bbsy e ≡ true → tenure_of p k ≡ None
tenure_begins_alone v p k n e fit l is = begins_alone v p fit k e.driver e.wire e.fall e.value l is

pub tenure_ends_by_its_board : (v : Version) (p : Plan) (k : Numbered) (n : ℕ) (e : Edge) → IsAccepted p → IsNext v p k e → is_rise_on Bbsy e ≡ true → tenure_of p k ≡ Some e.driver
tenure_ends_by_its_board v p k n e fit l is = ends_own v p fit k e.driver e.wire e.fall e.value l is
