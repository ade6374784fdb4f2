-- The accepted edges of a trace, kept in a list.
use Rattle.std.proofs.Common.{◌≡◌, ◌≢◌, ◌<◌, ◌+◌, ◌++◌, ◌∷◌, [], ℕ, Bool, true, false, List, All, IsTrue, is_ok, length, take, get_or, if◌then◌else◌, refl, sym, ◌∙◌, ap, subst, arith}
use mathlib.Core.List.{reverse-cons}
use Rattle.std.proofs.lemmas.List.Elements.{All-push}
use Rattle.vme_model.specs.declared.signals.Edge.{Edge}
use Rattle.vme_model.specs.declared.signals.Version.{Version}
use Rattle.vme_model.specs.History.{in_order}
use Rattle.vme_model.specs.Plan.{Plan}
use Rattle.vme_model.specs.Signals.{is_well_formed}
use Rattle.vme_model.specs.Verdict.{State, after, made, verdict}
use Rattle.vme_reading.specs.Outcomes.{bench}
use Rattle.vme_following.proofs.FollowedEdges.{next_list}
use Rattle.vme_reading.proofs.WrittenLines.{kept_append}
use Rattle.vme_races.specs.declared.racing.Racing.{Racing}
use Rattle.vme_races.specs.declared.walks.Walk.{Walk}
use Rattle.vme_races.specs.Kept.{Advances, IsKept}
use Rattle.vme_races.specs.Listed.{AreListed}

-- ---- one more edge

same_by : (b : State) (e : Edge) (t : Bool)
    → length (if t then made b e else b).history ≡ length b.history
    → (if t then made b e else b).history ≡ b.history
same_by b e true same = absurd (omega (arith, same))
same_by b e false same = refl

more_by : (b : State) (e : Edge) (t : Bool)
    → length (if t then made b e else b).history ≢ length b.history
    → (if t then made b e else b).history ≡ e ∷ b.history
more_by b e true other = refl
more_by b e false other = absurd (other refl)

module _ (p : Plan) (v : Version) (es : List Edge) (e : Edge) (old now : Racing) (line : List ℕ)
    (on : (walks : List Walk) → IsKept p v es walks old → Advances p v es walks e line now)
    (list : List Edge) (are : AreListed p v es old list) where
  next : Advances p v es are.0.0 e line now
  next = on are.0.0 are.0.1

  bus_next : now.bus ≡ after old.bus e
  bus_next =
      next.1.bus ∙ kept_append (bench p v) es (e ∷ []) ∙ ap (λ s. after s e) (sym are.0.1.bus)

  size_next : length now.bus.history ≡ length (after old.bus e).history
  size_next = ap (λ (s : State). length s.history) bus_next

  -- it is refused
  pub listed_same : length now.bus.history ≡ length old.bus.history
      → AreListed p v (es ++ e ∷ []) now list
  listed_same same =
      let history : old.bus.history ≡ now.bus.history =
      sym (ap (λ (s : State). s.history) bus_next
      ∙ same_by old.bus e (is_ok (verdict old.bus e)) (sym size_next ∙ same)) in
      ((next.0, next.1), are.1 ∙ ap in_order history)

  -- it is accepted
  pub listed_more : (new : List Edge) → length now.bus.history ≢ length old.bus.history
      → new ≡ list ++ e ∷ [] → AreListed p v (es ++ e ∷ []) now new
  listed_more new other is =
      let history : now.bus.history ≡ e ∷ old.bus.history =
      ap (λ (s : State). s.history) bus_next
      ∙ more_by old.bus e (is_ok (verdict old.bus e)) (λ same. other (size_next ∙ same)) in (
        (next.0, next.1),
        is ∙ ap (λ l. l ++ e ∷ []) are.1 ∙ sym (reverse-cons e old.bus.history)
            ∙ ap in_order (sym history),
      )

-- the edges are well formed still, if there was memory for one more and if not
pub pushed_formed : (t : Bool) (list new : List Edge) (e : Edge)
    → new ≡ (if t then list ++ e ∷ [] else list) → All (λ d. IsTrue (is_well_formed d)) list
    → IsTrue (is_well_formed e) → All (λ d. IsTrue (is_well_formed d)) new
pushed_formed true list new e is all one =
    subst (All (λ d. IsTrue (is_well_formed d))) (sym is)
    (All-push (λ d. IsTrue (is_well_formed d)) list e all one)
pushed_formed false list new e is all one =
    subst (All (λ d. IsTrue (is_well_formed d))) (sym is) all

-- ---- in the loop over edges

pub listed_next : (p : Plan) (v : Version) (before es : List Edge) (i : ℕ) (d : Edge) (now : Racing)
    (list : List Edge) → i < length es
    → AreListed p v ((before ++ take i es) ++ get_or es i d ∷ []) now list
    → AreListed p v (before ++ take (i + 1) es) now list
listed_next p v before es i d now list lt are =
    subst (λ (l : List Edge). AreListed p v l now list) (next_list before es i d lt) are
