-- Numbers grow along a trace, and along the places of a history.
use Rattle.std.proofs.Common.{◌≡◌, ◌∙◌, ℕ, ◌+◌, ◌<◌, ◌≤◌, Bool, true, false, List, [], ◌∷◌, length, Some, None, refl, sym, ap, subst, arith}
use Rattle.std.specs.Prelude.{if◌then◌else◌, is_ok}
use Rattle.vme_model.specs.declared.signals.Edge.{Edge}
use Rattle.vme_model.specs.Verdict.{State, verdict, after}
use Rattle.vme_model.specs.Numbered.{Numbered, edges_in, numbered_with, numbered_on, numbered}
use Rattle.vme_events.specs.Places.{by_place, AreBelow}

pub places_below : (h : List Edge) → AreBelow (length h + 1) (by_place h)
places_below [] = tt
places_below (e ∷ h) = (omega arith, places_below h)

pub edges_placed : (h : List Edge) → edges_in (by_place h) ≡ h
edges_placed [] = refl
edges_placed (e ∷ h) = ap (λ (l : List Edge). e ∷ l) (edges_placed h)

pub below_more : (k : Numbered) (m n : ℕ) → m ≤ n → AreBelow m k → AreBelow n k
below_more [] m n le b = tt
below_more ((o, e) ∷ k) m n le b = let lt = b.0 in (omega (arith, lt), b.1)

below_with : (t : Bool) (n : ℕ) (e : Edge) (k : Numbered) → AreBelow (n + 1) k → AreBelow (n + 1 + 1) (if t then (n + 1, e) ∷ k else k)
below_with true n e k b = (omega arith, b)
below_with false n e k b = below_more k (n + 1) (n + 1 + 1) (omega arith) b

below_on : (es : List Edge) (b : State) (n : ℕ) (k : Numbered) → AreBelow (n + 1) k → AreBelow (n + length es + 1) (numbered_on b n k es)
below_on [] b n k a = let same : n + 1 ≡ n + 0 + 1 = omega arith in subst (λ m. AreBelow m k) same a
below_on (e ∷ es) b n k a =
    let same : n + 1 + length es + 1 ≡ n + length (e ∷ es) + 1 = omega arith in
    subst (λ m. AreBelow m (numbered_on b n k (e ∷ es))) same
    (below_on es (after b e) (n + 1) (numbered_with b (n + 1) e k) (below_with (is_ok (verdict b e)) n e k a))

pub numbers_below : (b : State) (es : List Edge) → AreBelow (length es + 1) (numbered b es)
numbers_below b es =
    let same : 0 + length es + 1 ≡ length es + 1 = omega arith in
    subst (λ m. AreBelow m (numbered b es)) same (below_on es b 0 [] tt)
