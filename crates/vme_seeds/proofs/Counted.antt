-- Counts of edges by their kinds.
use Rattle.std.proofs.Common.{◌≡◌, ◌∙◌, refl, sym, ap, ℕ, Bool, true, false, List, ◌∷◌, ◌+◌, ◌<◌, ◌≤◌, length, take, slice_index, arith}
use Rattle.std.specs.Prelude.{if◌then◌else◌, Ok}
use Rattle.std.proofs.lemmas.List.Sums.{length-filter, count_by-le-length}
use Rattle.std.proofs.lemmas.Grind.{common_steps}
use Rattle.vme_model.specs.declared.signals.Edge.{Edge}
use Rattle.vme_model.specs.Verdict.{State, verdict, made, after}
use Rattle.vme_seeds.specs.declared.kinds.Kind.{Kind}
use Rattle.vme_seeds.specs.Kinds.{number, is_of, of_kind, count}
use Rattle.vme_seeds.specs.Tallies.{AreCounts, CountsIn}

first_counts : (b : Bool) (e : Edge) (es : List Edge) → length (if b then e ∷ es else es) ≡ (if b then length es + 1 else length es)
first_counts true e es = omega arith
first_counts false e es = refl

-- one more edge
pub counted_in : (p : ℕ → Bool) (h : List Edge) (e : Edge) (old new : List ℕ) → AreCounts p h old → CountsIn p e old new → AreCounts p (e ∷ h) new
counted_in p h e old new counts more k =
    more k ∙ ap (λ n. if is_of p k e then n + 1 else n) (counts k) ∙ sym (first_counts (is_of p k e) e (of_kind p k h))

pub few : (p : ℕ → Bool) (k : Kind) (es : List Edge) → count p k es ≤ length es
few p k es = omega (arith, length-filter (is_of p k) es, count_by-le-length (is_of p k) es)

short : (i : ℕ) (es : List Edge) → length (take i es) ≤ i
short i es = grind (arith, common_steps)

pub few_so_far : (p : ℕ → Bool) (es : List Edge) (counts : List ℕ) (i : ℕ) → AreCounts p (take i es) counts → i ≤ 792 → (k : Kind) → slice_index counts (number k) < 4294967295
few_so_far p es counts i are small k = omega (arith, are k, few p k (take i es), short i es, small)

-- an edge that would be accepted is made
pub made_where_ok : (b : State) (e : Edge) → verdict b e ≡ Ok tt → after b e ≡ made b e
made_where_ok b e ok = rw ok refl
