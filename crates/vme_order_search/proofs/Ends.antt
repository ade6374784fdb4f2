-- The longest legal beginning, and of those of its length the least.
use Rattle.std.proofs.Common.{◌≡◌, ◌⊎◌, inl, inr, ◌<◌, ◌≤◌, ◌+◌, ℕ, zero, suc, Bool, true, false, List, [], ◌∷◌, All, Some, length, reverse, sym, ◌∙◌, subst, arith}
use Rattle.std.specs.List.{slice_get}
use Rattle.std.proofs.lemmas.Bool.{cases_lt}
use Rattle.std.proofs.lemmas.List.{reverse-append, reverse-reverse}
use Rattle.std.proofs.lemmas.List.Elements.{All-append}
use Rattle.std.proofs.lemmas.Option.{slice_get_within}
use Rattle.vme_moments.specs.Orders.{IsBeginning, IsLesser, IsLongest}
use Rattle.vme_moments.specs.declared.Seen.{Seen}
use Rattle.vme_moments.specs.declared.slacks.Slacks.{Slacks}
use Rattle.vme_order_search.specs.declared.layers.Beginning.{Beginning}
use Rattle.vme_order_search.specs.declared.trails.Trail.{Trail}
use Rattle.vme_order_search.specs.Searching.{Task, IsLegalIn, IsAtMost, IsKeptAs, IsStoodFor, IsLeftOut, IsLayer}
use Rattle.vme_order_search.proofs.Lesser.{lesser_trans, lesser_self, at_most_lesser}
use Rattle.vme_order_search.proofs.Legal.{beginning_fits, front_legal}

-- ---- the least of a layer

first_at_most : (bs : List Beginning) (paths : ℕ → List ℕ) (i : ℕ) (q : List ℕ)
    → ((i j : ℕ) → i < j → j < length bs → IsLesser (paths i) (paths j)) → i < length bs
    → IsAtMost (paths i) q → IsLesser q (paths 0) → ⊥
first_at_most bs paths zero q ascending within most lesser =
    lesser_self (paths 0) (at_most_lesser (paths 0) q (paths 0) most lesser)
first_at_most bs paths (suc i) q ascending within most lesser =
    lesser_self (paths 0) (lesser_trans (paths 0) (paths (suc i)) (paths 0)
    (ascending 0 (suc i) (let e : 0 < suc i = omega arith in e) within)
    (at_most_lesser (paths (suc i)) q (paths 0) most lesser))

least_way : (t : Task) (cut : Bool) (bs : List Beginning) (paths : ℕ → List ℕ) (q : List ℕ)
    → ((i j : ℕ) → i < j → j < length bs → IsLesser (paths i) (paths j)) → 0 < length bs
    → IsStoodFor t bs paths q ⊎ IsLeftOut cut bs paths q → IsLesser q (paths 0) → ⊥
least_way t cut bs paths q ascending some (inl h) lesser =
    first_at_most bs paths h.place q ascending (slice_get_within bs h.place h.by h.is) h.stands.most
    lesser
least_way t cut bs paths q ascending some (inr h) lesser =
    lesser_self q (lesser_trans q (paths 0) q lesser (h.beyond 0 some))

-- ---- no longer one

pub nothing_longer : (t : Task) (n : ℕ) → ((q : List ℕ) → IsLegalIn t q → length q ≡ n + 1 → ⊥)
    → (q : List ℕ) → IsLegalIn t q → length q ≤ n
nothing_longer t n none [] legal = omega arith
nothing_longer t n none (j ∷ q) legal =
    not_more n (length q) (none (j ∷ q) legal) (nothing_longer t n none q (front_legal t j q legal))
  where
    by_cases : (n k : ℕ) → (suc k ≡ n + 1 → ⊥) → k ≤ n → (k < n) ⊎ (n ≤ k) → suc k ≤ n
    by_cases n k never le (inl h) = omega arith
    by_cases n k never le (inr h) = absurd (never (omega arith))

    not_more : (n k : ℕ) → (suc k ≡ n + 1 → ⊥) → k ≤ n → suc k ≤ n
    not_more n k never le = by_cases n k never le (cases_lt k n)

none_kept : (t : Task) (trail : Trail) (n : ℕ) (paths : ℕ → List ℕ) (q : List ℕ)
    → IsStoodFor t [] paths q ⊎ IsLeftOut false [] paths q → ⊥
none_kept t trail n paths q (inl h) = no_one h.by h.place h.is
  where
    no_one : (b : Beginning) (i : ℕ) → (let bs : List Beginning = [] in slice_get bs i ≡ Some b) → ⊥
    no_one b i h = cc
none_kept t trail n paths q (inr h) = no_both h.cut
  where
    no_both : false ≡ true → ⊥
    no_both h = cc

-- of a layer without any, of which nothing was left out
pub empty_layer : (t : Task) (trail : Trail) (n : ℕ) (bs : List Beginning) (cut : Bool)
    (paths : ℕ → List ℕ) → bs ≡ [] → cut ≡ false → IsLayer t trail cut n bs paths
    → (q : List ℕ) → IsLegalIn t q → length q ≡ n → ⊥
empty_layer t trail n bs cut paths is whole layer q legal count =
    let none : IsLayer t trail false n [] paths =
    subst (λ b. IsLayer t trail b n [] paths) whole
    (subst (λ l. IsLayer t trail cut n l paths) is layer) in
    none_kept t trail n paths q (none.all q legal count)

-- ---- the first of the last layer

pub first_of : (t : Task) (trail : Trail) (n : ℕ) (bs : List Beginning) (cut : Bool)
    (paths : ℕ → List ℕ) (b : Beginning) → slice_get bs 0 ≡ Some b
    → IsLayer t trail cut n bs paths → ((q : List ℕ) → IsLegalIn t q → length q ≤ n)
    → IsLongest t.version t.plan t.slacks t.seen (paths 0)
first_of t trail n bs cut paths b is layer most =
    let first : IsKeptAs t trail n b (paths 0) = layer.kept.each 0 b is in
    record {
      legal = first.legal;
      longest = λ q legal. subst (λ k. length q ≤ k) (sym first.count) (most q legal);
      least = λ q legal same. least_way t cut bs paths q layer.kept.ascending
          (slice_get_within bs 0 b is) (layer.all q legal (same ∙ first.count));
    }

pub all_fit : (t : Task) (n : ℕ) → n ≡ length t.seen → (q : List ℕ) → IsLegalIn t q → length q ≤ n
all_fit t n is q legal =
    subst (λ k. length q ≤ k) (sym is) (beginning_fits t.slacks t.seen q legal.begins)

-- each place of a beginning is one
pub each_within : (x : Slacks) (ms : List Seen) (places : List ℕ) → IsBeginning x ms places
    → All (λ p. p < length ms) places
each_within x ms [] h k d lt = absurd (omega arith)
each_within x ms (j ∷ places) h zero d lt = h.0.within
each_within x ms (j ∷ places) h (suc k) d lt =
    each_within x ms places h.1 k d (let e : k < length places = omega arith in e)

all_one : (P : ℕ → Type 0) (x : ℕ) → P x → All P (x ∷ [])
all_one P x p zero d lt = p
all_one P x p (suc k) d lt = absurd (omega arith)

all_rest : (P : ℕ → Type 0) (x : ℕ) (xs : List ℕ) → All P (x ∷ xs) → All P xs
all_rest P x xs all k d lt = all (suc k) d (let e : suc k < length (x ∷ xs) = omega arith in e)

all_reversed : (P : ℕ → Type 0) (xs : List ℕ) → All P xs → All P (reverse xs)
all_reversed P [] all = all
all_reversed P (x ∷ xs) all =
    subst (λ l. All P l) (sym (reverse-append (x ∷ []) xs))
    (All-append P (reverse xs) (x ∷ []) (all_reversed P xs (all_rest P x xs all))
    (all_one P x (all 0 x (let e : 0 < length (x ∷ xs) = omega arith in e))))

-- each place of a list that is a beginning in reverse is one
pub reverse_within : (x : Slacks) (ms : List Seen) (order : List ℕ) → IsBeginning x ms (reverse order)
    → All (λ p. p < length ms) order
reverse_within x ms order h =
    subst (λ l. All (λ p. p < length ms) l) (reverse-reverse order)
    (all_reversed (λ p. p < length ms) (reverse order) (each_within x ms (reverse order) h))
