-- Counts of answered edges, and how an edge moves them.
use Rattle.std.proofs.Common.{◌≡◌, ◌∙◌, sym, ap, ℕ, ◌+◌, ◌<◌, ◌≤◌, ◌^◌, Bool, true, false, cond, List, ◌∷◌, length, get_or, set, inl, inr, arith}
use Rattle.std.specs.Prelude.{◌==◌, count_by, if◌then◌else◌}
use Rattle.std.proofs.lemmas.Bool.{cases_eq}
use Rattle.std.proofs.lemmas.Bool.Decides.{nat_tests}
use Rattle.std.proofs.lemmas.List.{get_or-set_same, get_or-set_other}
use Rattle.std.proofs.lemmas.List.Sums.{sum_by-cons, count_by-le-length}
use Rattle.vme_summary.specs.Tally.{Answered, Answers}
use Rattle.vme_summary.specs.Tallied.{more}

-- one that passes, and one that doesn't
pub count_step : (p : Answered → Bool) (a : Answered) (t : Answers) → count_by p (a ∷ t) ≡ (if p a then 1 else 0) + count_by p t
count_step p a t = sum_by-cons (λ x. cond (p x) 1 0) a t

pub count_yes : (p : Answered → Bool) (a : Answered) (t : Answers) → p a ≡ true → count_by p (a ∷ t) ≡ 1 + count_by p t
count_yes p a t passes = count_step p a t ∙ ap (λ (b : Bool). (if b then 1 else 0) + count_by p t) passes

pub count_no : (p : Answered → Bool) (a : Answered) (t : Answers) → p a ≡ false → count_by p (a ∷ t) ≡ count_by p t
count_no p a t fails = let is = count_step p a t ∙ ap (λ (b : Bool). (if b then 1 else 0) + count_by p t) fails in omega (arith, is)

-- a count of fewer than 2^64 edges that goes on by one
pub more_one : (p : Answered → Bool) (a : Answered) (t : Answers) (n : ℕ) → length t + 1 < 2 ^ 64 → n ≡ count_by p t → p a ≡ true → more n 1 ≡ count_by p (a ∷ t)
more_one p a t n few is passes =
    let most : count_by p t ≤ length t = count_by-le-length p t in
    let next = count_yes p a t passes in
    omega (arith, most, next)

-- a count at a place, where one at the i-th goes on
pub counted : (p : Answered → Bool) (a : Answered) (t : Answers) (xs : List ℕ) (i k : ℕ) → k < length xs → length t + 1 < 2 ^ 64 → get_or xs k 0 ≡ count_by p t → p a ≡ (i == k)
    → get_or (set xs i (more (get_or xs i 0) 1)) k 0 ≡ count_by p (a ∷ t)
counted p a t xs i k within few is test = elim (cases_eq i k) [
  | inl same ↦
      let passes : p a ≡ true = grind (arith, nat_tests, test, same) in
      rw same
      (get_or-set_same xs k (more (get_or xs k 0) 1) 0 within ∙ more_one p a t (get_or xs k 0) few is passes)
  | inr other ↦
      let fails : p a ≡ false = grind (arith, nat_tests, test, other) in
      get_or-set_other xs i k (more (get_or xs i 0) 1) 0 (λ e. other (sym e)) ∙ is ∙ sym (count_no p a t fails)
]
