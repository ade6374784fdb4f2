-- The phases that show what the probes see, one segment and one level after the other.
use Rattle.std.proofs.Common.{◌≡◌, ◌∙◌, ◌<◌, ◌≤◌, ◌+◌, ℕ, Bool, true, false, refl, sym, subst, ⊎_elim, arith}
use Rattle.std.specs.Prelude.{◌&&◌, nat_lt}
use Rattle.std.proofs.lemmas.Bool.{cases_lt}
use Rattle.vme_model.proofs.Bools.{and_left, and_right}
use Rattle.vme_standings.specs.declared.phases.GrantPhase.{GrantPhase}
use Rattle.vme_standings.specs.declared.phases.GrantPhase.TheVariants.{Idle, Granting, Held, Expired}
use Rattle.vme_standings.specs.declared.phases.GrantPhases.{GrantPhases}
use Rattle.vme_standings.specs.Beginnings.{KeepsPhases}
use Rattle.vme_standings.specs.Grants.{are_alike}
use Rattle.vme_standings.specs.Phases.{HasExactly, has_bit, has_phase, is_in_table}
use Rattle.std.proofs.lemmas.Bool.Decides.{nat_tests}
use Rattle.vme_standings.proofs.Growing.{both}

-- no test yet
pub kept_all : (P : ℕ → GrantPhase → Type 0) (s : GrantPhases) → KeepsPhases (λ q. (k : ℕ) → k < 0 → P k q) s s
kept_all P s = record {
  only = λ q table h. (h, λ k l. absurd (omega arith));
  all = λ q table h passes. h;
}

-- one test more
pub kept_more : (P : ℕ → GrantPhase → Type 0) (k : ℕ) (first old new : GrantPhases) → KeepsPhases (λ q. (j : ℕ) → j < k → P j q) first old → KeepsPhases (P k) old new
    → KeepsPhases (λ q. (j : ℕ) → j < k + 1 → P j q) first new
kept_more P k first old new before here = record {
  only = λ q table h.
      let w = here.only q table h in
      let v = before.only q table w.0 in
      (v.0, λ j l. ⊎_elim (λ (m : j < k). v.1 j m) (λ (m : k ≤ j). let same : k ≡ j = omega arith in subst (λ i. P i q) same w.1) (cases_lt j k));
  all = λ q table h passes. here.all q table (before.all q table h (λ j l. passes j (omega arith))) (passes k (omega arith));
}

near : (c n : ℕ) → nat_lt c n ≡ true → c < n
near c n e = grind (arith, nat_tests)

place : (t : ℕ) → nat_lt t 22 ≡ true → t < 32
place t e = let l = near t 22 e in omega arith

-- what a set has exactly it has of each phase for which it has a place
pub in_table : (s : GrantPhases) (test : GrantPhase → Bool) → HasExactly s test → (q : GrantPhase) → is_in_table q ≡ true → has_phase s q ≡ test q
in_table s test exact (Idle c) e = exact.idle c (near c 4 e)
in_table s test exact (Granting c t) e = exact.granting c t (near c 4 (and_left (nat_lt c 4) (nat_lt t 22) e)) (place t (and_right (nat_lt c 4) (nat_lt t 22) e))
in_table s test exact (Held b t) e = exact.held b t (near b 22 (and_left (nat_lt b 22) (nat_lt t 22) e)) (place t (and_right (nat_lt b 22) (nat_lt t 22) e))
in_table s test exact (Expired c t) e = exact.expired c t (near c 4 (and_left (nat_lt c 4) (nat_lt t 22) e)) (place t (and_right (nat_lt c 4) (nat_lt t 22) e))

bit : (t : ℕ) → nat_lt t 32 ≡ true → t < 32
bit t e = near t 32 e

-- and of each phase for which it has a bit
pub with_bit : (s : GrantPhases) (test : GrantPhase → Bool) → HasExactly s test → (q : GrantPhase) → has_bit q ≡ true → has_phase s q ≡ test q
with_bit s test exact (Idle c) e = exact.idle c (near c 4 e)
with_bit s test exact (Granting c t) e = exact.granting c t (near c 4 (and_left (nat_lt c 4) (nat_lt t 32) e)) (bit t (and_right (nat_lt c 4) (nat_lt t 32) e))
with_bit s test exact (Held b t) e = exact.held b t (near b 22 (and_left (nat_lt b 22) (nat_lt t 32) e)) (bit t (and_right (nat_lt b 22) (nat_lt t 32) e))
with_bit s test exact (Expired c t) e = exact.expired c t (near c 4 (and_left (nat_lt c 4) (nat_lt t 32) e)) (bit t (and_right (nat_lt c 4) (nat_lt t 32) e))

-- a cut by a fact keeps the phases in which it is so
pub cut_keeps : (P : GrantPhase → Type 0) (so : GrantPhase → Bool) (old new : GrantPhases) → HasExactly new (λ q. has_phase old q && so q) → ((q : GrantPhase) → so q ≡ true → P q)
    → ((q : GrantPhase) → P q → so q ≡ true) → KeepsPhases P old new
cut_keeps P so old new exact so_then then_so = record {
  only = λ q table h.
      let e = sym (with_bit new (λ q. has_phase old q && so q) exact q table) ∙ h in
      (and_left (has_phase old q) (so q) e, so_then q (and_right (has_phase old q) (so q) e));
  all = λ q table h passes. in_table new (λ q. has_phase old q && so q) exact q table ∙ both (has_phase old q) (so q) h (then_so q passes);
}

-- two tests that are alike
pub alike_is : (a b : Bool) → are_alike a b ≡ true → b ≡ a
alike_is true true e = refl
alike_is true false e = absurd (cc)
alike_is false true e = absurd (cc)
alike_is false false e = refl

pub is_alike : (a b : Bool) → b ≡ a → are_alike a b ≡ true
is_alike true true e = refl
is_alike true false e = absurd (cc)
is_alike false true e = absurd (cc)
is_alike false false e = refl
