-- A set of phases holds none beyond its bits.
use Rattle.std.proofs.Common.{◌≡◌, ◌∙◌, ◌<◌, ◌≤◌, ◌+◌, ℕ, Bool, true, false, List, length, refl, sym, ap, subst, arith}
use Rattle.std.specs.Prelude.{◌&&◌, nat_lt, slice_index_or}
use Rattle.std.proofs.lemmas.Bool.Decides.{nat_tests}
use Rattle.std.proofs.lemmas.List.{get_or_past}
use Rattle.vme_bus.specs.declared.sets.SlotSet.{SlotSet}
use Rattle.vme_bus.specs.Sets.{has}
use Rattle.vme_standings.specs.Phases.{no_slots}
use Rattle.vme_standings.proofs.Growing.{both}
use Rattle.vme_standings.proofs.Slots.{none_held}

few : (k n : ℕ) → k < n → nat_lt k n ≡ true
few k n l = grind (arith, nat_tests)

-- beyond the rows there is nothing
near : {A : Type 0} (rows : List A) (empty : A) (test : A → Bool) (n k : ℕ) → length rows ≡ n → test empty ≡ false → test (slice_index_or rows k empty) ≡ true → k < n
near rows empty test n k size none h = by_place (nat_lt k n) refl
  where
    by_place : (b : Bool) → nat_lt k n ≡ b → k < n
    by_place true e = grind (arith, nat_tests)
    by_place false e =
        let past : length rows ≤ k = grind (arith, nat_tests) in
        let clash = sym h ∙ ap test (get_or_past rows k empty past) ∙ none in
        absurd (cc)

pub idle_near : (rows : List Bool) (n k : ℕ) → length rows ≡ n → slice_index_or rows k false ≡ true → nat_lt k n ≡ true
idle_near rows n k size h = few k n (near rows false (λ b. b) n k size refl h)

-- the rows up to one of them hold no more than their bits
abbrev pub HoldBitsBelow : List SlotSet → ℕ → Type 0
HoldBitsBelow rows n = (k t : ℕ) → k < n → has (slice_index_or rows k no_slots) t ≡ true → t < 32

pub one_more : (rows : List SlotSet) (n : ℕ) → HoldBitsBelow rows n → ((t : ℕ) → has (slice_index_or rows n no_slots) t ≡ true → t < 32) → HoldBitsBelow rows (n + 1)
one_more rows n before here k t l h = by_place (nat_lt k n) refl
  where
    by_place : (b : Bool) → nat_lt k n ≡ b → t < 32
    by_place true e = before k t (grind (arith, nat_tests)) h
    by_place false e =
        let same : k ≡ n = grind (arith, nat_tests) in
        here t (subst (λ i. has (slice_index_or rows i no_slots) t ≡ true) same h)

pub in_bits : (rows : List SlotSet) (n end k t : ℕ) → length rows ≡ n → end ≡ n → HoldBitsBelow rows end → has (slice_index_or rows k no_slots) t ≡ true → (nat_lt k n && nat_lt t 32) ≡ true
in_bits rows n end k t size ended below h =
    let l = near rows no_slots (λ r. has r t) n k size (none_held t) h in
    both _ _ (few k n l) (few t 32 (below k t (omega (arith, l, ended)) h))
