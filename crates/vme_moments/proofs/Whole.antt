-- How many places a beginning has, and that it can go on unless it has all.
use Rattle.std.proofs.Common.{◌≡◌, ◌≢◌, ◌⊎◌, inl, inr, ◌<◌, ◌≤◌, ◌||◌, ℕ, zero, suc, Bool, true, false, cond, eqb, List, [], ◌∷◌, Some, length, refl, sym, ◌∙◌, subst, ap, arith}
use Rattle.std.proofs.lemmas.Bool.Decides.{nat_tests}
use Rattle.std.specs.List.{slice_get}
use Rattle.vme_moments.specs.declared.Seen.{Seen}
use Rattle.vme_moments.specs.declared.slacks.Slacks.{Slacks}
use Rattle.vme_moments.specs.Cuts.{AreDifferent}
use Rattle.vme_moments.specs.Orders.{AreInOrder, IsBeginning, IsFree, came_before, has}
use Rattle.vme_moments.proofs.CutRuns.{either, first_is, same, second}
use Rattle.vme_moments.proofs.Earlier.{TwoSeen, two_seen}

-- ---- a list of numbers without one of them

abbrev without : ℕ → List ℕ → List ℕ
without n [] = []
without n (j ∷ places) = cond (eqb j n) places (j ∷ without n places)

true_false : true ≡ false → ⊥
true_false h = cc

shorter : (n : ℕ) (places : List ℕ) → length places ≤ suc (length (without n places))
shorter n [] = omega arith
shorter n (j ∷ places) = by (eqb j n) (shorter n places)
  where
    by : (b : Bool) → length places ≤ suc (length (without n places))
        → suc (length places) ≤ suc (length (cond b places (j ∷ without n places)))
    by true rest = omega arith
    by false rest = omega arith

either_way : (a b c : Bool) → (a || b) ≡ true → (b ≡ true → c ≡ true) → (a || c) ≡ true
either_way true b c h f = refl
either_way false b c h f = f h

among : (n : ℕ) (places : List ℕ) (i : ℕ) → has (without n places) i ≡ true → has places i ≡ true
among n [] i h = h
among n (j ∷ places) i h = by (eqb j n) h (among n places i)
  where
    by : (b : Bool) → has (cond b places (j ∷ without n places)) i ≡ true
        → (has (without n places) i ≡ true → has places i ≡ true) → (eqb j i || has places i) ≡ true
    by true h rest = second (eqb j i) (has places i) h
    by false h rest =
        either_way (eqb j i) (has (without n places) i) (has places i) h rest

gone : (n : ℕ) (places : List ℕ) → AreDifferent places → has (without n places) n ≡ false
gone n [] different = refl
gone n (j ∷ places) different = by (eqb j n) refl (gone n places different.1)
  where
    by : (b : Bool) → eqb j n ≡ b → has (without n places) n ≡ false
        → has (cond b places (j ∷ without n places)) n ≡ false
    by true e rest = subst (λ k. has places k ≡ false) (same j n e) different.0
    by false e rest = ap (λ b. b || has (without n places) n) e ∙ rest

still_different : (n : ℕ) (places : List ℕ) → AreDifferent places → AreDifferent (without n places)
still_different n [] different = tt
still_different n (j ∷ places) different =
    by (eqb j n) (still_different n places different.1)
  where
    absent : (b : Bool) → has (without n places) j ≡ b → b ≡ false
    absent true e = absurd (true_false (sym (among n places j e) ∙ different.0))
    absent false e = refl

    by : (b : Bool) → AreDifferent (without n places)
        → AreDifferent (cond b places (j ∷ without n places))
    by true rest = different.1
    by false rest = (absent (has (without n places) j) refl, rest)

kept : (n : ℕ) (places : List ℕ) (i : ℕ) → has places i ≡ true → i ≢ n
    → has (without n places) i ≡ true
kept n [] i h other = h
kept n (j ∷ places) i h other =
    by (eqb j n) refl (either (eqb j i) (has places i) h) (λ t. kept n places i t other)
  where
    by : (b : Bool) → eqb j n ≡ b → (eqb j i ≡ true) ⊎ (has places i ≡ true)
        → (has places i ≡ true → has (without n places) i ≡ true)
        → has (cond b places (j ∷ without n places)) i ≡ true
    by true e (inl t) rest = absurd (other (sym (same j i t) ∙ same j n e))
    by true e (inr t) rest = t
    by false e (inl t) rest = ap (λ b. b || has (without n places) i) t
    by false e (inr t) rest = second (eqb j i) (has (without n places) i) (rest t)

count_one : (n : ℕ) (places : List ℕ) → has places n ≡ true
    → suc (length (without n places)) ≡ length places
count_one n [] h = absurd (true_false (sym h))
count_one n (j ∷ places) h = by (eqb j n) refl (λ t. count_one n places t)
  where
    by : (b : Bool) → eqb j n ≡ b
        → (has places n ≡ true → suc (length (without n places)) ≡ length places)
        → suc (length (cond b places (j ∷ without n places))) ≡ suc (length places)
    by true e rest = refl
    by false e rest = ap (λ k. suc k) (rest (sym (ap (λ b. b || has places n) e) ∙ h))

-- ---- how many different numbers there are below one

fits : (n : ℕ) (places : List ℕ) → AreDifferent places → ((i : ℕ) → has places i ≡ true → i < n)
    → length places ≤ n
fits zero [] different within = omega arith
fits zero (j ∷ places) different within =
    let lt : j < 0 = within j (first_is j places) in absurd (omega arith)
fits (suc n) places different within =
    let less : length (without n places) ≤ n =
    fits n (without n places) (still_different n places different) below in
    let one : length places ≤ suc (length (without n places)) = shorter n places in omega arith
  where
    below : (i : ℕ) → has (without n places) i ≡ true → i < n
    below i h =
        let lt : i < suc n = within i (among n places i h) in
        let other : i ≢ n = λ e. true_false (sym h
        ∙ ap (λ k. has (without n places) k) e ∙ gone n places different) in
        omega arith

covers : (n : ℕ) (places : List ℕ) → ((i : ℕ) → i < n → has places i ≡ true) → n ≤ length places
covers zero places all = omega arith
covers (suc n) places all =
    let rest : n ≤ length (without n places) =
    covers n (without n places)
    (λ i lt. kept n places i (all i (omega arith)) (λ e. absurd (omega arith))) in
    let one : suc (length (without n places)) ≡ length places =
    count_one n places (all n (omega arith)) in
    omega arith

-- all numbers below one are in a list, or one is the least that is not
abbrev HasAll : ℕ → List ℕ → Type 0
HasAll n places = (i : ℕ) → i < n → has places i ≡ true

abbrev LacksLeast : ℕ → List ℕ → Type 0
LacksLeast n places = (j : ℕ) × (j < n) × (has places j ≡ false) × HasAll j places

least_missing : (n : ℕ) (places : List ℕ) → HasAll n places ⊎ LacksLeast n places
least_missing zero places = inl (λ i lt. absurd (omega arith))
least_missing (suc n) places = by (least_missing n places)
  where
    one_more : HasAll n places → (b : Bool) → has places n ≡ b
        → HasAll (suc n) places ⊎ LacksLeast (suc n) places
    one_more all true e = inl (λ i lt. below i lt (eqb i n) refl)
      where
        below : (i : ℕ) → i < suc n → (b : Bool) → eqb i n ≡ b → has places i ≡ true
        below i lt true t = subst (λ k. has places k ≡ true) (sym (same i n t)) e
        below i lt false t =
            let less : i < n = grind (arith, nat_tests) in all i less
    one_more all false e = inr (n, omega arith, e, all)

    by : HasAll n places ⊎ LacksLeast n places → HasAll (suc n) places ⊎ LacksLeast (suc n) places
    by (inl all) = one_more all (has places n) refl
    by (inr least) =
        let lt : least.0 < n = least.1 in inr (least.0, omega arith, least.2, least.3)

-- ---- beginnings

different : (x : Slacks) (ms : List Seen) (places : List ℕ) → IsBeginning x ms places
    → AreDifferent places
different x ms [] begins = tt
different x ms (j ∷ places) begins = (begins.0.new, different x ms places begins.1)

within : (x : Slacks) (ms : List Seen) (places : List ℕ) → IsBeginning x ms places → (i : ℕ)
    → has places i ≡ true → i < length ms
within x ms [] begins i h = absurd (true_false (sym h))
within x ms (j ∷ places) begins i h =
    by (either (eqb j i) (has places i) h) (λ t. within x ms places begins.1 i t)
  where
    by : (eqb j i ≡ true) ⊎ (has places i ≡ true) → (has places i ≡ true → i < length ms)
        → i < length ms
    by (inl t) rest = subst (λ k. k < length ms) (same j i t) begins.0.within
    by (inr t) rest = rest t

-- it has no more places than there are
pub beginning_fits : (x : Slacks) (ms : List Seen) (places : List ℕ) → IsBeginning x ms places
    → length places ≤ length ms
beginning_fits x ms places begins =
    fits (length ms) places (different x ms places begins) (within x ms places begins)

-- what came before a place was listed before it
listed_before : (x : Slacks) (ms : List Seen) (i j : ℕ) → AreInOrder ms
    → came_before x ms i j ≡ true → i < j
listed_before x ms i j ordered h = by (two_seen x ms i j h)
  where
    some_same : (a b : Seen) → Some a ≡ Some b → a.moment ≡ b.moment
    some_same a b e = cc

    by : TwoSeen ms i j → i < j
    by two =
        let early : two.first.moment < two.other.moment = two.earlier in
        let not_same : i ≢ j = λ e.
        (let one : two.first.moment ≡ two.other.moment =
        some_same two.first two.other
        (sym two.first_is ∙ ap (λ k. slice_get ms k) e ∙ two.other_is) in
        absurd (omega arith)) in
        let not_later : ¬ (j < i) = λ lt.
        (let late : two.other.moment ≤ two.first.moment =
        ordered j i two.other two.first lt two.other_is two.first_is in
        absurd (omega arith)) in
        omega arith

-- the least place that is not in a beginning can come next
pub goes_on : (x : Slacks) (ms : List Seen) (places : List ℕ) → AreInOrder ms
    → length places ≢ length ms → IsBeginning x ms places → (j : ℕ) × IsFree x ms places j
goes_on x ms places ordered some begins = by (least_missing (length ms) places)
  where
    by : HasAll (length ms) places ⊎ LacksLeast (length ms) places → (j : ℕ) × IsFree x ms places j
    by (inl all) =
        let most : length places ≤ length ms = beginning_fits x ms places begins in
        let least : length ms ≤ length places = covers (length ms) places all in
        absurd (some (omega arith))
    by (inr least) = (
      least.0,
      record {
        within = least.1;
        new = least.2;
        behind = λ i h. least.3 i (listed_before x ms i least.0 ordered h);
      },
    )
