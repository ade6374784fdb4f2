-- Which level a policy picks, by the four request lines: the laws that each policy gives, and what
-- follows for every policy.
use Rattle.std.proofs.Common.{◌≡◌, refl, sym, ap, subst, ℕ, zero, suc, ◌%◌, ◌<◌, ◌==◌, Bool, true, false, List, [], ◌∷◌, arith}
use Rattle.std.specs.Prelude.{Option, Some, None, find, ◌&&◌, ◌||◌, not, nat_le, nat_lt, if◌then◌else◌}
use Rattle.std.specs.List.{list_all}
use Rattle.std.specs.Option.{option_map_or}
use Rattle.std.proofs.lemmas.Bool.Decides.{nat_tests}
use Rattle.vme_model.specs.declared.boards.ArbiterKind.{ArbiterKind}
use Rattle.vme_model.specs.declared.boards.ArbiterKind.TheVariants.{Sgl, Pri, Rrs}
use Rattle.vme_model.specs.declared.sets.BusLevels.{BusLevels}
use Rattle.vme_model.specs.Sets.{has_bus_level}
use Rattle.vme_model.specs.Rules.{pick, is_pick, serves, bus_numbers, round_place}
use Rattle.vme_model.proofs.Bools.{and_left, and_right, same_number}

-- the lines of the four levels
abbrev lines : Bool → Bool → Bool → Bool → ℕ → Bool
lines a b c d zero = a
lines a b c d (suc zero) = b
lines a b c d (suc (suc zero)) = c
lines a b c d (suc (suc (suc n))) = d

abbrev Test : Type 0
Test = Bool → Bool → Bool → Bool → Bool

abbrev pub on_both : (Bool → Bool) → Bool
on_both t = t true && t false

-- a test holds of every four lines
abbrev always : Test → Bool
always t = on_both (λ a. on_both (λ b. on_both (λ c. on_both (λ d. t a b c d))))

pub at_one : (t : Bool → Bool) → on_both t ≡ true → (a : Bool) → t a ≡ true
at_one t e true = and_left (t true) (t false) e
at_one t e false = and_right (t true) (t false) e

at_lines : (t : Test) → always t ≡ true → (a b c d : Bool) → t a b c d ≡ true
at_lines t e a b c d =
    at_one (λ d. t a b c d)
    (at_one (λ c. on_both (λ d. t a b c d))
    (at_one (λ b. on_both (λ c. on_both (λ d. t a b c d)))
    (at_one (λ a. on_both (λ b. on_both (λ c. on_both (λ d. t a b c d)))) e a) b) c) d

abbrev is_same : Option ℕ → Option ℕ → Bool
is_same None None = true
is_same (Some m) (Some n) = m == n
is_same _ _ = false

same : (a b : Option ℕ) → is_same a b ≡ true → a ≡ b
same None None e = refl
same (Some m) (Some n) e = ap (λ x. Some x) (same_number m n e)
same None (Some n) e = cc
same (Some m) None e = cc

-- a level passes the test exactly if it is the one that is found
abbrev agrees : (ℕ → Bool) → Option ℕ → ℕ → Bool
agrees test found n = if option_map_or (λ m. m == n) found false then test n else not (test n)

-- at most one level passes the test, and if none does, no served level is low
abbrev pub settles : (ℕ → Bool) → (ℕ → Bool) → (ℕ → Bool) → Bool
settles test served low =
    list_all (agrees test (find test bus_numbers)) bus_numbers
    && option_map_or (λ _. true) (find test bus_numbers)
    (list_all (λ n. not (served n && low n)) bus_numbers)

-- The laws of a policy's kind: a level that is picked is low; the lines settle which; no other line
-- is looked at.
pub record Laws (kind : ArbiterKind) : Type 0 where
  pub is_low : (low : ℕ → Bool) (last n : ℕ) → is_pick kind low last n ≡ true → low n ≡ true
  pub settled : (low : ℕ → Bool) (last : ℕ) →
      settles (is_pick kind low last) (serves kind) low ≡ true
  pub by_lines : (low high : ℕ → Bool) (last n : ℕ) →
      low 0 ≡ high 0 → low 1 ≡ high 1 → low 2 ≡ high 2 → low 3 ≡ high 3 →
      low n ≡ high n → is_pick kind low last n ≡ is_pick kind high last n

-- whether a search in that order finds the pick
abbrev finds : List ℕ → ArbiterKind → ℕ → Test
finds order kind last a b c d =
    is_same (find (lines a b c d) order) (pick kind (lines a b c d) last)

-- whether the lines settle the pick
abbrev are_enough : ArbiterKind → ℕ → Test
are_enough kind last a b c d =
    settles (is_pick kind (lines a b c d) last) (serves kind) (lines a b c d)

-- Single level.

sgl_laws : Laws Sgl
sgl_laws = record {
  is_low = λ low last n e.
      let at_three = same_number n 3 (and_left _ _ e) in
      subst (λ x. low x ≡ true) (sym at_three) (and_right (n == 3) (low 3) e);
  settled = λ low last. at_lines (are_enough Sgl last) refl (low 0) (low 1) (low 2) (low 3);
  by_lines = λ low high last n a b c d e. cc;
}

-- Priority.

pri_laws : Laws Pri
pri_laws = record {
  is_low = λ low last n e. and_left (low n) _ e;
  settled = λ low last. at_lines (are_enough Pri last) refl (low 0) (low 1) (low 2) (low 3);
  by_lines = λ low high last n a b c d e. cc;
}

pub highest : (low : ℕ → Bool) (last : ℕ) → find low (3 ∷ 2 ∷ 1 ∷ 0 ∷ []) ≡ pick Pri low last
highest low last =
    same _ _ (at_lines (finds (3 ∷ 2 ∷ 1 ∷ 0 ∷ []) Pri last) refl (low 0) (low 1) (low 2) (low 3))

-- Round robin, whose order is by the level last granted: four orders, in each of which the levels
-- have their places.

abbrev places : ℕ → ℕ → ℕ → ℕ → ℕ → ℕ
places k l m n zero = k
places k l m n (suc zero) = l
places k l m n (suc (suc zero)) = m
places k l m n (suc (suc (suc _))) = n

-- no low line has a place before it
abbrev is_first : (ℕ → ℕ) → (ℕ → Bool) → ℕ → Bool
is_first place low n =
    low n && list_all (λ m. not (low m) || nat_le (place n) (place m)) bus_numbers

-- a search in that order finds the first by those places, and the lines settle it
abbrev is_order : List ℕ → (ℕ → ℕ) → (ℕ → Bool) → Bool
is_order order place low =
    is_same (find low order) (find (is_first place low) bus_numbers)
    && settles (is_first place low) (λ _. true) low

-- the round that begins at a level, and goes down
abbrev round_from : ℕ → List ℕ
round_from zero = 3 ∷ 2 ∷ 1 ∷ 0 ∷ []
round_from (suc zero) = 0 ∷ 3 ∷ 2 ∷ 1 ∷ []
round_from (suc (suc zero)) = 1 ∷ 0 ∷ 3 ∷ 2 ∷ []
round_from (suc (suc (suc _))) = 2 ∷ 1 ∷ 0 ∷ 3 ∷ []

-- the places by the level last granted are these
abbrev AreAt : ℕ → ℕ → ℕ → ℕ → ℕ → Type 0
AreAt last k l m n =
    (round_place last 0 ≡ k) × (round_place last 1 ≡ l) × (round_place last 2 ≡ m)
    × (round_place last 3 ≡ n)

by_places : (low : ℕ → Bool) (order : List ℕ) (k l m n : ℕ) →
    always (λ a b c d. is_order order (places k l m n) (lines a b c d)) ≡ true →
    (last : ℕ) → AreAt last k l m n →
    is_order order
    (places (round_place last 0) (round_place last 1) (round_place last 2) (round_place last 3))
    (lines (low 0) (low 1) (low 2) (low 3)) ≡ true
by_places low order k l m n e last at =
    let test : Test = λ a b c d. is_order order (places k l m n) (lines a b c d) in
    rw (at.0, at.1, at.2, at.3) (at_lines test e (low 0) (low 1) (low 2) (low 3))

in_round : (low : ℕ → Bool) (last r : ℕ) → last % 4 ≡ r →
    is_order (round_from r) (round_place last) low ≡ true
in_round low last zero e =
    by_places low (round_from 0) 3 2 1 0 refl last
    (omega arith, omega arith, omega arith, omega arith)
in_round low last (suc zero) e =
    by_places low (round_from 1) 0 3 2 1 refl last
    (omega arith, omega arith, omega arith, omega arith)
in_round low last (suc (suc zero)) e =
    by_places low (round_from 2) 1 0 3 2 refl last
    (omega arith, omega arith, omega arith, omega arith)
in_round low last (suc (suc (suc zero))) e =
    by_places low (round_from 3) 2 1 0 3 refl last
    (omega arith, omega arith, omega arith, omega arith)
in_round low last (suc (suc (suc (suc r)))) e = absurd (omega arith)

rrs_laws : Laws Rrs
rrs_laws = record {
  is_low = λ low last n e. and_left (low n) _ e;
  settled = λ low last. and_right _ _ (in_round low last (last % 4) refl);
  by_lines = λ low high last n a b c d e. cc;
}

pub next_0 : (low : ℕ → Bool) (last : ℕ) → last % 4 ≡ 0 →
    find low (3 ∷ 2 ∷ 1 ∷ 0 ∷ []) ≡ pick Rrs low last
next_0 low last e = same _ _ (and_left _ _ (in_round low last 0 e))

pub next_1 : (low : ℕ → Bool) (last : ℕ) → last % 4 ≡ 1 →
    find low (0 ∷ 3 ∷ 2 ∷ 1 ∷ []) ≡ pick Rrs low last
next_1 low last e = same _ _ (and_left _ _ (in_round low last 1 e))

pub next_2 : (low : ℕ → Bool) (last : ℕ) → last % 4 ≡ 2 →
    find low (1 ∷ 0 ∷ 3 ∷ 2 ∷ []) ≡ pick Rrs low last
next_2 low last e = same _ _ (and_left _ _ (in_round low last 2 e))

pub next_3 : (low : ℕ → Bool) (last : ℕ) → last % 4 ≡ 3 →
    find low (2 ∷ 1 ∷ 0 ∷ 3 ∷ []) ≡ pick Rrs low last
next_3 low last e = same _ _ (and_left _ _ (in_round low last 3 e))

-- Every policy.

pub laws_of : (kind : ArbiterKind) → Laws kind
laws_of Sgl = sgl_laws
laws_of Pri = pri_laws
laws_of Rrs = rrs_laws

found : (test : ℕ → Bool) (xs : List ℕ) (n : ℕ) → find test xs ≡ Some n → test n ≡ true
found test [] n e = cc
found test (x ∷ xs) n e = at_head test x n (find test xs) (found test xs n) (test x) refl e
  where
    at_head : (test : ℕ → Bool) (x n : ℕ) (later : Option ℕ) → (later ≡ Some n → test n ≡ true) →
        (b : Bool) → test x ≡ b → (if b then Some x else later) ≡ Some n → test n ≡ true
    at_head test x n later below true h e = cc
    at_head test x n later below false h e = below e

-- a level that is picked is low
pub pick_is_low : (kind : ArbiterKind) (low : ℕ → Bool) (last n : ℕ) →
    pick kind low last ≡ Some n → low n ≡ true
pick_is_low kind low last n e =
    (laws_of kind).is_low low last n (found (is_pick kind low last) bus_numbers n e)

-- what holds for all four levels holds for each of them
pub at_four : (t : ℕ → Bool) (n : ℕ) → n < 4 → list_all t bus_numbers ≡ true → t n ≡ true
at_four t zero l e = and_left _ _ e
at_four t (suc zero) l e = and_left _ _ (and_right (t 0) _ e)
at_four t (suc (suc zero)) l e = and_left _ _ (and_right (t 1) _ (and_right (t 0) _ e))
at_four t (suc (suc (suc zero))) l e =
    and_left _ _ (and_right (t 2) _ (and_right (t 1) _ (and_right (t 0) _ e)))
at_four t (suc (suc (suc (suc n)))) l e = absurd (omega arith)

pub agreed : (b c : Bool) → (if c then b else not b) ≡ true → b ≡ c
agreed true true e = refl
agreed false false e = refl
agreed true false e = cc
agreed false true e = cc

-- a level passes the policy's test exactly if it is the pick
pub one_pick : (kind : ArbiterKind) (low : ℕ → Bool) (last n : ℕ) → n < 4 →
    is_pick kind low last n ≡ option_map_or (λ m. m == n) (pick kind low last) false
one_pick kind low last n l =
    let settled = (laws_of kind).settled low last in
    let agree : ℕ → Bool = agrees (is_pick kind low last) (pick kind low last) in
    agreed _ _ (at_four agree n l (and_left _ _ settled))

-- the pick is the same if the lines are the same
pub pick_by_lines : (kind : ArbiterKind) (low high : ℕ → Bool) (last : ℕ) →
    low 0 ≡ high 0 → low 1 ≡ high 1 → low 2 ≡ high 2 → low 3 ≡ high 3 →
    pick kind low last ≡ pick kind high last
pick_by_lines kind low high last a b c d =
    let at : (n : ℕ) → low n ≡ high n → is_pick kind low last n ≡ is_pick kind high last n =
    λ n e. (laws_of kind).by_lines low high last n a b c d e in
    cc (at 0 a, at 1 b, at 2 c, at 3 d)

within_four : (low : BusLevels) (n : ℕ) → (n < 4 → has_bus_level low n ≡ false) →
    has_bus_level low n ≡ false
within_four low n f = by_test (nat_lt n 4) refl
  where
    in_range : (b c : Bool) → b ≡ false → (b && c) ≡ false
    in_range true c e = cc
    in_range false c e = refl

    by_test : (b : Bool) → nat_lt n 4 ≡ b → has_bus_level low n ≡ false
    by_test true e = f (grind (arith, nat_tests))
    by_test false e = in_range (nat_lt n 4) _ e

not_both : (b c : Bool) → not (b && c) ≡ true → b ≡ true → c ≡ false
not_both true true e s = cc
not_both true false e s = refl
not_both false c e s = cc

-- if none is picked, no level that the policy serves is low
pub none_low : (kind : ArbiterKind) (low : BusLevels) (last n : ℕ) →
    pick kind (has_bus_level low) last ≡ None → serves kind n ≡ true → has_bus_level low n ≡ false
none_low kind low last n e s =
    let is_high : ℕ → Bool = λ m. not (serves kind m && has_bus_level low m) in
    let settled = and_right _ _ ((laws_of kind).settled (has_bus_level low) last) in
    let all_high : list_all is_high bus_numbers ≡ true =
    subst (λ o. option_map_or (λ _. true) o (list_all is_high bus_numbers) ≡ true) e settled in
    within_four low n (λ l. not_both _ _ (at_four is_high n l all_high) s)
