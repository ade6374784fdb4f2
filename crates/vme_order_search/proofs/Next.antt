-- Which places can come next.
use Rattle.std.proofs.Common.{◌≡◌, ◌⊎◌, inl, inr, ◌<◌, ◌≤◌, ◌+◌, ◌++◌, ◌||◌, ◌&&◌, ℕ, zero, suc, Bool, true, false}
use Rattle.std.proofs.Common.{All, List, [], ◌∷◌, Option, Some, None, length, refl, sym, ◌∙◌, subst, ap, arith}
use Rattle.std.proofs.Common.{nat_lt, get_or}
use Rattle.std.specs.Prelude.{◌==◌, ◌-◌}
use Rattle.std.specs.List.{slice_get}
use Rattle.std.specs.Option.{option_map_or}
use Rattle.std.proofs.lemmas.Bool.{cases_lt}
use Rattle.std.proofs.lemmas.Bool.Decides.{nat_tests}
use Rattle.std.proofs.lemmas.Option.{slice_get-get_or}
use Rattle.vme_moments.specs.declared.Seen.{Seen}
use Rattle.vme_model.specs.declared.signals.Driver.{Driver}
use Rattle.vme_moments.specs.declared.slacks.Slacks.{Slacks}
use Rattle.vme_moments.specs.Before.{before, is_same_part, is_timely, part_of, slack_of}
use Rattle.vme_moments.specs.Orders.{AreInOrder, AreNext, IsAscending, IsFree, came_before, has}
use Rattle.vme_moments.proofs.Earlier.{TwoSeen, two_seen}
use Rattle.vme_order_search.specs.declared.taken.Taken.{Taken}
use Rattle.vme_order_search.specs.Places.{AreTaken, AreUnfree, holds, is_far}
use Rattle.vme_order_search.proofs.Lists.{one_there}
use Rattle.vme_order_search.proofs.Sets.{at_least, below_least}

true_false : true ≡ false → ⊥
true_false h = cc

-- ---- a place that can come next

earlier_by : (ms : List Seen) (i j : ℕ) → AreInOrder ms → TwoSeen ms i j → (i < j) ⊎ (j ≤ i)
    → (j < i) ⊎ (i ≤ j) → i < j
earlier_by ms i j order two (inl h) x = h
earlier_by ms i j order two (inr h) (inl g) =
    let le : two.other.moment ≤ two.first.moment =
    order j i two.other two.first g two.other_is two.first_is in
    let lt : two.first.moment < two.other.moment = two.earlier in
    absurd (omega arith)
earlier_by ms i j order two (inr h) (inr g) =
    let at : j ≡ i = omega arith in
    let same : two.first ≡ two.other =
    one_there ms i two.first two.other two.first_is (ap (slice_get ms) (sym at) ∙ two.other_is) in
    let lt : two.first.moment < two.other.moment = two.earlier in
    let e : two.first.moment ≡ two.other.moment = ap (λ (s : Seen). s.moment) same in
    absurd (omega arith)

-- what came before stands at a lesser place
earlier_place : (x : Slacks) (ms : List Seen) (i j : ℕ) → AreInOrder ms → came_before x ms i j ≡ true
    → i < j
earlier_place x ms i j order before =
    earlier_by ms i j order (two_seen x ms i j before) (cases_lt i j) (cases_lt j i)

was_taken : (x : Slacks) (ms : List Seen) (places : List ℕ) (t : Taken) (i place : ℕ) (b : Bool)
    → AreTaken places t → holds t i ≡ b → i < place
    → ((i : ℕ) → t.least ≤ i → i < place → holds t i ≡ false → came_before x ms i place ≡ false)
    → came_before x ms i place ≡ true → (i < t.least) ⊎ (t.least ≤ i) → has places i ≡ true
was_taken x ms places t i place true takes is lt none before y = sym (takes i) ∙ is
was_taken x ms places t i place false takes is lt none before (inl low) =
    absurd (true_false (sym (below_least t i low) ∙ is))
was_taken x ms places t i place false takes is lt none before (inr high) =
    absurd (true_false (sym before ∙ none i high lt is))

pub free_by : (x : Slacks) (ms : List Seen) (places : List ℕ) (t : Taken) (place : ℕ)
    → AreInOrder ms → AreTaken places t → place < length ms → holds t place ≡ false
    → ((i : ℕ) → t.least ≤ i → i < place → holds t i ≡ false → came_before x ms i place ≡ false)
    → IsFree x ms places place
free_by x ms places t place order takes within missing none = record {
  within = within;
  new = sym (takes place) ∙ missing;
  behind = λ i before. was_taken x ms places t i place (holds t i) takes refl
      (earlier_place x ms i place order before) none before (cases_lt i t.least);
}

-- ---- a place that cannot

-- a place that was taken
pub taken_unfree : (x : Slacks) (ms : List Seen) (places : List ℕ) (t : Taken) (place : ℕ)
    → AreTaken places t → holds t place ≡ true → IsFree x ms places place → ⊥
taken_unfree x ms places t place takes is free = true_false (sym is ∙ takes place ∙ free.new)

-- a place behind one that is missing and came before it
pub waits_unfree : (x : Slacks) (ms : List Seen) (places : List ℕ) (t : Taken) (other place : ℕ)
    → AreTaken places t → holds t other ≡ false → came_before x ms other place ≡ true
    → IsFree x ms places place → ⊥
waits_unfree x ms places t other place takes missing before free =
    true_false (sym (free.behind other before) ∙ sym (takes other) ∙ missing)

-- no place below the least that is missing can come next
pub below_unfree : (x : Slacks) (ms : List Seen) (places : List ℕ) (t : Taken) → AreTaken places t
    → AreUnfree x ms places 0 t.least
below_unfree x ms places t takes j low lt free =
    taken_unfree x ms places t j takes (below_least t j lt) free

pub came_before_at : (x : Slacks) (ms : List Seen) (i j : ℕ) (a b : Seen) → slice_get ms i ≡ Some a
    → slice_get ms j ≡ Some b → before x a b ≡ came_before x ms i j
came_before_at x ms i j a b is other =
    sym (ap (λ o. option_map_or (λ a. option_map_or (λ b. before x a b) (slice_get ms j) false) o false) is
    ∙ ap (λ o. option_map_or (λ b. before x a b) o false) other)

timely : (x : Slacks) (a b : Seen) → a.moment + slack_of x b.edge.driver < b.moment
    → before x a b ≡ true
timely x a b lt =
    let test : is_timely a.moment (slack_of x b.edge.driver) b.moment ≡ true = grind (arith, nat_tests) in
    ap (λ t. t || (is_same_part (part_of a.edge) (part_of b.edge) && nat_lt a.moment b.moment)) test

later_moment : (ms : List Seen) (i j : ℕ) (a b : Seen) → AreInOrder ms → slice_get ms i ≡ Some a
    → slice_get ms j ≡ Some b → (i < j) ⊎ (j ≤ i) → i ≤ j → a.moment ≤ b.moment
later_moment ms i j a b order is other (inl h) le = order i j a b h is other
later_moment ms i j a b order is other (inr h) le =
    let at : j ≡ i = omega arith in
    let same : a ≡ b = one_there ms i a b is (ap (slice_get ms) (sym at) ∙ other) in
    let e : a.moment ≡ b.moment = ap (λ (s : Seen). s.moment) same in omega arith

-- no slack reaches back to the least place that is missing from that place on
out_of_reach : (x : Slacks) (ms : List Seen) (places : List ℕ) (t : Taken) (place most : ℕ)
    (a b : Seen) → AreInOrder ms → AreTaken places t → slice_get ms t.least ≡ Some a
    → slice_get ms place ≡ Some b → ((r : Driver) → slack_of x r ≤ most)
    → a.moment + most < b.moment → AreUnfree x ms places place (length ms)
out_of_reach x ms places t place most a b order takes a_is b_is all far j le low free =
    let c = get_or ms j b in
    let c_is : slice_get ms j ≡ Some c = slice_get-get_or ms j b low in
    let later : b.moment ≤ c.moment = later_moment ms place j b c order b_is c_is (cases_lt place j) le in
    let slack : slack_of x c.edge.driver ≤ most = all c.edge.driver in
    waits_unfree x ms places t t.least j takes (at_least t t.least refl)
    (sym (came_before_at x ms t.least j a c a_is c_is)
    ∙ timely x a c (let far_enough : a.moment + slack_of x c.edge.driver < c.moment = omega arith in far_enough))
    free

-- nor does the greatest slack, if the place is far
pub far_unfree : (x : Slacks) (ms : List Seen) (places : List ℕ) (t : Taken) (place most : ℕ)
    → AreInOrder ms → AreTaken places t → ((r : Driver) → slack_of x r ≤ most)
    → is_far ms most t.least place ≡ true → AreUnfree x ms places place (length ms)
far_unfree x ms places t place most order takes all far =
    by (slice_get ms t.least) (slice_get ms place) refl refl (behind (nat_lt t.least place) _ far)
  where
    behind : (c d : Bool) → (c && d) ≡ true → d ≡ true
    behind true d h = h
    behind false d h = absurd (true_false (sym h))

    by : (o p : Option Seen) → slice_get ms t.least ≡ o → slice_get ms place ≡ p
        → option_map_or (λ a. option_map_or (λ b. is_timely a.moment most b.moment) p false) o false ≡ true
        → AreUnfree x ms places place (length ms)
    by None p a_is b_is test = absurd (true_false (sym test))
    by (Some a) None a_is b_is test = absurd (true_false (sym test))
    by (Some a) (Some b) a_is b_is test =
        out_of_reach x ms places t place most a b order takes a_is b_is all
        (let lt : a.moment + most < b.moment = grind (arith, nat_tests) in lt)

same_test : (a b reach between : ℕ) → between ≡ b - a
    → (reach < between) ⊎ (between ≤ reach) → nat_lt reach between ≡ nat_lt (a + reach) b
same_test a b reach between is (inl lt) =
    let far : a + reach < b = omega arith in
    let one : nat_lt reach between ≡ true = grind (arith, nat_tests) in
    let other : nat_lt (a + reach) b ≡ true = grind (arith, nat_tests) in one ∙ sym other
same_test a b reach between is (inr le) =
    let near : b ≤ a + reach = omega arith in
    let one : nat_lt reach between ≡ false = grind (arith, nat_tests) in
    let other : nat_lt (a + reach) b ≡ false = grind (arith, nat_tests) in one ∙ sym other

-- the same, by the difference of the moments
pub far_test : (ms : List Seen) (reach least place between : ℕ) (d e : Seen) → least < place
    → place < length ms → between ≡ (get_or ms place e).moment - (get_or ms least d).moment
    → nat_lt reach between ≡ is_far ms reach least place
far_test ms reach least place between d e lt within is =
    let a = get_or ms least d in
    let b = get_or ms place e in
    let a_is : slice_get ms least ≡ Some a = slice_get-get_or ms least d (omega arith) in
    let b_is : slice_get ms place ≡ Some b = slice_get-get_or ms place e within in
    let first : nat_lt least place ≡ true = grind (arith, nat_tests) in
    rw (first, a_is, b_is) (same_test a.moment b.moment reach between is (cases_lt reach between))

pub near_test : (ms : List Seen) (reach least place : ℕ) → place ≤ least
    → nat_lt least place ≡ is_far ms reach least place
near_test ms reach least place le =
    let first : nat_lt least place ≡ false = grind (arith, nat_tests) in rw first refl

-- ---- places in order

has_more : (xs : List ℕ) (y j : ℕ) → has (xs ++ y ∷ []) j ≡ (has xs j || (y == j))
has_more [] y j = other (y == j)
  where
    other : (b : Bool) → (b || false) ≡ b
    other true = refl
    other false = refl
has_more (x ∷ xs) y j = by (x == j) (has xs j) (y == j) (has (xs ++ y ∷ []) j) (has_more xs y j)
  where
    by : (a b c d : Bool) → d ≡ (b || c) → (a || d) ≡ ((a || b) || c)
    by true b c d h = refl
    by false b c d h = h

either : (a b : Bool) (P : Type 0) → (a || b) ≡ true → (a ≡ true → P) → (b ≡ true → P) → P
either true b P h f g = f refl
either false b P h f g = g h

is_that : (x y : ℕ) → (x == y) ≡ true → x ≡ y
is_that x y h = grind (arith, nat_tests)

ascending_more : (xs : List ℕ) (y : ℕ) → IsAscending xs → ((m : ℕ) → has xs m ≡ true → m < y)
    → IsAscending (xs ++ y ∷ [])
ascending_more [] y h less = (λ m is. absurd (true_false (sym is)), tt)
ascending_more (x ∷ xs) y h less = (
  λ m is. either (has xs m) (y == m) (x < m) (sym (has_more xs y m) ∙ is) (h.0 m)
      (λ same. subst (λ k. x < k) (is_that y m same) (less x (first x xs))),
  ascending_more xs y h.1 (λ m is. less m (rest x xs m is)),
)
  where
    first : (x : ℕ) (xs : List ℕ) → has (x ∷ xs) x ≡ true
    first x xs = let e : (x == x) ≡ true = grind (arith, nat_tests) in ap (λ b. b || has xs x) e

    by : (b : Bool) → (b || true) ≡ true
    by true = refl
    by false = refl

    rest : (x : ℕ) (xs : List ℕ) (m : ℕ) → has xs m ≡ true → has (x ∷ xs) m ≡ true
    rest x xs m is = ap (λ b. (x == m) || b) is ∙ by (x == m)

-- so far these can come next, of the places below that one
pub record AreNextBelow (x : Slacks) (ms : List Seen) (places next : List ℕ) (from : ℕ) : Type 0 where
  pub ascending : IsAscending next
  pub below : (j : ℕ) → has next j ≡ true → j < from
  pub free : (j : ℕ) → has next j ≡ true → IsFree x ms places j
  pub all : (j : ℕ) → j < from → IsFree x ms places j → has next j ≡ true

next_all : (x : Slacks) (ms : List Seen) (places next : List ℕ) (from place j : ℕ)
    → AreNextBelow x ms places next from → AreUnfree x ms places from place
    → IsFree x ms places j → (j < from) ⊎ (from ≤ j) → (j < place) ⊎ (place ≤ j) → j < place + 1
    → has (next ++ place ∷ []) j ≡ true
next_all x ms places next from place j h unfree free (inl low) y lt =
    has_more next place j ∙ ap (λ b. b || (place == j)) (h.all j low free)
next_all x ms places next from place j h unfree free (inr high) (inl near) lt =
    absurd (unfree j high near free)
next_all x ms places next from place j h unfree free (inr high) (inr far) lt =
    let e : (place == j) ≡ true = grind (arith, nat_tests) in
    has_more next place j ∙ ap (λ b. has next j || b) e ∙ by (has next j)
  where
    by : (b : Bool) → (b || true) ≡ true
    by true = refl
    by false = refl

pub one_next : (x : Slacks) (ms : List Seen) (places next : List ℕ) (from place : ℕ)
    → AreNextBelow x ms places next from → from ≤ place → IsFree x ms places place
    → AreUnfree x ms places from place
    → AreNextBelow x ms places (next ++ place ∷ []) (place + 1)
one_next x ms places next from place h le free unfree = record {
  ascending = ascending_more next place h.ascending
      (λ m is. let lt : m < from = h.below m is in let e : m < place = omega arith in e);
  below = λ j is. either (has next j) (place == j) (j < place + 1) (sym (has_more next place j) ∙ is)
      (λ was. let lt : j < from = h.below j was in let e : j < place + 1 = omega arith in e)
      (λ same. let at : place ≡ j = is_that place j same in let e : j < place + 1 = omega arith in e);
  free = λ j is. either (has next j) (place == j) (IsFree x ms places j)
      (sym (has_more next place j) ∙ is) (h.free j)
      (λ same. subst (λ k. IsFree x ms places k) (is_that place j same) free);
  all = λ j lt is. next_all x ms places next from place j h unfree is (cases_lt j from)
      (cases_lt j place) lt;
}

all_next : (x : Slacks) (ms : List Seen) (places next : List ℕ) (from j : ℕ)
    → AreNextBelow x ms places next from → AreUnfree x ms places from (length ms)
    → IsFree x ms places j → (j < from) ⊎ (from ≤ j) → has next j ≡ true
all_next x ms places next from j h unfree free (inl lt) = h.all j lt free
all_next x ms places next from j h unfree free (inr le) = absurd (unfree j le free.within free)

pub next_whole : (x : Slacks) (ms : List Seen) (places next : List ℕ) (from : ℕ)
    → AreNextBelow x ms places next from → AreUnfree x ms places from (length ms)
    → AreNext x ms places next
next_whole x ms places next from h unfree = record {
  ascending = h.ascending;
  free = h.free;
  all = λ j free. all_next x ms places next from j h unfree free (cases_lt j from);
}

-- no place comes next from the first on, nor from another on
pub unfree_on : (x : Slacks) (ms : List Seen) (places : List ℕ) (from place : ℕ)
    → AreUnfree x ms places from place → AreUnfree x ms places place (length ms)
    → AreUnfree x ms places from (length ms)
unfree_on x ms places from place first rest j le lt free =
    by (cases_lt j place)
  where
    by : (j < place) ⊎ (place ≤ j) → ⊥
    by (inl low) = first j le low free
    by (inr high) = rest j high lt free

pub all_one : (P : ℕ → Type 0) (x : ℕ) → P x → All P (x ∷ [])
all_one P x p zero d lt = p
all_one P x p (suc k) d lt = absurd (omega arith)
