-- Which of two edges came before the other.
use Rattle.std.proofs.Common.{◌≡◌, ◌<◌, ◌≤◌, ◌+◌, ◌&&◌, ◌||◌, ℕ, Bool, true, false, List, [], ◌∷◌, Option, Some, None, length, refl, arith, nat_lt, suc, zero}
use Rattle.std.proofs.lemmas.Bool.Decides.{nat_tests}
use Rattle.std.specs.List.{slice_get}
use Rattle.std.specs.Option.{option_map_or}
use Rattle.vme_moments.specs.declared.Seen.{Seen}
use Rattle.vme_moments.specs.declared.slacks.Slacks.{Slacks}
use Rattle.vme_moments.specs.Before.{before, is_same_part, part_of, slack_of}
use Rattle.vme_moments.specs.Cuts.{IsWithin}
use Rattle.vme_moments.specs.Orders.{came_before, IsBeginning}

timely_less : (a m n b : ℕ) (same : Bool) → m ≤ n → (nat_lt (a + n) b || (same && nat_lt a b)) ≡ true
    → (nat_lt (a + m) b || (same && nat_lt a b)) ≡ true
timely_less a m n b true h t = grind (arith, nat_tests)
timely_less a m n b false h t = grind (arith, nat_tests)

timely_below : (a n b : ℕ) (same : Bool) → (nat_lt (a + n) b || (same && nat_lt a b)) ≡ true → a < b
timely_below a n b true t = grind (arith, nat_tests)
timely_below a n b false t = grind (arith, nat_tests)

-- with less slack more came before
before_less : (x y : Slacks) (a b : Seen) → IsWithin x y → before y a b ≡ true → before x a b ≡ true
before_less x y a b h t =
    timely_less a.moment (slack_of x b.edge.driver) (slack_of y b.edge.driver) b.moment
    (is_same_part (part_of a.edge) (part_of b.edge)) (h b.edge.driver) t

-- what came before was seen at an earlier moment
pub before_below : (x : Slacks) (a b : Seen) → before x a b ≡ true → a.moment < b.moment
before_below x a b t =
    timely_below a.moment (slack_of x b.edge.driver) b.moment
    (is_same_part (part_of a.edge) (part_of b.edge)) t

abbrev at_both : Slacks → Option Seen → Option Seen → Bool
at_both x a b = option_map_or (λ a. option_map_or (λ b. before x a b) b false) a false

both_less : (x y : Slacks) (a b : Option Seen) → IsWithin x y → at_both y a b ≡ true → at_both x a b ≡ true
both_less x y None b h t = t
both_less x y (Some a) None h t = t
both_less x y (Some a) (Some b) h t = before_less x y a b h t

pub came_before_less : (x y : Slacks) (ms : List Seen) (i j : ℕ) → IsWithin x y
    → came_before y ms i j ≡ true → came_before x ms i j ≡ true
came_before_less x y ms i j h t = both_less x y (slice_get ms i) (slice_get ms j) h t

-- more slack allows more
pub more_begins : (x y : Slacks) (ms : List Seen) (places : List ℕ) → IsWithin x y
    → IsBeginning x ms places → IsBeginning y ms places
more_begins x y ms [] h b = tt
more_begins x y ms (j ∷ places) h b = (
  record {
    within = b.0.within;
    new = b.0.new;
    behind = λ i t. b.0.behind i (came_before_less x y ms i j h t);
  },
  more_begins x y ms places h b.1,
)

-- the two edges of which one came before the other
pub record TwoSeen (ms : List Seen) (i j : ℕ) : Type 0 where
  pub first : Seen
  pub other : Seen
  pub first_is : slice_get ms i ≡ Some first
  pub other_is : slice_get ms j ≡ Some other
  pub earlier : first.moment < other.moment

true_false : false ≡ true → ⊥
true_false h = cc

both_seen : (x : Slacks) (a b : Option Seen) → at_both x a b ≡ true
    → (f : Seen) × (o : Seen) × (a ≡ Some f) × (b ≡ Some o) × (f.moment < o.moment)
both_seen x None b t = absurd (true_false t)
both_seen x (Some a) None t = absurd (true_false t)
both_seen x (Some a) (Some b) t = (a, b, refl, refl, before_below x a b t)

pub two_seen : (x : Slacks) (ms : List Seen) (i j : ℕ) → came_before x ms i j ≡ true → TwoSeen ms i j
two_seen x ms i j t =
    let s = both_seen x (slice_get ms i) (slice_get ms j) t in
    record { first = s.0; other = s.1; first_is = s.2; other_is = s.3; earlier = s.4 }

some_none : (a : Seen) → (let o : Option Seen = None in o ≡ Some a) → ⊥
some_none a h = cc

pub place_within : (ms : List Seen) (i : ℕ) (a : Seen) → slice_get ms i ≡ Some a → i < length ms
place_within [] i a h = absurd (some_none a h)
place_within (m ∷ ms) zero a h = omega arith
place_within (m ∷ ms) (suc i) a h = let k = place_within ms i a h in omega arith
