-- Each driver's number of edges, at its desk.
use Rattle.std.proofs.Common.{◌≡◌, ◌≢◌, ℕ, ◌+◌, ◌<◌, ◌≤◌, List, ◌∷◌, length, take, get_or, set, Bool, true, false, Some, None, refl, sym, ap, ◌∙◌, subst, arith}
use Rattle.std.specs.Prelude.{cond, ◌==◌, slice_get, slice_index, slice_set, if◌then◌else◌}
use Rattle.std.proofs.lemmas.Bool.Decides.{nat_tests}
use Rattle.std.proofs.lemmas.Grind.{get_or-set_at}
use Rattle.std.proofs.lemmas.List.{get_or-set_other, length-set, take_more}
use Rattle.std.proofs.lemmas.List.Sums.{sum_by-cons, sum_by_push, count_by-le-length}
use Rattle.std.proofs.lemmas.List.Sorted.{sum_by-IsPermutation, IsPermutation-reverse}
use Rattle.std.proofs.lemmas.Option.{slice_get_within, get_or_from_slice_get}
use Rattle.vme_model.specs.declared.signals.Driver.{Driver}
use Rattle.vme_model.specs.declared.signals.Driver.TheVariants.{Controller, Slot}
use Rattle.vme_model.specs.declared.signals.Edge.{Edge}
use Rattle.vme_model.specs.Signals.{is_same_driver, is_slot}
use Rattle.vme_model.specs.History.{in_order}
use Rattle.vme_model.specs.Counts.{count}
use Rattle.vme_lock.specs.Seats.{AreCounts, can_sit, desk, counted_more}

abbrev pub one_if : Bool → ℕ
one_if b = cond b 1 0

from_one : (s : ℕ) → is_slot s ≡ true → 1 ≤ s
from_one s is = grind (arith, nat_tests)

no_slot : (s : ℕ) → is_slot s ≡ true → (0 == s) ≡ false
no_slot s is = let one = from_one s is in grind (arith, nat_tests)

no_slot' : (s : ℕ) → is_slot s ≡ true → (s == 0) ≡ false
no_slot' s is = let one = from_one s is in grind (arith, nat_tests)

-- no two drivers share a desk
pub same_desk : (a b : Driver) → can_sit a ≡ true → can_sit b ≡ true → is_same_driver a b ≡ (desk a == desk b)
same_desk Controller Controller x y = refl
same_desk Controller (Slot t) x y = sym (no_slot t y)
same_desk (Slot s) Controller x y = sym (no_slot' s x)
same_desk (Slot s) (Slot t) x y = refl

within_slots : (s : ℕ) → is_slot s ≡ true → s < 22
within_slots s is = grind (arith, nat_tests)

pub desk_within : (d : Driver) → can_sit d ≡ true → desk d < 22
desk_within Controller is = omega arith
desk_within (Slot s) is = within_slots s is

at_desk : (counts : List ℕ) (i j n : ℕ) (b : Bool) → i < length counts → (i == j) ≡ b → get_or counts j 0 ≡ n →
    get_or (set counts i (get_or counts i 0 + 1)) j 0 ≡ one_if b + n
at_desk counts i j n true within is read =
    let same : j ≡ i = grind (arith, nat_tests) in
    get_or-set_at counts i j (get_or counts i 0 + 1) 0 same within ∙ omega (arith, ap (λ (k : ℕ). get_or counts k 0) same, read)
at_desk counts i j n false within is read =
    let apart : j ≢ i = λ same. apart_of i j is (sym same) in
    let none : one_if false + n ≡ n = omega arith in
    get_or-set_other counts i j (get_or counts i 0 + 1) 0 apart ∙ (read ∙ sym none)
  where
    apart_of : (i j : ℕ) → (i == j) ≡ false → i ≡ j → ⊥
    apart_of i j e same = grind (arith, nat_tests)

-- one more edge of a driver
pub AreCounts-more : (counts : List ℕ) (xs ys : List Edge) (d : Driver) → AreCounts counts xs → can_sit d ≡ true →
    ((b : Driver) → count ys b ≡ one_if (is_same_driver d b) + count xs b) → AreCounts (counted_more counts d) ys
AreCounts-more counts xs ys d are sits more =
    let within : desk d < length counts = omega (arith, desk_within d sits, are.wide) in
    record {
      wide = length-set counts (desk d) (get_or counts (desk d) 0 + 1) ∙ are.wide;
      counted = λ b is. at_desk counts (desk d) (desk b) (count xs b) (is_same_driver d b) within (sym (same_desk d b sits is)) (are.counted b is) ∙ sym (more b);
    }

-- an edge made
pub count-made : (h : List Edge) (e : Edge) (b : Driver) → count (e ∷ h) b ≡ one_if (is_same_driver e.driver b) + count h b
count-made h e b = sum_by-cons (λ x. one_if (is_same_driver x.driver b)) e h

-- the next edge in the order of time
pub count-next : (xs : List Edge) (i : ℕ) (e : Edge) (b : Driver) → slice_get xs i ≡ Some e →
    count (take (i + 1) xs) b ≡ one_if (is_same_driver e.driver b) + count (take i xs) b
count-next xs i e b is =
    let f : Edge → ℕ = λ x. one_if (is_same_driver x.driver b) in
    let here : get_or xs i e ≡ e = get_or_from_slice_get xs i e e is in
    let more = ap (λ l. count l b) (take_more xs i e (slice_get_within xs i e is)) ∙ sum_by_push f (take i xs) (get_or xs i e) in
    omega (arith, more, ap f here)

-- the order does not matter
pub count-in_order : (h : List Edge) (d : Driver) → count (in_order h) d ≡ count h d
count-in_order h d = sum_by-IsPermutation (λ x. one_if (is_same_driver x.driver d)) h (in_order h) (IsPermutation-reverse h)

pub AreCounts-in_order : (counts : List ℕ) (h : List Edge) → AreCounts counts (in_order h) → AreCounts counts h
AreCounts-in_order counts h are = record { wide = are.wide; counted = λ d is. are.counted d is ∙ count-in_order h d }

slots_apart : (s t : ℕ) → is_slot s ≡ false → is_slot t ≡ true → (s == t) ≡ false
slots_apart s t out in' = go (s == t) refl
  where
    no_both : (x : Bool) → x ≡ false → x ≡ true → ⊥
    no_both x e f = cc

    go : (x : Bool) → (s == t) ≡ x → (s == t) ≡ false
    go true e = let same : s ≡ t = grind (arith, nat_tests) in absurd (no_both (is_slot s) out (ap is_slot same ∙ in'))
    go false e = e

apart : (d b : Driver) → can_sit d ≡ false → can_sit b ≡ true → is_same_driver d b ≡ false
apart Controller b out is = absurd (cc)
apart (Slot s) Controller out is = refl
apart (Slot s) (Slot t) out is = slots_apart s t out is

-- an edge of a driver that no plan has
pub AreCounts-other : (counts : List ℕ) (xs ys : List Edge) (d : Driver) → AreCounts counts xs → can_sit d ≡ false →
    ((b : Driver) → count ys b ≡ one_if (is_same_driver d b) + count xs b) → AreCounts counts ys
AreCounts-other counts xs ys d are out more = record {
  wide = are.wide;
  counted = λ b is. omega (arith, are.counted b is, more b, ap one_if (apart d b out is));
}

-- no count is greater than the number of all edges
pub at_most : (counts : List ℕ) (h : List Edge) (d : Driver) → AreCounts counts h → can_sit d ≡ true → slice_index counts (desk d) ≤ length h
at_most counts h d are is = omega (arith, are.counted d is, count_by-le-length (λ e. is_same_driver e.driver d) h)

-- what a test found, and that it found nothing
pub found_at : (b : Bool) (n at : ℕ) → (if b then Some n else None) ≡ Some at → (b ≡ true) × (n ≡ at)
found_at true n at is = (refl, cc)
found_at false n at is = absurd (cc)

found_none : (b : Bool) (n : ℕ) → (if b then Some n else None) ≡ None → b ≡ false
found_none true n is = absurd (cc)
found_none false n is = refl

-- the next edge is counted
pub counted_next : (counts : List ℕ) (xs : List Edge) (i at : ℕ) (e : Edge) → AreCounts counts (take i xs) → slice_get xs i ≡ Some e →
    (if can_sit e.driver then Some (desk e.driver) else None) ≡ Some at → AreCounts (slice_set counts at (slice_index counts at + 1)) (take (i + 1) xs)
counted_next counts xs i at e are is found =
    let desk_at = found_at (can_sit e.driver) (desk e.driver) at found in
    subst (λ n. AreCounts (slice_set counts n (slice_index counts n + 1)) (take (i + 1) xs)) desk_at.1
    (AreCounts-more counts (take i xs) (take (i + 1) xs) e.driver are desk_at.0 (λ b. count-next xs i e b is))

-- no driver of a plan made the edge
pub counted_past : (counts : List ℕ) (xs : List Edge) (i : ℕ) (e : Edge) → AreCounts counts (take i xs) → slice_get xs i ≡ Some e →
    (if can_sit e.driver then Some (desk e.driver) else None) ≡ None → AreCounts counts (take (i + 1) xs)
counted_past counts xs i e are is found =
    AreCounts-other counts (take i xs) (take (i + 1) xs) e.driver are (found_none (can_sit e.driver) (desk e.driver) found) (λ b. count-next xs i e b is)
