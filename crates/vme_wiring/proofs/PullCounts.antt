-- How a count of pulls moves with one board.
use Rattle.std.proofs.Common.{◌≡◌, ◌∙◌, refl, sym, ap, subst, ℕ, zero, suc, Bool, true, false, List, [], ◌∷◌, ◌+◌, ◌≤◌, length, arith}
use Rattle.std.specs.Prelude.{◌&&◌, ◌||◌, ◌==◌, if◌then◌else◌, not, Some, nat_lt, nat_le, filter}
use Rattle.std.specs.List.{list_any, list_all, All}
use Rattle.std.proofs.lemmas.Bool.Decides.{nat_tests}
use Rattle.std.proofs.lemmas.List.Elements.{All-head, All-tail, All-weaker}
use Rattle.vme_model.specs.declared.boards.Row.{Row}
use Rattle.vme_model.specs.Plan.{Plan, row_in}
use Rattle.vme_model.specs.Accepted.{IsAccepted}
use Rattle.vme_model.proofs.Ranges.{IsRowInRange, in_range, named_once, slots_of, times}
use Rattle.vme_wiring.specs.Counts.{pulls, moved, is_movable}

-- a line is low exactly if its count is not 0
low_step : (b rest : Bool) (n : ℕ) → rest ≡ nat_lt 0 n → (b || rest) ≡ nat_lt 0 (if b then n + 1 else n)
low_step true rest n e = grind (arith, nat_tests)
low_step false rest n e = e

pub any_pulls : (f : Row → Bool) (rows : List Row) → list_any f rows ≡ nat_lt 0 (pulls f rows)
any_pulls f [] = refl
any_pulls f (r ∷ rows) = low_step (f r) (list_any f rows) (pulls f rows) (any_pulls f rows)

none_step : (b rest : Bool) (n : ℕ) → rest ≡ not (nat_lt 0 n) → (not b && rest) ≡ not (nat_lt 0 (if b then n + 1 else n))
none_step true rest n e = grind (arith, nat_tests)
none_step false rest n e = e

pub no_pulls_left : (f : Row → Bool) (rows : List Row) → list_all (λ r. not (f r)) rows ≡ not (nat_lt 0 (pulls f rows))
no_pulls_left f [] = refl
no_pulls_left f (r ∷ rows) = none_step (f r) (list_all (λ r. not (f r)) rows) (pulls f rows) (no_pulls_left f rows)

abbrev one_if : Bool → ℕ
one_if b = if b then 1 else 0

abbrev at_slot : ℕ → Row → Bool
at_slot s r = r.slot == s

-- the boards of other slots pull as before
abbrev pub IsSameElsewhere : (Row → Bool) → (Row → Bool) → ℕ → Type 0
IsSameElsewhere f g s = (q : Row) → (q.slot == s) ≡ false → g q ≡ f q

elsewhere_step : (b x y : Bool) (n m k : ℕ) → (if b then k + 1 else k) ≡ 0 → (b ≡ false → y ≡ x) → (k ≡ 0 → n ≡ m) →
    (if y then n + 1 else n) ≡ (if x then m + 1 else m)
elsewhere_step true x y n m k none same rest = absurd (omega arith)
elsewhere_step false x y n m k none same rest =
    ap (λ t. if t then n + 1 else n) (same refl) ∙ ap (λ i. if x then i + 1 else i) (rest none)

pulls_elsewhere : (f g : Row → Bool) (s : ℕ) (rows : List Row) → IsSameElsewhere f g s → pulls (at_slot s) rows ≡ 0 → pulls g rows ≡ pulls f rows
pulls_elsewhere f g s [] same none = refl
pulls_elsewhere f g s (r ∷ rows) same none =
    elsewhere_step (r.slot == s) (f r) (g r) (pulls g rows) (pulls f rows) (pulls (at_slot s) rows) none (same r) (pulls_elsewhere f g s rows same)

here : (x y : Bool) (n m : ℕ) → n ≡ m → (if y then n + 1 else n) + one_if x ≡ (if x then m + 1 else m) + one_if y
here x y n m e = grind arith

there : (x : Bool) (n m a b : ℕ) → n + a ≡ m + b → (if x then n + 1 else n) + a ≡ (if x then m + 1 else m) + b
there x n m a b e = grind arith

swap_step : (f g : Row → Bool) (s : ℕ) (r q : Row) (rows : List Row) (b : Bool) → (q.slot == s) ≡ b → IsSameElsewhere f g s →
    (if b then pulls (at_slot s) rows + 1 else pulls (at_slot s) rows) ≤ 1 → (if b then Some q else row_in rows s) ≡ Some r →
    (pulls (at_slot s) rows ≤ 1 → row_in rows s ≡ Some r → pulls g rows + one_if (f r) ≡ pulls f rows + one_if (g r)) →
    pulls g (q ∷ rows) + one_if (f r) ≡ pulls f (q ∷ rows) + one_if (g r)
swap_step f g s r q rows true is same few found rest =
    let one : q ≡ r = cc in
    let none : pulls (at_slot s) rows ≡ 0 = omega arith in
    let P : Row → Type 0 = λ t. pulls g (q ∷ rows) + one_if (f t) ≡ pulls f (q ∷ rows) + one_if (g t) in
    subst P one (here (f q) (g q) (pulls g rows) (pulls f rows) (pulls_elsewhere f g s rows same none))
swap_step f g s r q rows false is same few found rest =
    let P : Bool → Type 0 = λ t. (if t then pulls g rows + 1 else pulls g rows) + one_if (f r) ≡ pulls f (q ∷ rows) + one_if (g r) in
    subst P (sym (same q is)) (there (f q) (pulls g rows) (pulls f rows) (one_if (f r)) (one_if (g r)) (rest few found))

-- one board's pull for another
pub pulls_swap : (f g : Row → Bool) (s : ℕ) (r : Row) (rows : List Row) → IsSameElsewhere f g s →
    pulls (at_slot s) rows ≤ 1 → row_in rows s ≡ Some r → pulls g rows + one_if (f r) ≡ pulls f rows + one_if (g r)
pulls_swap f g s r [] same few found = absurd (cc)
pulls_swap f g s r (q ∷ rows) same few found = swap_step f g s r q rows (q.slot == s) refl same few found (λ a b. pulls_swap f g s r rows same a b)

-- no slot has two boards
named_step : (b : Bool) (s : ℕ) (ss : List ℕ) (n : ℕ) → n ≡ length ss → (if b then n + 1 else n) ≡ length (if b then s ∷ ss else ss)
named_step b s ss n e = grind arith

named : (s : ℕ) (rows : List Row) → pulls (at_slot s) rows ≡ times (slots_of rows) s
named s [] = refl
named s (r ∷ rows) = named_step (r.slot == s) r.slot (filter (λ t. t == s) (slots_of rows)) (pulls (at_slot s) rows) (named s rows)

pub once : (p : Plan) → IsAccepted p → (s : ℕ) → 1 ≤ s → s ≤ p.slots → pulls (at_slot s) p.rows ≤ 1
once p ok s from to = omega (arith, named s p.rows, named_once p ok s from to)

-- so there are no more boards than slots
abbrev up_to_slot : ℕ → Row → Bool
up_to_slot n r = nat_le r.slot n

next_step : (t n a b c : ℕ) → a ≡ b + c → (if nat_le t (n + 1) then a + 1 else a) ≡ (if nat_le t n then b + 1 else b) + (if t == n + 1 then c + 1 else c)
next_step t n a b c e = grind (arith, nat_tests)

next_slot : (n : ℕ) (rows : List Row) → pulls (up_to_slot (n + 1)) rows ≡ pulls (up_to_slot n) rows + pulls (at_slot (n + 1)) rows
next_slot n [] = refl
next_slot n (r ∷ rows) = next_step r.slot n (pulls (up_to_slot (n + 1)) rows) (pulls (up_to_slot n) rows) (pulls (at_slot (n + 1)) rows) (next_slot n rows)

none_at_zero : (rows : List Row) → All (λ r. 1 ≤ r.slot) rows → pulls (up_to_slot 0) rows ≡ 0
none_at_zero [] all = refl
none_at_zero (r ∷ rows) all = first (nat_le r.slot 0) refl (All-head (λ (r : Row). 1 ≤ r.slot) r rows all) (none_at_zero rows (All-tail (λ (r : Row). 1 ≤ r.slot) r rows all))
  where
    first : (b : Bool) → nat_le r.slot 0 ≡ b → 1 ≤ r.slot → pulls (up_to_slot 0) rows ≡ 0 → (if b then pulls (up_to_slot 0) rows + 1 else pulls (up_to_slot 0) rows) ≡ 0
    first true e from rest = absurd (grind (arith, nat_tests))
    first false e from rest = rest

few_slots : (p : Plan) → IsAccepted p → All (λ r. 1 ≤ r.slot) p.rows → (n : ℕ) → n ≤ p.slots → pulls (up_to_slot n) p.rows ≤ n
few_slots p ok all zero to = omega (arith, none_at_zero p.rows all)
few_slots p ok all (suc n) to =
    let before = few_slots p ok all n (omega arith) in
    let one = once p ok (n + 1) (omega arith) (omega arith) in
    let next = next_slot n p.rows in
    let P : ℕ → Type 0 = λ m. pulls (up_to_slot m) p.rows ≤ m in
    let same : n + 1 ≡ suc n = omega arith in
    subst P same (omega arith)

all_slots : (n : ℕ) (rows : List Row) → All (λ r. r.slot ≤ n) rows → pulls (up_to_slot n) rows ≡ length rows
all_slots n [] all = refl
all_slots n (r ∷ rows) all = first (nat_le r.slot n) refl (All-head (λ (r : Row). r.slot ≤ n) r rows all) (all_slots n rows (All-tail (λ (r : Row). r.slot ≤ n) r rows all))
  where
    first : (b : Bool) → nat_le r.slot n ≡ b → r.slot ≤ n → pulls (up_to_slot n) rows ≡ length rows → (if b then pulls (up_to_slot n) rows + 1 else pulls (up_to_slot n) rows) ≡ suc (length rows)
    first true e to rest = omega arith
    first false e to rest = absurd (grind (arith, nat_tests))

pub few_boards : (p : Plan) → IsAccepted p → length p.rows ≤ 21
few_boards p ok =
    let range = in_range p ok in
    let from = All-weaker (IsRowInRange p) (λ (r : Row). 1 ≤ r.slot) (λ r k. k.from_one) p.rows range.rows in
    let to = All-weaker (IsRowInRange p) (λ (r : Row). r.slot ≤ p.slots) (λ r k. k.to_last) p.rows range.rows in
    let few = few_slots p ok from p.slots (omega arith) in
    let most = range.most in
    omega (arith, all_slots p.slots p.rows to)

pulled_step : (b : Bool) (n m : ℕ) → n ≤ m → (if b then n + 1 else n) ≤ suc m
pulled_step b n m e = grind arith

pub pulls_most : (f : Row → Bool) (rows : List Row) → pulls f rows ≤ length rows
pulls_most f [] = omega arith
pulls_most f (r ∷ rows) = pulled_step (f r) (pulls f rows) (length rows) (pulls_most f rows)

-- a board begins to pull, or lets go
pub record IsMoved (f g : Row → Bool) (rows : List Row) (fall : Bool) : Type 0 where
  pub count : pulls g rows ≡ moved (pulls f rows) fall
  pub can : is_movable (pulls f rows) fall ≡ true

moved_of : (n m : ℕ) (fall : Bool) → m + one_if (not fall) ≡ n + one_if fall → m ≡ moved n fall
moved_of n m fall e = grind arith

can_of : (n m : ℕ) (fall : Bool) → n ≤ 21 → m + one_if (not fall) ≡ n + one_if fall → is_movable n fall ≡ true
can_of n m fall few e = grind (arith, nat_tests)

pub pulls_move : (p : Plan) (f g : Row → Bool) (s : ℕ) (r : Row) (fall : Bool) → IsAccepted p → 1 ≤ s → s ≤ p.slots → row_in p.rows s ≡ Some r →
    IsSameElsewhere f g s → f r ≡ not fall → g r ≡ fall → IsMoved f g p.rows fall
pulls_move p f g s r fall ok from to found same before after =
    let swap = pulls_swap f g s r p.rows same (once p ok s from to) found in
    let even : pulls g p.rows + one_if (not fall) ≡ pulls f p.rows + one_if fall =
    ap (λ t. pulls g p.rows + one_if t) (sym before) ∙ swap ∙ ap (λ t. pulls f p.rows + one_if t) after in
    let most = pulls_most f p.rows in
    let few = few_boards p ok in
    record {
      count = moved_of (pulls f p.rows) (pulls g p.rows) fall even;
      can = can_of (pulls f p.rows) (pulls g p.rows) fall (omega arith) even;
    }

pub pulls_stay : (p : Plan) (f g : Row → Bool) (s : ℕ) (r : Row) → IsAccepted p → 1 ≤ s → s ≤ p.slots → row_in p.rows s ≡ Some r → IsSameElsewhere f g s → g r ≡ f r → pulls g p.rows ≡ pulls f p.rows
pulls_stay p f g s r ok from to found same stays =
    let swap = pulls_swap f g s r p.rows same (once p ok s from to) found in
    let P : Bool → Type 0 = λ t. pulls g p.rows + one_if (f r) ≡ pulls f p.rows + one_if t in
    let even = subst P stays swap in
    omega (arith, even)
