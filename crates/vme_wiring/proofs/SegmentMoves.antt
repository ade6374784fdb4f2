-- How the segments of a chain move with the boards that work it.
use Rattle.std.proofs.Common.{◌≡◌, ◌≢◌, ◌∙◌, refl, sym, ap, subst, ℕ, zero, suc, Bool, true, false, List, [], ◌∷◌, ◌++◌, ◌+◌, ◌<◌, ◌≤◌, length, arith, inl, inr}
use Rattle.std.specs.Prelude.{cond, Some, map, filter, set, nat_lt}
use Rattle.std.specs.List.{count_by, slice_get}
use Rattle.std.proofs.Math.Nat.{eq-or-lt_of_le}
use Rattle.std.proofs.Math.Seq.{set-append_seam}
use Rattle.std.proofs.lemmas.Bool.Decides.{nat_tests}
use Rattle.std.proofs.lemmas.List.{map-append, length-map, length-append, append-nil, set-append_left}
use Rattle.std.proofs.lemmas.List.Elements.{filter-append}
use Rattle.std.proofs.lemmas.List.Sums.{sum_by-append}
use Rattle.vme_model.specs.Plan.{up_to}

-- the slots up to n that pass a test
abbrev worked : (ℕ → Bool) → ℕ → List ℕ
worked f n = filter f (up_to n)

abbrev below : ℕ → List ℕ → ℕ
below s xs = count_by (λ t. nat_lt t s) xs

abbrev one_if : Bool → ℕ
one_if b = cond b 1 0

abbrev with_slot : Bool → List ℕ → ℕ → List ℕ
with_slot b xs s = cond b (xs ++ s ∷ []) xs

one_more : (b : Bool) (xs : List ℕ) (s : ℕ) → xs ++ cond b (s ∷ []) [] ≡ with_slot b xs s
one_more true xs s = refl
one_more false xs s = append-nil xs

worked_more : (f : ℕ → Bool) (n : ℕ) → worked f (suc n) ≡ with_slot (f (suc n)) (worked f n) (suc n)
worked_more f n = filter-append f (up_to n) (suc n ∷ []) ∙ one_more (f (suc n)) (worked f n) (suc n)

-- two states of the outputs: alike except for one slot
pub record IsOne (f g k : ℕ → Bool) (s : ℕ) (fall : Bool) : Type 0 where
  pub others : (t : ℕ) → f t ≡ true → t ≢ s → k t ≡ g t
  pub one : k s ≡ fall

-- no slot up to n is that one
same_of : (f g k : ℕ → Bool) (b : Bool) (xs : List ℕ) (t : ℕ) → map k xs ≡ map g xs → (b ≡ true → k t ≡ g t) → map k (with_slot b xs t) ≡ map g (with_slot b xs t)
same_of f g k true xs t e same = map-append k xs (t ∷ []) ∙ ap (λ ys. ys ++ k t ∷ []) e ∙ ap (λ y. map g xs ++ y ∷ []) (same refl) ∙ sym (map-append g xs (t ∷ []))
same_of f g k false xs t e same = e

pub map_others : (f g k : ℕ → Bool) (n : ℕ) → ((t : ℕ) → t ≤ n → f t ≡ true → k t ≡ g t) → map k (worked f n) ≡ map g (worked f n)
map_others f g k zero same = refl
map_others f g k (suc n) same =
    let P : List ℕ → Type 0 = λ xs. map k xs ≡ map g xs in
    subst P (sym (worked_more f n)) (same_of f g k (f (suc n)) (worked f n) (suc n) (map_others f g k n (λ t l e. same t (omega arith) e)) (same (suc n) (omega arith)))

long : (xs : List ℕ) (x : ℕ) → length (xs ++ x ∷ []) ≡ length xs + 1
long xs x = let split = length-append xs (x ∷ []) in omega (arith, split)

counted : (b : Bool) (s : ℕ) (xs : List ℕ) (x : ℕ) → nat_lt x s ≡ b → below s (xs ++ x ∷ []) ≡ below s xs + one_if b
counted b s xs x under =
    let split = sum_by-append (λ t. one_if (nat_lt t s)) xs (x ∷ []) in
    let one = ap one_if under in
    omega (arith, split, one)

-- all of the slots up to n are below a greater one
all_below_step : (b : Bool) (s : ℕ) (xs : List ℕ) (x : ℕ) → nat_lt x s ≡ true → below s xs ≡ length xs → below s (with_slot b xs x) ≡ length (with_slot b xs x)
all_below_step true s xs x under all = let a = counted true s xs x under in let c = long xs x in omega arith
all_below_step false s xs x under all = all

all_below : (f : ℕ → Bool) (n s : ℕ) → n < s → below s (worked f n) ≡ length (worked f n)
all_below f zero s less = refl
all_below f (suc n) s less =
    let P : List ℕ → Type 0 = λ xs. below s xs ≡ length xs in
    let under : nat_lt (suc n) s ≡ true = grind (arith, nat_tests) in
    subst P (sym (worked_more f n)) (all_below_step (f (suc n)) s (worked f n) (suc n) under (all_below f n s (omega arith)))

-- the segment of a slot is at its place, and moves alone
pub record IsAt (g k : ℕ → Bool) (xs : List ℕ) (s i : ℕ) (fall : Bool) : Type 0 where
  pub is_below : below (s + 1) xs ≡ i + 1
  pub within : i < length xs
  pub before : slice_get (map g xs) i ≡ Some (g s)
  pub moved : map k xs ≡ set (map g xs) i fall

at_seam : (xs : List Bool) (y : Bool) → slice_get (xs ++ y ∷ []) (length xs) ≡ Some y
at_seam [] y = refl
at_seam (x ∷ xs) y = at_seam xs y

get_front : (xs ys : List Bool) (i : ℕ) → i < length xs → slice_get (xs ++ ys) i ≡ slice_get xs i
get_front [] ys i l = absurd (omega arith)
get_front (x ∷ xs) ys zero l = refl
get_front (x ∷ xs) ys (suc i) l = get_front xs ys i (omega arith)

at_last : (f g k : ℕ → Bool) (n : ℕ) (fall : Bool) → IsOne f g k (suc n) fall → IsAt g k (worked f n ++ suc n ∷ []) (suc n) (length (worked f n)) fall
at_last f g k n fall one =
    let xs = worked f n in
    let under : nat_lt (suc n) (suc n + 1) ≡ true = grind (arith, nat_tests) in
    let a = counted true (suc n + 1) xs (suc n) under in
    let b = all_below f n (suc n + 1) (omega arith) in
    let c = long xs (suc n) in
    let same = map_others f g k n (λ t l e. one.others t e (λ is. absurd (omega arith))) in
    record {
      is_below = omega arith;
      within = omega arith;
      before =
          ap (λ ys. slice_get ys (length xs)) (map-append g xs (suc n ∷ []))
          ∙ ap (λ i. slice_get (map g xs ++ g (suc n) ∷ []) i) (sym (length-map xs g))
          ∙ at_seam (map g xs) (g (suc n));
      moved =
          map-append k xs (suc n ∷ [])
          ∙ ap (λ ys. ys ++ k (suc n) ∷ []) same
          ∙ ap (λ y. map g xs ++ y ∷ []) one.one
          ∙ sym (set-append_seam (map g xs) (g (suc n)) [] fall)
          ∙ ap (λ i. set (map g xs ++ g (suc n) ∷ []) i fall) (length-map xs g)
          ∙ ap (λ ys. set ys (length xs) fall) (sym (map-append g xs (suc n ∷ [])));
    }

at_earlier : (b : Bool) (f g k : ℕ → Bool) (n s i : ℕ) (fall : Bool) → IsOne f g k s fall → s ≤ n → f (suc n) ≡ b → IsAt g k (worked f n) s i fall →
    IsAt g k (with_slot b (worked f n) (suc n)) s i fall
at_earlier false f g k n s i fall one l is at = at
at_earlier true f g k n s i fall one l is at =
    let xs = worked f n in
    let beyond : nat_lt (suc n) (s + 1) ≡ false = grind (arith, nat_tests) in
    let a = counted false (s + 1) xs (suc n) beyond in
    let c = long xs (suc n) in
    let inside : i < length (map g xs) = let m = length-map xs g in let w = at.within in omega arith in
    record {
      is_below = let q = at.is_below in omega arith;
      within = let w = at.within in omega arith;
      before =
          ap (λ ys. slice_get ys i) (map-append g xs (suc n ∷ []))
          ∙ get_front (map g xs) (g (suc n) ∷ []) i inside
          ∙ at.before;
      moved =
          map-append k xs (suc n ∷ [])
          ∙ ap (λ ys. ys ++ k (suc n) ∷ []) at.moved
          ∙ ap (λ y. set (map g xs) i fall ++ y ∷ []) (one.others (suc n) is (λ same. absurd (omega arith)))
          ∙ sym (set-append_left (map g xs) (g (suc n) ∷ []) i fall inside)
          ∙ ap (λ ys. set ys i fall) (sym (map-append g xs (suc n ∷ [])));
    }

pub record HasPlace (g k : ℕ → Bool) (xs : List ℕ) (s : ℕ) (fall : Bool) : Type 0 where
  pub place : ℕ
  pub is_at : IsAt g k xs s place fall

pub placed : (f g k : ℕ → Bool) (n s : ℕ) (fall : Bool) → IsOne f g k s fall → 1 ≤ s → s ≤ n → f s ≡ true → HasPlace g k (worked f n) s fall
placed f g k zero s fall one from to has = absurd (omega arith)
placed f g k (suc n) s fall one from to has =
    elim (eq-or-lt_of_le to) [
      | inl same ↦
          let here : f (suc n) ≡ true = subst (λ t. f t ≡ true) same has in
          let P : ℕ → Type 0 = λ t. HasPlace g k (worked f (suc n)) t fall in
          let Q : List ℕ → Type 0 = λ xs. IsAt g k xs (suc n) (length (worked f n)) fall in
          let here_one : IsOne f g k (suc n) fall = subst (λ t. IsOne f g k t fall) same one in
          subst P (sym same) (record {
            place = length (worked f n);
            is_at = subst Q (sym (worked_more f n ∙ ap (λ b. with_slot b (worked f n) (suc n)) here)) (at_last f g k n fall here_one);
          })
      | inr less ↦
          let before = placed f g k n s fall one from (omega arith) has in
          let Q : List ℕ → Type 0 = λ xs. IsAt g k xs s before.place fall in
          record {
            place = before.place;
            is_at = subst Q (sym (worked_more f n)) (at_earlier (f (suc n)) f g k n s before.place fall one (omega arith) refl before.is_at);
          }
    ]
