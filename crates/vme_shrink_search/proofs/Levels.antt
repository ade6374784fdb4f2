-- The level that is compared, and the texts of the conditions.
use Rattle.std.specs.Prelude.{if◌then◌else◌}
use Rattle.std.specs.List.{list_any}
use Rattle.std.proofs.Common.{◌≡◌, ◌≤◌, ◌++◌, ◌||◌, ◌∷◌, [], ℕ, Bool, true, false, Option, List, codes, decimal, drop, map, refl, sym, ◌∙◌, ap, arith}
use Rattle.std.proofs.lemmas.Fmt.{decimal_injective}
use Rattle.vme_model.specs.declared.boards.Row.{Row}
use Rattle.vme_model.specs.declared.conditions.Condition.{Condition}
use Rattle.vme_model.specs.declared.conditions.Condition.TheVariants as condition
use Rattle.vme_model.specs.declared.signals.Cycle.{Cycle}
use Rattle.vme_model.specs.declared.signals.Edge.{Edge}
use Rattle.vme_model.specs.Spoken.{condition_text, level_of}
use Rattle.vme_shrink_search.specs.Replies.{level_named, names_shown}
use Rattle.vme_shrink_search.proofs.Alike.{true_false}

left_true : (a b : Bool) → a ≡ true → (a || b) ≡ true
left_true true b h = refl
left_true false b h = absurd (true_false h)

right_true : (a b : Bool) → b ≡ true → (a || b) ≡ true
right_true true b h = refl
right_true false b h = h

-- the texts of the conditions
abbrev texts : Edge → Option Row → Option Cycle → List Condition → List (List ℕ)
texts e board v cs = map (λ c. condition_text c e board v) cs

-- a condition has the same text if the level is the same or is not named
text_same : (c : Condition) (e : Edge) (board : Option Row) (v w : Option Cycle)
    → (names_shown c ≡ true → level_of v ≡ level_of w)
    → condition_text c e board v ≡ condition_text c e board w
text_same condition.Pending e board v w h =
    ap (λ n. codes "pending at level " ++ decimal n) (h refl)
text_same condition.NotPending e board v w h =
    ap (λ n. codes "not pending at level " ++ decimal n) (h refl)
text_same c e board v w h = refl

number_same : (m n : ℕ) → m ≤ 7 → n ≤ 7 → decimal m ≡ decimal n → m ≡ n
number_same m n p q h = decimal_injective m n (omega (arith, p)) (omega (arith, q)) h

-- and the level is the same if it is named and the text is the same
level_same : (c : Condition) (e : Edge) (board : Option Row) (v w : Option Cycle)
    → level_of v ≤ 7 → level_of w ≤ 7 → names_shown c ≡ true
    → condition_text c e board v ≡ condition_text c e board w → level_of v ≡ level_of w
level_same condition.Pending e board v w p q n h =
    number_same (level_of v) (level_of w) p q (ap (drop 17) h)
level_same condition.NotPending e board v w p q n h =
    number_same (level_of v) (level_of w) p q (ap (drop 21) h)
level_same c e board v w p q n h = absurd (true_false n)

texts_same : (cs : List Condition) (e : Edge) (board : Option Row) (v w : Option Cycle)
    → (list_any names_shown cs ≡ true → level_of v ≡ level_of w)
    → texts e board v cs ≡ texts e board w cs
texts_same [] e board v w h = refl
texts_same (c ∷ cs) e board v w h =
    let first = text_same c e board v w
    (λ n. h (left_true (names_shown c) (list_any names_shown cs) n)) in
    let rest = texts_same cs e board v w
    (λ n. h (right_true (names_shown c) (list_any names_shown cs) n)) in
    (λ i. first i ∷ rest i)

abbrev first_of : List (List ℕ) → List ℕ
first_of [] = []
first_of (x ∷ xs) = x

levels_same : (cs : List Condition) (e : Edge) (board : Option Row) (v w : Option Cycle)
    → level_of v ≤ 7 → level_of w ≤ 7 → texts e board v cs ≡ texts e board w cs
    → list_any names_shown cs ≡ true → level_of v ≡ level_of w
levels_same [] e board v w p q same any = absurd (true_false any)
levels_same (c ∷ cs) e board v w p q same any =
    by (names_shown c) refl (levels_same cs e board v w p q (ap (drop 1) same))
  where
    by : (t : Bool) → names_shown c ≡ t
        → (list_any names_shown cs ≡ true → level_of v ≡ level_of w) → level_of v ≡ level_of w
    by true is later = level_same c e board v w p q is (ap first_of same)
    by false is later = later (sym (ap (λ t. t || list_any names_shown cs) is) ∙ any)

named_by : (t : Bool) (m n : ℕ) → (t ≡ true → m ≡ n)
    → (if t then m else 0) ≡ (if t then n else 0)
named_by true m n h = h refl
named_by false m n h = refl

by_named : (t : Bool) (m n : ℕ) → (if t then m else 0) ≡ (if t then n else 0) → t ≡ true → m ≡ n
by_named true m n h is = h
by_named false m n h is = absurd (true_false is)

pub compared_by_texts : (cs : List Condition) (e : Edge) (board : Option Row) (v w : Option Cycle)
    → level_of v ≤ 7 → level_of w ≤ 7
    → (level_named cs v ≡ level_named cs w
    → map (λ c. condition_text c e board v) cs ≡ map (λ c. condition_text c e board w) cs)
    × (map (λ c. condition_text c e board v) cs ≡ map (λ c. condition_text c e board w) cs
    → level_named cs v ≡ level_named cs w)
compared_by_texts cs e board v w p q = (
  λ h. texts_same cs e board v w
      (by_named (list_any names_shown cs) (level_of v) (level_of w) h),
  λ h. named_by (list_any names_shown cs) (level_of v) (level_of w)
      (levels_same cs e board v w p q h),
)
