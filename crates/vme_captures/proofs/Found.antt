-- What is spelled is read.
use Rattle.std.proofs.Common.{◌≡◌, ◌+◌, ◌<◌, ◌≤◌, ◌^◌, ◌++◌, not, ℕ, zero, suc, Bool, true, false, eqb, leb, ltb, List, [], ◌∷◌, Option, Some, None, option_map, length, get_or, take, drop, refl, sym, ◌∙◌, ap, arith, inl, inr, add-one, append_assoc, length-append}
use Rattle.std.specs.Prelude.{codes, decimal}
use Rattle.std.specs.Int.{IsInRange}
use Rattle.std.specs.List.{list_all, position_or_len}
use Rattle.std.specs.Str.{bytes_eq}
use Rattle.std.proofs.Math.ListN.{get_or-append}
use Rattle.std.proofs.Math.Seq.{take-append_seam}
use Rattle.std.proofs.lemmas.Bool.{and_parts}
use Rattle.std.proofs.lemmas.Bool.Decides.{nat_tests}
use Rattle.std.proofs.lemmas.Fmt.{decimal_is_IsNumeral}
use Rattle.std.proofs.lemmas.List.Sums.{position_or_len_is}
use Rattle.std.proofs.lemmas.Str.Parse.{digit_at}
use Rattle.vme_model.specs.declared.sets.ChainId.{ChainId}
use Rattle.vme_model.specs.declared.sets.ChainId.TheVariants as chain
use Rattle.vme_model.specs.declared.signals.Cycle.TheVariants.{Acknowledge, Access}
use Rattle.vme_model.specs.Plan.{up_to}
use Rattle.vme_model.specs.Signals.{is_level, is_slot}
use Rattle.vme_model.specs.Text.{sign}
use Rattle.vme_trace.proofs.AllEdges.{In, in_all, in_levels}
use Rattle.vme_trace.proofs.Lines.{true_false}
use Rattle.vme_moments.proofs.Spelled.{decimal_number}
use Rattle.vme_captures.specs.declared.signals.Line.{Line}
use Rattle.vme_captures.specs.declared.signals.Line.TheVariants as line
use Rattle.vme_captures.specs.declared.signals.Side.{Side}
use Rattle.vme_captures.specs.declared.signals.Side.TheVariants.{In as Inner, Out}
use Rattle.vme_captures.specs.declared.signals.Pin.{Pin}
use Rattle.vme_captures.specs.declared.signals.Signal.{Signal}
use Rattle.vme_captures.specs.declared.signals.Signal.TheVariants as signal
use Rattle.vme_captures.specs.declared.signals.Value.{Value}
use Rattle.vme_captures.specs.declared.signals.Value.TheVariants as value
use Rattle.vme_captures.specs.declared.signals.Change.{Change}
use Rattle.vme_captures.specs.declared.signals.Entry.{Entry}
use Rattle.vme_captures.specs.declared.signals.Entry.TheVariants as entry
use Rattle.vme_captures.specs.Signals.{has_value, is_line, is_signal}
use Rattle.vme_captures.specs.Spelling.{entry_text, is_entry, line_name, may_be_low, pin_name, pin_text, signal_text, value_text}
use Rattle.vme_captures.specs.Words.{all_lines, change_of, entry_of, is_byte, is_sign, is_space, line_named, low_of, number_with, pin_of, side_named, signal_of, value_of}

false_true : {A : Type 0} → false ≡ true → A
false_true h = absurd (true_false (sym h))

-- ---- a text that is cut

abbrev Lacks : (ℕ → Bool) → List ℕ → Type 0
Lacks t xs = (k : ℕ) → k < length xs → t (get_or xs k 0) ≡ false

seam : (xs ys : List ℕ) (b : ℕ) → get_or (xs ++ b ∷ ys) (length xs) 0 ≡ b
seam [] ys b = refl
seam (x ∷ xs) ys b = seam xs ys b

first_at : (t : ℕ → Bool) (xs ys : List ℕ) (b : ℕ) → Lacks t xs → t b ≡ true → position_or_len t (xs ++ b ∷ ys) ≡ length xs
first_at t xs ys b lacks has =
    position_or_len_is t (xs ++ b ∷ ys) (length xs) 0 (rw (length-append xs (b ∷ ys)) (omega arith))
    (λ k lt. ap t (get_or-append xs (b ∷ ys) 0 k lt) ∙ lacks k lt) (λ _. ap t (seam xs ys b) ∙ has)

behind : (xs ys : List ℕ) (b : ℕ) → drop (length xs + 1) (xs ++ b ∷ ys) ≡ ys
behind [] ys b = refl
behind (x ∷ xs) ys b =
    rw (add-one (suc (length xs))) (sym (ap (λ k. drop k (xs ++ b ∷ ys)) (add-one (length xs))) ∙ behind xs ys b)

to_true : (a b : ℕ) → a < b → ltb a b ≡ true
to_true a b h = grind (arith, nat_tests)

within : (xs ys : List ℕ) (b : ℕ) → ltb (length xs) (length (xs ++ b ∷ ys)) ≡ true
within xs ys b = to_true (length xs) (length (xs ++ b ∷ ys)) (rw (length-append xs (b ∷ ys)) (omega arith))

tests_at : (t : ℕ → Bool) (xs : List ℕ) → list_all (λ b. not (t b)) xs ≡ true → Lacks t xs
tests_at t [] h k lt = absurd (omega arith)
tests_at t (x ∷ xs) h zero lt = at (t x) (and_parts (not (t x)) (list_all (λ b. not (t b)) xs) h).0
  where
    at : (b : Bool) → not b ≡ true → b ≡ false
    at false h = refl
    at true h = false_true h
tests_at t (x ∷ xs) h (suc k) lt = tests_at t xs (and_parts (not (t x)) (list_all (λ b. not (t b)) xs) h).1 k (omega arith)

-- ---- numbers

digit : (n i : ℕ) → n < 2 ^ 64 → i < length (decimal n) → IsInRange 48 57 (get_or (decimal n) i 0)
digit n i h lt = digit_at (decimal n) i (decimal_is_IsNumeral n h).0.1 lt

some_digit : (n : ℕ) → n < 2 ^ 64 → 0 < length (decimal n)
some_digit n h = (decimal_is_IsNumeral n h).0.0

no_space : (b : ℕ) → IsInRange 48 57 b → is_space b ≡ false
no_space b h = let l : 48 ≤ b = h.0 in grind (arith, nat_tests)

no_sign : (b : ℕ) → IsInRange 48 57 b → is_sign b ≡ false
no_sign b h = let l : 48 ≤ b = h.0 in let e : eqb b 45 ≡ false = grind (arith, nat_tests) in let f : eqb b 43 ≡ false = grind (arith, nat_tests) in rw (e, f) refl

number_found : (t : ℕ → Bool) (n : ℕ) → n < 2 ^ 64 → t n ≡ true → number_with t (decimal n) ≡ Some n
number_found t n h k = rw (decimal_number n h, k) refl

slot_small : (s : ℕ) → is_slot s ≡ true → s < 2 ^ 64
slot_small s h = let k : leb s 21 ≡ true = (and_parts (leb 1 s) (leb s 21) h).1 in let l : s ≤ 21 = grind (arith, nat_tests) in omega arith

level_small : (n : ℕ) → is_level n ≡ true → n < 2 ^ 64
level_small n h = let k : leb n 7 ≡ true = (and_parts (leb 1 n) (leb n 7) h).1 in let l : n ≤ 7 = grind (arith, nat_tests) in omega arith

byte_small : (b : ℕ) → is_byte b ≡ true → b < 2 ^ 64
byte_small b h = let l : b < 256 = grind (arith, nat_tests) in omega arith

-- ---- lines and pins

in_lines : (l : Line) → is_line l ≡ true → In l all_lines
in_lines (line.Br zero) h = inl refl
in_lines (line.Br (suc zero)) h = inr (inl refl)
in_lines (line.Br (suc (suc zero))) h = inr (inr (inl refl))
in_lines (line.Br (suc (suc (suc zero)))) h = inr (inr (inr (inl refl)))
in_lines (line.Br (suc (suc (suc (suc n))))) h = false_true (sym (let e : ltb (suc (suc (suc (suc n)))) 4 ≡ false = grind (arith, nat_tests) in e) ∙ h)
in_lines (line.Irq n) h = in_irq n (in_levels n h)
  where
    in_irq : (n : ℕ) → In n (up_to 7) → In (line.Irq n) all_lines
    in_irq n (inl e) = inr (inr (inr (inr (inl (ap (λ k. line.Irq k) e)))))
    in_irq n (inr (inl e)) = inr (inr (inr (inr (inr (inl (ap (λ k. line.Irq k) e))))))
    in_irq n (inr (inr (inl e))) = inr (inr (inr (inr (inr (inr (inl (ap (λ k. line.Irq k) e)))))))
    in_irq n (inr (inr (inr (inl e)))) = inr (inr (inr (inr (inr (inr (inr (inl (ap (λ k. line.Irq k) e))))))))
    in_irq n (inr (inr (inr (inr (inl e))))) = inr (inr (inr (inr (inr (inr (inr (inr (inl (ap (λ k. line.Irq k) e)))))))))
    in_irq n (inr (inr (inr (inr (inr (inl e)))))) = inr (inr (inr (inr (inr (inr (inr (inr (inr (inl (ap (λ k. line.Irq k) e))))))))))
    in_irq n (inr (inr (inr (inr (inr (inr (inl e))))))) = inr (inr (inr (inr (inr (inr (inr (inr (inr (inr (inl (ap (λ k. line.Irq k) e)))))))))))
    in_irq n (inr (inr (inr (inr (inr (inr (inr none))))))) = absurd none
in_lines line.Bbsy h = inr (inr (inr (inr (inr (inr (inr (inr (inr (inr (inr (inl refl)))))))))))
in_lines line.AddressStrobe h = inr (inr (inr (inr (inr (inr (inr (inr (inr (inr (inr (inr (inl refl))))))))))))
in_lines line.DataStrobe h = inr (inr (inr (inr (inr (inr (inr (inr (inr (inr (inr (inr (inr (inl refl)))))))))))))
in_lines line.Dtack h = inr (inr (inr (inr (inr (inr (inr (inr (inr (inr (inr (inr (inr (inr (inl refl))))))))))))))
in_lines line.Berr h = inr (inr (inr (inr (inr (inr (inr (inr (inr (inr (inr (inr (inr (inr (inr (inl refl)))))))))))))))
in_lines line.Bclr h = inr (inr (inr (inr (inr (inr (inr (inr (inr (inr (inr (inr (inr (inr (inr (inr (inl refl))))))))))))))))

line_found : (l : Line) → is_line l ≡ true → line_named (line_name l) ≡ Some l
unfolding line_named
line_found (line.Br zero) h = refl
line_found (line.Br (suc zero)) h = refl
line_found (line.Br (suc (suc zero))) h = refl
line_found (line.Br (suc (suc (suc zero)))) h = refl
line_found (line.Br (suc (suc (suc (suc n))))) h = false_true (sym (let e : ltb (suc (suc (suc (suc n)))) 4 ≡ false = grind (arith, nat_tests) in e) ∙ h)
line_found (line.Irq n) h = irq n (in_levels n h)
  where
    irq : (n : ℕ) → In n (up_to 7) → line_named (line_name (line.Irq n)) ≡ Some (line.Irq n)
    irq n (inl e) = rw (← e) refl
    irq n (inr (inl e)) = rw (← e) refl
    irq n (inr (inr (inl e))) = rw (← e) refl
    irq n (inr (inr (inr (inl e)))) = rw (← e) refl
    irq n (inr (inr (inr (inr (inl e))))) = rw (← e) refl
    irq n (inr (inr (inr (inr (inr (inl e)))))) = rw (← e) refl
    irq n (inr (inr (inr (inr (inr (inr (inl e))))))) = rw (← e) refl
    irq n (inr (inr (inr (inr (inr (inr (inr none))))))) = absurd none
line_found line.Bbsy h = refl
line_found line.AddressStrobe h = refl
line_found line.DataStrobe h = refl
line_found line.Dtack h = refl
line_found line.Berr h = refl
line_found line.Bclr h = refl

side_found : (c : ChainId) (x : Side) → side_named (pin_name c x) ≡ Some (c, x)
unfolding side_named
side_found chain.Bg0 Inner = refl
side_found chain.Bg1 Inner = refl
side_found chain.Bg2 Inner = refl
side_found chain.Bg3 Inner = refl
side_found chain.Iack Inner = refl
side_found chain.Bg0 Out = refl
side_found chain.Bg1 Out = refl
side_found chain.Bg2 Out = refl
side_found chain.Bg3 Out = refl
side_found chain.Iack Out = refl

pin_at_cut : (word : List ℕ) (k s : ℕ) (c : ChainId) (x : Side) → position_or_len is_space word ≡ k → ltb k (length word) ≡ true
    → number_with is_slot (take k word) ≡ Some s → side_named (drop (k + 1) word) ≡ Some (c, x)
    → pin_of word ≡ Some (record { slot = s; chain = c; side = x })
unfolding pin_of
pin_at_cut word k s c x e lt n m = rw (e, lt, n, m) refl

pin_found : (q : Pin) → is_slot q.slot ≡ true → pin_of (pin_text q) ≡ Some q
pin_found q h =
    let ds = decimal q.slot in
    let name = pin_name q.chain q.side in
    let small = slot_small q.slot h in
    pin_at_cut (pin_text q) (length ds) q.slot q.chain q.side
    (first_at is_space ds name 32 (λ k lt. no_space (get_or ds k 0) (digit q.slot k small lt)) refl)
    (within ds name 32)
    (ap (number_with is_slot) (take-append_seam ds (32 ∷ name)) ∙ number_found is_slot q.slot small h)
    (ap side_named (behind ds name 32) ∙ side_found q.chain q.side)

-- no line has a name that begins with a digit
no_line : (ds rest : List ℕ) → 0 < length ds → get_or ds 0 0 ≤ 57 → line_named (ds ++ rest) ≡ None
unfolding line_named
no_line [] rest some low = absurd (omega arith)
no_line (d ∷ ds) rest some low =
    let a : eqb d 66 ≡ false = grind (arith, nat_tests) in
    let b : eqb d 73 ≡ false = grind (arith, nat_tests) in
    let c : eqb d 65 ≡ false = grind (arith, nat_tests) in
    let e : eqb d 68 ≡ false = grind (arith, nat_tests) in
    rw (a, b, c, e) refl

either_line : (word : List ℕ) (l : Line) → line_named word ≡ Some l → signal_of word ≡ Some (signal.Line l)
unfolding signal_of
either_line word l h = rw h refl

either_pin : (word : List ℕ) (q : Pin) → line_named word ≡ None → pin_of word ≡ Some q → signal_of word ≡ Some (signal.Pin q)
unfolding signal_of
either_pin word q h k = rw (h, k) refl

signal_found : (x : Signal) → is_signal x ≡ true → signal_of (signal_text x) ≡ Some x
signal_found (signal.Line l) h = either_line (line_name l) l (line_found l h)
signal_found (signal.Pin q) h =
    let small = slot_small q.slot h in
    let some = some_digit q.slot small in
    either_pin (pin_text q) q (no_line (decimal q.slot) (32 ∷ pin_name q.chain q.side) some (digit q.slot 0 small some).1) (pin_found q h)

-- ---- no sign stands in the name of a line or pin

no_sign_in_lines : list_all (λ l. list_all (λ b. not (is_sign b)) (line_name l)) all_lines ≡ true
no_sign_in_lines = refl

no_sign_in_names : (c : ChainId) (x : Side) → list_all (λ b. not (is_sign b)) (32 ∷ pin_name c x) ≡ true
no_sign_in_names chain.Bg0 Inner = refl
no_sign_in_names chain.Bg1 Inner = refl
no_sign_in_names chain.Bg2 Inner = refl
no_sign_in_names chain.Bg3 Inner = refl
no_sign_in_names chain.Iack Inner = refl
no_sign_in_names chain.Bg0 Out = refl
no_sign_in_names chain.Bg1 Out = refl
no_sign_in_names chain.Bg2 Out = refl
no_sign_in_names chain.Bg3 Out = refl
no_sign_in_names chain.Iack Out = refl

all_from : (t : ℕ → Bool) (xs : List ℕ) → Lacks t xs → list_all (λ b. not (t b)) xs ≡ true
all_from t [] h = refl
all_from t (x ∷ xs) h = rw (h 0 (omega arith), all_from t xs (λ k lt. h (suc k) (omega arith))) refl

all_both : (t : ℕ → Bool) (xs ys : List ℕ) → list_all t xs ≡ true → list_all t ys ≡ true → list_all t (xs ++ ys) ≡ true
all_both t [] ys h k = k
all_both t (x ∷ xs) ys h k = let l = and_parts (t x) (list_all t xs) h in rw (l.0, all_both t xs ys l.1 k) refl

no_sign_in : (x : Signal) → is_signal x ≡ true → Lacks is_sign (signal_text x)
no_sign_in (signal.Line l) h =
    tests_at is_sign (line_name l) (in_all (λ m. list_all (λ b. not (is_sign b)) (line_name m)) l all_lines no_sign_in_lines (in_lines l h))
no_sign_in (signal.Pin q) h =
    let small = slot_small q.slot h in
    tests_at is_sign (pin_text q)
    (all_both (λ b. not (is_sign b)) (decimal q.slot) (32 ∷ pin_name q.chain q.side)
    (all_from is_sign (decimal q.slot) (λ k lt. no_sign (get_or (decimal q.slot) k 0) (digit q.slot k small lt)))
    (no_sign_in_names q.chain q.side))

-- ---- values

more_than_r : (ds : List ℕ) → 0 < length ds → bytes_eq (32 ∷ 114 ∷ ds) (codes " r") ≡ false
more_than_r [] some = absurd (omega arith)
more_than_r (d ∷ ds) some = refl

value_found : (x : Signal) (f : Bool) (v : Option Value) → has_value x f v ≡ true → value_of x f (value_text v) ≡ Some v
value_found (signal.Line line.AddressStrobe) true (Some (value.Shown (Access s))) h =
    let small = slot_small s h in rw (more_than_r (decimal s) (some_digit s small), number_found is_slot s small h) refl
value_found (signal.Line line.AddressStrobe) true (Some (value.Shown (Acknowledge n))) h = rw (number_found is_level n (level_small n h) h) refl
value_found (signal.Line line.AddressStrobe) true (Some value.Access) h = refl
value_found (signal.Line line.Dtack) true (Some (value.Status b)) h = rw (number_found is_byte b (byte_small b h) h) refl
value_found (signal.Line line.AddressStrobe) true None h = false_true h
value_found (signal.Line line.AddressStrobe) false None h = refl
value_found (signal.Line line.Dtack) true None h = refl
value_found (signal.Line line.Dtack) false None h = refl
value_found (signal.Line (line.Br n)) f None h = refl
value_found (signal.Line (line.Irq n)) f None h = refl
value_found (signal.Line line.Bbsy) f None h = refl
value_found (signal.Line line.DataStrobe) f None h = refl
value_found (signal.Line line.Berr) f None h = refl
value_found (signal.Line line.Bclr) f None h = refl
value_found (signal.Pin q) f None h = refl
value_found _ _ (Some v) h = false_true h

-- ---- changes

change_at_cut : (text : List ℕ) (k : ℕ) (x : Signal) (f : Bool) (v : Option Value) → position_or_len is_sign text ≡ k → ltb k (length text) ≡ true
    → signal_of (take k text) ≡ Some x → eqb (get_or text k 0) 45 ≡ f → value_of x f (drop (k + 1) text) ≡ Some v
    → change_of text ≡ Some (record { signal = x; fall = f; value = v })
unfolding change_of
change_at_cut text k x f v e lt s g w = rw (e, lt, s, g, w) refl

change_at : (x : Signal) (f : Bool) (v : Option Value) (b : ℕ) → is_signal x ≡ true → has_value x f v ≡ true → is_sign b ≡ true → eqb b 45 ≡ f
    → change_of (signal_text x ++ b ∷ value_text v) ≡ Some (record { signal = x; fall = f; value = v })
change_at x f v b h k signs way =
    let xs = signal_text x in
    let ys = value_text v in
    change_at_cut (xs ++ b ∷ ys) (length xs) x f v (first_at is_sign xs ys b (no_sign_in x h) signs) (within xs ys b)
    (ap signal_of (take-append_seam xs (b ∷ ys)) ∙ signal_found x h) (ap (λ c. eqb c 45) (seam xs ys b) ∙ way)
    (ap (value_of x f) (behind xs ys b) ∙ value_found x f v k)

change_found : (x : Signal) (f : Bool) (v : Option Value) → is_signal x ≡ true → has_value x f v ≡ true
    → change_of (signal_text x ++ (sign f ++ value_text v)) ≡ Some (record { signal = x; fall = f; value = v })
change_found x true v h k = change_at x true v 45 h k refl refl
change_found x false v h k = change_at x false v 43 h k refl refl

-- what begins so is a change
other_entry : (b : ℕ) (rest : List ℕ) → eqb b 114 ≡ false → eqb b 112 ≡ false → eqb b 108 ≡ false → eqb b 64 ≡ false
    → entry_of (b ∷ rest) ≡ option_map (λ c. entry.Change c) (change_of (b ∷ rest))
unfolding entry_of
other_entry b rest h i j k = rw (h, i, j, k) refl

digit_entry : (ds rest : List ℕ) → 0 < length ds → IsInRange 48 57 (get_or ds 0 0) → entry_of (ds ++ rest) ≡ option_map (λ c. entry.Change c) (change_of (ds ++ rest))
digit_entry [] rest some low = absurd (omega arith)
digit_entry (d ∷ ds) rest some low =
    let l : d ≤ 57 = low.1 in
    other_entry d (ds ++ rest) (grind (arith, nat_tests)) (grind (arith, nat_tests)) (grind (arith, nat_tests)) (grind (arith, nat_tests))

is_change_entry : (x : Signal) (tail : List ℕ) → is_signal x ≡ true → entry_of (signal_text x ++ tail) ≡ option_map (λ c. entry.Change c) (change_of (signal_text x ++ tail))
is_change_entry (signal.Line (line.Br n)) tail h = other_entry 66 (82 ∷ (48 + n) ∷ tail) refl refl refl refl
is_change_entry (signal.Line (line.Irq n)) tail h = other_entry 73 (82 ∷ 81 ∷ (48 + n) ∷ tail) refl refl refl refl
is_change_entry (signal.Line line.Bbsy) tail h = other_entry 66 (66 ∷ 83 ∷ 89 ∷ tail) refl refl refl refl
is_change_entry (signal.Line line.AddressStrobe) tail h = other_entry 65 (83 ∷ tail) refl refl refl refl
is_change_entry (signal.Line line.DataStrobe) tail h = other_entry 68 (83 ∷ tail) refl refl refl refl
is_change_entry (signal.Line line.Dtack) tail h = other_entry 68 (84 ∷ 65 ∷ 67 ∷ 75 ∷ tail) refl refl refl refl
is_change_entry (signal.Line line.Berr) tail h = other_entry 66 (69 ∷ 82 ∷ 82 ∷ tail) refl refl refl refl
is_change_entry (signal.Line line.Bclr) tail h = other_entry 66 (67 ∷ 76 ∷ 82 ∷ tail) refl refl refl refl
is_change_entry (signal.Pin q) tail h =
    let small = slot_small q.slot h in
    let some = some_digit q.slot small in
    let name = 32 ∷ pin_name q.chain q.side in
    ap entry_of (append_assoc (decimal q.slot) name tail)
    ∙ digit_entry (decimal q.slot) (name ++ tail) some (digit q.slot 0 small some)
    ∙ ap (λ (l : List ℕ). option_map (λ c. entry.Change c) (change_of l)) (sym (append_assoc (decimal q.slot) name tail))

-- ---- the other entries

pin_entry : (q : Pin) → is_slot q.slot ≡ true → entry_of (codes "pin " ++ pin_text q) ≡ Some (entry.Pin q)
unfolding entry_of
pin_entry q h = rw (pin_found q h) refl

low_entry : (x : Signal) → is_signal x ≡ true → may_be_low x ≡ true → entry_of (codes "low " ++ signal_text x) ≡ Some (entry.Low x)
unfolding entry_of low_of
low_entry x h k = rw (signal_found x h, k) refl

running_entry : entry_of (codes "running") ≡ Some entry.Running
unfolding entry_of
running_entry = refl

moment_entry : (m : ℕ) → ltb m (2 ^ 64) ≡ true → entry_of (64 ∷ decimal m) ≡ Some (entry.Moment m)
unfolding entry_of
moment_entry m h =
    let small : m < 2 ^ 64 = grind (arith, nat_tests) in rw (decimal_number m small) refl

-- what an entry spells is read as it
pub entry_found : (e : Entry) → is_entry e ≡ true → entry_of (entry_text e) ≡ Some e
entry_found (entry.Pin q) h = pin_entry q h
entry_found entry.Running h = running_entry
entry_found (entry.Low x) h = let k = and_parts (is_signal x) (may_be_low x) h in low_entry x k.0 k.1
entry_found (entry.Moment m) h = moment_entry m h
entry_found (entry.Change c) h =
    let k = and_parts (is_signal c.signal) (has_value c.signal c.fall c.value) h in
    is_change_entry c.signal (sign c.fall ++ value_text c.value) k.0
    ∙ ap (λ (o : Option Change). option_map (λ d. entry.Change d) o) (change_found c.signal c.fall c.value k.0 k.1)
