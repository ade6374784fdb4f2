-- What is the same by its test is the same.
use Rattle.std.proofs.Common.{◌≡◌, ◌≢◌, ◌&&◌, ◌||◌, ◌+◌, ◌<◌, ◌≤◌, ◌++◌, ℕ, zero, suc, add-one, append-nil, drop, get_or, length, set, take, Bool, true, false, cond, eqb, List, [], ◌∷◌, Option, Some, None, map, find, is_some, option_map, refl, sym, ◌∙◌, ap, arith, inl, inr}
use Rattle.std.proofs.lemmas.Bool.{and_parts, cases_Bool}
use Rattle.std.proofs.lemmas.Bool.Decides.{nat_tests}
use Rattle.std.proofs.Math.ListN.{drop_of_length-le}
use Rattle.std.proofs.lemmas.List.{take_all}
use Rattle.std.specs.List.{list_any}
use Rattle.vme_model.specs.declared.sets.ChainId.{ChainId}
use Rattle.vme_model.specs.declared.sets.ChainId.TheVariants.{Bg0, Bg1, Bg2, Bg3, Iack}
use Rattle.vme_captures.specs.declared.signals.Line.{Line}
use Rattle.vme_captures.specs.declared.signals.Line.TheVariants as line
use Rattle.vme_captures.specs.declared.signals.Side.{Side}
use Rattle.vme_captures.specs.declared.signals.Side.TheVariants.{In, Out}
use Rattle.vme_captures.specs.declared.signals.Pin.{Pin}
use Rattle.vme_captures.specs.declared.signals.Segment.{Segment}
use Rattle.vme_captures.specs.declared.signals.Signal.{Signal}
use Rattle.vme_captures.specs.declared.signals.Signal.TheVariants as signal
use Rattle.vme_captures.specs.Signals.{is_same_chain, is_same_line, is_same_pin, is_same_place, is_same_segment, is_same_side, is_same_signal}
use Rattle.vme_trace.proofs.Lines.{true_false}

pub false_true : {A : Type 0} → false ≡ true → A
false_true h = absurd (true_false (sym h))

eqb_same : (s t : ℕ) → eqb s t ≡ true → s ≡ t
eqb_same s t h = grind (arith, nat_tests)

same_eqb : (s : ℕ) → eqb s s ≡ true
same_eqb s = grind (arith, nat_tests)

chain_same : (a b : ChainId) → is_same_chain a b ≡ true → a ≡ b
chain_same Bg0 Bg0 h = refl
chain_same Bg1 Bg1 h = refl
chain_same Bg2 Bg2 h = refl
chain_same Bg3 Bg3 h = refl
chain_same Iack Iack h = refl
chain_same _ _ h = false_true h

side_same : (a b : Side) → is_same_side a b ≡ true → a ≡ b
side_same In In h = refl
side_same Out Out h = refl
side_same _ _ h = false_true h

pin_is : (s t : ℕ) (c d : ChainId) (x y : Side) → s ≡ t → c ≡ d → x ≡ y
    → (let a : Pin = record { slot = s; chain = c; side = x } in let b : Pin = record { slot = t; chain = d; side = y } in a ≡ b)
pin_is s t c d x y e f g = rw (e, f, g) refl

pub pin_same : (a b : Pin) → is_same_pin a b ≡ true → a ≡ b
pin_same a b h =
    let k = and_parts (eqb a.slot b.slot && is_same_chain a.chain b.chain) (is_same_side a.side b.side) h in
    let l = and_parts (eqb a.slot b.slot) (is_same_chain a.chain b.chain) k.0 in
    pin_is a.slot b.slot a.chain b.chain a.side b.side (eqb_same a.slot b.slot l.0) (chain_same a.chain b.chain l.1) (side_same a.side b.side k.1)

place_same : (a b : Option ℕ) → is_same_place a b ≡ true → a ≡ b
place_same None None h = refl
place_same (Some s) (Some t) h = ap (λ k. Some k) (eqb_same s t h)
place_same None (Some t) h = false_true h
place_same (Some s) None h = false_true h

segment_is : (c d : ChainId) (s t : Option ℕ) → c ≡ d → s ≡ t
    → (let a : Segment = record { chain = c; place = s } in let b : Segment = record { chain = d; place = t } in a ≡ b)
segment_is c d s t e f = rw (e, f) refl

pub segment_same : (a b : Segment) → is_same_segment a b ≡ true → a ≡ b
segment_same a b h =
    let k = and_parts (is_same_chain a.chain b.chain) (is_same_place a.place b.place) h in
    segment_is a.chain b.chain a.place b.place (chain_same a.chain b.chain k.0) (place_same a.place b.place k.1)

pub line_same : (a b : Line) → is_same_line a b ≡ true → a ≡ b
line_same (line.Br m) (line.Br n) h = ap (λ k. line.Br k) (eqb_same m n h)
line_same (line.Irq m) (line.Irq n) h = ap (λ k. line.Irq k) (eqb_same m n h)
line_same line.Bbsy line.Bbsy h = refl
line_same line.AddressStrobe line.AddressStrobe h = refl
line_same line.DataStrobe line.DataStrobe h = refl
line_same line.Dtack line.Dtack h = refl
line_same line.Berr line.Berr h = refl
line_same line.Bclr line.Bclr h = refl
line_same _ _ h = false_true h

pub signal_same : (a b : Signal) → is_same_signal a b ≡ true → a ≡ b
signal_same (signal.Line a) (signal.Line b) h = ap (λ l. signal.Line l) (line_same a b h)
signal_same (signal.Pin a) (signal.Pin b) h = ap (λ q. signal.Pin q) (pin_same a b h)
signal_same _ _ h = false_true h

line_is_same : (a : Line) → is_same_line a a ≡ true
line_is_same (line.Br m) = same_eqb m
line_is_same (line.Irq m) = same_eqb m
line_is_same line.Bbsy = refl
line_is_same line.AddressStrobe = refl
line_is_same line.DataStrobe = refl
line_is_same line.Dtack = refl
line_is_same line.Berr = refl
line_is_same line.Bclr = refl

pub line_other : (a b : Line) → is_same_line a b ≡ false → b ≢ a
line_other a b h = λ e. true_false (sym (ap (λ c. is_same_line a c) e ∙ line_is_same a) ∙ h)

-- ---- lists

pub any_map : {A B : Type 0} (f : A → B) (p : B → Bool) (xs : List A) → list_any p (map f xs) ≡ list_any (λ x. p (f x)) xs
any_map f p [] = refl
any_map f p (x ∷ xs) = ap (λ b. p (f x) || b) (any_map f p xs)

pub any_found : {A : Type 0} (t : A → Bool) (xs : List A) → list_any t xs ≡ is_some (find t xs)
any_found t [] = refl
any_found t (x ∷ xs) =
    elim (cases_Bool (t x)) [
      | inl q ↦ rw q refl
      | inr q ↦ rw q (any_found t xs)
    ]

-- the value of the first that passes, if each that passes has it
pub value_found : {A B C : Type 0} (f : A → B) (low : B → C) (s : B → Bool) (v : C) (xs : List A) → ((x : A) → s (f x) ≡ true → low (f x) ≡ v)
    → option_map low (find s (map f xs)) ≡ cond (list_any (λ x. s (f x)) xs) (Some v) None
value_found f low s v [] h = refl
value_found f low s v (x ∷ xs) h =
    elim (cases_Bool (s (f x))) [
      | inl q ↦ rw q (ap (λ w. Some w) (h x q))
      | inr q ↦ rw q (value_found f low s v xs h)
    ]

pub map_same : {A B : Type 0} (f g : A → B) (xs : List A) → ((x : A) → f x ≡ g x) → map f xs ≡ map g xs
map_same f g [] h = refl
map_same f g (x ∷ xs) h = rw (h x, map_same f g xs h) refl

pub map_twice : {A B C : Type 0} (f : A → B) (g : B → C) (xs : List A) → map g (map f xs) ≡ map (λ x. g (f x)) xs
map_twice f g [] = refl
map_twice f g (x ∷ xs) = rw (map_twice f g xs) refl

-- each up to a place is changed, and then one more
pub mapped_more : {A : Type 0} (f : A → A) (d : A) (xs : List A) (i : ℕ) → i < length xs
    → set (map f (take i xs) ++ drop i xs) i (f (get_or (map f (take i xs) ++ drop i xs) i d)) ≡ map f (take (i + 1) xs) ++ drop (i + 1) xs
mapped_more f d [] i lt = absurd (omega arith)
mapped_more f d (x ∷ xs) zero lt = refl
mapped_more f d (x ∷ xs) (suc i) lt = rw (add-one (suc i)) (ap (λ l. f x ∷ l) (mapped_more f d xs i (omega arith) ∙ rw (add-one i) refl))

pub mapped_all : {A : Type 0} (f : A → A) (xs : List A) (i : ℕ) → length xs ≤ i → map f (take i xs) ++ drop i xs ≡ map f xs
mapped_all f xs i h = rw (take_all i xs h, drop_of_length-le xs h) (append-nil (map f xs))

pub mapped_next : {A : Type 0} (f : A → A) (d : A) (xs ys : List A) (i : ℕ) (a : A) → i < length xs
    → ys ≡ map f (take i xs) ++ drop i xs → a ≡ f (get_or ys i d) → set ys i a ≡ map f (take (i + 1) xs) ++ drop (i + 1) xs
mapped_next f d xs ys i a lt h e =
    ap (λ x. set ys i x) e ∙ ap (λ l. set l i (f (get_or l i d))) h ∙ mapped_more f d xs i lt
