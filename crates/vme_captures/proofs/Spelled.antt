-- What a line says is what it spells.
use Rattle.std.proofs.Common.{◌≡◌, ◌⊎◌, ◌&&◌, ◌+◌, ◌<◌, ◌^◌, ◌++◌, ℕ, zero, suc, Bool, true, false, cond, eqb, ltb, List, [], ◌∷◌, Option, Some, None, option_map, length, get_or, take, drop, refl, sym, ◌∙◌, ap, subst, arith, inl, inr, add-one}
use Rattle.std.specs.Prelude.{codes, decimal}
use Rattle.std.specs.List.{list_all, position_or_len}
use Rattle.std.specs.Str.{bytes_eq}
use Rattle.std.specs.Str.Parse.{digits_value}
use Rattle.std.proofs.lemmas.Bool.{and_parts, cases_Bool}
use Rattle.std.proofs.lemmas.Bool.Decides.{nat_tests}
use Rattle.std.proofs.lemmas.List.Sums.{passes_at_first}
use Rattle.std.proofs.lemmas.Option.{same_Some}
use Rattle.std.proofs.lemmas.Slice.Eq.{bytes_eq-Decides}
use Rattle.vme_model.specs.declared.sets.ChainId.{ChainId}
use Rattle.vme_model.specs.declared.signals.Cycle.TheVariants.{Acknowledge, Access}
use Rattle.vme_model.specs.Signals.{is_level, is_slot}
use Rattle.vme_model.specs.Text.{sign}
use Rattle.vme_trace.specs.Fronts.{stands}
use Rattle.vme_trace.proofs.AllEdges.{find_in, in_all, none_some}
use Rattle.vme_moments.specs.Moments.{number_of}
use Rattle.vme_moments.proofs.Spelled.{number_is}
use Rattle.vme_captures.specs.declared.signals.Line.{Line}
use Rattle.vme_captures.specs.declared.signals.Line.TheVariants as line
use Rattle.vme_captures.specs.declared.signals.Side.{Side}
use Rattle.vme_captures.specs.declared.signals.Pin.{Pin}
use Rattle.vme_captures.specs.declared.signals.Signal.{Signal}
use Rattle.vme_captures.specs.declared.signals.Signal.TheVariants as signal
use Rattle.vme_captures.specs.declared.signals.Value.{Value}
use Rattle.vme_captures.specs.declared.signals.Value.TheVariants as value
use Rattle.vme_captures.specs.declared.signals.Change.{Change}
use Rattle.vme_captures.specs.declared.signals.Entry.{Entry}
use Rattle.vme_captures.specs.declared.signals.Entry.TheVariants as entry
use Rattle.vme_captures.specs.Signals.{has_value, is_change, is_line, is_signal}
use Rattle.vme_captures.specs.Spelling.{change_text, entry_text, is_entry, line_name, may_be_low, pin_name, pin_text, signal_text, value_text}
use Rattle.vme_captures.specs.Words.{all_lines, all_sides, change_of, change_with, either, entry_of, if_passes, is_byte, is_sign, is_space, line_named, low_of, nothing_of, number_with, pin_of, pin_with, shown_of, side_named, signal_of, status_of, value_of}

same_bytes : (xs ys : List ℕ) → bytes_eq xs ys ≡ true → xs ≡ ys
same_bytes xs ys h = (bytes_eq-Decides xs ys).0 h

-- ---- what is found is spelled

-- a value that passes
passed : {A : Type 0} (t : A → Bool) (o : Option A) (a : A) → if_passes t o ≡ Some a → (o ≡ Some a) × (t a ≡ true)
passed t None a h = absurd (none_some a h)
passed t (Some b) a h =
    elim (cases_Bool (t b)) [
      | inl q ↦ let e : b ≡ a = same_Some b a (rw q at h) in (ap (λ x. Some x) e, ap t (sym e) ∙ q)
      | inr q ↦ absurd (none_some a (rw q at h))
    ]

number_passed : (t : ℕ → Bool) (ds : List ℕ) (n : ℕ) → number_with t ds ≡ Some n → (ds ≡ decimal n) × (t n ≡ true)
number_passed t ds n h = let k = passed t (number_of ds) n h in (number_is ds n k.0, k.1)

all_are_lines : list_all is_line all_lines ≡ true
all_are_lines = refl

line_read : (word : List ℕ) (l : Line) → line_named word ≡ Some l → (word ≡ line_name l) × (is_line l ≡ true)
unfolding line_named
line_read word l h =
    let k = find_in (λ m. bytes_eq word (line_name m)) l all_lines h in
    (same_bytes word (line_name l) k.1, in_all is_line l all_lines all_are_lines k.0)

side_read : (word : List ℕ) (n : ChainId × Side) → side_named word ≡ Some n → word ≡ pin_name n.0 n.1
unfolding side_named
side_read word n h =
    let k = find_in (λ m. bytes_eq word (pin_name m.0 m.1)) n all_sides h in same_bytes word (pin_name n.0 n.1) k.1

some_or_none : {A : Type 0} (o : Option A) → ((x : A) × (o ≡ Some x)) ⊎ (o ≡ None)
some_or_none None = inr refl
some_or_none (Some x) = inl (x, refl)

-- a text, cut at a byte
cut_at : (text : List ℕ) (i : ℕ) → i < length text → text ≡ take i text ++ get_or text i 0 ∷ drop (i + 1) text
cut_at [] i lt = absurd (omega arith)
cut_at (b ∷ text) zero lt = refl
cut_at (b ∷ text) (suc i) lt = rw (add-one (suc i)) (ap (λ (l : List ℕ). b ∷ l) (cut_at text i (omega arith) ∙ rw (add-one i) refl))

space_is : (b : ℕ) → is_space b ≡ true → b ≡ 32
space_is b h = grind (arith, nat_tests)

pin_parts : (s : Option ℕ) (n : Option (ChainId × Side)) (q : Pin) → pin_with s n ≡ Some q
    → (s ≡ Some q.slot) × (n ≡ Some (q.chain, q.side))
pin_parts (Some s) (Some n) q h =
    let e = same_Some _ _ h in (ap (λ (r : Pin). Some r.slot) e, ap (λ (r : Pin). Some (r.chain, r.side)) e)
pin_parts None n q h = absurd (none_some q h)
pin_parts (Some s) None q h = absurd (none_some q h)

cond_some : {A : Type 0} (b : Bool) (x y : Option A) (a : A) → cond b x y ≡ Some a → ((b ≡ true) × (x ≡ Some a)) ⊎ ((b ≡ false) × (y ≡ Some a))
cond_some true x y a h = inl (refl, h)
cond_some false x y a h = inr (refl, h)

pin_read : (word : List ℕ) (q : Pin) → pin_of word ≡ Some q → (word ≡ pin_text q) × (is_slot q.slot ≡ true)
unfolding pin_of
pin_read word q h =
    let k = position_or_len is_space word in
    elim (cond_some (ltb k (length word)) _ _ q h) [
      | inl (lt, is) ↦
          let parts = pin_parts (number_with is_slot (take k word)) (side_named (drop (k + 1) word)) q is in
          let slot = number_passed is_slot (take k word) q.slot parts.0 in
          let name = side_read (drop (k + 1) word) (q.chain, q.side) parts.1 in
          let less : k < length word = grind (arith, nat_tests) in
          let space : get_or word k 0 ≡ 32 = space_is (get_or word k 0) (passes_at_first is_space word 0 less) in
          (cut_at word k less ∙ rw (slot.0, space, name) refl, slot.1)
      | inr (ge, none) ↦ absurd (none_some q none)
    ]

signal_parts : (l : Option Line) (q : Option Pin) (x : Signal) → either l q ≡ Some x
    → ((m : Line) × (l ≡ Some m) × (signal.Line m ≡ x)) ⊎ ((r : Pin) × (q ≡ Some r) × (signal.Pin r ≡ x))
signal_parts (Some l) q x h = inl (l, refl, same_Some _ _ h)
signal_parts None (Some r) x h = inr (r, refl, same_Some _ _ h)
signal_parts None None x h = absurd (none_some x h)

signal_read : (word : List ℕ) (x : Signal) → signal_of word ≡ Some x → (word ≡ signal_text x) × (is_signal x ≡ true)
unfolding signal_of
signal_read word x h =
    elim (signal_parts (line_named word) (pin_of word) x h) [
      | inl (m, is, same) ↦
          let k = line_read word m is in (k.0 ∙ ap signal_text same, ap is_signal (sym same) ∙ k.1)
      | inr (r, is, same) ↦
          let k = pin_read word r is in (k.0 ∙ ap signal_text same, ap is_signal (sym same) ∙ k.1)
    ]

map_some : {A B : Type 0} (f : A → B) (o : Option A) (b : B) → option_map f o ≡ Some b → (a : A) × (o ≡ Some a) × (f a ≡ b)
map_some f None b h = absurd (none_some b h)
map_some f (Some a) b h = (a, refl, same_Some (f a) b h)

eqb_same : (s t : ℕ) → eqb s t ≡ true → s ≡ t
eqb_same s t h = grind (arith, nat_tests)

-- the first bytes of a text
front2 : (a b : ℕ) (text : List ℕ) → 0 < a → 0 < b → get_or text 0 0 ≡ a → get_or text 1 0 ≡ b → text ≡ a ∷ b ∷ drop 2 text
front2 a b [] la lb h k = absurd (omega (arith, la, h))
front2 a b (x ∷ []) la lb h k = absurd (omega (arith, lb, k))
front2 a b (x ∷ y ∷ l) la lb h k = rw (h, k) refl

front4 : (a b c d : ℕ) (text : List ℕ) → 0 < a → 0 < b → 0 < c → 0 < d → get_or text 0 0 ≡ a → get_or text 1 0 ≡ b → get_or text 2 0 ≡ c → get_or text 3 0 ≡ d
    → text ≡ a ∷ b ∷ c ∷ d ∷ drop 4 text
front4 a b c d [] la lb lc ld e f g h = absurd (omega (arith, la, e))
front4 a b c d (x ∷ []) la lb lc ld e f g h = absurd (omega (arith, lb, f))
front4 a b c d (x ∷ y ∷ []) la lb lc ld e f g h = absurd (omega (arith, lc, g))
front4 a b c d (x ∷ y ∷ z ∷ []) la lb lc ld e f g h = absurd (omega (arith, ld, h))
front4 a b c d (x ∷ y ∷ z ∷ w ∷ l) la lb lc ld e f g h = rw (e, f, g, h) refl

stands2 : (a b : ℕ) (text : List ℕ) → 0 < a → 0 < b → stands (a ∷ b ∷ []) 0 text ≡ true → text ≡ a ∷ b ∷ drop 2 text
stands2 a b text la lb h =
    let k = and_parts (eqb (get_or text 0 0) a) (eqb (get_or text 1 0) b) h in
    front2 a b text la lb (eqb_same (get_or text 0 0) a k.0) (eqb_same (get_or text 1 0) b k.1)

stands4 : (a b c d : ℕ) (text : List ℕ) → 0 < a → 0 < b → 0 < c → 0 < d → stands (a ∷ b ∷ c ∷ d ∷ []) 0 text ≡ true → text ≡ a ∷ b ∷ c ∷ d ∷ drop 4 text
stands4 a b c d text la lb lc ld h =
    let k = and_parts (eqb (get_or text 0 0) a) (eqb (get_or text 1 0) b && (eqb (get_or text 2 0) c && eqb (get_or text 3 0) d)) h in
    let l = and_parts (eqb (get_or text 1 0) b) (eqb (get_or text 2 0) c && eqb (get_or text 3 0) d) k.1 in
    let m = and_parts (eqb (get_or text 2 0) c) (eqb (get_or text 3 0) d) l.1 in
    front4 a b c d text la lb lc ld
    (eqb_same (get_or text 0 0) a k.0) (eqb_same (get_or text 1 0) b l.0) (eqb_same (get_or text 2 0) c m.0) (eqb_same (get_or text 3 0) d m.1)

one_byte : (a : ℕ) (text : List ℕ) → 0 < a → eqb (get_or text 0 0) a ≡ true → text ≡ a ∷ drop 1 text
one_byte a [] la h = absurd (omega (arith, la, eqb_same 0 a h))
one_byte a (x ∷ l) la h = rw (eqb_same x a h) refl

shown_read : (text : List ℕ) (v : Value) → shown_of text ≡ Some v → (text ≡ value_text (Some v)) × (has_value (signal.Line line.AddressStrobe) true (Some v) ≡ true)
shown_read text v h =
    elim (cond_some (bytes_eq text (codes " r")) _ _ v h) [
      | inl (q, is) ↦
          let same = same_Some _ _ is in
          (same_bytes text (codes " r") q ∙ ap (λ w. value_text (Some w)) same, ap (λ w. has_value (signal.Line line.AddressStrobe) true (Some w)) (sym same))
      | inr (q, more) ↦
          elim (cond_some (stands (codes " r") 0 text) _ _ v more) [
            | inl (s, is) ↦
                let k = map_some (λ t. value.Shown (Access t)) (number_with is_slot (drop 2 text)) v is in
                let n = number_passed is_slot (drop 2 text) k.0 k.1 in (
                  stands2 32 114 text (omega arith) (omega arith) s ∙ ap (λ (l : List ℕ). codes " r" ++ l) n.0 ∙ ap (λ w. value_text (Some w)) k.2,
                  ap (λ w. has_value (signal.Line line.AddressStrobe) true (Some w)) (sym k.2) ∙ n.1,
                )
            | inr (s, others) ↦
                elim (cond_some (stands (codes " i") 0 text) _ _ v others) [
                  | inl (t, is) ↦
                      let k = map_some (λ m. value.Shown (Acknowledge m)) (number_with is_level (drop 2 text)) v is in
                      let n = number_passed is_level (drop 2 text) k.0 k.1 in (
                        stands2 32 105 text (omega arith) (omega arith) t ∙ ap (λ (l : List ℕ). codes " i" ++ l) n.0 ∙ ap (λ w. value_text (Some w)) k.2,
                        ap (λ w. has_value (signal.Line line.AddressStrobe) true (Some w)) (sym k.2) ∙ n.1,
                      )
                  | inr (t, none) ↦ absurd (none_some v none)
                ]
          ]
    ]

status_read : (text : List ℕ) (v : Value) → status_of text ≡ Some v → (text ≡ value_text (Some v)) × (has_value (signal.Line line.Dtack) true (Some v) ≡ true)
status_read text v h =
    elim (cond_some (eqb (get_or text 0 0) 32) _ _ v h) [
      | inl (q, is) ↦
          let k = map_some (λ b. value.Status b) (number_with is_byte (drop 1 text)) v is in
          let n = number_passed is_byte (drop 1 text) k.0 k.1 in (
            one_byte 32 text (omega arith) q ∙ ap (λ (l : List ℕ). 32 ∷ l) n.0 ∙ ap (λ w. value_text (Some w)) k.2,
            ap (λ w. has_value (signal.Line line.Dtack) true (Some w)) (sym k.2) ∙ n.1,
          )
      | inr (q, none) ↦ absurd (none_some v none)
    ]

abbrev Reads : Signal → Bool → List ℕ → Option Value → Type 0
Reads x fall text v = (text ≡ value_text v) × (has_value x fall v ≡ true)

nothing_read : (x : Signal) (fall : Bool) (text : List ℕ) (v : Option Value) → has_value x fall None ≡ true → nothing_of text ≡ Some v → Reads x fall text v
nothing_read x fall text v ok h =
    elim (cond_some (bytes_eq text []) _ _ v h) [
      | inl (q, is) ↦
          let same = same_Some _ _ is in (same_bytes text [] q ∙ ap value_text same, ap (has_value x fall) (sym same) ∙ ok)
      | inr (q, none) ↦ absurd (none_some v none)
    ]

strobe_read : (text : List ℕ) (v : Option Value) → option_map (λ w. Some w) (shown_of text) ≡ Some v → Reads (signal.Line line.AddressStrobe) true text v
strobe_read text v h =
    let k = map_some (λ w. Some w) (shown_of text) v h in
    subst (λ (o : Option Value). Reads (signal.Line line.AddressStrobe) true text o) k.2 (shown_read text k.0 k.1)

answer_read : (text : List ℕ) (v : Option Value) → value_of (signal.Line line.Dtack) true text ≡ Some v → Reads (signal.Line line.Dtack) true text v
answer_read text v h =
    elim (cond_some (bytes_eq text []) _ _ v h) [
      | inl (q, is) ↦
          let same = same_Some _ _ is in
          (same_bytes text [] q ∙ ap value_text same, ap (has_value (signal.Line line.Dtack) true) (sym same))
      | inr (q, more) ↦
          let k = map_some (λ w. Some w) (status_of text) v more in
          subst (λ (o : Option Value). Reads (signal.Line line.Dtack) true text o) k.2 (status_read text k.0 k.1)
    ]

value_read : (x : Signal) (fall : Bool) (text : List ℕ) (v : Option Value) → value_of x fall text ≡ Some v → Reads x fall text v
value_read (signal.Line line.AddressStrobe) true text v h = strobe_read text v h
value_read (signal.Line line.Dtack) true text v h = answer_read text v h
value_read (signal.Line line.AddressStrobe) false text v h = nothing_read (signal.Line line.AddressStrobe) false text v refl h
value_read (signal.Line line.Dtack) false text v h = nothing_read (signal.Line line.Dtack) false text v refl h
value_read (signal.Line (line.Br n)) fall text v h = nothing_read (signal.Line (line.Br n)) fall text v refl h
value_read (signal.Line (line.Irq n)) fall text v h = nothing_read (signal.Line (line.Irq n)) fall text v refl h
value_read (signal.Line line.Bbsy) fall text v h = nothing_read (signal.Line line.Bbsy) fall text v refl h
value_read (signal.Line line.DataStrobe) fall text v h = nothing_read (signal.Line line.DataStrobe) fall text v refl h
value_read (signal.Line line.Berr) fall text v h = nothing_read (signal.Line line.Berr) fall text v refl h
value_read (signal.Line line.Bclr) fall text v h = nothing_read (signal.Line line.Bclr) fall text v refl h
value_read (signal.Pin q) fall text v h = nothing_read (signal.Pin q) fall text v refl h

change_parts : (o : Option Signal) (fall : Bool) (tail : List ℕ) (c : Change) → change_with o fall tail ≡ Some c
    → (o ≡ Some c.signal) × (fall ≡ c.fall) × (value_of c.signal c.fall tail ≡ Some c.value)
change_parts None fall tail c h = absurd (none_some c h)
change_parts (Some x) fall tail c h =
    let k = map_some (λ v. let d : Change = record { signal = x; fall = fall; value = v } in d) (value_of x fall tail) c h in (
      ap (λ (d : Change). Some d.signal) k.2,
      ap (λ (d : Change). d.fall) k.2,
      subst (λ (d : Change). value_of d.signal d.fall tail ≡ Some d.value) k.2 k.1,
    )

sign_read : (b : ℕ) (fall : Bool) → is_sign b ≡ true → eqb b 45 ≡ fall → b ∷ [] ≡ sign fall
sign_read b true h is = rw (eqb_same b 45 is) refl
sign_read b false h is =
    let k : eqb b 43 ≡ true = rw is at h in rw (eqb_same b 43 k) refl

pub change_read : (text : List ℕ) (c : Change) → change_of text ≡ Some c → (text ≡ change_text c) × (is_change c ≡ true)
unfolding change_of
change_read text c h =
    let k = position_or_len is_sign text in
    elim (cond_some (ltb k (length text)) _ _ c h) [
      | inl (lt, is) ↦
          let less : k < length text = grind (arith, nat_tests) in
          let parts = change_parts (signal_of (take k text)) (eqb (get_or text k 0) 45) (drop (k + 1) text) c is in
          let front = signal_read (take k text) c.signal parts.0 in
          let tail = value_read c.signal c.fall (drop (k + 1) text) c.value parts.2 in
          let byte : get_or text k 0 ∷ [] ≡ sign c.fall = sign_read (get_or text k 0) c.fall (passes_at_first is_sign text 0 less) parts.1 in (
            cut_at text k less
                ∙ ap (λ (l : List ℕ). l ++ (get_or text k 0 ∷ drop (k + 1) text)) front.0
                ∙ ap (λ (l : List ℕ). signal_text c.signal ++ (l ++ drop (k + 1) text)) byte
                ∙ ap (λ (l : List ℕ). signal_text c.signal ++ (sign c.fall ++ l)) tail.0,
            both (is_signal c.signal) (has_value c.signal c.fall c.value) front.1 tail.1,
          )
      | inr (lt, none) ↦ absurd (none_some c none)
    ]
  where
    both : (a b : Bool) → a ≡ true → b ≡ true → (a && b) ≡ true
    both a b h k = rw (h, k) refl

abbrev ReadsEntry : List ℕ → Entry → Type 0
ReadsEntry text e = (text ≡ entry_text e) × (is_entry e ≡ true)

low_read : (text : List ℕ) (x : Signal) → low_of text ≡ Some x → (text ≡ signal_text x) × ((is_signal x && may_be_low x) ≡ true)
unfolding low_of
low_read text x h =
    let k = passed may_be_low (signal_of text) x h in
    let l = signal_read text x k.0 in (l.0, rw (l.1, k.1) refl)

small : (n : ℕ) (ds : List ℕ) → number_of ds ≡ Some n → ltb n (2 ^ 64) ≡ true
unfolding number_of
small n ds h =
    elim (cond_some (bytes_eq ds (decimal (digits_value 10 ds)) && ltb (digits_value 10 ds) (2 ^ 64)) (Some (digits_value 10 ds)) None n h) [
      | inl (q, is) ↦
          let k = and_parts (bytes_eq ds (decimal (digits_value 10 ds))) (ltb (digits_value 10 ds) (2 ^ 64)) q in ap (λ m. ltb m (2 ^ 64)) (sym (same_Some _ _ is)) ∙ k.1
      | inr (q, none) ↦ absurd (none_some n none)
    ]

pub entry_read : (text : List ℕ) (e : Entry) → entry_of text ≡ Some e → ReadsEntry text e
unfolding entry_of
entry_read text e h =
    elim (cond_some (bytes_eq text (codes "running")) _ _ e h) [
      | inl (q, is) ↦
          let same = same_Some _ _ is in (same_bytes text (codes "running") q ∙ ap entry_text same, ap is_entry (sym same))
      | inr (q, more) ↦
          elim (cond_some (stands (codes "pin ") 0 text) _ _ e more) [
            | inl (s, is) ↦
                let k = map_some (λ r. entry.Pin r) (pin_of (drop 4 text)) e is in
                let l = pin_read (drop 4 text) k.0 k.1 in (
                  stands4 112 105 110 32 text (omega arith) (omega arith) (omega arith) (omega arith) s ∙ ap (λ (l : List ℕ). codes "pin " ++ l) l.0 ∙ ap entry_text k.2,
                  ap is_entry (sym k.2) ∙ l.1,
                )
            | inr (s, others) ↦
                elim (cond_some (stands (codes "low ") 0 text) _ _ e others) [
                  | inl (t, is) ↦
                      let k = map_some (λ x. entry.Low x) (low_of (drop 4 text)) e is in
                      let l = low_read (drop 4 text) k.0 k.1 in (
                        stands4 108 111 119 32 text (omega arith) (omega arith) (omega arith) (omega arith) t ∙ ap (λ (l : List ℕ). codes "low " ++ l) l.0 ∙ ap entry_text k.2,
                        ap is_entry (sym k.2) ∙ l.1,
                      )
                  | inr (t, rest) ↦
                      elim (cond_some (eqb (get_or text 0 0) 64) _ _ e rest) [
                        | inl (u, is) ↦
                            let k = map_some (λ m. entry.Moment m) (number_of (drop 1 text)) e is in (
                              one_byte 64 text (omega arith) u ∙ ap (λ (l : List ℕ). 64 ∷ l) (number_is (drop 1 text) k.0 k.1) ∙ ap entry_text k.2,
                              ap is_entry (sym k.2) ∙ small k.0 (drop 1 text) k.1,
                            )
                        | inr (u, is) ↦
                            let k = map_some (λ c. entry.Change c) (change_of text) e is in
                            let l = change_read text k.0 k.1 in (l.0 ∙ ap entry_text k.2, ap is_entry (sym k.2) ∙ l.1)
                      ]
                ]
          ]
    ]

pub entry_formed : (text : List ℕ) (e : Entry) → entry_of text ≡ Some e → is_entry e ≡ true
entry_formed text e h = (entry_read text e h).1
