-- A text names a driver with its slack in one way.
use Rattle.std.proofs.Common.{◌≡◌, ◌≢◌, ◌∙◌, ◌<◌, ◌≤◌, ◌+◌, ◌/◌, ◌%◌, ◌++◌, ◌∷◌, [], ◌==◌, ◌^◌, ℕ, Bool, true, false, cond, eqb, ltb, IsTrue, List, All, Option, Some, None, codes, decimal, drop, get_or, length, refl, sym, ap, subst, append_assoc, arith}
use Rattle.std.proofs.lemmas.Bool.Decides.{nat_tests}
use Rattle.std.proofs.lemmas.Fmt.{decimal_digit, decimal_step}
use Rattle.std.proofs.lemmas.List.Elements.{All-append, All-cons, All-from_get_or, All-head, All-nil, All-tail}
use Rattle.std.specs.Char.{digit_value}
use Rattle.std.specs.Str.{bytes_eq}
use Rattle.std.specs.Str.Parse.{AllDigits, digits_value, without_leading_plus}
use Rattle.clap.specs.Words.{Text}
use Rattle.vme_model.specs.declared.signals.Driver.{Driver}
use Rattle.vme_model.specs.declared.signals.Driver.TheVariants.{Controller, Slot}
use Rattle.vme_model.specs.Signals.{is_slot}
use Rattle.vme_model.specs.Text.{driver_text, number}
use Rattle.vme_trace.specs.Fronts.{IsDriver}
use Rattle.vme_moments.specs.Before.{IsKnown}
use Rattle.vme_moments.specs.Moments.{number_of}
use Rattle.vme_moments.proofs.Spelled.{decimal_number, number_is}
use Rattle.vme_command_line.specs.Numbers.{IsSeed}
use Rattle.vme_command_line.specs.Slacks.{IsDriverName, IsLate, Late}
use Rattle.vme_command_line.specs.Naming.{IsOnlyDriver, IsOnlyLate, NamesNoDriver, NamesNoLate}

-- ---- bytes that a text lacks

abbrev pub Lacks : ℕ → Text → Type 0
Lacks b xs = All (λ c. c ≢ b) xs

pub lacks_all : (b : ℕ) (xs : Text) → ((i : ℕ) → i < length xs → get_or xs i 0 ≢ b) → Lacks b xs
lacks_all b xs h = All-from_get_or (λ c. c ≢ b) xs 0 h

pub lacks_not : (b : ℕ) (xs ys : Text) → Lacks b (xs ++ b ∷ ys) → ⊥
lacks_not b [] ys h = All-head (λ c. c ≢ b) b ys h refl
lacks_not b (x ∷ xs) ys h = lacks_not b xs ys (All-tail (λ c. c ≢ b) x (xs ++ b ∷ ys) h)

same_heads : (x y : ℕ) (xs ys : Text) → x ∷ xs ≡ y ∷ ys → (x ≡ y) × (xs ≡ ys)
same_heads x y xs ys h = (cc, cc)

-- a text is cut at the first of such a byte in one way
pub cut_once : (b : ℕ) (xs ys us vs : Text) → Lacks b xs → Lacks b us → xs ++ b ∷ ys ≡ us ++ b ∷ vs
    → (xs ≡ us) × (ys ≡ vs)
cut_once b [] ys [] vs p q h = (refl, (same_heads b b ys vs h).1)
cut_once b [] ys (u ∷ us) vs p q h =
    absurd (All-head (λ c. c ≢ b) u us q (sym (same_heads b u ys (us ++ b ∷ vs) h).0))
cut_once b (x ∷ xs) ys [] vs p q h =
    absurd (All-head (λ c. c ≢ b) x xs p (same_heads x b (xs ++ b ∷ ys) vs h).0)
cut_once b (x ∷ xs) ys (u ∷ us) vs p q h =
    let same = same_heads x u (xs ++ b ∷ ys) (us ++ b ∷ vs) h in
    let rest =
    cut_once b xs ys us vs (All-tail (λ c. c ≢ b) x xs p) (All-tail (λ c. c ≢ b) u us q) same.1 in
    (ap (λ l. x ∷ l) rest.0 ∙ ap (λ c. c ∷ us) same.0, rest.1)

digits_lack : (b : ℕ) → (digit_value b < 10 → ⊥) → (xs : Text) → AllDigits 10 xs → Lacks b xs
digits_lack b none [] h = All-nil (λ c. c ≢ b)
digits_lack b none (x ∷ xs) h =
    All-cons (λ c. c ≢ b) x xs (λ same. none (subst (λ c. digit_value c < 10) same h.0))
    (digits_lack b none xs h.1)

number_lacks : (b : ℕ) → (digit_value b < 10 → ⊥) → 43 ≢ b → (xs : Text) (n : ℕ) → IsSeed xs n
    → Lacks b xs
number_lacks b none plus [] n h = All-nil (λ c. c ≢ b)
number_lacks b none plus (x ∷ xs) n h = by (x == 43) refl h.0.1
  where
    by : (p : Bool) → eqb x 43 ≡ p → AllDigits 10 (drop (cond p 1 0) (x ∷ xs)) → Lacks b (x ∷ xs)
    by true e d =
        let is : x ≡ 43 = grind (arith, nat_tests) in
        All-cons (λ c. c ≢ b) x xs (λ same. plus (sym is ∙ same)) (digits_lack b none xs d)
    by false e d = digits_lack b none (x ∷ xs) d

-- ---- names of drivers

slot_bounds : (s : ℕ) → IsDriver (Slot s) → (1 ≤ s) × (s ≤ 21)
slot_bounds s h = (grind (arith, nat_tests), grind (arith, nat_tests))

pub known : (d : Driver) → IsDriver d → IsKnown d
known Controller h = tt
known (Slot s) h = let most : s ≤ 21 = (slot_bounds s h).1 in omega arith

number_decimal : (s : ℕ) → s ≤ 21 → number s ≡ decimal s
number_decimal s most = by (ltb s 10) refl
  where
    by : (p : Bool) → ltb s 10 ≡ p
        → cond p ((48 + s) ∷ []) ((48 + s / 10) ∷ (48 + s % 10) ∷ []) ≡ decimal s
    by true e = let low : s < 10 = grind (arith, nat_tests) in sym (decimal_digit s low)
    by false e =
        let high : 10 ≤ s = grind (arith, nat_tests) in
        let small : s < 2 ^ 64 = omega arith in
        let tens : s / 10 < 10 = omega arith in
        sym (decimal_step s high small
        ∙ ap (λ (l : Text). l ++ (48 + s % 10) ∷ []) (decimal_digit (s / 10) tens))

-- the name of a board is the number of its slot
slot_named : (name : Text) (s : ℕ) → IsDriverName name (Slot s) → number_of name ≡ Some s
slot_named name s h =
    let most : s ≤ 21 = (slot_bounds s h.0).1 in
    ap (λ (l : Text). number_of l) (h.1 ∙ number_decimal s most) ∙ decimal_number s (omega arith)

some_same : (m n : ℕ) → Some m ≡ Some n → m ≡ n
some_same m n h = cc

none_some : (n : ℕ) → (let o : Option ℕ = None in o ≡ Some n) → ⊥
none_some n h = cc

pub not_c : (name : Text) → false ≡ bytes_eq name (codes "c") → name ≢ codes "c"
not_c name unequal is = never (unequal ∙ ap (λ (l : Text). bytes_eq l (codes "c")) is)
  where
    never : false ≡ true → ⊥
    never h = cc

pub no_number : (name : Text) → name ≢ codes "c" → number_of name ≡ None → NamesNoDriver name
no_number name other none Controller h = other h.1
no_number name other none (Slot s) h = none_some s (sym none ∙ slot_named name s h)

pub no_slot : (name : Text) (n : ℕ) → name ≢ codes "c" → number_of name ≡ Some n
    → (1 ≤ n → n ≤ 21 → ⊥) → NamesNoDriver name
no_slot name n other is out Controller h = other h.1
no_slot name n other is out (Slot s) h =
    let same : s ≡ n = some_same s n (sym (slot_named name s h) ∙ is) in
    let bounds = slot_bounds s h.0 in
    out (subst (λ k. 1 ≤ k) same bounds.0) (subst (λ k. k ≤ 21) same bounds.1)

pub board_named : (name : Text) (n : ℕ) → name ≢ codes "c" → number_of name ≡ Some n → 1 ≤ n → n ≤ 21
    → IsOnlyDriver name (Slot n)
board_named name n other is low high =
    ((slot, number_is name n is ∙ sym (number_decimal n high)), others)
  where
    slot : IsDriver (Slot n)
    slot = grind (arith, nat_tests)

    others : (d : Driver) → IsDriverName name d → d ≡ Slot n
    others Controller h = absurd (other h.1)
    others (Slot s) h = ap (λ k. Slot k) (some_same s n (sym (slot_named name s h) ∙ is))

driver_lacks : (b : ℕ) (d : Driver) → 99 ≢ b → ((k : ℕ) → k < 10 → 48 + k ≢ b) → IsDriver d
    → Lacks b (driver_text d)
driver_lacks b Controller letter digit h = All-cons (λ c. c ≢ b) 99 [] letter (All-nil (λ c. c ≢ b))
driver_lacks b (Slot s) letter digit h = by (ltb s 10) refl
  where
    by : (p : Bool) → ltb s 10 ≡ p
        → Lacks b (cond p ((48 + s) ∷ []) ((48 + s / 10) ∷ (48 + s % 10) ∷ []))
    by true e =
        let low : s < 10 = grind (arith, nat_tests) in
        All-cons (λ c. c ≢ b) (48 + s) [] (digit s low) (All-nil (λ c. c ≢ b))
    by false e =
        let most : s ≤ 21 = (slot_bounds s h).1 in
        let tens : s / 10 < 10 = omega arith in
        let ones : s % 10 < 10 = omega arith in
        All-cons (λ c. c ≢ b) (48 + s / 10) ((48 + s % 10) ∷ []) (digit (s / 10) tens)
        (All-cons (λ c. c ≢ b) (48 + s % 10) [] (digit (s % 10) ones) (All-nil (λ c. c ≢ b)))

-- ---- a driver with its slack

name_lacks : (name : Text) (d : Driver) → IsDriverName name d → Lacks 61 name
name_lacks name d h =
    subst (λ l. Lacks 61 l) (sym h.1)
    (driver_lacks 61 d (λ e. cc) (λ k lt e. absurd (omega arith)) h.0)

-- it has no comma
pub late_lacks : (text : Text) (late : Late) → IsLate text late → Lacks 44 text
late_lacks text late h =
    subst (λ l. Lacks 44 l) (sym h.2)
    (All-append (λ c. c ≢ 44) (h.0 ++ codes "=") h.1
    (All-append (λ c. c ≢ 44) h.0 (codes "=")
    (subst (λ l. Lacks 44 l) (sym h.3.1)
    (driver_lacks 44 late.driver (λ e. cc) (λ k lt e. absurd (omega arith)) h.3.0))
    (All-cons (λ c. c ≢ 44) 61 [] (λ e. cc) (All-nil (λ c. c ≢ 44))))
    (number_lacks 44 (λ d. let wide : 36 < 10 = d in absurd (omega arith)) (λ e. cc) h.1 late.slack h.4))

cut_late : (text : Text) (late : Late) (h : IsLate text late) → text ≡ h.0 ++ 61 ∷ h.1
cut_late text late h = h.2 ∙ append_assoc h.0 (codes "=") h.1

pub no_sign : (text : Text) → Lacks 61 text → NamesNoLate text
no_sign text lacks late h =
    lacks_not 61 h.0 h.1 (subst (λ l. Lacks 61 l) (cut_late text late h) lacks)

module _ (text name number : Text) (is : text ≡ name ++ 61 ∷ number) (lacks : Lacks 61 name) where
  parts : (late : Late) (h : IsLate text late) → (h.0 ≡ name) × (h.1 ≡ number)
  parts late h =
      cut_once 61 h.0 h.1 name number (name_lacks h.0 late.driver h.3) lacks
      (sym (cut_late text late h) ∙ is)

  named : (late : Late) → IsLate text late → IsDriverName name late.driver
  named late h = subst (λ l. IsDriverName l late.driver) (parts late h).0 h.3

  numbered : (late : Late) → IsLate text late → IsSeed number late.slack
  numbered late h = subst (λ l. IsSeed l late.slack) (parts late h).1 h.4

  pub no_driver : NamesNoDriver name → NamesNoLate text
  no_driver none late h = none late.driver (named late h)

  pub no_slack : ((n : ℕ) → ¬ IsSeed number n) → NamesNoLate text
  no_slack none late h = none late.slack (numbered late h)

  abbrev late_of : Driver → ℕ → Late
  late_of d n = record { driver = d; slack = n }

  pub only_late : (d : Driver) (n : ℕ) → IsOnlyDriver name d → IsSeed number n
      → IsOnlyLate text (record { driver = d; slack = n })
  only_late d n driver seed =
      ((name, number, is ∙ sym (append_assoc name (codes "=") number), driver.0, seed), others)
    where
      others : (other : Late) → IsLate text other → other ≡ late_of d n
      others other h =
          let slack : other.slack ≡ n = sym (numbered other h).1 ∙ seed.1 in
          ap (λ e. late_of e other.slack) (driver.1 other.driver (named other h))
          ∙ ap (λ k. late_of d k) slack
