-- What an accepted plan says about its rows.
use Rattle.std.proofs.Common.{◌≡◌, ◌⊎◌, ℕ, zero, suc, ◌<◌, ◌≤◌, Bool, true, false, List, [], ◌∷◌, ◌++◌, Option, Some, None, refl, sym, ap, ◌∙◌, subst, arith, ⊎_elim, length, map}
use Rattle.std.specs.Prelude.{◌&&◌, not, ◌==◌, nat_lt, nat_le, if◌then◌else◌, filter, find, option_map}
use Rattle.std.specs.List.{All}
use Rattle.std.specs.Option.{option_map_or, IfSome}
use Rattle.std.proofs.lemmas.Bool.Decides.{nat_tests}
use Rattle.std.proofs.lemmas.List.{length-append}
use Rattle.std.proofs.lemmas.List.Elements.{All-nil, All-cons, All-weaker, filter-append}
use Rattle.vme_model.specs.declared.boards.Row.{Row}
use Rattle.vme_model.specs.declared.boards.RequesterRow.{RequesterRow}
use Rattle.vme_model.specs.declared.boards.InterrupterRow.{InterrupterRow}
use Rattle.vme_model.specs.declared.refusals.Field.{Field}
use Rattle.vme_model.specs.declared.refusals.Field.TheVariants as field
use Rattle.vme_model.specs.declared.refusals.PlanError.TheVariants as error
use Rattle.vme_model.specs.Plan.{Plan, board, row_in, up_to}
use Rattle.vme_model.specs.Signals.{is_level}
use Rattle.vme_model.specs.Sets.{bits_of_levels}
use Rattle.vme_model.specs.Accepted.{IsAccepted, first_of, when, is_within, has_no_burst, row_range, jumper_range, out_of_range, too_many_slots, no_controller, slot_twice, namings}

-- the row is the board of a slot of the backplane, and its levels exist
pub record IsRowInRange (p : Plan) (r : Row) : Type 0 where
  pub from_one : 1 ≤ r.slot
  pub to_last : r.slot ≤ p.slots
  pub level : IfSome r.requester (λ q. q.level < 4)
  pub irq : IfSome r.interrupter (λ i. (1 ≤ i.level) × (i.level < 8))
  pub alone : board p r.slot ≡ Some r

pub record IsInRange (p : Plan) : Type 0 where
  pub most : p.slots ≤ 21
  pub rows : All (IsRowInRange p) p.rows

-- none of the tests before the first that fails
first_none : {A : Type 0} (a : Option A) (rest : List (Option A)) → first_of (a ∷ rest) ≡ None → (a ≡ None) × (first_of rest ≡ None)
first_none None rest e = (refl, e)
first_none (Some a) rest e = absurd (cc)

none_when : {A : Type 0} (b : Bool) (a : A) → when b a ≡ None → b ≡ false
none_when true a e = absurd (cc)
none_when false a e = refl

front_none : {A : Type 0} (xs ys : List (Option A)) → first_of (xs ++ ys) ≡ None → first_of xs ≡ None
front_none [] ys e = refl
front_none (None ∷ xs) ys e = front_none xs ys e
front_none (Some a ∷ xs) ys e = absurd (cc)

mapped_none : {A B : Type 0} (f : A → B) (a : Option A) → option_map f a ≡ None → a ≡ None
mapped_none f None e = refl
mapped_none f (Some a) e = absurd (cc)

each_none : {X A : Type 0} (f : X → Option A) (xs : List X) → first_of (map f xs) ≡ None → All (λ x. f x ≡ None) xs
each_none f [] e = All-nil (λ x. f x ≡ None)
each_none f (x ∷ xs) e =
    let q = first_none (f x) (map f xs) e in
    All-cons (λ x. f x ≡ None) x xs q.0 (each_none f xs q.1)

-- the fields of a row
record FieldsOf (slots : ℕ) (r : Row) : Type 0 where
  from_one : 1 ≤ r.slot
  to_last : r.slot ≤ slots
  level : IfSome r.requester (λ q. q.level < 4)
  irq : IfSome r.interrupter (λ i. (1 ≤ i.level) × (i.level < 8))

from_one_of : (slots s : ℕ) → not (nat_le 1 s && nat_le s slots) ≡ false → 1 ≤ s
from_one_of slots s e = grind (arith, nat_tests, e)

to_last_of : (slots s : ℕ) → not (nat_le 1 s && nat_le s slots) ≡ false → s ≤ slots
to_last_of slots s e = grind (arith, nat_tests, e)

below_four : (n : ℕ) → nat_lt 3 n ≡ false → n < 4
below_four n e = grind (arith, nat_tests, e)

bus_level : (found : Option RequesterRow) → option_map_or (λ q. nat_lt 3 q.level) found false ≡ false → IfSome found (λ q. q.level < 4)
bus_level None e = tt
bus_level (Some q) e = below_four q.level e

irq_from : (n : ℕ) → not (nat_le 1 n && nat_le n 7) ≡ false → 1 ≤ n
irq_from n e = grind (arith, nat_tests, e)

irq_to : (n : ℕ) → not (nat_le 1 n && nat_le n 7) ≡ false → n < 8
irq_to n e = grind (arith, nat_tests, e)

irq_level : (found : Option InterrupterRow) → option_map_or (λ i. not (is_level i.level)) found false ≡ false → IfSome found (λ i. (1 ≤ i.level) × (i.level < 8))
irq_level None e = tt
irq_level (Some i) e = (irq_from i.level e, irq_to i.level e)

four_passed : (a b c d : Bool) (e f g h : Field) (rest : List (Option Field)) → first_of (when a e ∷ when b f ∷ when c g ∷ when d h ∷ rest) ≡ None → (a ≡ false) × (b ≡ false)
    × (c ≡ false) × (d ≡ false)
four_passed a b c d e f g h rest n =
    let w = first_none (when a e) (when b f ∷ when c g ∷ when d h ∷ rest) n in
    let x = first_none (when b f) (when c g ∷ when d h ∷ rest) w.1 in
    let y = first_none (when c g) (when d h ∷ rest) x.1 in
    let z = first_none (when d h) rest y.1 in
    (none_when a e w.0, none_when b f x.0, none_when c g y.0, none_when d h z.0)

fields_of : (slots : ℕ) (r : Row) → row_range slots r ≡ None → FieldsOf slots r
fields_of slots r e =
    let q = four_passed (not (is_within slots r.slot)) (option_map_or (λ q. nat_lt 3 q.level) r.requester false) (option_map_or (λ q. has_no_burst q.release) r.requester false)
    (option_map_or (λ i. not (is_level i.level)) r.interrupter false) field.Slot field.RequesterLevel field.RequesterBurst field.InterrupterLevel
    (when (nat_lt 127 (bits_of_levels r.handler)) field.Handler ∷ []) e in
    record {
      from_one = from_one_of slots r.slot q.0;
      to_last = to_last_of slots r.slot q.0;
      level = bus_level r.requester q.1;
      irq = irq_level r.interrupter q.3;
    }

-- a slot that two rows name is named twice
abbrev pub slots_of : List Row → List ℕ
slots_of rows = map (λ r. r.slot) rows

abbrev pub times : List ℕ → ℕ → ℕ
times ss s = length (filter (λ t. t == s) ss)

self : (n : ℕ) → (n == n) ≡ true
self n = grind (arith, nat_tests)

times_here : (s t : ℕ) (ss : List ℕ) → (s == t) ≡ true → times (s ∷ ss) t ≡ suc (times ss t)
times_here s t ss e = ap (λ b. length (if b then s ∷ filter (λ x. x == t) ss else filter (λ x. x == t) ss)) e

times_there : (s t : ℕ) (ss : List ℕ) → (s == t) ≡ false → times (s ∷ ss) t ≡ times ss t
times_there s t ss e = ap (λ b. length (if b then s ∷ filter (λ x. x == t) ss else filter (λ x. x == t) ss)) e

times_tail : (s t : ℕ) (ss : List ℕ) → times ss t ≤ times (s ∷ ss) t
times_tail s t ss = go (s == t) refl
  where
    go : (b : Bool) → (s == t) ≡ b → times ss t ≤ times (s ∷ ss) t
    go true e = omega (arith, times_here s t ss e)
    go false e = omega (arith, times_there s t ss e)

each_named : (rows : List Row) → All (λ r. 1 ≤ times (slots_of rows) r.slot) rows
each_named [] = All-nil (λ r. 1 ≤ times [] r.slot)
each_named (row ∷ rows) = All-cons (λ r. 1 ≤ times (row.slot ∷ slots_of rows) r.slot) row rows
    (omega (arith, times_here row.slot row.slot (slots_of rows) (self row.slot)))
    (All-weaker (λ r. 1 ≤ times (slots_of rows) r.slot) (λ r. 1 ≤ times (row.slot ∷ slots_of rows) r.slot) (λ r n. omega (arith, n, times_tail row.slot r.slot (slots_of rows))) rows (each_named rows))

-- a row whose slot no other row names is its slot's board
abbrev IsAlone : List Row → Row → Type 0
IsAlone rows r = times (slots_of rows) r.slot ≤ 1 → row_in rows r.slot ≡ Some r

all_both : {X : Type 0} (P Q R : X → Type 0) → ((x : X) → P x → Q x → R x) → (xs : List X) → All P xs → All Q xs → All R xs
all_both P Q R f xs p q = λ k d l. f _ (p k d l) (q k d l)

each_alone : (rows : List Row) → All (IsAlone rows) rows
each_alone [] = All-nil (IsAlone [])
each_alone (row ∷ rows) = All-cons (IsAlone (row ∷ rows)) row rows (λ n. ap (λ b. if b then Some row else row_in rows row.slot) (self row.slot))
    (all_both (λ r. 1 ≤ times (slots_of rows) r.slot) (IsAlone rows) (IsAlone (row ∷ rows)) (λ r n a. later r n a) rows (each_named rows) (each_alone rows))
  where
    later : (r : Row) → 1 ≤ times (slots_of rows) r.slot → IsAlone rows r → IsAlone (row ∷ rows) r
    later r n a few = go (row.slot == r.slot) refl
      where
        go : (b : Bool) → (row.slot == r.slot) ≡ b → (if (row.slot == r.slot) then Some row else row_in rows r.slot) ≡ Some r
        go true e = absurd (omega (arith, few, n, times_here row.slot r.slot (slots_of rows) e))
        go false e = ap (λ b. if b then Some row else row_in rows r.slot) e ∙ a (omega (arith, few, times_there row.slot r.slot (slots_of rows) e))

-- no slot of the backplane passes the test
none_found : (test : ℕ → Bool) (n : ℕ) → find test (up_to n) ≡ None → (s : ℕ) → 1 ≤ s → s ≤ n → test s ≡ false
none_found test zero e s from to = absurd (omega arith)
none_found test (suc n) e s from to =
    let q = split (up_to n) e in
    ⊎_elim (λ (l : s ≤ n). none_found test n q.0 s from l) (λ (same : s ≡ suc n). subst (λ x. test x ≡ false) (sym same) q.1) (at_end s n to)
  where
    at_end : (s n : ℕ) → s ≤ suc n → (s ≤ n) ⊎ (s ≡ suc n)
    at_end s n l = grind (arith, l)

    last : (b : Bool) (x : ℕ) → test x ≡ b → (if b then Some x else None) ≡ None → test x ≡ false
    last true x f e = absurd (cc)
    last false x f e = f

    split : (xs : List ℕ) → find test (xs ++ suc n ∷ []) ≡ None → (find test xs ≡ None) × (test (suc n) ≡ false)
    split [] e = (refl, last (test (suc n)) (suc n) refl e)
    split (x ∷ xs) e = go (test x) e (split xs)
      where
        go : (b : Bool) → (if b then Some x else find test (xs ++ suc n ∷ [])) ≡ None → (find test (xs ++ suc n ∷ []) ≡ None → (find test xs ≡ None) × (test (suc n) ≡ false))
            → ((if b then Some x else find test xs) ≡ None) × (test (suc n) ≡ false)
        go true e next = absurd (cc)
        go false e next = next e

few_namings : (n : ℕ) → nat_lt 1 n ≡ false → n ≤ 1
few_namings n e = grind (arith, nat_tests, e)

rows_named : (p : Plan) (s : ℕ) → times (slots_of p.rows) s ≤ namings p s
rows_named p s =
    let js = map (λ j. j.slot) p.jumpers in
    omega (arith, ap length (filter-append (λ t. t == s) (slots_of p.rows) js), length-append (filter (λ t. t == s) (slots_of p.rows)) (filter (λ t. t == s) js))

few : (n : ℕ) → nat_lt 21 n ≡ false → n ≤ 21
few n e = grind (arith, nat_tests, e)

-- what is left of the tests after the tests of each field's range
past_ranges : (p : Plan) → IsAccepted p → (slot_twice p ≡ None)
past_ranges p e =
    let a = first_none (too_many_slots p) _ e in
    let b = first_none (out_of_range p) _ a.1 in
    let c = first_none (no_controller p) _ b.1 in
    (first_none (slot_twice p) _ c.1).0

not_twice : (p : Plan) → IsAccepted p → (s : ℕ) → 1 ≤ s → s ≤ p.slots → nat_lt 1 (namings p s) ≡ false
not_twice p e = none_found (λ s. nat_lt 1 (namings p s)) p.slots (mapped_none (λ s. error.SlotTwice s) _ (past_ranges p e))

-- at most one row names a slot
pub named_once : (p : Plan) → IsAccepted p → (s : ℕ) → 1 ≤ s → s ≤ p.slots → times (slots_of p.rows) s ≤ 1
named_once p e s from to = omega (arith, rows_named p s, few_namings (namings p s) (not_twice p e s from to))

pub in_range : (p : Plan) → IsAccepted p → IsInRange p
in_range p e =
    let a = first_none (too_many_slots p) _ e in
    let b = first_none (out_of_range p) _ a.1 in
    let twice = not_twice p e in
    let fields = each_none (row_range p.slots) p.rows (front_none (map (row_range p.slots) p.rows) (map (jumper_range p.slots) p.jumpers)
    (first_none (when (p.slots == 0) _) _ (mapped_none (λ f. error.OutOfRange f) _ b.0)).1) in
    record {
      most = few p.slots (none_when (nat_lt 21 p.slots) _ a.0);
      rows = all_both (λ r. row_range p.slots r ≡ None) (IsAlone p.rows) (IsRowInRange p) (λ r f alone. row_of twice r (fields_of p.slots r f) alone) p.rows fields (each_alone p.rows);
    }
  where
    row_of : ((s : ℕ) → 1 ≤ s → s ≤ p.slots → nat_lt 1 (namings p s) ≡ false) → (r : Row) → FieldsOf p.slots r → IsAlone p.rows r → IsRowInRange p r
    row_of twice r f alone = record {
      from_one = f.from_one;
      to_last = f.to_last;
      level = f.level;
      irq = f.irq;
      alone = alone (omega (arith, rows_named p r.slot, few_namings (namings p r.slot) (twice r.slot f.from_one f.to_last)));
    }
