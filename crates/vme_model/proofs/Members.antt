-- What a plan in range says about its slots.
use Rattle.std.proofs.Common.{◌≡◌, ℕ, zero, suc, ◌<◌, ◌≤◌, Bool, true, false, List, [], ◌∷◌, Option, Some, None, refl, sym, ap, ◌∙◌, subst, arith}
use Rattle.std.specs.Prelude.{◌&&◌, ◌||◌, ◌==◌, if◌then◌else◌, filter, find, is_some}
use Rattle.std.specs.List.{list_any, All, Contains}
use Rattle.std.specs.Option.{option_map_or, IfSome}
use Rattle.std.proofs.lemmas.List.Elements.{All-head, All-tail}
use Rattle.std.proofs.lemmas.Bool.Decides.{nat_tests}
use Rattle.vme_model.specs.declared.boards.Row.{Row}
use Rattle.vme_model.specs.declared.boards.RequesterRow.{RequesterRow}
use Rattle.vme_model.specs.declared.signals.Edge.{Edge}
use Rattle.vme_model.specs.declared.signals.Driver.TheVariants.{Slot}
use Rattle.vme_model.specs.declared.signals.Wire.TheVariants.{Bbsy}
use Rattle.vme_model.specs.Plan.{Plan, board, requests_on, up_to, active, upstream, grant_chain, drives}
use Rattle.vme_model.specs.History.{drive, line, input}
use Rattle.vme_model.specs.Readings.{grant_in}
use Rattle.vme_model.proofs.Ranges.{IsRowInRange, IsInRange}
use Rattle.vme_model.proofs.Bools.{same_number}
use Rattle.vme_model.proofs.Below.{is_below, test_of, contained}
use Rattle.vme_model.proofs.GrantPhases.{IsAt}

-- the slot's requester is of level n
abbrev pub on : Plan → ℕ → ℕ → Bool
on p n s = option_map_or (requests_on n) (board p s) false

-- some row passes if the line is low
some_row_of : (f : Row → Bool) (P : Row → Type 0) (row : Row) (b rest : Bool) → f row ≡ b → (b || rest) ≡ true → P row → (rest ≡ true → (row : Row) × (f row ≡ true) × P row)
    → (row : Row) × (f row ≡ true) × P row
some_row_of f P row true rest e h a next = (row, e, a)
some_row_of f P row false rest e h a next = next h

pub some_row : (f : Row → Bool) (P : Row → Type 0) (rows : List Row) → All P rows → list_any f rows ≡ true → (row : Row) × (f row ≡ true) × P row
some_row f P [] a h = absurd (cc)
some_row f P (row ∷ rows) a h = some_row_of f P row (f row) (list_any f rows) refl h (All-head P row rows a) (some_row f P rows (All-tail P row rows a))

-- the board that a search finds is a row
pub record IsFound (P : Row → Type 0) (rows : List Row) (s : ℕ) (r : Row) : Type 0 where
  pub fact : P r
  pub slot : r.slot ≡ s
  pub passes : (f : Row → Bool) → f r ≡ true → list_any f rows ≡ true

found_of : (P : Row → Type 0) (row : Row) (rows : List Row) (s : ℕ) (r : Row) (b : Bool) → (row.slot == s) ≡ b → P row → (if b then Some row else find (λ x. x.slot == s) rows) ≡ Some r
    → (find (λ x. x.slot == s) rows ≡ Some r → IsFound P rows s r) → IsFound P (row ∷ rows) s r
found_of P row rows s r true e a h next =
    let same : row ≡ r = cc in
    record { fact = subst P same a; slot = subst (λ x. x.slot ≡ s) same (same_number row.slot s e); passes = λ f g. here (f row) (list_any f rows) (subst (λ x. f x ≡ true) (sym same) g) }
  where
    here : (x y : Bool) → x ≡ true → (x || y) ≡ true
    here x y e = grind arith
found_of P row rows s r false e a h next =
    let i = next h in
    record { fact = i.fact; slot = i.slot; passes = λ f g. there (f row) (list_any f rows) (i.passes f g) }
  where
    there : (x y : Bool) → y ≡ true → (x || y) ≡ true
    there x y e = grind arith

pub found_row : (P : Row → Type 0) (rows : List Row) (s : ℕ) (r : Row) → All P rows → find (λ x. x.slot == s) rows ≡ Some r → IsFound P rows s r
found_row P [] s r a h = absurd (cc)
found_row P (row ∷ rows) s r a h = found_of P row rows s r (row.slot == s) refl (All-head P row rows a) h (found_row P rows s r (All-tail P row rows a))

-- the board of a slot with a requester
pub record HasBoard (p : Plan) (n s : ℕ) : Type 0 where
  pub row : Row
  pub is_board : board p s ≡ Some row
  pub requests : requests_on n row ≡ true

board_of : (p : Plan) (n s : ℕ) (found : Option Row) → board p s ≡ found → option_map_or (requests_on n) found false ≡ true → HasBoard p n s
board_of p n s None e h = absurd (cc)
board_of p n s (Some r) e h = record { row = r; is_board = e; requests = h }

pub has_board : (p : Plan) (n s : ℕ) → on p n s ≡ true → HasBoard p n s
has_board p n s h = board_of p n s (board p s) refl h

level_of_requester : (found : Option RequesterRow) (m n : ℕ) → option_map_or (λ q. q.level == m) found false ≡ true → option_map_or (λ q. q.level == n) found false ≡ true → m ≡ n
level_of_requester None m n h h' = absurd (cc)
level_of_requester (Some q) m n h h' = sym (same_number q.level m h) ∙ same_number q.level n h'

one_level : (found : Option Row) (m n : ℕ) → option_map_or (requests_on m) found false ≡ true → option_map_or (requests_on n) found false ≡ true → m ≡ n
one_level None m n h h' = absurd (cc)
one_level (Some r) m n h h' = level_of_requester r.requester m n h h'

pub one_chain : (p : Plan) (m n s : ℕ) → on p m s ≡ true → on p n s ≡ true → m ≡ n
one_chain p m n s h h' = one_level (board p s) m n h h'

pub within : (p : Plan) → IsInRange p → (n s : ℕ) → on p n s ≡ true → (1 ≤ s) × (s ≤ p.slots)
within p range n s h =
    let b = has_board p n s h in
    let f = found_row (IsRowInRange p) p.rows s b.row range.rows b.is_board in
    (subst (λ x. 1 ≤ x) f.slot f.fact.from_one, subst (λ x. x ≤ p.slots) f.slot f.fact.to_last)

requests_some : (r : Row) (n : ℕ) (found : Option RequesterRow) → option_map_or (λ q. q.level == n) found false ≡ true → is_some found ≡ true
requests_some r n None h = absurd (cc)
requests_some r n (Some q) h = refl

-- a holder shows on the line
pub line_low : (p : Plan) → IsInRange p → (h : List Edge) (m s : ℕ) → on p m s ≡ true → drive h (Slot s) Bbsy ≡ true → line p h Bbsy ≡ true
line_low p range h m s o low =
    let b = has_board p m s o in
    let f = found_row (IsRowInRange p) p.rows s b.row range.rows b.is_board in
    f.passes (λ r. drives Bbsy r && drive h (Slot r.slot) Bbsy) (both (is_some b.row.requester) (drive h (Slot b.row.slot) Bbsy) (requests_some b.row m b.row.requester b.requests)
    (subst (λ x. drive h (Slot x) Bbsy ≡ true) (sym f.slot) low))
  where
    both : (x y : Bool) → x ≡ true → y ≡ true → (x && y) ≡ true
    both x y e f = grind arith

-- the slots of a chain
pub active_is : (p : Plan) (n : ℕ) → n < 4 → active p (grant_chain n) ≡ filter (on p n) (up_to p.slots)
active_is p zero l = refl
active_is p (suc zero) l = refl
active_is p (suc (suc zero)) l = refl
active_is p (suc (suc (suc zero))) l = refl
active_is p (suc (suc (suc (suc n)))) l = absurd (omega arith)

pub is_at : (two : Bool) (p : Plan) → IsInRange p → (n s : ℕ) → n < 4 → on p n s ≡ true → IsAt (on p) p.slots two n s (upstream p (grant_chain n) s)
is_at two p range zero s l o = record { member = o; before = is_below (on p 0) p.slots s (within p range 0) }
is_at two p range (suc zero) s l o = record { member = o; before = is_below (on p 1) p.slots s (within p range 1) }
is_at two p range (suc (suc zero)) s l o = record { member = o; before = is_below (on p 2) p.slots s (within p range 2) }
is_at two p range (suc (suc (suc zero))) s l o = record { member = o; before = is_below (on p 3) p.slots s (within p range 3) }
is_at two p range (suc (suc (suc (suc n)))) s l o = absurd (omega arith)

pub member_of : (p : Plan) (n s : ℕ) → n < 4 → Contains (active p (grant_chain n)) s → on p n s ≡ true
member_of p n s l c = test_of (on p n) p.slots s (subst (λ xs. Contains xs s) (active_is p n l) c)

pub is_member : (p : Plan) → IsInRange p → (n s : ℕ) → n < 4 → on p n s ≡ true → Contains (active p (grant_chain n)) s
is_member p range n s l o = subst (λ xs. Contains xs s) (sym (active_is p n l)) (contained (on p n) p.slots s o (within p range n s o).0 (within p range n s o).1)

-- a board with a requester: its level and its grant-in
pub record HasLevel (p : Plan) (h : List Edge) (s : ℕ) : Type 0 where
  pub level : ℕ
  pub in_range : level < 4
  pub member : on p level s ≡ true
  pub grant : grant_in p h (Slot s) ≡ input p h (grant_chain level) s

level_with : (p : Plan) (h : List Edge) (s : ℕ) (r : Row) (found : Option RequesterRow) → r.slot ≡ s → board p s ≡ Some r → r.requester ≡ found → is_some found ≡ true
    → IfSome found (λ q. q.level < 4) → HasLevel p h s
level_with p h s r None same e f some l = absurd (cc)
level_with p h s r (Some q) same e f some l = record {
  level = q.level;
  in_range = l;
  member = ap (λ x. option_map_or (requests_on q.level) x false) e ∙ (ap (λ x. option_map_or (λ y. y.level == q.level) x false) f ∙ self q.level);
  grant = ap (λ x. option_map_or (λ y. option_map_or (λ z. input p h (grant_chain z.level) y.slot) y.requester false) x false) e
      ∙ ap (λ x. option_map_or (λ z. input p h (grant_chain z.level) r.slot) x false) f ∙ ap (input p h (grant_chain q.level)) same;
}
  where
    self : (n : ℕ) → (n == n) ≡ true
    self n = grind (arith, nat_tests)

level_at : (p : Plan) → IsInRange p → (h : List Edge) (s : ℕ) (found : Option Row) → board p s ≡ found → option_map_or (λ r. is_some r.requester) found false ≡ true → HasLevel p h s
level_at p range h s None e some = absurd (cc)
level_at p range h s (Some r) e some =
    let f = found_row (IsRowInRange p) p.rows s r range.rows e in
    level_with p h s r r.requester f.slot e refl some f.fact.level

pub level_of : (p : Plan) → IsInRange p → (h : List Edge) (s : ℕ) → option_map_or (λ r. is_some r.requester) (board p s) false ≡ true → HasLevel p h s
level_of p range h s some = level_at p range h s (board p s) refl some
