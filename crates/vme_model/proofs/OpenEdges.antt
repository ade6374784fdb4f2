-- The open edges of a driver are all edges that it can make.
use Rattle.std.proofs.Common.{◌≡◌, ◌≤◌, ◌⊎◌, ⊎_elim, ℕ, zero, suc, Bool, true, false, Option, Some, None, List, [], ◌∷◌, ◌++◌, Ok, Err, refl, sym, ap, subst, arith}
use Rattle.std.specs.Prelude.{◌&&◌, not, if◌then◌else◌, map, filter, nat_le, nat_lt, is_none, is_ok, Result}
use Rattle.std.specs.List.{flat_map, All, Contains}
use Rattle.std.proofs.lemmas.Bool.Decides.{nat_tests}
use Rattle.std.proofs.lemmas.List.Elements.{All-contains, All-append, All-cons, All-nil, All-filter, Contains-append_left, Contains-append_right, Contains-push, filter_passes}
use Rattle.vme_model.specs.declared.refusals.Refused.{Refused}
use Rattle.vme_model.specs.declared.refusals.Refused.TheVariants.{NoSuchDriver, AlreadyThere}
use Rattle.vme_model.specs.declared.signals.Driver.{Driver}
use Rattle.vme_model.specs.declared.signals.Driver.TheVariants.{Controller, Slot}
use Rattle.vme_model.specs.declared.signals.Wire.{Wire}
use Rattle.vme_model.specs.declared.signals.Wire.TheVariants.{Bg, Bclr, Iack, Berr, Br, BgOut, Bbsy, Addr, AddressStrobe, DataStrobe, Irq, IackOut, Dtack}
use Rattle.vme_model.specs.declared.signals.Cycle.{Cycle}
use Rattle.vme_model.specs.declared.signals.Cycle.TheVariants.{Acknowledge, Access}
use Rattle.vme_model.specs.declared.signals.Edge.{Edge}
use Rattle.vme_model.specs.Signals.{has_wire, has_value, is_in_range}
use Rattle.vme_model.specs.Plan.{up_to, has_driver}
use Rattle.vme_model.specs.History.{drive}
use Rattle.vme_model.specs.Offers.{turned, wires}
use Rattle.vme_model.specs.Open.{showing, acknowledges, accesses, moves, open_edges, IsAllThatIsAllowed}
use Rattle.vme_model.specs.Verdict.{State, verdict}
use Rattle.vme_model.proofs.Bools.{and_left, and_right, not_true}
use Rattle.vme_model.proofs.AllowedEdges.{checked}

other : (a fall : Bool) → (if fall then not a else a) ≡ true → a ≡ not fall
other a true e = not_true a e
other a false e = e

pub here : {X : Type 0} (x : X) (xs : List X) → Contains (x ∷ xs) x
here x xs = (0, omega arith, refl)

pub there : {X : Type 0} (y x : X) (xs : List X) → Contains xs x → Contains (y ∷ xs) x
there y x xs c = Contains-append_right (y ∷ []) xs x c

-- what stands in a list stands, mapped, in the mapped list
pub by_map : {X Y : Type 0} (f : X → Y) (xs : List X) (x : X) → Contains xs x → Contains (map f xs) (f x)
by_map f [] x c = let lt = c.1 in absurd (omega arith)
by_map f (y ∷ xs) x (zero, lt, is) = subst (λ z. Contains (f y ∷ map f xs) (f z)) is (here (f y) (map f xs))
by_map f (y ∷ xs) x (suc k, lt, is) = there (f y) (f x) (map f xs) (by_map f xs x (k, omega arith, is))

pub by_flat_map : {X Y : Type 0} (f : X → List Y) (xs : List X) (x : X) (y : Y) → Contains xs x → Contains (f x) y → Contains (flat_map f xs) y
by_flat_map f [] x y c d = let lt = c.1 in absurd (omega arith)
by_flat_map f (z ∷ xs) x y (zero, lt, is) d = Contains-append_left (f z) (flat_map f xs) y (subst (λ t. Contains (f t) y) (sym is) d)
by_flat_map f (z ∷ xs) x y (suc k, lt, is) d = Contains-append_right (f z) (flat_map f xs) y (by_flat_map f xs x y (k, omega arith, is) d)

kept_first : {X : Type 0} (b : Bool) (x : X) (xs : List X) → b ≡ true → Contains (if b then x ∷ xs else xs) x
kept_first true x xs h = here x xs
kept_first false x xs h = cc

kept_later : {X : Type 0} (b : Bool) (y x : X) (xs : List X) → Contains xs x → Contains (if b then y ∷ xs else xs) x
kept_later true y x xs c = there y x xs c
kept_later false y x xs c = c

pub by_filter : {X : Type 0} (test : X → Bool) (xs : List X) (x : X) → test x ≡ true → Contains xs x → Contains (filter test xs) x
by_filter test [] x h c = let lt = c.1 in absurd (omega arith)
by_filter test (y ∷ xs) x h (zero, lt, is) = subst (λ z. Contains (filter test (y ∷ xs)) z) is (kept_first (test y) y (filter test xs) (subst (λ z. test z ≡ true) (sym is) h))
by_filter test (y ∷ xs) x h (suc k, lt, is) = kept_later (test y) y x (filter test xs) (by_filter test xs x h (k, omega arith, is))

up_to_has : (n m : ℕ) → 1 ≤ m → m ≤ n → Contains (up_to n) m
up_to_has zero m from to = absurd (omega arith)
up_to_has (suc n) m from to = ⊎_elim
    (λ (l : m ≤ n). Contains-append_left (up_to n) (suc n ∷ []) m (up_to_has n m from l))
    (λ (l : m ≡ suc n). subst (λ k. Contains (up_to n ++ suc n ∷ []) k) (sym l) (Contains-push (up_to n) (suc n)))
    (last_or_below n m to)
  where
    last_or_below : (n m : ℕ) → m ≤ suc n → (m ≤ n) ⊎ (m ≡ suc n)
    last_or_below n m to = grind arith

in_range : (n m : ℕ) → (nat_le 1 m && nat_le m n) ≡ true → (1 ≤ m) × (m ≤ n)
in_range n m h = grind (arith, nat_tests)

-- each cycle that there is stands in the list
a_cycle : (c : Cycle) → is_in_range c ≡ true → Contains (acknowledges ++ accesses) c
a_cycle (Acknowledge level) h =
    let r = in_range 7 level h in
    Contains-append_left acknowledges accesses (Acknowledge level) (by_map (λ n. Acknowledge n) (up_to 7) level (up_to_has 7 level r.0 r.1))
a_cycle (Access s) h =
    let r = in_range 21 s h in
    Contains-append_right acknowledges accesses (Access s) (by_map (λ n. Access n) (up_to 21) s (up_to_has 21 s r.0 r.1))

below_four : (n : ℕ) (ws : List Wire) → nat_lt n 4 ≡ true → Contains (Bg 0 ∷ Bg 1 ∷ Bg 2 ∷ Bg 3 ∷ ws) (Bg n)
below_four zero ws h = (0, omega arith, refl)
below_four (suc zero) ws h = (1, omega arith, refl)
below_four (suc (suc zero)) ws h = (2, omega arith, refl)
below_four (suc (suc (suc zero))) ws h = (3, omega arith, refl)
below_four (suc (suc (suc (suc n)))) ws h = absurd (four n h)
  where
    four : (n : ℕ) → nat_lt (suc (suc (suc (suc n)))) 4 ≡ true → ⊥
    four n h = grind (arith, nat_tests)

-- each wire of a driver stands in its list
a_wire : (d : Driver) (w : Wire) → has_wire d w ≡ true → Contains (wires d) w
a_wire Controller (Bg n) h = below_four n (Bclr ∷ Iack ∷ Berr ∷ []) h
a_wire Controller Bclr h = (4, omega arith, refl)
a_wire Controller Iack h = (5, omega arith, refl)
a_wire Controller Berr h = (6, omega arith, refl)
a_wire Controller Br h = cc
a_wire Controller BgOut h = cc
a_wire Controller Bbsy h = cc
a_wire Controller Addr h = cc
a_wire Controller AddressStrobe h = cc
a_wire Controller DataStrobe h = cc
a_wire Controller Irq h = cc
a_wire Controller IackOut h = cc
a_wire Controller Dtack h = cc
a_wire (Slot s) (Bg n) h = cc
a_wire (Slot s) Bclr h = cc
a_wire (Slot s) Iack h = cc
a_wire (Slot s) Berr h = cc
a_wire (Slot s) Br h = (0, omega arith, refl)
a_wire (Slot s) BgOut h = (1, omega arith, refl)
a_wire (Slot s) Bbsy h = (2, omega arith, refl)
a_wire (Slot s) Addr h = (3, omega arith, refl)
a_wire (Slot s) AddressStrobe h = (4, omega arith, refl)
a_wire (Slot s) DataStrobe h = (5, omega arith, refl)
a_wire (Slot s) Irq h = (6, omega arith, refl)
a_wire (Slot s) IackOut h = (7, omega arith, refl)
a_wire (Slot s) Dtack h = (8, omega arith, refl)

abbrev edge : Driver → Wire → Bool → Option Cycle → Edge
edge d w fall v = record { driver = d; wire = w; fall = fall; value = v }

negated : (low fall : Bool) → low ≡ not fall → fall ≡ not low
negated low true e = sym (ap not e)
negated low false e = sym (ap not e)

-- an edge without a value to the other state is the turned one
is_turned : (h : List Edge) (d : Driver) (w : Wire) (fall : Bool) → drive h d w ≡ not fall → Contains (turned h d w ∷ []) (edge d w fall None)
is_turned h d w fall before = subst (λ b. Contains (turned h d w ∷ []) (edge d w b None)) (sym (negated (drive h d w) fall before)) (here (turned h d w) [])

going_on : (h : List Edge) (d : Driver) (low : Bool) (c : Cycle) → low ≡ false → is_in_range c ≡ true → Contains (if low then turned h d Addr ∷ [] else map (showing d) (acknowledges ++ accesses))
    (showing d c)
going_on h d true c off r = cc
going_on h d false c off r = by_map (showing d) (acknowledges ++ accesses) c (a_cycle c r)

going_off : (h : List Edge) (d : Driver) (low : Bool) → drive h d Addr ≡ low → low ≡ true → Contains (if low then turned h d Addr ∷ [] else map (showing d) (acknowledges ++ accesses))
    (edge d Addr false None)
going_off h d true is on = is_turned h d Addr false is
going_off h d false is on = cc

-- an edge of a wire other than the address group
is_plain : (h : List Edge) (d : Driver) (w : Wire) (fall : Bool) (v : Option Cycle) → is_none v ≡ true → drive h d w ≡ not fall → Contains (turned h d w ∷ []) (edge d w fall v)
is_plain h d w fall None e before = is_turned h d w fall before
is_plain h d w fall (Some c) e before = cc

of_address : (h : List Edge) (d : Driver) (fall : Bool) (v : Option Cycle) → has_value Addr fall v ≡ true → drive h d Addr ≡ not fall → Contains (moves h d Addr) (edge d Addr fall v)
of_address h d true None e before = cc
of_address h d true (Some c) e before = going_on h d (drive h d Addr) c before e
of_address h d false None e before = going_off h d (drive h d Addr) refl before
of_address h d false (Some c) e before = cc

abbrev is_addr : Wire → Bool
is_addr Addr = true
is_addr _ = false

no_value : (w : Wire) (fall : Bool) (v : Option Cycle) → is_addr w ≡ false → has_value w fall v ≡ true → is_none v ≡ true
no_value w fall None a e = refl
no_value (Bg n) fall (Some c) a e = cc
no_value Bclr fall (Some c) a e = cc
no_value Iack fall (Some c) a e = cc
no_value Berr fall (Some c) a e = cc
no_value Br fall (Some c) a e = cc
no_value BgOut fall (Some c) a e = cc
no_value Bbsy fall (Some c) a e = cc
no_value Addr fall (Some c) a e = cc
no_value AddressStrobe fall (Some c) a e = cc
no_value DataStrobe fall (Some c) a e = cc
no_value Irq fall (Some c) a e = cc
no_value IackOut fall (Some c) a e = cc
no_value Dtack fall (Some c) a e = cc

-- an edge to its wire's other state, with a value exactly if one belongs there, is one of the
-- wire's moves
is_move : (h : List Edge) (d : Driver) (w : Wire) (fall : Bool) (v : Option Cycle) → has_value w fall v ≡ true → drive h d w ≡ not fall → Contains (moves h d w) (edge d w fall v)
is_move h d (Bg n) fall v e before = is_plain h d (Bg n) fall v (no_value (Bg n) fall v refl e) before
is_move h d Bclr fall v e before = is_plain h d Bclr fall v (no_value Bclr fall v refl e) before
is_move h d Iack fall v e before = is_plain h d Iack fall v (no_value Iack fall v refl e) before
is_move h d Berr fall v e before = is_plain h d Berr fall v (no_value Berr fall v refl e) before
is_move h d Br fall v e before = is_plain h d Br fall v (no_value Br fall v refl e) before
is_move h d BgOut fall v e before = is_plain h d BgOut fall v (no_value BgOut fall v refl e) before
is_move h d Bbsy fall v e before = is_plain h d Bbsy fall v (no_value Bbsy fall v refl e) before
is_move h d Addr fall v e before = of_address h d fall v e before
is_move h d AddressStrobe fall v e before = is_plain h d AddressStrobe fall v (no_value AddressStrobe fall v refl e) before
is_move h d DataStrobe fall v e before = is_plain h d DataStrobe fall v (no_value DataStrobe fall v refl e) before
is_move h d Irq fall v e before = is_plain h d Irq fall v (no_value Irq fall v refl e) before
is_move h d IackOut fall v e before = is_plain h d IackOut fall v (no_value IackOut fall v refl e) before
is_move h d Dtack fall v e before = is_plain h d Dtack fall v (no_value Dtack fall v refl e) before

ok_of : (r : Result (Unit {0}) Refused) → r ≡ Ok tt → is_ok r ≡ true
ok_of r h = subst (λ x. is_ok x ≡ true) (sym h) refl

accepted_of : (r : Result (Unit {0}) Refused) → is_ok r ≡ true → r ≡ Ok tt
accepted_of (Ok tt) h = refl
accepted_of (Err refusal) h = cc

-- an edge that is accepted is open
accepted_is_open : (b : State) (d : Driver) (w : Wire) (fall : Bool) (v : Option Cycle) → verdict b (edge d w fall v) ≡ Ok tt → Contains (open_edges b d) (edge d w fall v)
accepted_is_open b d w fall v l =
    let first = checked _ NoSuchDriver _ l in
    let next = checked _ AlreadyThere _ first.1 in
    let formed = and_left (has_wire d w && has_value w fall v) (has_driver b.plan d w) first.0 in
    let move = is_move b.history d w fall v (and_right (has_wire d w) (has_value w fall v) formed) (other (drive b.history d w) fall next.0) in
    let among = by_flat_map (moves b.history d) (wires d) w (edge d w fall v) (a_wire d w (and_left (has_wire d w) (has_value w fall v) formed)) move in
    by_filter (λ e. is_ok (verdict b e)) (flat_map (moves b.history d) (wires d)) (edge d w fall v) (ok_of (verdict b (edge d w fall v)) l) among

module _ (h : List Edge) (d : Driver) where
  abbrev IsOfDriver : Edge → Type 0
  IsOfDriver e = e.driver ≡ d

  shown_by : (cs : List Cycle) → All IsOfDriver (map (showing d) cs)
  shown_by [] = All-nil IsOfDriver
  shown_by (c ∷ cs) = All-cons IsOfDriver (showing d c) (map (showing d) cs) refl (shown_by cs)

  turned_by : (w : Wire) → All IsOfDriver (turned h d w ∷ [])
  turned_by w = All-cons IsOfDriver (turned h d w) [] refl (All-nil IsOfDriver)

  of_group : (low : Bool) → All IsOfDriver (if low then turned h d Addr ∷ [] else map (showing d) (acknowledges ++ accesses))
  of_group true = turned_by Addr
  of_group false = shown_by (acknowledges ++ accesses)

  moved_by : (w : Wire) → All IsOfDriver (moves h d w)
  moved_by (Bg n) = turned_by (Bg n)
  moved_by Bclr = turned_by Bclr
  moved_by Iack = turned_by Iack
  moved_by Berr = turned_by Berr
  moved_by Br = turned_by Br
  moved_by BgOut = turned_by BgOut
  moved_by Bbsy = turned_by Bbsy
  moved_by Addr = of_group (drive h d Addr)
  moved_by AddressStrobe = turned_by AddressStrobe
  moved_by DataStrobe = turned_by DataStrobe
  moved_by Irq = turned_by Irq
  moved_by IackOut = turned_by IackOut
  moved_by Dtack = turned_by Dtack

  all_moved_by : (ws : List Wire) → All IsOfDriver (flat_map (moves h d) ws)
  all_moved_by [] = All-nil IsOfDriver
  all_moved_by (w ∷ ws) = All-append IsOfDriver (moves h d w) (flat_map (moves h d) ws) (moved_by w) (all_moved_by ws)

open_is_accepted : (b : State) (d : Driver) (e : Edge) → Contains (open_edges b d) e → (e.driver ≡ d) × (verdict b e ≡ Ok tt)
open_is_accepted b d e c =
    let es = flat_map (moves b.history d) (wires d) in
    let test = λ (x : Edge). is_ok (verdict b x) in (
      All-contains (λ x. x.driver ≡ d) (filter test es) e (All-filter test (λ x. x.driver ≡ d) es (all_moved_by b.history d (wires d))) c,
      accepted_of (verdict b e) (All-contains (λ x. test x ≡ true) (filter test es) e (filter_passes test es) c),
    )

pub open_are_all : (b : State) (d : Driver) → IsAllThatIsAllowed b d (open_edges b d)
open_are_all b d e = (λ a. subst (λ x. Contains (open_edges b x) e) a.0 (accepted_is_open b e.driver e.wire e.fall e.value a.1), open_is_accepted b d e)
