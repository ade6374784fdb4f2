-- One more edge moves the marks as it moves what they stand for.
use Rattle.std.proofs.Common.{◌≡◌, ◌∙◌, ℕ, ◌+◌, ◌-◌, ◌^◌, ◌<◌, min, Bool, true, false, List, [], ◌∷◌, length, get_or, set, replicate, Option, Some, None, refl, sym, ap, ap₂, subst, arith}
use Rattle.std.specs.Prelude.{◌==◌, ◌&&◌, if◌then◌else◌}
use Rattle.std.specs.Option.{option_or}
use Rattle.std.proofs.lemmas.List.{get_or-set_same, get_or-set_other, length-set, get_or-replicate, length-replicate}
use Rattle.vme_model.specs.declared.boards.IrqKind.{IrqKind}
use Rattle.vme_model.specs.declared.boards.IrqKind.TheVariants.{Roak, Rora}
use Rattle.vme_model.specs.declared.signals.Driver.{Driver}
use Rattle.vme_model.specs.declared.signals.Driver.TheVariants.{Slot}
use Rattle.vme_model.specs.declared.signals.Wire.{Wire}
use Rattle.vme_model.specs.declared.signals.Wire.TheVariants.{Bbsy, AddressStrobe, DataStrobe, Irq, Dtack}
use Rattle.vme_model.specs.declared.signals.Cycle.{Cycle}
use Rattle.vme_model.specs.declared.signals.Edge.{Edge}
use Rattle.vme_model.specs.Signals.{is_same_driver, is_same_wire, is_edge_of, is_fall_of, is_grant, has_wire}
use Rattle.vme_model.specs.Plan.{Plan}
use Rattle.vme_model.specs.History.{cycles, shown, serves}
use Rattle.vme_model.specs.Numbered.{Numbered, edges_in, since, granted_since, served_since, strobed_at}
use Rattle.vme_model.proofs.Bools.{and_left, and_right, same_number, never}
use Rattle.vme_reasons.specs.Marks.{place, strobe_after, served_after, made_after}
use Rattle.vme_reasons.specs.Marked.{IsMarksOf}
use Rattle.vme_reasons.specs.declared.marks.Marks.{Marks}
use Rattle.vme_reasons.proofs.OnePlace.{place_below, one_place, one_wire, same_drivers, wire_is, driver_is, number_is}

edge_is : (e : Edge) (d : Driver) (w : Wire) → (e.driver ≡ d) × (e.wire ≡ w) → is_edge_of d w e ≡ true
edge_is e d w same =
    subst (λ x. (is_same_wire e.wire w && is_same_driver e.driver x) ≡ true) same.0
    (subst (λ x. (is_same_wire e.wire x && is_same_driver e.driver e.driver) ≡ true) same.1 (rw (wire_is e.wire, driver_is e.driver) refl))

moved_at : (xs : List (Option ℕ)) (k : Numbered) (n : ℕ) (e : Edge) (d : Driver) (w : Wire) → length xs ≡ 198 → has_wire e.driver e.wire ≡ true → has_wire d w ≡ true → get_or xs (place d w) None ≡ since k d w
    → (t : Bool) → is_edge_of d w e ≡ t → get_or (set xs (place e.driver e.wire) (Some n)) (place d w) None ≡ (if t then Some n else since k d w)
moved_at xs k n e d w room has h old true is =
    let wires : e.wire ≡ w = one_wire e.wire w (and_left (is_same_wire e.wire w) (is_same_driver e.driver d) is) in
    let drivers : e.driver ≡ d = same_drivers e.driver d (and_right (is_same_wire e.wire w) (is_same_driver e.driver d) is) in
    let below = place_below e.driver e.wire has in
    subst (λ x. get_or (set xs (place e.driver e.wire) (Some n)) (place x w) None ≡ Some n) drivers
    (subst (λ x. get_or (set xs (place e.driver e.wire) (Some n)) (place e.driver x) None ≡ Some n) wires
    (get_or-set_same xs (place e.driver e.wire) (Some n) None (omega (arith, room, below))))
moved_at xs k n e d w room has h old false is =
    get_or-set_other xs (place e.driver e.wire) (place d w) (Some n) None
    (λ q. never (sym is ∙ edge_is e d w (one_place e.driver d e.wire w has h (sym q)))) ∙ old

pub moved : (xs : List (Option ℕ)) (k : Numbered) (n : ℕ) (e : Edge) → length xs ≡ 198 → has_wire e.driver e.wire ≡ true
    → ((d : Driver) (w : Wire) → has_wire d w ≡ true → get_or xs (place d w) None ≡ since k d w)
    → (d : Driver) (w : Wire) → has_wire d w ≡ true → get_or (set xs (place e.driver e.wire) (Some n)) (place d w) None ≡ since ((n, e) ∷ k) d w
moved xs k n e room has old d w h = moved_at xs k n e d w room has h (old d w h) (is_edge_of d w e) refl

first : (t : Bool) (a b : Option ℕ) → t ≡ true → (if t then a else b) ≡ a
first true a b h = refl
first false a b h = cc

or_nothing : (o : Option ℕ) → option_or o None ≡ o
or_nothing None = refl
or_nothing (Some n) = refl

abbrev fall_of : ℕ → Wire → Option Cycle → Edge
fall_of s w v = record { driver = Slot s; wire = w; fall = true; value = v }

-- a fall of the board's own wire
strobe_fell : (k : Numbered) (n s : ℕ) (w : Wire) (v : Option Cycle) → strobed_at ((n, fall_of s w v) ∷ k) (Slot s) ≡ strobe_after w n (strobed_at k (Slot s))
strobe_fell k n s AddressStrobe v = first (s == s) None _ (number_is s)
strobe_fell k n s DataStrobe v = first (s == s) (Some n) _ (number_is s)
strobe_fell k n s w v = refl

served_fell : (p : Plan) (k : Numbered) (n s : ℕ) (w : Wire) (v : Option Cycle) (kind : IrqKind) → served_since p ((n, fall_of s w v) ∷ k) (Slot s) kind ≡ served_after kind w n (shown p (edges_in k)) (served_since p k (Slot s) kind)
served_fell p k n s Irq v kind = first (s == s) None _ (number_is s)
served_fell p k n s Dtack v kind =
    ap (λ t. option_or (served_since p k (Slot s) kind) (if t && serves kind (shown p (edges_in k)) then Some n else None)) (number_is s)
served_fell p k n s w v kind = or_nothing (served_since p k (Slot s) kind)

-- an edge that is no fall of the board
pub no_fall : (e : Edge) (s : ℕ) (w : Wire) → (e.fall && is_same_driver e.driver (Slot s)) ≡ false → is_fall_of (Slot s) w e ≡ false
no_fall e s w h = of_both e.fall (is_same_wire e.wire w) (is_same_driver e.driver (Slot s)) h
  where
    of_both : (a b c : Bool) → (a && c) ≡ false → (a && (b && c)) ≡ false
    of_both true true c h = h
    of_both true false c h = refl
    of_both false b c h = refl

stays_strobe : (t u : Bool) (n : ℕ) (o : Option ℕ) → t ≡ false → u ≡ false → (if t then None else (if u then Some n else o)) ≡ o
stays_strobe true u n o h g = cc
stays_strobe false true n o h g = cc
stays_strobe false false n o h g = refl

stays_served : (t u x : Bool) (n : ℕ) (o : Option ℕ) → t ≡ false → u ≡ false → (if t then None else option_or o (if u && x then Some n else None)) ≡ o
stays_served true u x n o h g = cc
stays_served false true x n o h g = cc
stays_served false false x n o h g = or_nothing o

pub strobe_stays : (k : Numbered) (n s : ℕ) (e : Edge) → (e.fall && is_same_driver e.driver (Slot s)) ≡ false → strobed_at ((n, e) ∷ k) (Slot s) ≡ strobed_at k (Slot s)
strobe_stays k n s e h =
    stays_strobe (is_fall_of (Slot s) AddressStrobe e) (is_fall_of (Slot s) DataStrobe e) n (strobed_at k (Slot s)) (no_fall e s AddressStrobe h) (no_fall e s DataStrobe h)

pub served_stays : (p : Plan) (k : Numbered) (n s : ℕ) (e : Edge) (kind : IrqKind) → (e.fall && is_same_driver e.driver (Slot s)) ≡ false → served_since p ((n, e) ∷ k) (Slot s) kind ≡ served_since p k (Slot s) kind
served_stays p k n s e kind h =
    stays_served (is_fall_of (Slot s) Irq e) (is_fall_of (Slot s) Dtack e) (serves kind (shown p (edges_in k))) n (served_since p k (Slot s) kind) (no_fall e s Irq h) (no_fall e s Dtack h)

other_slot : (s t : ℕ) → (t ≡ s → ⊥) → (t == s) ≡ false
other_slot s t h = of_test (t == s) (λ e. h (same_number t s e))
  where
    of_test : (b : Bool) → (b ≡ true → ⊥) → b ≡ false
    of_test true f = absurd (f refl)
    of_test false f = refl

-- a list of boards' numbers after a fall of the board of slot t
fell_at : (xs : List (Option ℕ)) (t s : ℕ) (f : Option ℕ → Option ℕ) (old new : ℕ → Option ℕ) → length xs ≡ 22 → t < 22 → ((x : ℕ) → x < 22 → get_or xs x None ≡ old x) → new t ≡ f (old t) → ((x : ℕ) → (t == x) ≡ false → new x ≡ old x) → s < 22
    → (b : Bool) → (t == s) ≡ b → get_or (set xs t (f (get_or xs t None))) s None ≡ new s
fell_at xs t s f old new room low was own others lt true is =
    subst (λ x. get_or (set xs t (f (get_or xs t None))) x None ≡ new x) (same_number t s is)
    (get_or-set_same xs t (f (get_or xs t None)) None (omega (arith, room, low)) ∙ ap f (was t low) ∙ sym own)
fell_at xs t s f old new room low was own others lt false is =
    get_or-set_other xs t s (f (get_or xs t None)) None (λ q. never (sym is ∙ subst (λ x. (t == x) ≡ true) (sym q) (number_is t))) ∙ was s lt ∙ sym (others s is)

pub strobes_fell : (xs : List (Option ℕ)) (k : Numbered) (n t : ℕ) (w : Wire) (v : Option Cycle) → length xs ≡ 22 → t < 22 → ((s : ℕ) → s < 22 → get_or xs s None ≡ strobed_at k (Slot s))
    → (s : ℕ) → s < 22 → get_or (set xs t (strobe_after w n (get_or xs t None))) s None ≡ strobed_at ((n, fall_of t w v) ∷ k) (Slot s)
strobes_fell xs k n t w v room low was s lt =
    fell_at xs t s (strobe_after w n) (λ x. strobed_at k (Slot x)) (λ x. strobed_at ((n, fall_of t w v) ∷ k) (Slot x)) room low was (strobe_fell k n t w v)
    (λ x is. strobe_stays k n x (fall_of t w v) is) lt (t == s) refl

pub services_fell : (p : Plan) (xs : List (Option ℕ)) (k : Numbered) (n t : ℕ) (w : Wire) (v u : Option Cycle) (kind : IrqKind) → u ≡ shown p (edges_in k) → length xs ≡ 22 → t < 22 → ((s : ℕ) → s < 22 → get_or xs s None ≡ served_since p k (Slot s) kind)
    → (s : ℕ) → s < 22 → get_or (set xs t (served_after kind w n u (get_or xs t None))) s None ≡ served_since p ((n, fall_of t w v) ∷ k) (Slot s) kind
services_fell p xs k n t w v u kind here room low was s lt =
    fell_at xs t s (served_after kind w n u) (λ x. served_since p k (Slot x) kind) (λ x. served_since p ((n, fall_of t w v) ∷ k) (Slot x) kind) room low was
    (served_fell p k n t w v kind ∙ ap (λ x. served_after kind w n x (served_since p k (Slot t) kind)) (sym here))
    (λ x is. served_stays p k n x (fall_of t w v) kind is) lt (t == s) refl

first_count : (t : Bool) (a b : ℕ) → t ≡ true → (if t then a else b) ≡ a
first_count true a b h = refl
first_count false a b h = cc

next_count : (m c : ℕ) → 1 + c < 2 ^ 64 → m ≡ c → min (m + 1) (2 ^ 64 - 1) ≡ 1 + c
next_count m c h e = omega (arith, h, e)

stays_count : (t u : Bool) (c : ℕ) → t ≡ false → u ≡ false → (if t then 0 else (if u then 1 else 0) + c) ≡ c
stays_count true u c h g = cc
stays_count false true c h g = cc
stays_count false false c h g = omega arith

-- the count of the board's own fall
counted : (h : List Edge) (t : ℕ) (w : Wire) (v : Option Cycle) (m : ℕ) → (cycles h (Slot t) < 2 ^ 64 → m ≡ cycles h (Slot t)) → cycles (fall_of t w v ∷ h) (Slot t) < 2 ^ 64 → made_after w m ≡ cycles (fall_of t w v ∷ h) (Slot t)
counted h t Bbsy v m was below = sym (first_count (t == t) 0 _ (number_is t))
counted h t AddressStrobe v m was below =
    let more : cycles (fall_of t AddressStrobe v ∷ h) (Slot t) ≡ 1 + cycles h (Slot t) = ap (λ b. (if b then 1 else 0) + cycles h (Slot t)) (number_is t) in
    let bound : 1 + cycles h (Slot t) < 2 ^ 64 = subst (λ c. c < 2 ^ 64) more below in
    next_count m (cycles h (Slot t)) bound (was (omega (arith, bound))) ∙ sym more
counted h t w v m was below =
    let same : 0 + cycles h (Slot t) ≡ cycles h (Slot t) = omega arith in
    was (subst (λ c. c < 2 ^ 64) same below) ∙ sym same

cycles_stay : (h : List Edge) (s : ℕ) (e : Edge) → (e.fall && is_same_driver e.driver (Slot s)) ≡ false → cycles (e ∷ h) (Slot s) ≡ cycles h (Slot s)
cycles_stay h s e g =
    stays_count (is_fall_of (Slot s) Bbsy e) (is_fall_of (Slot s) AddressStrobe e) (cycles h (Slot s)) (no_fall e s Bbsy g) (no_fall e s AddressStrobe g)

counts_at : (xs : List ℕ) (h : List Edge) (t s : ℕ) (w : Wire) (v : Option Cycle) → length xs ≡ 22 → t < 22 → ((x : ℕ) → x < 22 → cycles h (Slot x) < 2 ^ 64 → get_or xs x 0 ≡ cycles h (Slot x)) → s < 22
    → cycles (fall_of t w v ∷ h) (Slot s) < 2 ^ 64 → (b : Bool) → (t == s) ≡ b → get_or (set xs t (made_after w (get_or xs t 0))) s 0 ≡ cycles (fall_of t w v ∷ h) (Slot s)
counts_at xs h t s w v room low was lt below true is =
    let same : t ≡ s = same_number t s is in
    subst (λ x. get_or (set xs t (made_after w (get_or xs t 0))) x 0 ≡ cycles (fall_of t w v ∷ h) (Slot x)) same
    (get_or-set_same xs t (made_after w (get_or xs t 0)) 0 (omega (arith, room, low))
    ∙ counted h t w v (get_or xs t 0) (was t low) (subst (λ x. cycles (fall_of t w v ∷ h) (Slot x) < 2 ^ 64) (sym same) below))
counts_at xs h t s w v room low was lt below false is =
    let stay = cycles_stay h s (fall_of t w v) is in
    get_or-set_other xs t s (made_after w (get_or xs t 0)) 0 (λ q. never (sym is ∙ subst (λ x. (t == x) ≡ true) (sym q) (number_is t)))
    ∙ was s lt (subst (λ c. c < 2 ^ 64) stay below) ∙ sym stay

-- what a fall of the board of slot t leaves of the marks
pub record Falls (e : Edge) (t n : ℕ) (u : Option Cycle) (m after : Marks) : Type 0 where
  pub driver : e.driver ≡ Slot t
  pub fall : e.fall ≡ true
  pub low : t < 22
  pub strobes : after.strobes ≡ set m.strobes t (strobe_after e.wire n (get_or m.strobes t None))
  pub acknowledged : after.acknowledged ≡ set m.acknowledged t (served_after Roak e.wire n u (get_or m.acknowledged t None))
  pub accessed : after.accessed ≡ set m.accessed t (served_after Rora e.wire n u (get_or m.accessed t None))
  pub made : after.made ≡ set m.made t (made_after e.wire (get_or m.made t 0))

-- what each edge leaves of the others
pub record Moves (e : Edge) (n : ℕ) (m after : Marks) : Type 0 where
  pub moves : after.moves ≡ set m.moves (place e.driver e.wire) (Some n)
  pub grant : after.grant ≡ (if is_grant e then Some n else m.grant)

room_set : {X : Type 0} (xs ys : List X) (i n : ℕ) (a : X) → ys ≡ set xs i a → length xs ≡ n → length ys ≡ n
room_set xs ys i n a e h = ap length e ∙ length-set xs i a ∙ h

edge_of : (e : Edge) (t : ℕ) → e.driver ≡ Slot t → e.fall ≡ true → fall_of t e.wire e.value ≡ e
edge_of e t d f = ap₂ (λ x y. record { driver = x; wire = e.wire; fall = y; value = e.value }) (sym d) (sym f)

grant_moves : (k : Numbered) (n : ℕ) (e : Edge) (g h : Option ℕ) → h ≡ (if is_grant e then Some n else g) → g ≡ granted_since k → h ≡ granted_since ((n, e) ∷ k)
grant_moves k n e g h now was = now ∙ ap (λ x. if is_grant e then Some n else x) was

pub marks_of_fall : (p : Plan) (k : Numbered) (n t : ℕ) (e : Edge) (u : Option Cycle) (m after : Marks) → has_wire e.driver e.wire ≡ true → IsMarksOf p k m → u ≡ shown p (edges_in k) → Moves e n m after → Falls e t n u m after → IsMarksOf p ((n, e) ∷ k) after
marks_of_fall p k n t e u m after has of here moves falls =
    let is = edge_of e t falls.driver falls.fall in
    record {
      wires = room_set m.moves after.moves _ 198 _ moves.moves of.wires;
      boards = (room_set m.strobes after.strobes t 22 _ falls.strobes of.boards.0, room_set m.acknowledged after.acknowledged t 22 _ falls.acknowledged of.boards.1, room_set m.accessed after.accessed t 22 _ falls.accessed of.boards.2, room_set m.made after.made t 22 _ falls.made of.boards.3);
      moves = λ d w h. ap (λ xs. get_or xs (place d w) None) moves.moves ∙ moved m.moves k n e of.wires has of.moves d w h;
      grant = grant_moves k n e m.grant after.grant moves.grant of.grant;
      strobes = λ s lt. ap (λ xs. get_or xs s None) falls.strobes ∙ strobes_fell m.strobes k n t e.wire e.value of.boards.0 falls.low of.strobes s lt ∙ ap (λ x. strobed_at ((n, x) ∷ k) (Slot s)) is;
      acknowledged = λ s lt. ap (λ xs. get_or xs s None) falls.acknowledged ∙ services_fell p m.acknowledged k n t e.wire e.value u Roak here of.boards.1 falls.low of.acknowledged s lt ∙ ap (λ x. served_since p ((n, x) ∷ k) (Slot s) Roak) is;
      accessed = λ s lt. ap (λ xs. get_or xs s None) falls.accessed ∙ services_fell p m.accessed k n t e.wire e.value u Rora here of.boards.2 falls.low of.accessed s lt ∙ ap (λ x. served_since p ((n, x) ∷ k) (Slot s) Rora) is;
      made = λ s lt below.
          ap (λ xs. get_or xs s 0) falls.made
          ∙ counts_at m.made (edges_in k) t s e.wire e.value of.boards.3 falls.low of.made lt (subst (λ x. cycles (x ∷ edges_in k) (Slot s) < 2 ^ 64) (sym is) below) (t == s) refl
          ∙ ap (λ x. cycles (x ∷ edges_in k) (Slot s)) is;
    }

-- an edge that is no fall of a board leaves the numbers of all boards
pub record Leaves (m after : Marks) : Type 0 where
  pub strobes : after.strobes ≡ m.strobes
  pub acknowledged : after.acknowledged ≡ m.acknowledged
  pub accessed : after.accessed ≡ m.accessed
  pub made : after.made ≡ m.made

pub marks_of_other : (p : Plan) (k : Numbered) (n : ℕ) (e : Edge) (m after : Marks) → has_wire e.driver e.wire ≡ true → IsMarksOf p k m → Moves e n m after → Leaves m after → ((s : ℕ) → (e.fall && is_same_driver e.driver (Slot s)) ≡ false) → IsMarksOf p ((n, e) ∷ k) after
marks_of_other p k n e m after has of moves leaves no_own = record {
  wires = room_set m.moves after.moves _ 198 _ moves.moves of.wires;
  boards = (ap length leaves.strobes ∙ of.boards.0, ap length leaves.acknowledged ∙ of.boards.1, ap length leaves.accessed ∙ of.boards.2, ap length leaves.made ∙ of.boards.3);
  moves = λ d w h. ap (λ xs. get_or xs (place d w) None) moves.moves ∙ moved m.moves k n e of.wires has of.moves d w h;
  grant = grant_moves k n e m.grant after.grant moves.grant of.grant;
  strobes = λ s lt. ap (λ xs. get_or xs s None) leaves.strobes ∙ of.strobes s lt ∙ sym (strobe_stays k n s e (no_own s));
  acknowledged = λ s lt. ap (λ xs. get_or xs s None) leaves.acknowledged ∙ of.acknowledged s lt ∙ sym (served_stays p k n s e Roak (no_own s));
  accessed = λ s lt. ap (λ xs. get_or xs s None) leaves.accessed ∙ of.accessed s lt ∙ sym (served_stays p k n s e Rora (no_own s));
  made = λ s lt below.
      let stay = cycles_stay (edges_in k) s e (no_own s) in
      ap (λ xs. get_or xs s 0) leaves.made ∙ of.made s lt (subst (λ c. c < 2 ^ 64) stay below) ∙ sym stay;
}

pub nothing : (p : Plan) (m : Marks) → m.moves ≡ replicate 198 None → m.grant ≡ None → m.strobes ≡ replicate 22 None → m.acknowledged ≡ replicate 22 None → m.accessed ≡ replicate 22 None → m.made ≡ replicate 22 0 → IsMarksOf p [] m
nothing p m moves grant strobes acknowledged accessed made = record {
  wires = ap length moves ∙ length-replicate {A = Option ℕ} 198 None;
  boards = (ap length strobes ∙ length-replicate {A = Option ℕ} 22 None, ap length acknowledged ∙ length-replicate {A = Option ℕ} 22 None, ap length accessed ∙ length-replicate {A = Option ℕ} 22 None, ap length made ∙ length-replicate {A = ℕ} 22 0);
  moves = λ d w h. ap (λ xs. get_or xs (place d w) None) moves ∙ get_or-replicate {A = Option ℕ} 198 (place d w) None None (place_below d w h);
  grant = grant;
  strobes = λ s lt. ap (λ xs. get_or xs s None) strobes ∙ get_or-replicate {A = Option ℕ} 22 s None None lt;
  acknowledged = λ s lt. ap (λ xs. get_or xs s None) acknowledged ∙ get_or-replicate {A = Option ℕ} 22 s None None lt;
  accessed = λ s lt. ap (λ xs. get_or xs s None) accessed ∙ get_or-replicate {A = Option ℕ} 22 s None None lt;
  made = λ s lt below. ap (λ xs. get_or xs s 0) made ∙ get_or-replicate {A = ℕ} 22 s 0 0 lt;
}
