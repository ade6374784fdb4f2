-- One more edge moves the marks as it moves what they stand for.
use Rattle.std.proofs.Common.{◌≡◌, ◌∙◌, ℕ, ◌<◌, Bool, true, false, List, ◌∷◌, length, get_or, set, Option, Some, None, refl, sym, ap, subst, arith}
use Rattle.std.specs.Prelude.{◌==◌, ◌&&◌, if◌then◌else◌}
use Rattle.std.specs.Option.{option_or}
use Rattle.std.proofs.lemmas.List.{get_or-set_same, get_or-set_other}
use Rattle.vme_model.specs.declared.boards.IrqKind.{IrqKind}
use Rattle.vme_model.specs.declared.signals.Driver.{Driver}
use Rattle.vme_model.specs.declared.signals.Driver.TheVariants.{Slot}
use Rattle.vme_model.specs.declared.signals.Wire.{Wire}
use Rattle.vme_model.specs.declared.signals.Wire.TheVariants.{Bg, Bclr, Iack, Berr, Br, BgOut, Bbsy, Addr, AddressStrobe, DataStrobe, Irq, IackOut, Dtack}
use Rattle.vme_model.specs.declared.signals.Cycle.{Cycle}
use Rattle.vme_model.specs.declared.signals.Edge.{Edge}
use Rattle.vme_model.specs.Signals.{is_same_driver, is_same_wire, is_edge_of, is_fall_of, has_wire}
use Rattle.vme_model.specs.Plan.{Plan}
use Rattle.vme_model.specs.History.{shown, serves}
use Rattle.vme_model.specs.Numbered.{Numbered, edges_in, since, served_since, strobed_at}
use Rattle.vme_model.proofs.Bools.{and_left, and_right, same_number, never}
use Rattle.vme_marks.specs.Marks.{place, strobe_after, served_after}
use Rattle.vme_marks.proofs.Places.{place_below, one_place, one_wire, same_drivers, wire_is, driver_is, number_is}

edge_is : (e : Edge) (d : Driver) (w : Wire) → (e.driver ≡ d) × (e.wire ≡ w) → is_edge_of d w e ≡ true
edge_is e d w same =
    subst (λ x. (is_same_wire e.wire w && is_same_driver e.driver x) ≡ true) same.0
    (subst (λ x. (is_same_wire e.wire x && is_same_driver e.driver e.driver) ≡ true) same.1 (rw (wire_is e.wire, driver_is e.driver) refl))

moved_at : (xs : List (Option ℕ)) (k : Numbered) (n : ℕ) (e : Edge) (d : Driver) (w : Wire) → length xs ≡ 198 → has_wire e.driver e.wire ≡ true → has_wire d w ≡ true → get_or xs (place d w) None ≡ since k d w
    → (t : Bool) → is_edge_of d w e ≡ t → get_or (set xs (place e.driver e.wire) (Some n)) (place d w) None ≡ (if t then Some n else since k d w)
moved_at xs k n e d w room has h old true is =
    let wires : e.wire ≡ w = one_wire e.wire w (and_left (is_same_wire e.wire w) (is_same_driver e.driver d) is) in
    let drivers : e.driver ≡ d = same_drivers e.driver d (and_right (is_same_wire e.wire w) (is_same_driver e.driver d) is) in
    let below = place_below e.driver e.wire has in
    subst (λ x. get_or (set xs (place e.driver e.wire) (Some n)) (place x w) None ≡ Some n) drivers
    (subst (λ x. get_or (set xs (place e.driver e.wire) (Some n)) (place e.driver x) None ≡ Some n) wires
    (get_or-set_same xs (place e.driver e.wire) (Some n) None (omega (arith, room, below))))
moved_at xs k n e d w room has h old false is =
    get_or-set_other xs (place e.driver e.wire) (place d w) (Some n) None
    (λ q. never (sym is ∙ edge_is e d w (one_place e.driver d e.wire w has h (sym q)))) ∙ old

pub moved : (xs : List (Option ℕ)) (k : Numbered) (n : ℕ) (e : Edge) → length xs ≡ 198 → has_wire e.driver e.wire ≡ true
    → ((d : Driver) (w : Wire) → has_wire d w ≡ true → get_or xs (place d w) None ≡ since k d w)
    → (d : Driver) (w : Wire) → has_wire d w ≡ true → get_or (set xs (place e.driver e.wire) (Some n)) (place d w) None ≡ since ((n, e) ∷ k) d w
moved xs k n e room has old d w h = moved_at xs k n e d w room has h (old d w h) (is_edge_of d w e) refl

first : (t : Bool) (a b : Option ℕ) → t ≡ true → (if t then a else b) ≡ a
first true a b h = refl
first false a b h = cc

or_nothing : (o : Option ℕ) → option_or o None ≡ o
or_nothing None = refl
or_nothing (Some n) = refl

abbrev fall_of : ℕ → Wire → Option Cycle → Edge
fall_of s w v = record { driver = Slot s; wire = w; fall = true; value = v }

-- a fall of the board's own wire
strobe_fell : (k : Numbered) (n s : ℕ) (w : Wire) (v : Option Cycle) → strobed_at ((n, fall_of s w v) ∷ k) (Slot s) ≡ strobe_after w n (strobed_at k (Slot s))
strobe_fell k n s AddressStrobe v = first (s == s) None _ (number_is s)
strobe_fell k n s DataStrobe v = first (s == s) (Some n) _ (number_is s)
strobe_fell k n s w v = refl

served_fell : (p : Plan) (k : Numbered) (n s : ℕ) (w : Wire) (v : Option Cycle) (kind : IrqKind) → served_since p ((n, fall_of s w v) ∷ k) (Slot s) kind ≡ served_after kind w n (shown p (edges_in k)) (served_since p k (Slot s) kind)
served_fell p k n s Irq v kind = first (s == s) None _ (number_is s)
served_fell p k n s Dtack v kind =
    ap (λ t. option_or (served_since p k (Slot s) kind) (if t && serves kind (shown p (edges_in k)) then Some n else None)) (number_is s)
served_fell p k n s w v kind = or_nothing (served_since p k (Slot s) kind)

-- an edge that is no fall of the board
pub no_fall : (e : Edge) (s : ℕ) (w : Wire) → (e.fall && is_same_driver e.driver (Slot s)) ≡ false → is_fall_of (Slot s) w e ≡ false
no_fall e s w h = of_both e.fall (is_same_wire e.wire w) (is_same_driver e.driver (Slot s)) h
  where
    of_both : (a b c : Bool) → (a && c) ≡ false → (a && (b && c)) ≡ false
    of_both true true c h = h
    of_both true false c h = refl
    of_both false b c h = refl

stays_strobe : (t u : Bool) (n : ℕ) (o : Option ℕ) → t ≡ false → u ≡ false → (if t then None else (if u then Some n else o)) ≡ o
stays_strobe true u n o h g = cc
stays_strobe false true n o h g = cc
stays_strobe false false n o h g = refl

stays_served : (t u x : Bool) (n : ℕ) (o : Option ℕ) → t ≡ false → u ≡ false → (if t then None else option_or o (if u && x then Some n else None)) ≡ o
stays_served true u x n o h g = cc
stays_served false true x n o h g = cc
stays_served false false x n o h g = or_nothing o

pub strobe_stays : (k : Numbered) (n s : ℕ) (e : Edge) → (e.fall && is_same_driver e.driver (Slot s)) ≡ false → strobed_at ((n, e) ∷ k) (Slot s) ≡ strobed_at k (Slot s)
strobe_stays k n s e h =
    stays_strobe (is_fall_of (Slot s) AddressStrobe e) (is_fall_of (Slot s) DataStrobe e) n (strobed_at k (Slot s)) (no_fall e s AddressStrobe h) (no_fall e s DataStrobe h)

pub served_stays : (p : Plan) (k : Numbered) (n s : ℕ) (e : Edge) (kind : IrqKind) → (e.fall && is_same_driver e.driver (Slot s)) ≡ false → served_since p ((n, e) ∷ k) (Slot s) kind ≡ served_since p k (Slot s) kind
served_stays p k n s e kind h =
    stays_served (is_fall_of (Slot s) Irq e) (is_fall_of (Slot s) Dtack e) (serves kind (shown p (edges_in k))) n (served_since p k (Slot s) kind) (no_fall e s Irq h) (no_fall e s Dtack h)

other_slot : (s t : ℕ) → (t ≡ s → ⊥) → (t == s) ≡ false
other_slot s t h = of_test (t == s) (λ e. h (same_number t s e))
  where
    of_test : (b : Bool) → (b ≡ true → ⊥) → b ≡ false
    of_test true f = absurd (f refl)
    of_test false f = refl

-- a list of boards' numbers after a fall of the board of slot t
fell_at : (xs : List (Option ℕ)) (t s : ℕ) (f : Option ℕ → Option ℕ) (old new : ℕ → Option ℕ) → length xs ≡ 22 → t < 22 → ((x : ℕ) → x < 22 → get_or xs x None ≡ old x) → new t ≡ f (old t) → ((x : ℕ) → (t == x) ≡ false → new x ≡ old x) → s < 22
    → (b : Bool) → (t == s) ≡ b → get_or (set xs t (f (get_or xs t None))) s None ≡ new s
fell_at xs t s f old new room low was own others lt true is =
    subst (λ x. get_or (set xs t (f (get_or xs t None))) x None ≡ new x) (same_number t s is)
    (get_or-set_same xs t (f (get_or xs t None)) None (omega (arith, room, low)) ∙ ap f (was t low) ∙ sym own)
fell_at xs t s f old new room low was own others lt false is =
    get_or-set_other xs t s (f (get_or xs t None)) None (λ q. never (sym is ∙ subst (λ x. (t == x) ≡ true) (sym q) (number_is t))) ∙ was s lt ∙ sym (others s is)

pub strobes_fell : (xs : List (Option ℕ)) (k : Numbered) (n t : ℕ) (w : Wire) (v : Option Cycle) → length xs ≡ 22 → t < 22 → ((s : ℕ) → s < 22 → get_or xs s None ≡ strobed_at k (Slot s))
    → (s : ℕ) → s < 22 → get_or (set xs t (strobe_after w n (get_or xs t None))) s None ≡ strobed_at ((n, fall_of t w v) ∷ k) (Slot s)
strobes_fell xs k n t w v room low was s lt =
    fell_at xs t s (strobe_after w n) (λ x. strobed_at k (Slot x)) (λ x. strobed_at ((n, fall_of t w v) ∷ k) (Slot x)) room low was (strobe_fell k n t w v)
    (λ x is. strobe_stays k n x (fall_of t w v) is) lt (t == s) refl

pub services_fell : (p : Plan) (xs : List (Option ℕ)) (k : Numbered) (n t : ℕ) (w : Wire) (v u : Option Cycle) (kind : IrqKind) → u ≡ shown p (edges_in k) → length xs ≡ 22 → t < 22 → ((s : ℕ) → s < 22 → get_or xs s None ≡ served_since p k (Slot s) kind)
    → (s : ℕ) → s < 22 → get_or (set xs t (served_after kind w n u (get_or xs t None))) s None ≡ served_since p ((n, fall_of t w v) ∷ k) (Slot s) kind
services_fell p xs k n t w v u kind here room low was s lt =
    fell_at xs t s (served_after kind w n u) (λ x. served_since p k (Slot x) kind) (λ x. served_since p ((n, fall_of t w v) ∷ k) (Slot x) kind) room low was
    (served_fell p k n t w v kind ∙ ap (λ x. served_after kind w n x (served_since p k (Slot t) kind)) (sym here))
    (λ x is. served_stays p k n x (fall_of t w v) kind is) lt (t == s) refl
