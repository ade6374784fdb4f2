-- The verdict on an edge depends on what its driver saw.
use mathlib.Core.Path.{fun_ext}
use Rattle.std.proofs.Common.{◌≡◌, ℕ, zero, suc, ◌+◌, ◌≤◌, ◌<◌, Bool, true, false, List, [], ◌∷◌, Option, Some, None, Result, Ok, refl, sym, ap, ◌∙◌, arith}
use Rattle.std.specs.Prelude.{◌&&◌, ◌||◌, ◌==◌, if◌then◌else◌}
use Rattle.std.specs.List.{list_all}
use Rattle.std.specs.Option.{option_map_or, IfSome}
use Rattle.vme_model.specs.declared.boards.Row.{Row}
use Rattle.vme_model.specs.declared.boards.RequesterRow.{RequesterRow}
use Rattle.vme_model.specs.declared.boards.InterrupterRow.{InterrupterRow}
use Rattle.vme_model.specs.declared.boards.IrqKind.{IrqKind}
use Rattle.vme_model.specs.declared.pins.Pins.{Pins}
use Rattle.vme_model.specs.declared.refusals.Refused.{Refused}
use Rattle.vme_model.specs.declared.refusals.Refused.TheVariants.{NoSuchDriver, AlreadyThere, Rule, NotSettled}
use Rattle.vme_model.specs.declared.signals.Version.{Version}
use Rattle.vme_model.specs.declared.signals.Version.TheVariants.{One, Two}
use Rattle.vme_model.specs.declared.signals.Edge.{Edge}
use Rattle.vme_model.specs.declared.signals.Cycle.{Cycle}
use Rattle.vme_model.specs.declared.signals.Driver.{Driver}
use Rattle.vme_model.specs.declared.signals.Driver.TheVariants.{Controller, Slot}
use Rattle.vme_model.specs.declared.signals.Wire.{Wire}
use Rattle.vme_model.specs.declared.signals.Wire.TheVariants.{Bg, Bclr, Berr, Bbsy, AddressStrobe, DataStrobe, Irq, Dtack}
use Rattle.vme_model.specs.Signals.{is_same_driver, is_same_wire, is_edge_of, is_fall_of, is_grant, is_grant_wire, grant_level, has_wire, has_value, is_well_formed}
use Rattle.vme_model.specs.Sets.{bus_levels, irq_levels}
use Rattle.vme_model.specs.Plan.{Plan, board_of, has_driver}
use Rattle.vme_model.specs.Accepted.{IsAccepted}
use Rattle.vme_model.specs.History.{drive, last_level, cycles, has_strobed, served_since_request, serves, shown, pulls_request, request_line, pulls_interrupt, interrupt_line}
use Rattle.vme_model.specs.Readings.{Readings, readings, readings_of_pins, is_served}
use Rattle.vme_model.specs.Rules.{rule}
use Rattle.vme_model.specs.Settling.{settling}
use Rattle.vme_model.specs.Views.{pins, noted}
use Rattle.vme_model.specs.Verdict.{IsLegal, verdict_but_full, check, is_other_state}
use Rattle.vme_model.specs.Locality.{is_settled_by_others, AreWellFormed, IsLocal}
use Rattle.vme_model.proofs.Bools.{and_left, and_right, is_false, same_number}
use Rattle.vme_model.proofs.Bits.{bits, seven_bits}
use Rattle.vme_model.proofs.Ranges.{IsRowInRange, IsInRange, in_range}
use Rattle.vme_model.proofs.Members.{some_row}
use Rattle.vme_model.proofs.AllowedEdges.{checked}

-- a fold over the own edges
abbrev fold_own : {A : Type 0} → (Edge → Pins → A → A) → A → List (Edge × Pins) → A
fold_own G z [] = z
fold_own G z (x ∷ xs) = G x.0 x.1 (fold_own G z xs)

-- what goes over own edges alone
record IsOwn {A : Type 0} (p : Plan) (d : Driver) (F : List Edge → A) (G : Edge → Pins → A → A) (z : A) : Type 0 where
  start : F [] ≡ z
  takes : (e : Edge) (h : List Edge) → F (e ∷ h) ≡ G e (pins p h d) (F h)
  skips : (e : Edge) (h : List Edge) → is_well_formed e ≡ true → is_same_driver e.driver d ≡ false → F (e ∷ h) ≡ F h

folds : {A : Type 0} (p : Plan) (d : Driver) (F : List Edge → A) (G : Edge → Pins → A → A) (z : A) → IsOwn p d F G z → (h : List Edge) → AreWellFormed h → F h ≡ fold_own G z (noted p h d)
folds p d F G z i [] l = i.start
folds p d F G z i (e ∷ h) l = go (is_same_driver e.driver d) refl (folds p d F G z i h (and_right (is_well_formed e) _ l))
  where
    go : (b : Bool) → is_same_driver e.driver d ≡ b → F h ≡ fold_own G z (noted p h d) → F (e ∷ h) ≡ fold_own G z (if b then (e, pins p h d) ∷ noted p h d else noted p h d)
    go true f r = i.takes e h ∙ ap (G e (pins p h d)) r
    go false f r = i.skips e h (and_left (is_well_formed e) _ l) f ∙ r

-- the value is the same in histories with the same own edges
same_own : {A : Type 0} (p : Plan) (d : Driver) (F : List Edge → A) (G : Edge → Pins → A → A) (z : A) → IsOwn p d F G z → (h k : List Edge) → AreWellFormed h → AreWellFormed k → noted p h d
    ≡ noted p k d → F h ≡ F k
same_own p d F G z i h k l m e = folds p d F G z i h l ∙ ap (fold_own G z) e ∙ sym (folds p d F G z i k m)

and_false : (a b : Bool) → b ≡ false → (a && b) ≡ false
and_false true b e = e
and_false false b e = refl

not_own : (d : Driver) (w : Wire) (e : Edge) → is_same_driver e.driver d ≡ false → is_edge_of d w e ≡ false
not_own d w e f = and_false (is_same_wire e.wire w) (is_same_driver e.driver d) f

no_fall : (d : Driver) (w : Wire) (e : Edge) → is_same_driver e.driver d ≡ false → is_fall_of d w e ≡ false
no_fall d w e f = and_false e.fall (is_edge_of d w e) (not_own d w e f)

own_drive : (p : Plan) (d : Driver) (w : Wire) → IsOwn p d (λ h. drive h d w) (λ e s x. if is_edge_of d w e then e.fall else x) false
own_drive p d w = record {
  start = refl;
  takes = λ e h. refl;
  skips = λ e h l f. ap (λ b. if b then e.fall else drive h d w) (not_own d w e f);
}

own_strobed : (p : Plan) (d : Driver) → IsOwn p d (λ h. has_strobed h d) (λ e t x. if is_fall_of d AddressStrobe e then false else (is_fall_of d DataStrobe e || x)) false
own_strobed p d = record {
  start = refl;
  takes = λ e h. refl;
  skips = λ e h l f. ap (λ b. if b then false else (is_fall_of d DataStrobe e || has_strobed h d)) (no_fall d AddressStrobe e f) ∙ ap (λ b. b || has_strobed h d) (no_fall d DataStrobe e f);
}

own_cycles : (p : Plan) (d : Driver) → IsOwn p d (λ h. cycles h d) (λ e t x. if is_fall_of d Bbsy e then 0 else (if is_fall_of d AddressStrobe e then 1 else 0) + x) 0
own_cycles p d = record {
  start = refl;
  takes = λ e h. refl;
  skips = λ e h l f. ap (λ b. if b then 0 else (if is_fall_of d AddressStrobe e then 1 else 0) + cycles h d) (no_fall d Bbsy e f)
      ∙ (ap (λ b. (if b then 1 else 0) + cycles h d) (no_fall d AddressStrobe e f) ∙ none (cycles h d));
}
  where
    none : (n : ℕ) → 0 + n ≡ n
    none n = omega arith

own_served : (p : Plan) (d : Driver) (kind : IrqKind) → IsOwn p d (λ h. served_since_request p h d kind) (λ e t x. if is_fall_of d Irq e then
    false else ((is_fall_of d Dtack e && serves kind t.shown) || x)) false
own_served p d kind = record {
  start = refl;
  takes = λ e h. refl;
  skips = λ e h l f. ap (λ b. if b then false else ((is_fall_of d Dtack e && serves kind (shown p h)) || served_since_request p h d kind)) (no_fall d Irq e f)
      ∙ ap (λ b. (b && serves kind (shown p h)) || served_since_request p h d kind) (no_fall d Dtack e f);
}

-- a grant is an edge of the controller
no_grant_edge : (d : Driver) (w : Wire) (fall : Bool) → has_wire d w ≡ true → is_same_driver d Controller ≡ false → (fall && is_grant_wire w) ≡ false
no_grant_edge Controller w fall e f = absurd (cc)
no_grant_edge (Slot s) (Bg n) fall e f = absurd (cc)
no_grant_edge (Slot s) w fall e f = and_false fall (is_grant_wire w) refl

own_last : (p : Plan) → IsOwn p Controller last_level (λ e t x. if is_grant e then grant_level e.wire else x) 0
own_last p = record {
  start = refl;
  takes = λ e h. refl;
  skips = λ e h l f. ap (λ b. if b then grant_level e.wire else last_level h) (no_grant_edge e.driver e.wire e.fall (and_left (has_wire e.driver e.wire) (has_value e.wire e.fall e.value) l) f);
}

-- what the rules read, from what the driver saw and its own edges
abbrev gathered : Plan → Option Row → (Wire → Bool) → (ℕ → Bool) → (ℕ → Bool) → Pins → ℕ → ℕ → Bool → Bool → Readings
gathered p row own request irq t last n strobed served = record (readings_of_pins t) {
  own = own;
  request = request;
  irq = irq;
  last_level = last;
  cycles = n;
  has_strobed = strobed;
  served_since_request = served;
  arbiter = p.arbiter;
  board = row;
}

-- a level that no board has is high
no_request : (p : Plan) → IsInRange p → (h : List Edge) (n : ℕ) → 4 ≤ n → request_line p h n ≡ false
no_request p range h n l = is_false (request_line p h n) (λ e. none e)
  where
    level : (found : Option RequesterRow) → IfSome found (λ q. q.level < 4) → option_map_or (λ q. q.level == n) found false ≡ true → ⊥
    level None i e = cc
    level (Some q) i e = omega (arith, i, l, same_number q.level n e)

    none : request_line p h n ≡ true → ⊥
    none e =
        let r = some_row (pulls_request h n) (IsRowInRange p) p.rows range.rows e in
        level r.0.requester r.2.level (and_left _ _ r.1)

no_interrupt : (p : Plan) → IsInRange p → (h : List Edge) (n : ℕ) → (1 ≤ n → n < 8 → ⊥) → interrupt_line p h n ≡ false
no_interrupt p range h n l = is_false (interrupt_line p h n) (λ e. none e)
  where
    level : (found : Option InterrupterRow) → IfSome found (λ i. (1 ≤ i.level) × (i.level < 8)) → option_map_or (λ i. i.level == n) found false ≡ true → ⊥
    level None i e = cc
    level (Some q) i e = let same = same_number q.level n e in l (omega (arith, i.0, same)) (omega (arith, i.1, same))

    none : interrupt_line p h n ≡ true → ⊥
    none e =
        let r = some_row (pulls_interrupt h n) (IsRowInRange p) p.rows range.rows e in
        level r.0.interrupter r.2.irq (and_left _ _ r.1)

same_request : (p : Plan) → IsInRange p → (h k : List Edge) → bus_levels (request_line p h) ≡ bus_levels (request_line p k) → (n : ℕ) → request_line p h n ≡ request_line p k n
same_request p range h k e zero = (bits _ _ _ _ _ _ _ _ (ap (λ x. x.0) e)).0
same_request p range h k e (suc zero) = (bits _ _ _ _ _ _ _ _ (ap (λ x. x.0) e)).1
same_request p range h k e (suc (suc zero)) = (bits _ _ _ _ _ _ _ _ (ap (λ x. x.0) e)).2
same_request p range h k e (suc (suc (suc zero))) = (bits _ _ _ _ _ _ _ _ (ap (λ x. x.0) e)).3
same_request p range h k e (suc (suc (suc (suc n)))) = no_request p range h (suc (suc (suc (suc n)))) (omega arith) ∙ sym (no_request p range k (suc (suc (suc (suc n)))) (omega arith))

same_irq : (p : Plan) → IsInRange p → (h k : List Edge) → irq_levels (interrupt_line p h) ≡ irq_levels (interrupt_line p k) → (n : ℕ) → interrupt_line p h n ≡ interrupt_line p k n
same_irq p range h k e zero = no_interrupt p range h 0 (λ a b. omega arith) ∙ sym (no_interrupt p range k 0 (λ a b. omega arith))
same_irq p range h k e (suc zero) = (seven_bits _ _ _ _ _ _ _ _ _ _ _ _ _ _ (ap (λ x. x.0) e)).0
same_irq p range h k e (suc (suc zero)) = (seven_bits _ _ _ _ _ _ _ _ _ _ _ _ _ _ (ap (λ x. x.0) e)).1
same_irq p range h k e (suc (suc (suc zero))) = (seven_bits _ _ _ _ _ _ _ _ _ _ _ _ _ _ (ap (λ x. x.0) e)).2
same_irq p range h k e (suc (suc (suc (suc zero)))) = (seven_bits _ _ _ _ _ _ _ _ _ _ _ _ _ _ (ap (λ x. x.0) e)).3
same_irq p range h k e (suc (suc (suc (suc (suc zero))))) = (seven_bits _ _ _ _ _ _ _ _ _ _ _ _ _ _ (ap (λ x. x.0) e)).4
same_irq p range h k e (suc (suc (suc (suc (suc (suc zero)))))) = (seven_bits _ _ _ _ _ _ _ _ _ _ _ _ _ _ (ap (λ x. x.0) e)).5
same_irq p range h k e (suc (suc (suc (suc (suc (suc (suc zero))))))) = (seven_bits _ _ _ _ _ _ _ _ _ _ _ _ _ _ (ap (λ x. x.0) e)).6
same_irq p range h k e (suc (suc (suc (suc (suc (suc (suc (suc n)))))))) = no_interrupt p range h (suc (suc (suc (suc (suc (suc (suc (suc n)))))))) (λ a b. omega arith)
    ∙ sym (no_interrupt p range k (suc (suc (suc (suc (suc (suc (suc (suc n)))))))) (λ a b. omega arith))

-- the rules of a board's wires read no level last granted
board_rule : (version : Version) (r : Readings) (w : Wire) (fall : Bool) (v : Option Cycle) (n : ℕ) → (is_grant_wire w ≡ false) → (is_same_wire w Bclr ≡ false)
    → rule version (record r { last_level = n }) w fall v ≡ rule version r w fall v
board_rule version r (Bg m) fall v n e f = absurd (cc)
board_rule version r Bclr fall v n e f = absurd (cc)
board_rule version r w true v n e f = refl
board_rule version r w false v n e f = refl

-- the answer to an edge, from what it reads
abbrev answer_of : Bool → Bool → Bool → ℕ × Bool → ℕ × Bool → Result (Unit {0}) Refused
answer_of exists low fall named settles =
    check exists NoSuchDriver (check (is_other_state low fall) AlreadyThere (check named.1 (Rule named.0) (check settles.1 (NotSettled settles.0) (Ok tt))))

same_settling : (version : Version) (p : Plan) (h k : List Edge) (w : Wire) (fall : Bool) → is_settled_by_others version w fall ≡ false → settling version p h w fall ≡ settling version p k w fall
same_settling version p h k AddressStrobe true e = absurd (cc)
same_settling version p h k Berr true e = absurd (cc)
same_settling One p h k (Bg n) true e = refl
same_settling One p h k (Bg n) false e = refl
same_settling Two p h k (Bg n) fall e = absurd (cc)
same_settling version p h k w fall e = refl

same_verdict : (version : Version) (p : Plan) (h k : List Edge) (d : Driver) (w : Wire) (fall : Bool) (v : Option Cycle) → drive h d w ≡ drive k d w → rule version (readings p h d) w fall v
    ≡ rule version (readings p k d) w fall v → settling version p h w fall ≡ settling version p k w fall → verdict_but_full version p h (record { driver = d; wire = w; fall = fall; value = v })
    ≡ verdict_but_full version p k (record { driver = d; wire = w; fall = fall; value = v })
same_verdict version p h k d w fall v a b c =
    let exists = is_well_formed (record { driver = d; wire = w; fall = fall; value = v }) && has_driver p d w in
    ap (λ x. answer_of exists x fall (rule version (readings p h d) w fall v) (settling version p h w fall)) a
    ∙ ap (λ x. answer_of exists (drive k d w) fall x (settling version p h w fall)) b
    ∙ ap (λ x. answer_of exists (drive k d w) fall (rule version (readings p k d) w fall v) x) c

all_drives : (p : Plan) (h k : List Edge) (d : Driver) → AreWellFormed h → AreWellFormed k → noted p h d ≡ noted p k d → drive h d ≡ drive k d
all_drives p h k d l m e = fun_ext (λ w. same_own p d (λ h. drive h d w) _ false (own_drive p d w) h k l m e)

same_served : (p : Plan) (h k : List Edge) (d : Driver) → AreWellFormed h → AreWellFormed k → noted p h d ≡ noted p k d → is_served p h d ≡ is_served p k d
same_served p h k d l m e = ap (λ f. option_map_or (λ r. option_map_or (λ i. f i.kind) r.interrupter false) (board_of p d) false)
    (fun_ext (λ kind. same_own p d (λ h. served_since_request p h d kind) _ false (own_served p d kind) h k l m e))

-- the rule is the same in both histories, if the level last granted is the same
same_but_last : (version : Version) (p : Plan) → IsInRange p → (h k : List Edge) (d : Driver) (w : Wire) (fall : Bool) (v : Option Cycle) (last : ℕ) → AreWellFormed h → AreWellFormed k → noted p h d
    ≡ noted p k d → pins p h d ≡ pins p k d → rule version (record (readings p h d) { last_level = last }) w fall v ≡ rule version (record (readings p k d) { last_level = last }) w fall v
same_but_last version p range h k d w fall v last l m e t =
    let row = board_of p d in
    ap (λ x. rule version (gathered p row x (request_line p h) (interrupt_line p h) (pins p h d) last (cycles h d) (has_strobed h d) (is_served p h d)) w fall v) (all_drives p h k d l m e)
    ∙ ap (λ x. rule version (gathered p row (drive k d) x (interrupt_line p h) (pins p h d) last (cycles h d) (has_strobed h d) (is_served p h d)) w fall v)
    (fun_ext (same_request p range h k (ap (λ x. x.requests) t)))
    ∙ ap (λ x. rule version (gathered p row (drive k d) (request_line p k) x (pins p h d) last (cycles h d) (has_strobed h d) (is_served p h d)) w fall v)
    (fun_ext (same_irq p range h k (ap (λ x. x.irq) t)))
    ∙ ap (λ x. rule version (gathered p row (drive k d) (request_line p k) (interrupt_line p k) x last (cycles h d) (has_strobed h d) (is_served p h d)) w fall v) t
    ∙ ap (λ x. rule version (gathered p row (drive k d) (request_line p k) (interrupt_line p k) (pins p k d) last x (has_strobed h d) (is_served p h d)) w fall v)
    (same_own p d (λ h. cycles h d) _ 0 (own_cycles p d) h k l m e)
    ∙ ap (λ x. rule version (gathered p row (drive k d) (request_line p k) (interrupt_line p k) (pins p k d) last (cycles k d) x (is_served p h d)) w fall v)
    (same_own p d (λ h. has_strobed h d) _ false (own_strobed p d) h k l m e)
    ∙ ap (λ x. rule version (gathered p row (drive k d) (request_line p k) (interrupt_line p k) (pins p k d) last (cycles k d) (has_strobed k d) x) w fall v) (same_served p h k d l m e)

controller_same : (version : Version) (p : Plan) → IsInRange p → (h k : List Edge) (w : Wire) (fall : Bool) (v : Option Cycle) → AreWellFormed h → AreWellFormed k → noted p h Controller
    ≡ noted p k Controller → pins p h Controller ≡ pins p k Controller → rule version (readings p h Controller) w fall v ≡ rule version (readings p k Controller) w fall v
controller_same version p range h k w fall v l m e t =
    same_but_last version p range h k Controller w fall v (last_level h) l m e t
    ∙ ap (λ x. rule version (record (readings p k Controller) { last_level = x }) w fall v) (same_own p Controller last_level _ 0 (own_last p) h k l m e)

board_same : (version : Version) (p : Plan) → IsInRange p → (h k : List Edge) (s : ℕ) (w : Wire) (fall : Bool) (v : Option Cycle) → AreWellFormed h → AreWellFormed k → noted p h (Slot s)
    ≡ noted p k (Slot s) → pins p h (Slot s) ≡ pins p k (Slot s) → is_grant_wire w ≡ false → is_same_wire w Bclr ≡ false → rule version (readings p h (Slot s)) w fall v
    ≡ rule version (readings p k (Slot s)) w fall v
board_same version p range h k s w fall v l m e t f g =
    sym (board_rule version (readings p h (Slot s)) w fall v 0 f g) ∙ same_but_last version p range h k (Slot s) w fall v 0 l m e t ∙ board_rule version (readings p k (Slot s)) w fall v 0 f g

local_at : (version : Version) (p : Plan) → IsInRange p → (h k : List Edge) (d : Driver) (w : Wire) (fall : Bool) (v : Option Cycle) → AreWellFormed h → AreWellFormed k → is_settled_by_others version
    w fall ≡ false → noted p h d ≡ noted p k d → pins p h d ≡ pins p k d → verdict_but_full version p h (record { driver = d; wire = w; fall = fall; value = v }) ≡ verdict_but_full version p k
    (record { driver = d; wire = w; fall = fall; value = v })
local_at version p range h k Controller w fall v l m c e t = same_verdict version p h k Controller w fall v (same_own p Controller (λ h. drive h Controller w) _ false (own_drive p Controller w) h k l
    m e) (controller_same version p range h k w fall v l m e t) (same_settling version p h k w fall c)
local_at version p range h k (Slot s) (Bg n) fall v l m c e t = refl
local_at version p range h k (Slot s) Bclr fall v l m c e t = refl
local_at version p range h k (Slot s) w fall v l m c e t = same_verdict version p h k (Slot s) w fall v (same_own p (Slot s) (λ h. drive h (Slot s) w) _ false (own_drive p (Slot s) w) h k l m e)
    (board_same version p range h k s w fall v l m e t refl refl) (same_settling version p h k w fall c)

pub local : (version : Version) (p : Plan) (h k : List Edge) (e : Edge) → IsAccepted p → AreWellFormed h → AreWellFormed k → IsLocal version p h k e
local version p h k e accepted l m c t = local_at version p (in_range p accepted) h k e.driver e.wire e.fall e.value l m c (ap (λ x. x.0) t) (ap (λ x. x.1) t)

-- the edges of a legal list are well formed
well_formed : (version : Version) (p : Plan) (h : List Edge) → IsLegal version p h → AreWellFormed h
well_formed version p [] l = refl
well_formed version p (e ∷ h) l = both (is_well_formed e) (list_all is_well_formed h) (and_left (is_well_formed e) (has_driver p e.driver e.wire) (checked _ NoSuchDriver _ l.0).0)
    (well_formed version p h l.1)
  where
    both : (x y : Bool) → x ≡ true → y ≡ true → (x && y) ≡ true
    both x y e f = grind arith

pub legal_local : (version : Version) (p : Plan) (h k : List Edge) (e : Edge) → IsAccepted p → IsLegal version p h → IsLegal version p k → IsLocal version p h k e
legal_local version p h k e accepted l m = local version p h k e accepted (well_formed version p h l) (well_formed version p k m)
