-- What an edge of another driver leaves unchanged.
use Rattle.std.proofs.Common.{◌≡◌, ◌∙◌, refl, sym, ap, ℕ, Bool, true, false, List, ◌∷◌, ◌⊎◌, ⊎_elim, arith}
use Rattle.std.specs.Prelude.{◌&&◌, ◌||◌, ◌+◌, if◌then◌else◌, Option, Some, None, option_map}
use Rattle.vme_model.specs.declared.boards.Row.{Row}
use Rattle.vme_model.specs.declared.boards.RequesterRow.{RequesterRow}
use Rattle.vme_model.specs.declared.boards.InterrupterRow.{InterrupterRow}
use Rattle.vme_model.specs.declared.sets.Levels.{Levels}
use Rattle.vme_model.specs.declared.signals.Version.{Version}
use Rattle.vme_model.specs.declared.signals.Driver.{Driver}
use Rattle.vme_model.specs.declared.signals.Driver.TheVariants.{Slot}
use Rattle.vme_model.specs.declared.signals.Wire.{Wire}
use Rattle.vme_model.specs.declared.signals.Wire.TheVariants.{Br, BgOut, Bbsy, Addr, AddressStrobe, DataStrobe, Irq, IackOut, Dtack}
use Rattle.vme_model.specs.declared.signals.Edge.{Edge}
use Rattle.vme_model.specs.Signals.{is_same_driver, is_same_wire, is_edge_of, is_fall_of}
use Rattle.vme_model.specs.Plan.{Plan}
use Rattle.vme_model.specs.History.{drive, cycles, has_strobed, shown}
use Rattle.vme_requester.specs.Local.{requester_of, RequesterState}
use Rattle.vme_master.specs.Local.{master_of, MasterState}
use Rattle.vme_interrupter.specs.Local.{interrupter_of, InterrupterState, seen, edges, served, serves_board}
use Rattle.vme_model.proofs.Bools.{is_false}
use Rattle.vme_histories.proofs.Others.{same_wire}
use Rattle.vme_wiring.specs.Boards.{parts_of}
use Rattle.vme_wiring.specs.declared.boards.Board.{Board}

-- the wires that a part reads
abbrev pub concerns_master : Wire → Bool
concerns_master Bbsy = true
concerns_master Addr = true
concerns_master AddressStrobe = true
concerns_master DataStrobe = true
concerns_master w = false

abbrev pub concerns_interrupter : Wire → Bool
concerns_interrupter Irq = true
concerns_interrupter IackOut = true
concerns_interrupter Dtack = true
concerns_interrupter w = false

abbrev pub concerns_requester : Wire → Bool
concerns_requester Br = true
concerns_requester BgOut = true
concerns_requester Bbsy = true
concerns_requester w = false

-- an edge that moves none of the slot's wires that a part reads: one of another driver, or of
-- another wire
abbrev IsNoneOf : (Wire → Bool) → ℕ → Edge → Type 0
IsNoneOf reads s e = (w : Wire) → reads w ≡ true → is_edge_of (Slot s) w e ≡ false

no_and : (a b : Bool) → b ≡ false → (a && b) ≡ false
no_and true b e = e
no_and false b e = refl

of_driver : (reads : Wire → Bool) (s : ℕ) (e : Edge) → is_same_driver e.driver (Slot s) ≡ false → IsNoneOf reads s e
of_driver reads s e other w has = no_and (is_same_wire e.wire w) (is_same_driver e.driver (Slot s)) other

pub of_wire : (reads : Wire → Bool) (s : ℕ) (e : Edge) → reads e.wire ≡ false → IsNoneOf reads s e
of_wire reads s e lacks w has = ap (λ b. b && is_same_driver e.driver (Slot s)) (is_false (is_same_wire e.wire w) apart)
  where
    apart : is_same_wire e.wire w ≡ true → ⊥
    apart same = let bad : true ≡ false = sym has ∙ ap reads (sym (same_wire e.wire w same)) ∙ lacks in cc

pub either : (reads : Wire → Bool) (w a : Wire) {B : Type 0} → reads a ≡ false → (B → reads w ≡ false) → (w ≡ a) ⊎ B → reads w ≡ false
either reads w a lacks others is = ⊎_elim (λ (same : w ≡ a). ap reads same ∙ lacks) others is

-- such an edge leaves the part unchanged
drive_kept : (h : List Edge) (e : Edge) (d : Driver) (w : Wire) → is_edge_of d w e ≡ false → drive (e ∷ h) d w ≡ drive h d w
drive_kept h e d w none = ap (λ b. if b then e.fall else drive h d w) none

no_fall : (e : Edge) (d : Driver) (w : Wire) → is_edge_of d w e ≡ false → is_fall_of d w e ≡ false
no_fall e d w none = no_and e.fall (is_edge_of d w e) none

map_same : {X A : Type 0} (f g : X → A) (o : Option X) → ((x : X) → f x ≡ g x) → option_map f o ≡ option_map g o
map_same {X} {A} f g None same = refl
map_same {X} {A} f g (Some x) same = ap (λ (y : A). Some y) (same x)

pub requester_kept : (s : ℕ) (row : Option RequesterRow) (version : Version) (h : List Edge) (e : Edge) → IsNoneOf concerns_requester s e →
    option_map (λ q. requester_of s q version (e ∷ h)) row ≡ option_map (λ q. requester_of s q version h) row
requester_kept s row version h e none = map_same (λ q. requester_of s q version (e ∷ h)) (λ q. requester_of s q version h) row each
  where
    each : (q : RequesterRow) → requester_of s q version (e ∷ h) ≡ requester_of s q version h
    each q =
        let same = λ (w : Wire) (reads : concerns_requester w ≡ true). drive_kept h e (Slot s) w (none w reads) in
        rw (same Br refl, same BgOut refl, same Bbsy refl)

cycles_kept : (h : List Edge) (e : Edge) (d : Driver) → is_fall_of d Bbsy e ≡ false → is_fall_of d AddressStrobe e ≡ false → cycles (e ∷ h) d ≡ cycles h d
cycles_kept h e d one two =
    ap (λ b. if b then 0 else (if is_fall_of d AddressStrobe e then 1 else 0) + cycles h d) one
    ∙ ap (λ b. (if b then 1 else 0) + cycles h d) two
    ∙ none (cycles h d)
  where
    none : (n : ℕ) → 0 + n ≡ n
    none n = omega arith

strobed_kept : (h : List Edge) (e : Edge) (d : Driver) → is_fall_of d AddressStrobe e ≡ false → is_fall_of d DataStrobe e ≡ false → has_strobed (e ∷ h) d ≡ has_strobed h d
strobed_kept h e d one two =
    ap (λ b. if b then false else is_fall_of d DataStrobe e || has_strobed h d) one
    ∙ ap (λ b. b || has_strobed h d) two

pub master_kept : (s : ℕ) (row : Option RequesterRow) (handler : Levels) (h : List Edge) (e : Edge) → IsNoneOf concerns_master s e →
    option_map (λ q. master_of s q handler (e ∷ h)) row ≡ option_map (λ q. master_of s q handler h) row
master_kept s row handler h e none = map_same (λ q. master_of s q handler (e ∷ h)) (λ q. master_of s q handler h) row each
  where
    each : (q : RequesterRow) → master_of s q handler (e ∷ h) ≡ master_of s q handler h
    each q =
        let same = λ (w : Wire) (reads : concerns_master w ≡ true). drive_kept h e (Slot s) w (none w reads) in
        let high = λ (w : Wire) (reads : concerns_master w ≡ true). no_fall e (Slot s) w (none w reads) in
        let c = cycles_kept h e (Slot s) (high Bbsy refl) (high AddressStrobe refl) in
        let t = strobed_kept h e (Slot s) (high AddressStrobe refl) (high DataStrobe refl) in
        rw (same Addr refl, same AddressStrobe refl, same DataStrobe refl, c, t)

served_kept : (p : Plan) (h : List Edge) (e : Edge) (d : Driver) (row : Option InterrupterRow) → is_fall_of d Irq e ≡ false → is_fall_of d Dtack e ≡ false →
    served (seen p (e ∷ h)) d row ≡ served (seen p h) d row
served_kept p h e d row one two =
    ap (λ b. if b then false else (is_fall_of d Dtack e && serves_board row (shown p h)) || served (seen p h) d row) one
    ∙ ap (λ b. (b && serves_board row (shown p h)) || served (seen p h) d row) two

pub interrupter_kept : (p : Plan) (s : ℕ) (row : Option InterrupterRow) (h : List Edge) (e : Edge) → IsNoneOf concerns_interrupter s e →
    interrupter_of s row (seen p (e ∷ h)) ≡ interrupter_of s row (seen p h)
interrupter_kept p s row h e none =
    let same = λ (w : Wire) (reads : concerns_interrupter w ≡ true). drive_kept (edges (seen p h)) e (Slot s) w (none w reads) in
    let high = λ (w : Wire) (reads : concerns_interrupter w ≡ true). no_fall e (Slot s) w (none w reads) in
    let d = served_kept p h e (Slot s) row (high Irq refl) (high Dtack refl) in
    rw (same Irq refl, same IackOut refl, same Dtack refl, d)

abbrev pub board_by : Row → Option RequesterState → Option MasterState → InterrupterState → Board
board_by a x y z = record { row = a; requester = x; master = y; interrupter = z }

pub assembled : {a b : Row} {x x' : Option RequesterState} {y y' : Option MasterState} {z z' : InterrupterState} → a ≡ b → x ≡ x' → y ≡ y' → z ≡ z' →
    board_by a x y z ≡ board_by b x' y' z'
assembled {a} {b} {x} {x'} {y} {y'} {z} {z'} e f g i = cc

-- the parts of a board of another slot
pub parts_same : (version : Version) (p : Plan) (h : List Edge) (e : Edge) (r : Row) → is_same_driver e.driver (Slot r.slot) ≡ false →
    parts_of version p (e ∷ h) r ≡ parts_of version p h r
parts_same version p h e r other = assembled refl
    (requester_kept r.slot r.requester version h e (of_driver concerns_requester r.slot e other))
    (master_kept r.slot r.requester r.handler h e (of_driver concerns_master r.slot e other))
    (interrupter_kept p r.slot r.interrupter h e (of_driver concerns_interrupter r.slot e other))
