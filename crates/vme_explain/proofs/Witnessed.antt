-- What is printed about a wire, of a grant, of a strobe.
use Rattle.std.proofs.Common.{◌≡◌, ◌∙◌, sym, ap, subst, refl, ℕ, ◌+◌, ◌≤◌, Bool, true, false, List, [], ◌∷◌, Option, Some, None, arith, length}
use Rattle.std.specs.Prelude.{◌&&◌, if◌then◌else◌, option_map}
use Rattle.std.specs.Option.{option_to_list, option_and_then}
use Rattle.vme_model.specs.declared.boards.ArbiterKind.{ArbiterKind}
use Rattle.vme_model.specs.declared.boards.InterrupterRow.{InterrupterRow}
use Rattle.vme_model.specs.declared.sets.BusLevels.{BusLevels}
use Rattle.vme_model.specs.declared.signals.Version.{Version}
use Rattle.vme_model.specs.declared.signals.Driver.{Driver}
use Rattle.vme_model.specs.declared.signals.Driver.TheVariants.{Controller, Slot}
use Rattle.vme_model.specs.declared.signals.Wire.{Wire}
use Rattle.vme_model.specs.declared.signals.Wire.TheVariants.{Bg, Bclr, Iack, Berr, Br, BgOut, Bbsy, Addr, AddressStrobe, DataStrobe, Irq, IackOut, Dtack}
use Rattle.vme_model.specs.declared.signals.Edge.{Edge}
use Rattle.vme_model.specs.declared.refusals.Refused.TheVariants.{NoSuchDriver}
use Rattle.vme_model.specs.declared.witnesses.Witness.TheVariants as witness
use Rattle.vme_model.specs.Signals.{has_wire, has_value, is_well_formed, is_same_wire, is_same_driver, is_edge_of, is_fall_of}
use Rattle.vme_model.specs.Sets.{has_bus_level, bus_levels}
use Rattle.vme_model.specs.Plan.{Plan, has_driver}
use Rattle.vme_model.specs.History.{drive, shown, request_line, last_level, cycles}
use Rattle.vme_model.specs.Rules.{pick}
use Rattle.vme_model.specs.Verdict.{State, IsLegal}
use Rattle.vme_model.specs.Numbered.{Numbered, edges_in, since, strobed_at, served_since}
use Rattle.vme_model.specs.Witnesses.{wire_at, strobe, service, interrupter_of}
use Rattle.vme_model.proofs.Bools.{and_left}
use Rattle.vme_model.proofs.AllowedEdges.{checked}
use Rattle.vme_model.proofs.PinSets.{pick_of_pins}
use Rattle.vme_explain.specs.Witnessed.{value_shown}

-- the address group alone has a value
pub wire_at_is : (b : State) (k : Numbered) (d : Driver) (w : Wire) (level : Option ℕ) → wire_at b k d w level ≡ witness.Wire d w (drive b.history d w)
    (value_shown w (drive b.history d w) (shown b.plan b.history)) level (since k d w)
wire_at_is b k d (Bg level) n = refl
wire_at_is b k d Bclr n = refl
wire_at_is b k d Iack n = refl
wire_at_is b k d Berr n = refl
wire_at_is b k d Br n = refl
wire_at_is b k d BgOut n = refl
wire_at_is b k d Bbsy n = refl
wire_at_is b k d Addr n = refl
wire_at_is b k d AddressStrobe n = refl
wire_at_is b k d DataStrobe n = refl
wire_at_is b k d Irq n = refl
wire_at_is b k d IackOut n = refl
wire_at_is b k d Dtack n = refl

-- the request lines on the pins are those of the boards
pub pick_witness : (kind : ArbiterKind) (p : Plan) (h : List Edge) (requests : BusLevels) (last : ℕ) (r : Option ℕ) → r ≡ pick kind (has_bus_level requests) last → kind ≡ p.arbiter → requests
    ≡ bus_levels (request_line p h) → last ≡ last_level h → r ≡ pick p.arbiter (request_line p h) (last_level h)
pick_witness kind p h requests last r e f g l =
    e ∙ ap (λ (x : ArbiterKind). pick x (has_bus_level requests) last) f
    ∙ ap (λ (x : BusLevels). pick p.arbiter (has_bus_level x) last) g
    ∙ ap (λ (x : ℕ). pick p.arbiter (has_bus_level (bus_levels (request_line p h))) x) l
    ∙ pick_of_pins p.arbiter (request_line p h) (last_level h)

-- each cycle is an edge
one_cycle : (x y : Bool) (n m : ℕ) → n ≤ m → (if x then 0 else (if y then 1 else 0) + n) ≤ m + 1
one_cycle true y n m h = omega arith
one_cycle false true n m h = omega arith
one_cycle false false n m h = omega arith

pub cycles_within : (h : List Edge) (d : Driver) → cycles h d ≤ length h
cycles_within [] d = omega arith
cycles_within (e ∷ h) d =
    let more = one_cycle (is_fall_of d Bbsy e) (is_fall_of d AddressStrobe e) (cycles h d) (length h) (cycles_within h d) in
    omega (arith, more)

-- the controller strobes nothing
and_false : (x : Bool) → (x && false) ≡ false
and_false true = refl
and_false false = refl

no_address_strobe : (x : Wire) → has_wire Controller x ≡ true → (is_same_wire x AddressStrobe && true) ≡ false
no_address_strobe (Bg level) h = refl
no_address_strobe Bclr h = refl
no_address_strobe Iack h = refl
no_address_strobe Berr h = refl
no_address_strobe Br h = refl
no_address_strobe BgOut h = refl
no_address_strobe Bbsy h = refl
no_address_strobe Addr h = refl
no_address_strobe AddressStrobe h = absurd (cc)
no_address_strobe DataStrobe h = refl
no_address_strobe Irq h = refl
no_address_strobe IackOut h = refl
no_address_strobe Dtack h = refl

no_data_strobe : (x : Wire) → has_wire Controller x ≡ true → (is_same_wire x DataStrobe && true) ≡ false
no_data_strobe (Bg level) h = refl
no_data_strobe Bclr h = refl
no_data_strobe Iack h = refl
no_data_strobe Berr h = refl
no_data_strobe Br h = refl
no_data_strobe BgOut h = refl
no_data_strobe Bbsy h = refl
no_data_strobe Addr h = refl
no_data_strobe AddressStrobe h = refl
no_data_strobe DataStrobe h = absurd (cc)
no_data_strobe Irq h = refl
no_data_strobe IackOut h = refl
no_data_strobe Dtack h = refl

no_address_edge : (d : Driver) (x : Wire) → has_wire d x ≡ true → (is_same_wire x AddressStrobe && is_same_driver d Controller) ≡ false
no_address_edge Controller x h = no_address_strobe x h
no_address_edge (Slot s) x h = and_false (is_same_wire x AddressStrobe)

no_data_edge : (d : Driver) (x : Wire) → has_wire d x ≡ true → (is_same_wire x DataStrobe && is_same_driver d Controller) ≡ false
no_data_edge Controller x h = no_data_strobe x h
no_data_edge (Slot s) x h = and_false (is_same_wire x DataStrobe)

no_fall : (fall x : Bool) → x ≡ false → (fall && x) ≡ false
no_fall true x e = e
no_fall false x e = refl

neither : (x y : Bool) (a b : Option ℕ) → x ≡ false → y ≡ false → (if x then None else (if y then a else b)) ≡ b
neither x y a b e f = rw (e, f)

never_strobed : (version : Version) (p : Plan) (k : Numbered) → IsLegal version p (edges_in k) → strobed_at k Controller ≡ None
never_strobed version p [] l = refl
never_strobed version p ((n, e) ∷ k) l =
    let formed = and_left (is_well_formed e) (has_driver p e.driver e.wire) (checked _ NoSuchDriver _ l.0).0 in
    let wire = and_left (has_wire e.driver e.wire) (has_value e.wire e.fall e.value) formed in
    neither (is_fall_of Controller AddressStrobe e) (is_fall_of Controller DataStrobe e) (Some n) (strobed_at k Controller)
    (no_fall e.fall (is_edge_of Controller AddressStrobe e) (no_address_edge e.driver e.wire wire))
    (no_fall e.fall (is_edge_of Controller DataStrobe e) (no_data_edge e.driver e.wire wire))
    ∙ never_strobed version p k l.1

pub no_strobe : (version : Version) (p : Plan) (h : List Edge) (k : Numbered) → edges_in k ≡ h → IsLegal version p h → [] ≡ strobe k Controller
no_strobe version p h k at l =
    sym (ap (λ (n : Option ℕ). option_to_list (option_map (λ m. witness.Strobed Controller m) n))
    (never_strobed version p k (subst (λ (x : List Edge). IsLegal version p x) (sym at) l)))

-- a board's strobe, and the answer that served its request
pub strobe_witness : (k : Numbered) (d : Driver) (s n : ℕ) → d ≡ Slot s → strobed_at k (Slot s) ≡ Some n → witness.Strobed (Slot s) n ∷ [] ≡ strobe k d
strobe_witness k d s n at is =
    sym (ap (λ (m : Option ℕ). option_to_list (option_map (λ j. witness.Strobed (Slot s) j) m)) is)
    ∙ sym (ap (λ (x : Driver). strobe k x) at)

pub no_witness : (k : Numbered) (d : Driver) (s : ℕ) → d ≡ Slot s → strobed_at k (Slot s) ≡ None → [] ≡ strobe k d
no_witness k d s at is =
    sym (ap (λ (m : Option ℕ). option_to_list (option_map (λ j. witness.Strobed (Slot s) j) m)) is)
    ∙ sym (ap (λ (x : Driver). strobe k x) at)

service_is : (b : State) (k : Numbered) (d : Driver) (i : InterrupterRow) (n : Option ℕ) → drive b.history d Irq ≡ true → Some i ≡ interrupter_of b d → n ≡ served_since b.plan k d i.kind
    → option_to_list (option_map (λ m. witness.Served d m) n) ≡ service b k d
service_is b k d i n low is at =
    ap (λ (m : Option ℕ). option_to_list (option_map (λ m. witness.Served d m) m)) at
    ∙ ap (λ (o : Option InterrupterRow). option_to_list (option_map (λ m. witness.Served d m) (option_and_then (λ j. served_since b.plan k d j.kind) o))) is
    ∙ ap (λ (t : Bool). if t then option_to_list (option_map (λ m. witness.Served d m) (option_and_then (λ j. served_since b.plan k d j.kind) (interrupter_of b d))) else []) (sym low)

pub service_witness : (b : State) (k : Numbered) (d : Driver) (s : ℕ) (i : InterrupterRow) (n : ℕ) → d ≡ Slot s → drive b.history d Irq ≡ true → interrupter_of b d ≡ Some i
    → served_since b.plan k (Slot s) i.kind ≡ Some n → witness.Served (Slot s) n ∷ [] ≡ service b k d
service_witness b k d s i n at low is e =
    ap (λ (x : Driver). witness.Served x n ∷ []) (sym at)
    ∙ service_is b k d i (Some n) low (sym is) (sym e ∙ ap (λ (x : Driver). served_since b.plan k x i.kind) (sym at))

pub service_high : (b : State) (k : Numbered) (d : Driver) → drive b.history d Irq ≡ false → [] ≡ service b k d
service_high b k d high =
    ap (λ (t : Bool). if t then option_to_list (option_map (λ m. witness.Served d m) (option_and_then (λ j. served_since b.plan k d j.kind) (interrupter_of b d))) else []) (sym high)

pub and_so : (x y r : Bool) → x ≡ true → r ≡ y → r ≡ (x && y)
and_so x y r e f = f ∙ ap (λ (t : Bool). t && y) (sym e)
