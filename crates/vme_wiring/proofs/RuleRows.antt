-- A part's own rows of the table are those of the whole backplane, guard by guard. So the part
-- answers as the backplane does.
use Rattle.std.proofs.Common.{◌≡◌, ◌∙◌, refl, sym, ap, subst, ℕ, Bool, true, false, List, ◌<◌, ◌≤◌, arith}
use Rattle.std.specs.Prelude.{◌&&◌, ◌||◌, not, Option, Some, None, Ok, nat_lt}
use Rattle.std.specs.List.{list_any}
use Rattle.std.specs.Option.{option_map_or, option_and_then}
use Rattle.std.proofs.lemmas.Bool.Decides.{nat_tests}
use Rattle.vme_model.specs.declared.boards.Row.{Row}
use Rattle.vme_model.specs.declared.boards.RequesterRow.{RequesterRow}
use Rattle.vme_model.specs.declared.boards.ArbiterKind.{ArbiterKind}
use Rattle.vme_model.specs.declared.pins.Pins.{Pins}
use Rattle.vme_model.specs.declared.refusals.Refused.TheVariants.{AlreadyThere, Rule}
use Rattle.vme_model.specs.declared.signals.Version.{Version}
use Rattle.vme_model.specs.declared.signals.Driver.{Driver}
use Rattle.vme_model.specs.declared.signals.Driver.TheVariants.{Controller, Slot}
use Rattle.vme_model.specs.declared.signals.Wire.{Wire}
use Rattle.vme_model.specs.declared.signals.Wire.TheVariants.{Bg, Bclr, Iack, Berr, Br, BgOut, Bbsy, Addr, AddressStrobe, DataStrobe, Irq, IackOut, Dtack}
use Rattle.vme_model.specs.declared.signals.Cycle.{Cycle}
use Rattle.vme_model.specs.declared.signals.Cycle.TheVariants.{Acknowledge, Access}
use Rattle.vme_model.specs.declared.signals.Edge.{Edge}
use Rattle.vme_model.specs.declared.signals.Part.TheVariants as parts
use Rattle.vme_model.specs.Signals.{has_wire, has_value, is_well_formed, is_level, is_of}
use Rattle.vme_model.specs.Sets.{has_level, has_bus_level, bus_levels}
use Rattle.vme_model.specs.Plan.{Plan, board}
use Rattle.vme_model.specs.History.{drive, request_line, interrupt_line, cycles, last_level, shown, line}
use Rattle.vme_model.specs.Readings.{Readings, readings, is_served, grant_in, iack_in}
use Rattle.vme_model.specs.declared.conditions.Condition.TheVariants.{Handled, InterruptLow}
use Rattle.vme_model.specs.Guards.{Guard, free as no_condition, asks, ◌⊓◌, holds}
use Rattle.vme_model.specs.Rules.{guard, rule, bus_numbers, is_pick, bg_falls, bclr_falls, bclr_rises, bbsy_rises, addr_goes_on, iackout_falls, dtack_falls, released as released_where}
use Rattle.vme_model.specs.Rules.{below_burst, release_guard, burst_guard, show_guard, pass_guard, answer_guard, clear_guard, are_grants_high, is_pri}
use Rattle.vme_model.specs.Verdict.{Judgement, check, is_other_state, ruling}
use Rattle.vme_model.specs.Views.{pins}
use Rattle.vme_model.proofs.Picks.{laws_of}
use Rattle.vme_model.proofs.PinSets.{has_bus, has_irq}
use Rattle.vme_model.proofs.Bools.{and_left, and_right}
use Rattle.vme_requester.specs.Local.{own_lines as requester_lines, requester_readings, answer_over}
use Rattle.vme_master.specs.Local.{own_lines as master_lines, over as master_over}
use Rattle.vme_interrupter.specs.Local.{seen, interrupter_readings, over as interrupter_over}
use Rattle.vme_interrupter.proofs.Seen.{edges_seen, served_seen}
use Rattle.vme_arbiter.specs.Local.{over as controller_over}
use Rattle.vme_histories.specs.Asked.{asked}
use Rattle.vme_wiring.specs.Asked.{IsAsked}

-- two sets of lines that agree
record Agree (s t : ℕ → Bool) : Type 0 where
  zero : s 0 ≡ t 0
  one : s 1 ≡ t 1
  two : s 2 ≡ t 2
  three : s 3 ≡ t 3

lines_agree : (low : ℕ → Bool) → Agree (has_bus_level (bus_levels low)) low
lines_agree low =
    let level = λ (n : ℕ) (l : n < 4). has_bus low n l in
    record { zero = level 0 (omega arith); one = level 1 (omega arith); two = level 2 (omega arith); three = level 3 (omega arith) }

any_alike : (s t : ℕ → Bool) → Agree s t → list_any s bus_numbers ≡ list_any t bus_numbers
any_alike s t a = cc (a.zero, a.one, a.two, a.three)

above_alike : (s t : ℕ → Bool) (last : ℕ) → Agree s t →
    list_any (λ m. nat_lt last m && s m) bus_numbers ≡ list_any (λ m. nat_lt last m && t m) bus_numbers
above_alike s t last a = cc (a.zero, a.one, a.two, a.three)

pick_low : (kind : ArbiterKind) (low : ℕ → Bool) (last n : ℕ) → n < 4 → is_pick kind (has_bus_level (bus_levels low)) last n ≡ is_pick kind low last n
pick_low kind low last n l =
    let a = lines_agree low in
    (laws_of kind).by_lines (has_bus_level (bus_levels low)) low last n a.zero a.one a.two a.three (has_bus low n l)

-- what a row of the table answers
abbrev answered : ℕ × Guard → ℕ × Bool
answered g = (g.0, holds g.1)

-- an answer by the state of the wire, and the row of the table
abbrev by_row : Bool → Bool → ℕ × Bool → Judgement
by_row low fall row = check (is_other_state low fall) AlreadyThere (check row.1 (Rule row.0) (Ok tt))

by_same : (low fall : Bool) (a b : ℕ × Guard) → a ≡ b → by_row low fall (answered a) ≡ by_row low fall (answered b)
by_same low fall a b e = ap (λ g. by_row low fall (answered g)) e

-- an edge of that driver
asked_of : (version : Version) (p : Plan) (h : List Edge) (d : Driver) (e : Edge) → e.driver ≡ d →
    by_row (drive h d e.wire) e.fall (rule version (readings p h d) e.wire e.fall e.value) ≡ asked version p h e
asked_of version p h d e same = ap (λ x. by_row (drive h x e.wire) e.fall (rule version (readings p h x) e.wire e.fall e.value)) (sym same)

twice_not : (a b : Bool) → (not (not (not a || b)) || (not a || b)) ≡ (not a || b)
twice_not true true = refl
twice_not true false = refl
twice_not false b = refl

-- the readings of the whole, with the board's own part
part_of_board : (p : Plan) (s : ℕ) (r : Row) (q : RequesterRow) → board p s ≡ Some r → r.requester ≡ Some q → option_and_then (λ b. b.requester) (board p s) ≡ Some q
part_of_board p s r q found e = ap (option_and_then (λ b. b.requester)) found ∙ e

-- a requester
abbrev is_free : List Edge → ℕ → Bool
is_free h s = not (drive h (Slot s) Addr) || drive h (Slot s) AddressStrobe

abbrev requester_sees : Plan → List Edge → ℕ → RequesterRow → Readings
requester_sees p h s q = requester_readings s q (drive h (Slot s)) (pins p h (Slot s)) (is_free h s)

released : (p : Plan) (h : List Edge) (s : ℕ) (q : RequesterRow) → option_and_then (λ b. b.requester) (board p s) ≡ Some q →
    release_guard (requester_sees p h s q) ≡ release_guard (readings p h (Slot s))
released p h s q e =
    ap (λ b. released_where b q.release) (any_alike (has_bus_level (bus_levels (request_line p h))) (request_line p h) (lines_agree (request_line p h)))
    ∙ sym (ap (λ o. option_map_or (λ x. released_where (list_any (request_line p h) bus_numbers) x.release) o no_condition) e)

requester_row : (version : Version) (p : Plan) (h : List Edge) (s : ℕ) (q : RequesterRow) (w : Wire) (f : Bool) (v : Option Cycle) →
    option_and_then (λ b. b.requester) (board p s) ≡ Some q → is_of parts.Requester w ≡ true →
    guard version (requester_sees p h s q) w f v ≡ guard version (readings p h (Slot s)) w f v
requester_row version p h s q Br true v e own = refl
requester_row version p h s q Br false v e own = refl
requester_row version p h s q BgOut true v e own = refl
requester_row version p h s q BgOut false v e own = refl
requester_row version p h s q Bbsy true v e own = refl
requester_row version p h s q Bbsy false v e own =
    let row : Bool → Guard → ℕ × Guard = λ a k. (14, bbsy_rises (drive h (Slot s) Br) (grant_in p h (Slot s)) a k) in
    ap (λ a. row a (release_guard (requester_sees p h s q))) (twice_not (drive h (Slot s) Addr) (drive h (Slot s) AddressStrobe))
    ∙ ap (λ k. row (is_free h s) k) (released p h s q e)
requester_row version p h s q w f v e own = absurd (cc)

requester_own : (p : Plan) (h : List Edge) (s : ℕ) (q : RequesterRow) (w : Wire) → is_of parts.Requester w ≡ true → requester_lines (drive h (Slot s)) (is_free h s) w ≡ drive h (Slot s) w
requester_own p h s q Br own = refl
requester_own p h s q BgOut own = refl
requester_own p h s q Bbsy own = refl
requester_own p h s q w own = absurd (cc)

pub requester_asked : (version : Version) (p : Plan) (h : List Edge) (r : Row) (q : RequesterRow) (seen : Pins) (free : Bool) (e : Edge) → IsAsked p h r seen e →
    r.requester ≡ Some q → free ≡ is_free h r.slot → is_of parts.Requester e.wire ≡ true →
    answer_over r.slot q version h seen free e ≡ asked version p h e
requester_asked version p h r q seen free e k has known own =
    let s = r.slot in
    ap (λ (x : Pins). answer_over s q version h x free e) k.pins
    ∙ ap (λ b. answer_over s q version h (pins p h (Slot s)) b e) known
    ∙ ap (λ b. by_row b e.fall (rule version (requester_sees p h s q) e.wire e.fall e.value)) (requester_own p h s q e.wire own)
    ∙ by_same (drive h (Slot s) e.wire) e.fall _ _ (requester_row version p h s q e.wire e.fall e.value (part_of_board p s r q k.row has) own)
    ∙ asked_of version p h (Slot s) e k.driver

-- a master
abbrev master_sees : Plan → List Edge → Row → RequesterRow → Readings
master_sees p h r q = master_over r.slot q r.handler h (pins p h (Slot r.slot)) (drive h (Slot r.slot) Bbsy)

within : (p : Plan) (h : List Edge) (r : Row) (q : RequesterRow) → option_and_then (λ b. b.requester) (board p r.slot) ≡ Some q →
    burst_guard (master_sees p h r q) ≡ burst_guard (readings p h (Slot r.slot))
within p h r q e = sym (ap (λ o. option_map_or (λ x. below_burst (cycles h (Slot r.slot)) x.release) o no_condition) e)

level_from : (n : ℕ) → is_level n ≡ true → 1 ≤ n
level_from n e = grind (arith, nat_tests, e)

level_to : (n : ℕ) → is_level n ≡ true → n ≤ 7
level_to n e = grind (arith, nat_tests, e)

showing : (p : Plan) (h : List Edge) (r : Row) (q : RequesterRow) (v : Option Cycle) → board p r.slot ≡ Some r → has_value Addr true v ≡ true →
    show_guard (master_sees p h r q) v ≡ show_guard (readings p h (Slot r.slot)) v
showing p h r q (Some (Acknowledge n)) found formed =
    ap (λ b. asks Handled (has_level r.handler n) ⊓ asks InterruptLow b) (has_irq (interrupt_line p h) n (level_from n formed) (level_to n formed))
    ∙ sym (ap (λ o. asks Handled (option_map_or (λ b. has_level b.handler n) o false) ⊓ asks InterruptLow (interrupt_line p h n)) found)
showing p h r q (Some (Access t)) found formed = refl
showing p h r q None found formed = refl

master_row : (version : Version) (p : Plan) (h : List Edge) (r : Row) (q : RequesterRow) (w : Wire) (f : Bool) (v : Option Cycle) → board p r.slot ≡ Some r →
    option_and_then (λ b. b.requester) (board p r.slot) ≡ Some q → has_value w f v ≡ true → is_of parts.Master w ≡ true →
    guard version (master_sees p h r q) w f v ≡ guard version (readings p h (Slot r.slot)) w f v
master_row version p h r q Addr true v found e formed own =
    let row : Guard → Guard → ℕ × Guard = λ a b. (15, addr_goes_on (drive h (Slot r.slot) Bbsy) (line p h AddressStrobe) a b) in
    ap (λ a. row a (show_guard (master_sees p h r q) v)) (within p h r q e)
    ∙ ap (λ b. row (burst_guard (readings p h (Slot r.slot))) b) (showing p h r q v found formed)
master_row version p h r q Addr false v found e formed own = refl
master_row version p h r q AddressStrobe true v found e formed own = refl
master_row version p h r q AddressStrobe false v found e formed own = refl
master_row version p h r q DataStrobe true v found e formed own = refl
master_row version p h r q DataStrobe false v found e formed own = refl
master_row version p h r q w f v found e formed own = absurd (cc)

master_own : (h : List Edge) (s : ℕ) (w : Wire) → is_of parts.Master w ≡ true → master_lines (drive h (Slot s)) (drive h (Slot s) Bbsy) w ≡ drive h (Slot s) w
master_own h s Addr own = refl
master_own h s AddressStrobe own = refl
master_own h s DataStrobe own = refl
master_own h s w own = absurd (cc)

value_of : (e : Edge) → is_well_formed e ≡ true → has_value e.wire e.fall e.value ≡ true
value_of e formed = and_right (has_wire e.driver e.wire) (has_value e.wire e.fall e.value) formed

pub master_asked : (version : Version) (p : Plan) (h : List Edge) (r : Row) (q : RequesterRow) (seen : Pins) (holds : Bool) (e : Edge) → IsAsked p h r seen e →
    r.requester ≡ Some q → holds ≡ drive h (Slot r.slot) Bbsy → is_of parts.Master e.wire ≡ true →
    ruling version (master_over r.slot q r.handler h seen holds) e ≡ asked version p h e
master_asked version p h r q seen holds e k has known own =
    let s = r.slot in
    ap (λ (x : Pins). ruling version (master_over s q r.handler h x holds) e) k.pins
    ∙ ap (λ b. ruling version (master_over s q r.handler h (pins p h (Slot s)) b) e) known
    ∙ ap (λ b. by_row b e.fall (rule version (master_sees p h r q) e.wire e.fall e.value)) (master_own h s e.wire own)
    ∙ by_same (drive h (Slot s) e.wire) e.fall _ _ (master_row version p h r q e.wire e.fall e.value k.row (part_of_board p s r q k.row has) (value_of e k.formed) own)
    ∙ asked_of version p h (Slot s) e k.driver

-- an interrupter
abbrev interrupter_sees : Plan → List Edge → Row → Readings
interrupter_sees p h r = interrupter_readings r.slot r.interrupter (drive h (Slot r.slot)) (is_served p h (Slot r.slot)) (pins p h (Slot r.slot))

passed_by : (p : Plan) (h : List Edge) (r : Row) (c : Option Cycle) → board p r.slot ≡ Some r → pass_guard (interrupter_sees p h r) c ≡ pass_guard (readings p h (Slot r.slot)) c
passed_by p h r (Some (Acknowledge n)) found = rw found
passed_by p h r (Some (Access t)) found = refl
passed_by p h r None found = refl

answering : (p : Plan) (h : List Edge) (r : Row) (c : Option Cycle) → board p r.slot ≡ Some r → answer_guard (interrupter_sees p h r) c ≡ answer_guard (readings p h (Slot r.slot)) c
answering p h r (Some (Acknowledge n)) found = rw found
answering p h r (Some (Access t)) found = rw found
answering p h r None found = refl

interrupter_row : (version : Version) (p : Plan) (h : List Edge) (r : Row) (w : Wire) (f : Bool) (v : Option Cycle) → board p r.slot ≡ Some r → is_of parts.Interrupter w ≡ true →
    guard version (interrupter_sees p h r) w f v ≡ guard version (readings p h (Slot r.slot)) w f v
interrupter_row version p h r Irq true v found own = refl
interrupter_row version p h r Irq false v found own = refl
interrupter_row version p h r IackOut true v found own =
    ap (λ k. (23, iackout_falls (iack_in p h (Slot r.slot)) (drive h (Slot r.slot) Dtack) (line p h DataStrobe) k)) (passed_by p h r (shown p h) found)
interrupter_row version p h r IackOut false v found own = refl
interrupter_row version p h r Dtack true v found own =
    ap (λ k. (25, dtack_falls (line p h DataStrobe) (line p h AddressStrobe) k)) (answering p h r (shown p h) found)
interrupter_row version p h r Dtack false v found own = refl
interrupter_row version p h r w f v found own = absurd (cc)

over_seen : (p : Plan) (h : List Edge) (r : Row) (seen_pins : Pins) → board p r.slot ≡ Some r → seen_pins ≡ pins p h (Slot r.slot) →
    interrupter_over r.slot r.interrupter (seen p h) seen_pins ≡ interrupter_sees p h r
over_seen p h r seen_pins found same =
    rw (same, edges_seen p h, served_seen p h (Slot r.slot) r found)

pub interrupter_asked : (version : Version) (p : Plan) (h : List Edge) (r : Row) (seen_pins : Pins) (e : Edge) → IsAsked p h r seen_pins e → is_of parts.Interrupter e.wire ≡ true →
    ruling version (interrupter_over r.slot r.interrupter (seen p h) seen_pins) e ≡ asked version p h e
interrupter_asked version p h r seen_pins e k own =
    ap (λ (x : Readings). ruling version x e) (over_seen p h r seen_pins k.row k.pins)
    ∙ by_same (drive h (Slot r.slot) e.wire) e.fall _ _ (interrupter_row version p h r e.wire e.fall e.value k.row own)
    ∙ asked_of version p h (Slot r.slot) e k.driver

-- the controller
abbrev controller_sees : Plan → List Edge → Readings
controller_sees p h = controller_over p.arbiter h (pins p h Controller)

below_four : (n : ℕ) → nat_lt n 4 ≡ true → n < 4
below_four n e = grind (arith, nat_tests, e)

clear_due : (p : Plan) (h : List Edge) → clear_guard (controller_sees p h) ≡ clear_guard (readings p h Controller)
clear_due p h =
    ap (λ b. bclr_falls (is_pri p.arbiter) (line p h Bbsy) (are_grants_high (readings p h Controller)) b)
    (above_alike (has_bus_level (bus_levels (request_line p h))) (request_line p h) (last_level h) (lines_agree (request_line p h)))

controller_row : (version : Version) (p : Plan) (h : List Edge) (w : Wire) (f : Bool) (v : Option Cycle) → has_wire Controller w ≡ true →
    guard version (controller_sees p h) w f v ≡ guard version (readings p h Controller) w f v
controller_row version p h (Bg n) true v own =
    ap (λ b. (1, bg_falls (are_grants_high (readings p h Controller)) (line p h Bbsy) b)) (pick_low p.arbiter (request_line p h) (last_level h) n (below_four n own))
controller_row version p h (Bg n) false v own = refl
controller_row version p h Bclr true v own = ap (λ k. (3, k)) (clear_due p h)
controller_row version p h Bclr false v own = ap (λ k. (4, bclr_rises (holds k))) (clear_due p h)
controller_row version p h Iack true v own = refl
controller_row version p h Iack false v own = refl
controller_row version p h Berr true v own = refl
controller_row version p h Berr false v own = refl
controller_row version p h w f v own = absurd (cc)

controllers_wire : (e : Edge) → e.driver ≡ Controller → is_well_formed e ≡ true → has_wire Controller e.wire ≡ true
controllers_wire e same formed = subst (λ d. has_wire d e.wire ≡ true) same (and_left (has_wire e.driver e.wire) (has_value e.wire e.fall e.value) formed)

pub controller_asked : (version : Version) (p : Plan) (h : List Edge) (e : Edge) → e.driver ≡ Controller → is_well_formed e ≡ true →
    ruling version (controller_over p.arbiter h (pins p h Controller)) e ≡ asked version p h e
controller_asked version p h e same formed =
    by_same (drive h Controller e.wire) e.fall _ _ (controller_row version p h e.wire e.fall e.value (controllers_wire e same formed))
    ∙ asked_of version p h Controller e same
