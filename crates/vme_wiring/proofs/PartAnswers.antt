-- What a part answers by its own fields is what the whole backplane answers.
use Rattle.std.proofs.Common.{◌≡◌, ◌∙◌, refl, sym, ap, subst, ℕ, Bool, true, false, List}
use Rattle.std.specs.Prelude.{◌&&◌, ◌||◌, not, Option, Some, None, Ok, is_some}
use Rattle.vme_model.specs.declared.boards.Row.{Row}
use Rattle.vme_model.specs.declared.boards.RequesterRow.{RequesterRow}
use Rattle.vme_model.specs.declared.pins.Pins.{Pins}
use Rattle.vme_model.specs.declared.refusals.Refused.TheVariants.{AlreadyThere, Rule}
use Rattle.vme_model.specs.declared.signals.Version.{Version}
use Rattle.vme_model.specs.declared.signals.Version.TheVariants.{One}
use Rattle.vme_model.specs.declared.signals.Wire.{Wire}
use Rattle.vme_model.specs.declared.signals.Wire.TheVariants.{Addr, AddressStrobe, DataStrobe, Bbsy, IackOut, Dtack}
use Rattle.vme_model.specs.declared.signals.Cycle.{Cycle}
use Rattle.vme_model.specs.declared.signals.Cycle.TheVariants.{Acknowledge, Access}
use Rattle.vme_model.specs.declared.signals.Edge.{Edge}
use Rattle.vme_model.specs.Plan.{Plan}
use Rattle.vme_model.specs.Rules.{is_passed_by, may_answer}
use Rattle.vme_model.specs.Verdict.{Judgement, check, is_other_state, ruling, ruling_on}
use Rattle.vme_model.specs.declared.signals.Part.TheVariants as parts
use Rattle.vme_model.specs.Signals.{is_of}
use Rattle.vme_requester.specs.Local.{RequesterState, requester_of, low as requester_low, requester_readings, answer_over}
use Rattle.vme_requester.proofs.Over.{answers_over as requester_over}
use Rattle.vme_master.specs.Local.{MasterState, master_of, local as master_local, over as master_over}
use Rattle.vme_master.proofs.Over.{rules_over as master_rules_over}
use Rattle.vme_interrupter.specs.Local.{InterrupterState, interrupter_of, local as interrupter_local, over as interrupter_over, seen}
use Rattle.vme_interrupter.proofs.Over.{rules_over as interrupter_rules_over}
use Rattle.vme_histories.specs.Asked.{asked}
use Rattle.vme_wiring.specs.Asked.{IsAsked}
use Rattle.vme_wiring.specs.Boards.{parts_of, low_of}
use Rattle.vme_wiring.specs.declared.boards.Board.{Board}
use Rattle.vme_wiring.proofs.Parts.{part, free_at, low_at}
use Rattle.vme_wiring.proofs.RuleRows.{requester_asked, master_asked, interrupter_asked}

abbrev pub is_free : Board → Bool
is_free b = not (low_of b Addr) || low_of b AddressStrobe

-- the lines that all boards see, with a board's inputs
abbrev pub with_inputs : Pins → Bool → Bool → Pins
with_inputs lines grant iack = record lines { grant_in = grant; iack_in = iack }

-- a requester
pub requester_ruled : (version : Version) (p : Plan) (h : List Edge) (r : Row) (b : Board) (q : RequesterState) (pins : Pins) (e : Edge) (x : Wire) (answer : Judgement) →
    b ≡ parts_of version p h r → b.requester ≡ Some q → IsAsked p h r pins e → e.wire ≡ x → is_of parts.Requester x ≡ true →
    answer ≡ ruling_on q.version (requester_readings q.slot q.row (requester_low q) pins (is_free b)) x e.fall e.value →
    answer ≡ asked version p h e
requester_ruled version p h r b q pins e x answer same has known wire own is =
    let k = part (λ q. requester_of r.slot q version h) r.requester q (sym has ∙ ap (λ (b : Board). b.requester) same) in
    let some : is_some r.requester ≡ true = ap is_some k.is_row in
    let P : RequesterState → Type 0 = λ x. x ≡ requester_of x.slot x.row x.version h in
    let noted : q ≡ requester_of q.slot q.row q.version h = subst P (sym k.is_part) refl in
    is
    ∙ requester_over q h pins (is_free b) e.wire x e.fall e.value noted wire own
    ∙ ap (λ (x : RequesterState). answer_over x.slot x.row x.version h pins (is_free b) e) k.is_part
    ∙ requester_asked version p h r k.of pins (is_free b) e known k.is_row (free_at version p h r b same some) (ap (is_of parts.Requester) wire ∙ own)

-- it does not read the acknowledge chain
pub blind_to_acknowledge : (version : Version) (s : ℕ) (row : RequesterRow) (own : Wire → Bool) (lines : Pins) (grant iack free f : Bool) (v : Option Cycle) →
    ruling_on version (requester_readings s row own (record lines { grant_in = grant }) free) Bbsy f v ≡ ruling_on version (requester_readings s row own (with_inputs lines grant iack) free) Bbsy f v
blind_to_acknowledge version s row own lines grant iack free true v = refl
blind_to_acknowledge version s row own lines grant iack free false v = refl

-- a master
pub master_ruled : (version : Version) (p : Plan) (h : List Edge) (r : Row) (b : Board) (m : MasterState) (pins : Pins) (e : Edge) (x : Wire) (answer : Judgement) →
    b ≡ parts_of version p h r → b.master ≡ Some m → IsAsked p h r pins e → e.wire ≡ x → is_of parts.Master x ≡ true →
    answer ≡ ruling_on One (master_local m pins (low_of b Bbsy)) x e.fall e.value →
    answer ≡ asked version p h e
master_ruled version p h r b m pins e x answer same has known wire own is =
    let k = part (λ q. master_of r.slot q r.handler h) r.requester m (sym has ∙ ap (λ (b : Board). b.master) same) in
    let some : is_some r.requester ≡ true = ap is_some k.is_row in
    let P : MasterState → Type 0 = λ x. x ≡ master_of x.slot x.row x.handler h in
    let noted : m ≡ master_of m.slot m.row m.handler h = subst P (sym k.is_part) refl in
    is
    ∙ master_rules_over version m h pins (low_of b Bbsy) e.driver e.wire x e.fall e.value noted wire own
    ∙ ap (λ (x : MasterState). ruling version (master_over x.slot x.row x.handler h pins (low_of b Bbsy)) e) k.is_part
    ∙ master_asked version p h r k.of pins (low_of b Bbsy) e known k.is_row (low_at version p h r b Bbsy same some) (ap (is_of parts.Master) wire ∙ own)

-- it reads neither chain
pub blind_to_inputs : (m : MasterState) (lines : Pins) (grant iack holds_bus : Bool) (w : Wire) (f : Bool) (v : Option Cycle) → is_of parts.Master w ≡ true →
    ruling_on One (master_local m lines holds_bus) w f v ≡ ruling_on One (master_local m (with_inputs lines grant iack) holds_bus) w f v
blind_to_inputs m lines grant iack holds_bus Addr true None own = refl
blind_to_inputs m lines grant iack holds_bus Addr true (Some (Acknowledge n)) own = refl
blind_to_inputs m lines grant iack holds_bus Addr true (Some (Access t)) own = refl
blind_to_inputs m lines grant iack holds_bus Addr false v own = refl
blind_to_inputs m lines grant iack holds_bus AddressStrobe true v own = refl
blind_to_inputs m lines grant iack holds_bus AddressStrobe false v own = refl
blind_to_inputs m lines grant iack holds_bus DataStrobe true v own = refl
blind_to_inputs m lines grant iack holds_bus DataStrobe false v own = refl
blind_to_inputs m lines grant iack holds_bus w f v own = absurd (cc)

-- an interrupter
pub interrupter_ruled : (version : Version) (p : Plan) (h : List Edge) (r : Row) (b : Board) (pins : Pins) (e : Edge) (x : Wire) (answer : Judgement) →
    b ≡ parts_of version p h r → IsAsked p h r pins e → e.wire ≡ x → is_of parts.Interrupter x ≡ true →
    answer ≡ ruling_on One (interrupter_local b.interrupter pins) x e.fall e.value →
    answer ≡ asked version p h e
interrupter_ruled version p h r b pins e x answer same known wire own is =
    let has : b.interrupter ≡ interrupter_of r.slot r.interrupter (seen p h) = ap (λ (b : Board). b.interrupter) same in
    let P : InterrupterState → Type 0 = λ x. x ≡ interrupter_of x.slot x.row (seen p h) in
    let noted : b.interrupter ≡ interrupter_of b.interrupter.slot b.interrupter.row (seen p h) = subst P (sym has) refl in
    is
    ∙ interrupter_rules_over version b.interrupter (seen p h) pins e.driver e.wire x e.fall e.value noted wire own
    ∙ ap (λ (x : InterrupterState). ruling version (interrupter_over x.slot x.row (seen p h) pins) e) has
    ∙ interrupter_asked version p h r pins e known (ap (is_of parts.Interrupter) wire ∙ own)

-- it does not read its grant chain
passed_alike : (i : InterrupterState) (lines : Pins) (grant iack : Bool) (shown : Option Cycle) →
    is_passed_by (interrupter_local i (record lines { iack_in = iack })) shown ≡ is_passed_by (interrupter_local i (with_inputs lines grant iack)) shown
passed_alike i lines grant iack None = refl
passed_alike i lines grant iack (Some (Acknowledge n)) = refl
passed_alike i lines grant iack (Some (Access t)) = refl

answered_alike : (i : InterrupterState) (lines : Pins) (grant iack : Bool) (shown : Option Cycle) →
    may_answer (interrupter_local i (record lines { iack_in = iack })) shown ≡ may_answer (interrupter_local i (with_inputs lines grant iack)) shown
answered_alike i lines grant iack None = refl
answered_alike i lines grant iack (Some (Acknowledge n)) = refl
answered_alike i lines grant iack (Some (Access t)) = refl

pub blind_to_pass : (i : InterrupterState) (lines : Pins) (grant iack f : Bool) (v : Option Cycle) →
    ruling_on One (interrupter_local i (record lines { iack_in = iack })) IackOut f v ≡ ruling_on One (interrupter_local i (with_inputs lines grant iack)) IackOut f v
blind_to_pass i lines grant iack true v =
    ap (λ b. check (is_other_state i.iackout true) AlreadyThere (check (iack && not i.dtack && lines.data_strobe && b) (Rule 23) (Ok tt))) (passed_alike i lines grant iack lines.shown)
blind_to_pass i lines grant iack false v = refl

pub blind_to_answer : (i : InterrupterState) (lines : Pins) (grant iack f : Bool) (v : Option Cycle) →
    ruling_on One (interrupter_local i (record lines { iack_in = iack })) Dtack f v ≡ ruling_on One (interrupter_local i (with_inputs lines grant iack)) Dtack f v
blind_to_answer i lines grant iack true v =
    ap (λ b. check (is_other_state i.dtack true) AlreadyThere (check (lines.data_strobe && lines.address_strobe && b) (Rule 25) (Ok tt))) (answered_alike i lines grant iack lines.shown)
blind_to_answer i lines grant iack false v = refl
