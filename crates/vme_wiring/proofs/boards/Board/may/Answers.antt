use Rattle.std.proofs.Common.{◌∙◌, refl, sym, ap, Bool}
use Rattle.vme_model.specs.declared.signals.Version.TheVariants.{One}
use Rattle.vme_model.specs.declared.signals.Wire.TheVariants.{Br, BgOut, Bbsy, Addr, AddressStrobe, DataStrobe, Irq, IackOut, Dtack}
use Rattle.vme_model.specs.Verdict.{ruling_on}
use Rattle.vme_requester.specs.Local.{low, requester_readings}
use Rattle.vme_master.specs.Local.{local as master_local}
use Rattle.vme_interrupter.specs.Local.{local as interrupter_local}
use Rattle.vme_wiring.specs.Asked.{seen_by}
use Rattle.vme_wiring.specs.Boards.{low_of}
use Rattle.vme_wiring.proofs.PartAnswers.{requester_ruled, blind_to_acknowledge, is_free, with_inputs, master_ruled, blind_to_inputs, interrupter_ruled, blind_to_pass, blind_to_answer}
use Rattle.vme_wiring.proofs.boards.Board.may.Goals as goal

-- its requester's wires
pub returns-in-Br-Some-default-default-clause-asked : goal.returns-in-Br-Some-default-default-clause-asked
returns-in-Br-Some-default-default-clause-asked c version p h r same asked =
    let b = c.args.self.now in
    let pins = seen_by c.args.chains.now c.args.pins.now b.row in
    requester_ruled version p h r b c.in-Br-Some-default-default.requester pins c.args.edge Br _ same c.in-Br-Some-default-default.is-1 asked c.in-Br-Some-default-default.is-0 refl
    (c.may_request.ensures pins (is_free b) c.args.edge.value)

pub returns-in-BgOut-Some-default-default-clause-asked : goal.returns-in-BgOut-Some-default-default-clause-asked
returns-in-BgOut-Some-default-default-clause-asked c version p h r same asked =
    let b = c.args.self.now in
    let pins = seen_by c.args.chains.now c.args.pins.now b.row in
    requester_ruled version p h r b c.in-BgOut-Some-default-default.requester pins c.args.edge BgOut _ same c.in-BgOut-Some-default-default.is-1 asked c.in-BgOut-Some-default-default.is-0 refl
    (c.may_pass.ensures pins (is_free b) c.args.edge.value (sym c.grant_in.ensures))

pub returns-in-Bbsy-Some-default-default-clause-asked : goal.returns-in-Bbsy-Some-default-default-clause-asked
returns-in-Bbsy-Some-default-default-clause-asked c version p h r same asked =
    let b = c.args.self.now in
    let q = c.in-Bbsy-Some-default-default.requester in
    let e = c.args.edge in
    let pins = seen_by c.args.chains.now c.args.pins.now b.row in
    let by = λ (grant free : Bool). ruling_on q.version (requester_readings q.slot q.row (low q) (with_inputs c.args.pins.now grant pins.iack_in) free) Bbsy e.fall e.value in
    requester_ruled version p h r b q pins e Bbsy _ same c.in-Bbsy-Some-default-default.is-1 asked c.in-Bbsy-Some-default-default.is-0 refl
    (c.may_hold.ensures e.value
    ∙ blind_to_acknowledge q.version q.slot q.row (low q) c.args.pins.now c.grant_in-grant_in.result pins.iack_in c.is_address_free.result e.fall e.value
    ∙ ap (λ g. by g c.is_address_free.result) c.grant_in-grant_in.ensures
    ∙ ap (by pins.grant_in) c.is_address_free.ensures)

-- its master's
pub returns-in-Addr-default-Some-default-clause-asked : goal.returns-in-Addr-default-Some-default-clause-asked
returns-in-Addr-default-Some-default-clause-asked c version p h r same asked =
    let b = c.args.self.now in
    let m = c.in-Addr-default-Some-default.master in
    let e = c.args.edge in
    let pins = seen_by c.args.chains.now c.args.pins.now b.row in
    master_ruled version p h r b m pins e Addr _ same c.in-Addr-default-Some-default.is-2 asked c.in-Addr-default-Some-default.is-0 refl
    (c.may_address.ensures
    ∙ ap (λ holds. ruling_on One (master_local m c.args.pins.now holds) Addr e.fall e.value) c.is_low-holds_bus.ensures
    ∙ blind_to_inputs m c.args.pins.now pins.grant_in pins.iack_in (low_of b Bbsy) Addr e.fall e.value refl)

pub returns-in-AddressStrobe-default-Some-default-clause-asked : goal.returns-in-AddressStrobe-default-Some-default-clause-asked
returns-in-AddressStrobe-default-Some-default-clause-asked c version p h r same asked =
    let b = c.args.self.now in
    let m = c.in-AddressStrobe-default-Some-default.master in
    let e = c.args.edge in
    let pins = seen_by c.args.chains.now c.args.pins.now b.row in
    master_ruled version p h r b m pins e AddressStrobe _ same c.in-AddressStrobe-default-Some-default.is-2 asked c.in-AddressStrobe-default-Some-default.is-0 refl
    (c.may_strobe_address.ensures (low_of b Bbsy) e.value
    ∙ blind_to_inputs m c.args.pins.now pins.grant_in pins.iack_in (low_of b Bbsy) AddressStrobe e.fall e.value refl)

pub returns-in-DataStrobe-default-Some-default-clause-asked : goal.returns-in-DataStrobe-default-Some-default-clause-asked
returns-in-DataStrobe-default-Some-default-clause-asked c version p h r same asked =
    let b = c.args.self.now in
    let m = c.in-DataStrobe-default-Some-default.master in
    let e = c.args.edge in
    let pins = seen_by c.args.chains.now c.args.pins.now b.row in
    master_ruled version p h r b m pins e DataStrobe _ same c.in-DataStrobe-default-Some-default.is-2 asked c.in-DataStrobe-default-Some-default.is-0 refl
    (c.may_strobe_data.ensures (low_of b Bbsy) e.value
    ∙ blind_to_inputs m c.args.pins.now pins.grant_in pins.iack_in (low_of b Bbsy) DataStrobe e.fall e.value refl)

-- its interrupter's
pub returns-in-Irq-default-default-Some-clause-asked : goal.returns-in-Irq-default-default-Some-clause-asked
returns-in-Irq-default-default-Some-clause-asked c version p h r same asked =
    let b = c.args.self.now in
    let pins = seen_by c.args.chains.now c.args.pins.now b.row in
    interrupter_ruled version p h r b pins c.args.edge Irq _ same asked c.in-Irq-default-default-Some.is-0 refl
    (c.may_request-in-Irq-default-default-Some.ensures pins c.args.edge.value)

pub returns-in-IackOut-default-default-Some-clause-asked : goal.returns-in-IackOut-default-default-Some-clause-asked
returns-in-IackOut-default-default-Some-clause-asked c version p h r same asked =
    let b = c.args.self.now in
    let e = c.args.edge in
    let pins = seen_by c.args.chains.now c.args.pins.now b.row in
    interrupter_ruled version p h r b pins e IackOut _ same asked c.in-IackOut-default-default-Some.is-0 refl
    (c.may_pass-in-IackOut-default-default-Some.ensures e.value
    ∙ blind_to_pass b.interrupter c.args.pins.now pins.grant_in c.iack_in-iack_in.result e.fall e.value
    ∙ ap (λ i. ruling_on One (interrupter_local b.interrupter (with_inputs c.args.pins.now pins.grant_in i)) IackOut e.fall e.value) c.iack_in-iack_in.ensures)

pub returns-in-Dtack-default-default-default-clause-asked : goal.returns-in-Dtack-default-default-default-clause-asked
returns-in-Dtack-default-default-default-clause-asked c version p h r same asked =
    let b = c.args.self.now in
    let e = c.args.edge in
    let pins = seen_by c.args.chains.now c.args.pins.now b.row in
    interrupter_ruled version p h r b pins e Dtack _ same asked c.in-Dtack-default-default-default.is-0 refl
    (c.may_answer.ensures e.value
    ∙ blind_to_answer b.interrupter c.args.pins.now pins.grant_in c.iack_in-iack_in-in-Dtack-default-default-default.result e.fall e.value
    ∙ ap (λ i. ruling_on One (interrupter_local b.interrupter (with_inputs c.args.pins.now pins.grant_in i)) Dtack e.fall e.value) c.iack_in-iack_in-in-Dtack-default-default-default.ensures)
