use Rattle.std.proofs.Common.{◌∙◌, refl, ap}
use Rattle.vme_model.specs.declared.signals.Version.TheVariants.{One}
use Rattle.vme_model.specs.declared.signals.Wire.TheVariants.{Irq, IackOut, Dtack}
use Rattle.vme_model.specs.Verdict.{ruling_on}
use Rattle.vme_interrupter.specs.Local.{local}
use Rattle.vme_wiring.specs.Asked.{seen_by}
use Rattle.vme_wiring.proofs.PartAnswers.{interrupter_ruled, blind_to_pass, blind_to_answer, with_inputs}
use Rattle.vme_wiring.proofs.boards.Board.ask_interrupter.Goals as goal

pub returns-in-Irq : goal.returns-in-Irq
returns-in-Irq c version p h r same asked own =
    let b = c.args.self.now in
    let pins = seen_by c.args.chains.now c.args.pins.now b.row in
    interrupter_ruled version p h r b pins c.args.edge Irq _ same asked c.in-Irq.is refl
    (c.may_request.ensures pins c.args.edge.value)

pub returns-in-IackOut : goal.returns-in-IackOut
returns-in-IackOut c version p h r same asked own =
    let b = c.args.self.now in
    let e = c.args.edge in
    let pins = seen_by c.args.chains.now c.args.pins.now b.row in
    interrupter_ruled version p h r b pins e IackOut _ same asked c.in-IackOut.is refl
    (c.may_pass.ensures e.value
    ∙ blind_to_pass b.interrupter c.args.pins.now pins.grant_in c.iack_in-iack_in.result e.fall e.value
    ∙ ap (λ i. ruling_on One (local b.interrupter (with_inputs c.args.pins.now pins.grant_in i)) IackOut e.fall e.value) c.iack_in-iack_in.ensures)

pub returns-in-Dtack : goal.returns-in-Dtack
returns-in-Dtack c version p h r same asked own =
    let b = c.args.self.now in
    let e = c.args.edge in
    let pins = seen_by c.args.chains.now c.args.pins.now b.row in
    interrupter_ruled version p h r b pins e Dtack _ same asked c.in-Dtack.is refl
    (c.may_answer.ensures e.value
    ∙ blind_to_answer b.interrupter c.args.pins.now pins.grant_in c.iack_in-iack_in-in-Dtack.result e.fall e.value
    ∙ ap (λ i. ruling_on One (local b.interrupter (with_inputs c.args.pins.now pins.grant_in i)) Dtack e.fall e.value) c.iack_in-iack_in-in-Dtack.ensures)
