use Rattle.std.proofs.Common.{◌∙◌, refl}
use Rattle.vme_model.specs.declared.signals.Wire.TheVariants.{Irq, IackOut, Dtack}
use Rattle.vme_interrupter.proofs.Over.{rules_over}
use Rattle.vme_interrupter.proofs.interrupters.Interrupter.may.Goals as goal

pub returns-in-Irq-clause-own : goal.returns-in-Irq-clause-own
returns-in-Irq-clause-own c version noted same own =
    c.may_request.ensures c.args.pins c.args.edge.value
    ∙ rules_over version c.args.self.now noted c.args.pins c.args.edge.driver c.args.edge.wire Irq c.args.edge.fall c.args.edge.value same c.in-Irq.is refl

pub returns-in-IackOut-clause-own : goal.returns-in-IackOut-clause-own
returns-in-IackOut-clause-own c version noted same own =
    c.may_pass.ensures c.args.edge.value
    ∙ rules_over version c.args.self.now noted c.args.pins c.args.edge.driver c.args.edge.wire IackOut c.args.edge.fall c.args.edge.value same c.in-IackOut.is refl

pub returns-in-Dtack-clause-own : goal.returns-in-Dtack-clause-own
returns-in-Dtack-clause-own c version noted same own =
    c.may_answer.ensures c.args.edge.value
    ∙ rules_over version c.args.self.now noted c.args.pins c.args.edge.driver c.args.edge.wire Dtack c.args.edge.fall c.args.edge.value same c.in-Dtack.is refl
