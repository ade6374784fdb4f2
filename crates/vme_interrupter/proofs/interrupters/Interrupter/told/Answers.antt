use Rattle.std.proofs.Common.{refl, subst}
use Rattle.vme_model.specs.declared.signals.Wire.TheVariants.{Irq, IackOut, Dtack}
use Rattle.vme_interrupter.proofs.Over.{guards_over}
use Rattle.vme_interrupter.proofs.interrupters.Interrupter.told.Goals as goal

pub returns-in-Irq : goal.returns-in-Irq
returns-in-Irq g c = λ version noted same own.
    subst (λ k. g.A.Outcome.tells c.request_rule.result.1 k)
    (guards_over version c.args.self.now noted c.args.pins c.args.edge.wire Irq c.args.edge.fall c.args.edge.value same c.in-Irq.is refl)
    (c.request_rule.ensures.answer c.args.pins c.args.edge.value)

pub returns-in-IackOut : goal.returns-in-IackOut
returns-in-IackOut g c = λ version noted same own.
    subst (λ k. g.A.Outcome.tells c.pass_rule.result.1 k)
    (guards_over version c.args.self.now noted c.args.pins c.args.edge.wire IackOut c.args.edge.fall c.args.edge.value same c.in-IackOut.is refl)
    (c.pass_rule.ensures.answer c.args.edge.value)

pub returns-in-Dtack : goal.returns-in-Dtack
returns-in-Dtack g c = λ version noted same own.
    subst (λ k. g.A.Outcome.tells c.answer_rule.result.1 k)
    (guards_over version c.args.self.now noted c.args.pins c.args.edge.wire Dtack c.args.edge.fall c.args.edge.value same c.in-Dtack.is refl)
    (c.answer_rule.ensures.answer c.args.edge.value)
