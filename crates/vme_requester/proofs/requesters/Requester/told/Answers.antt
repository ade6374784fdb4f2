use Rattle.std.proofs.Common.{refl, subst}
use Rattle.vme_model.specs.declared.signals.Wire.TheVariants.{Br, BgOut, Bbsy}
use Rattle.vme_requester.proofs.Over.{guards_over}
use Rattle.vme_requester.proofs.requesters.Requester.told.Goals as goal

pub returns-in-Br : goal.returns-in-Br
returns-in-Br g c = λ noted same own.
    subst (λ k. g.A.Outcome.tells c.request_rule.result.1 k)
    (guards_over c.args.self.now noted c.args.pins c.args.is_address_free c.args.edge.wire Br c.args.edge.fall c.args.edge.value same c.in-Br.is refl)
    (c.request_rule.ensures.answer c.args.pins c.args.is_address_free c.args.edge.value)

pub returns-in-BgOut : goal.returns-in-BgOut
returns-in-BgOut g c = λ noted same own.
    subst (λ k. g.A.Outcome.tells c.pass_rule.result.1 k)
    (guards_over c.args.self.now noted c.args.pins c.args.is_address_free c.args.edge.wire BgOut c.args.edge.fall c.args.edge.value same c.in-BgOut.is refl)
    (c.pass_rule.ensures.answer c.args.pins c.args.is_address_free c.args.edge.value refl)

pub returns-in-Bbsy : goal.returns-in-Bbsy
returns-in-Bbsy g c = λ noted same own.
    subst (λ k. g.A.Outcome.tells c.hold_rule.result.1 k)
    (guards_over c.args.self.now noted c.args.pins c.args.is_address_free c.args.edge.wire Bbsy c.args.edge.fall c.args.edge.value same c.in-Bbsy.is refl)
    (c.hold_rule.ensures.answer c.args.edge.value)
