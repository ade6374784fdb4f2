use Rattle.std.proofs.Common.{◌∙◌, refl}
use Rattle.vme_model.specs.declared.signals.Wire.TheVariants.{Br, BgOut, Bbsy}
use Rattle.vme_requester.proofs.Over.{answers_over}
use Rattle.vme_requester.proofs.requesters.Requester.may.Goals as goal

pub returns-in-Br-clause-own : goal.returns-in-Br-clause-own
returns-in-Br-clause-own c noted same own =
    c.may_request.ensures c.args.pins c.args.is_address_free c.args.edge.value
    ∙ answers_over c.args.self.now noted c.args.pins c.args.is_address_free c.args.edge.wire Br c.args.edge.fall c.args.edge.value same c.in-Br.is refl

pub returns-in-BgOut-clause-own : goal.returns-in-BgOut-clause-own
returns-in-BgOut-clause-own c noted same own =
    c.may_pass.ensures c.args.pins c.args.is_address_free c.args.edge.value refl
    ∙ answers_over c.args.self.now noted c.args.pins c.args.is_address_free c.args.edge.wire BgOut c.args.edge.fall c.args.edge.value same c.in-BgOut.is refl

pub returns-in-Bbsy-clause-own : goal.returns-in-Bbsy-clause-own
returns-in-Bbsy-clause-own c noted same own =
    c.may_hold.ensures c.args.edge.value
    ∙ answers_over c.args.self.now noted c.args.pins c.args.is_address_free c.args.edge.wire Bbsy c.args.edge.fall c.args.edge.value same c.in-Bbsy.is refl
