use Rattle.std.proofs.Common.{sym, subst}
use Rattle.vme_bus.specs.declared.layouts.Line.TheVariants.{Request}
use Rattle.vme_bus.specs.Layouts.{HoldsLine, set_at}
use Rattle.vme_bus.proofs.Lines.{request_is}
use Rattle.vme_bus.proofs.states.BusState.request.Goals as goal

pub returns : goal.returns
returns c version p h is =
    let n = c.args.level in
    let sets = c.args.self.now.layout.requests in
    let on = subst (λ x. HoldsLine p (Request n) (set_at sets x)) (sym c.from.ensures) (is.layout.requests n c.requires) in
    request_is p h n c.and.result c.args.self.now.br (set_at sets c.from.result) is.accepted is.br on c.and.ensures c.is_some.result c.is_some.ensures.some c.is_some.ensures.none
