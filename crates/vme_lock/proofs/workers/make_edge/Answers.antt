use Rattle.std.proofs.Common.{ap, ◌∙◌}
use Rattle.std.specs.Prelude.{Err}
use Rattle.vme_lock.specs.declared.views.EdgeRefused.{EdgeRefused}
use Rattle.vme_lock.proofs.Waiting.{lost_at_edge}
use Rattle.vme_lock.proofs.workers.make_edge.Goals as goal

pub returns-in-Err-Lost-clause-ended : goal.returns-in-Err-Lost-clause-ended
returns-in-Err-Lost-clause-ended g c edges =
    let lost = c.in-Err-Lost.is ∙ ap (λ (x : EdgeRefused). Err x) c.in-Err-Lost.field-0-is in
    lost_at_edge g.L.Rig.opened c.args.seat.now c.edge.new.seat c.args.edge c.edge.result c.in-Err-Lost.field-0-0 lost c.in-Err-Lost.ensures.seat c.edge.ensures.answer
