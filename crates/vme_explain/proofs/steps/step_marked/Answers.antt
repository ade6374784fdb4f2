use Rattle.std.proofs.Common.{refl, sym}
use Rattle.vme_explain.proofs.MarkedSteps.{noted, noted_refused}
use Rattle.vme_explain.proofs.steps.step_marked.Goals as goal

pub returns-in-Ok-clause-noted : goal.returns-in-Ok-clause-noted
returns-in-Ok-clause-noted c =
    noted _ _ c.args.n _ _ _ _ (sym c.in-Ok.ensures.accepted) c.in-Ok.ensures.state c.shown_at-shown.ensures c.note.ensures

pub returns-in-Err-clause-noted : goal.returns-in-Err-clause-noted
returns-in-Err-clause-noted c =
    noted_refused c.args.bus.now c.args.n c.args.edge.now c.args.marks.now _ refl (sym c.in-Err.ensures.accepted)
