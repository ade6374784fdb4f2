use Rattle.std.proofs.Common.{◌∙◌, sym, length}
use Rattle.std.specs.Prelude.{◌==◌, not, Ok}
use Rattle.vme_model.specs.declared.refusals.Refused.TheVariants.{TraceFull}
use Rattle.vme_model.specs.Verdict.{check}
use Rattle.vme_histories.proofs.Judged.{refused}
use Rattle.vme_bus.proofs.buses.Bus.verdict.Goals as goal

pub returns-in-Err : goal.returns-in-Err
returns-in-Err c =
    let b = c.args.self.now in
    sym (refused b.version b.plan b.history c.args.edge c.in-Err.refused (check (not (length b.history == b.max)) TraceFull (Ok tt)) (sym c.judge.ensures ∙ c.in-Err.is))
