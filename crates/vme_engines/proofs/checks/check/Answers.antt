use Rattle.std.proofs.Common.{inl}
use Rattle.vme_engines.proofs.CheckPieces.{nothing_found}
use Rattle.vme_engines.proofs.checks.check.Goals as goal

pub returns-in-Err : goal.returns-in-Err
returns-in-Err g c = (
  c.in_ok-plan.plan,
  c.in_ok-plan.ensures.ok.0,
  c.in_ok-plan.ensures.ok.1,
  (
    c.in-Err.ensures.finds.0,
    c.in-Err.ensures.finds.1,
    inl (
      nothing_found c.in_ok-plan.plan c.in-Err.ensures.finds.0 (g.R.Read.remaining c.args.trace.now) (g.R.Read.remaining c.find.new.trace) (g.W.Write.contents c.args.out.now) (g.W.Write.contents c.find.new.out)
          c.in-Err.fault c.in-Err.ensures.finds.2,
      c.in-Err.ensures.kept,
    ),
  ),
)
