use Rattle.std.proofs.Common.{arith}
use Rattle.vme_engines.proofs.CheckPieces.{passed_refused, passed_more}
use Rattle.vme_engines.proofs.checks.first_refused.Goals as goal

pub returns-in-Err-clause-found : goal.returns-in-Err-clause-found
returns-in-Err-clause-found c =
    passed_refused _ _ _ _ c.loop-edge.edge-index c.args.edges.now _ (omega arith) c.loop-edge.invariant.run c.step.result c.step.ensures.answer c.in-Err.refused c.in-Err.is

pub loop-edge-preserved : goal.loop-edge-preserved
loop-edge-preserved c = record {
  number = omega arith;
  run = passed_more _ _ _ _ c.loop-edge.edge-index c.args.edges.now _ (omega arith) c.loop-edge.invariant.run c.step.result c.step.ensures.answer _ c.in-Ok.is c.step.new.self c.step.ensures.state;
}
