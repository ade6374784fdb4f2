use Rattle.std.proofs.Common.{arith, refl, subst}
use Rattle.vme_model.specs.Locality.{AreWellFormed}
use Rattle.vme_check.proofs.CheckPieces.{passed_refused, passed_more}
use Rattle.vme_reading.proofs.FormedEdges.{formed_both}
use Rattle.vme_check.proofs.checks.first_refused.Goals as goal

pub returns-in-Some-clause-found : goal.returns-in-Some-clause-found
returns-in-Some-clause-found c =
    passed_refused _ _ _ _ _ _ c.split_at.result.0.now c.split_at.result.1.now c.split_at.ensures.by_index.0 c.loop-rest.invariant.run c.first_refused_in.result _ refl c.first_refused_in.ensures.found
    c.in-Some.found c.in-Some.is

pub loop-rest-preserved : goal.loop-rest-preserved
loop-rest-preserved c = record {
  number = omega arith;
  formed = (formed_both c.split_at.result.0.now c.split_at.result.1.now (subst AreWellFormed c.split_at.ensures.by_index.0 c.loop-rest.invariant.formed)).1;
  run =
      passed_more _ _ _ _ _ _ c.split_at.result.0.now c.split_at.result.1.now c.split_at.ensures.by_index.0 c.loop-rest.invariant.run c.first_refused_in.result _ refl c.first_refused_in.ensures.found
      c.in-None.is _ c.first_refused_in.ensures.state _ (omega arith);
}
