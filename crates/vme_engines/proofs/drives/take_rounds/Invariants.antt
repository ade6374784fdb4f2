use Rattle.std.proofs.Common.{◌≡◌, ◌-◌}
use Rattle.vme_model.specs.Offers.{rounds, rounds_from}
use Rattle.vme_engines.proofs.drives.take_rounds.Given as goal

abbrev pub invariant-loop-round : goal.invariant-loop-round
invariant-loop-round l = record {
  rest : rounds l.fn.backplane l.edges ≡ rounds_from (l.edges - l.round) l.round l.edges l.backplane;
  plan : l.backplane.plan ≡ l.fn.backplane.plan;
}
