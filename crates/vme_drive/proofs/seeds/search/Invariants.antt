use Rattle.std.proofs.Common.{◌≡◌, ◌≤◌, ◌-◌}
use Rattle.std.specs.Io.KnownBytes.{Keeps}
use Rattle.vme_drive.specs.Found.{NoneBelow}
use Rattle.vme_drive.proofs.seeds.search.Given as goal

abbrev pub invariant-loop-has_come : goal.invariant-loop-has_come
invariant-loop-has_come g l = record {
  from : l.first_seed ≤ l.seed;
  to : l.seed ≤ l.last_seed;
  plan : l.walk.state.plan ≡ l.fn.walk.state.plan;
  version : l.walk.state.version ≡ l.fn.walk.state.version;
  kept : Keeps (g.W.Write.contents l.fn.out) (g.W.Write.contents l.out);
  none : NoneBelow l.fn.walk.state.plan l.fn.walk.state.version l.edges l.goal l.first_seed l.seed;
}

abbrev pub decreases-loop-has_come : goal.decreases-loop-has_come
decreases-loop-has_come g l = l.last_seed - l.seed
