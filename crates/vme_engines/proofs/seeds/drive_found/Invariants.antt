use Rattle.std.proofs.Common.{◌≡◌, ◌≤◌, ◌-◌, Ok}
use Rattle.std.specs.Io.KnownBytes.{Keeps}
use Rattle.vme_model.specs.Plan.{Plan}
use Rattle.vme_scenario.specs.Format.{scenario}
use Rattle.vme_engines.specs.Found.{NoneBelow}
use Rattle.vme_engines.proofs.seeds.drive_found.Given as goal

abbrev pub invariant-loop-has_come : goal.invariant-loop-has_come
invariant-loop-has_come g l = record {
  from : l.first_seed ≤ l.seed;
  to : l.seed ≤ l.last_seed;
  kept : Keeps (g.W.Write.contents l.fn.out) (g.W.Write.contents l.out);
  none : (p : Plan) → scenario l.scenario ≡ Ok p → NoneBelow p l.version l.edges l.goal l.first_seed l.seed;
}

abbrev pub decreases-loop-has_come : goal.decreases-loop-has_come
decreases-loop-has_come g l = l.last_seed - l.seed
