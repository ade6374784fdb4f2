use Rattle.std.proofs.Common.{◌-◌, ◌++◌, drop, length}
use Rattle.std.specs.Prelude.{IfSome, IsTrue}
use Rattle.vme_model.specs.declared.signals.Version.{Version}
use Rattle.vme_model.specs.Numbered.{Numbered, edges_in}
use Rattle.vme_model.specs.Plan.{Plan}
use Rattle.vme_model.specs.Verdict.{IsLegal}
use Rattle.vme_bus.specs.States.{IsStateOf}
use Rattle.vme_swaps.specs.Stops.{is_formed}
use Rattle.vme_same.specs.Kept.{numbers}
use Rattle.vme_same.proofs.Lists.{HasGone}
use Rattle.vme_same.proofs.rest.Rest.walk.Given as goal

abbrev pub invariant-loop-before : goal.invariant-loop-before
invariant-loop-before l = record {
  gone : (v : Version) (p : Plan) (taken : Numbered) → IsStateOf v p (edges_in taken) l.self.behind
      → IsLegal v p (edges_in (numbers l.self.edges.items ++ taken))
      → HasGone v p taken l.edge (drop (length l.self.edges.items - l.before) l.self.edges.items)
      l.state l.stop;
  formed : IfSome l.stop (λ met. IsTrue (is_formed met));
}
