use Rattle.std.proofs.Common.{◌∷◌, drop}
use Rattle.vme_model.specs.declared.signals.Version.{Version}
use Rattle.vme_model.specs.Numbered.{Numbered, edges_in}
use Rattle.vme_model.specs.Plan.{Plan}
use Rattle.vme_model.specs.Verdict.{IsLegal}
use Rattle.vme_races.specs.Kinds.{IsOnPlan}
use Rattle.vme_races.specs.Kept.{AreLast}
use Rattle.vme_races.proofs.Passed.{IsBack}
use Rattle.vme_races.proofs.recent.Recent.walk.Given as goal

abbrev pub invariant-loop-place : goal.invariant-loop-place
invariant-loop-place l =
    (v : Version) (p : Plan) (k : Numbered) → AreLast v p k l.self → IsOnPlan v p l.fn.state
    → IsLegal v p (l.edge ∷ edges_in k)
    → IsBack v p l.edge k l.place l.since (drop l.place l.self.edges.items) × IsOnPlan v p l.state
