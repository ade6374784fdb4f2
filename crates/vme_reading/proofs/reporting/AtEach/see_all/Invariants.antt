use Rattle.std.proofs.Common.{◌≡◌, ◌+◌, ◌++◌, ℕ, List, Option, take}
use Rattle.vme_model.specs.declared.signals.Edge.{Edge}
use Rattle.vme_model.specs.declared.signals.Version.{Version}
use Rattle.vme_model.specs.Plan.{Plan}
use Rattle.vme_reading.specs.Reporting.{HasWritten}
use Rattle.vme_reading.proofs.reporting.AtEach.see_all.Given as goal

abbrev pub invariant-loop-edge : goal.invariant-loop-edge
invariant-loop-edge g l = record {
  count : g.Self.AtEach.count l.self ≡ g.Self.AtEach.count l.fn.self + l.edge-index;
  knows : (task : g.row.Self-Task.Denot) (p : Plan) (v : Version) (es : List Edge) (first : Option (List ℕ))
      → HasWritten (λ p v es bytes. g.Self.AtEach.knows task p v es bytes l.fn.self) p v es first
      (g.W.Write.contents l.fn.out)
      → HasWritten (λ p v es bytes. g.Self.AtEach.knows task p v es bytes l.self) p v
      (es ++ take l.edge-index l.edges) first (g.W.Write.contents l.out);
}
