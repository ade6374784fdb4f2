use Rattle.std.proofs.Common.{◌≡◌, ◌+◌, ◌++◌, ℕ, List, Option, take}
use Rattle.vme_model.specs.declared.signals.Edge.{Edge}
use Rattle.vme_model.specs.declared.signals.Version.{Version}
use Rattle.vme_model.specs.Plan.{Plan}
use Rattle.vme_reading.specs.Reporting.{HasWritten}
use Rattle.vme_reading.proofs.reporting.Reporting.take_edges.Given as goal

abbrev pub invariant-loop-edge : goal.invariant-loop-edge
invariant-loop-edge g l = record {
  count : g.S.AtEach.count l.self.at ≡ g.S.AtEach.count l.fn.self.at + l.edge-index;
  knows : (p : Plan) (v : Version) (es : List Edge) (first : Option (List ℕ))
      → HasWritten (λ p v es bytes. g.S.AtEach.knows p v es bytes l.fn.self.at) p v es first
      (g.W.Write.contents l.fn.out)
      → HasWritten (λ p v es bytes. g.S.AtEach.knows p v es bytes l.self.at) p v
      (es ++ take l.edge-index l.edges) first (g.W.Write.contents l.out);
}
