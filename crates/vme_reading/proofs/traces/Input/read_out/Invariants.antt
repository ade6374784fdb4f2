use Rattle.std.proofs.Common.{ℕ, List, Option}
use Rattle.vme_model.specs.declared.signals.Version.{Version}
use Rattle.vme_model.specs.declared.signals.Edge.{Edge}
use Rattle.vme_reading.specs.Begun.{HasCome}
use Rattle.vme_reading.specs.Sides.{turns_left}
use Rattle.vme_reading.proofs.traces.Input.read_out.Given as goal

abbrev pub invariant-reads : goal.invariant-reads
invariant-reads g l =
    (from : Option (List ℕ)) (v : Version) (es : List Edge) → HasCome from (g.R.Read.remaining l.fn.trace) v es l.fn.self
    → (fs : List Edge) × HasCome from (g.R.Read.remaining l.trace) v fs l.self

abbrev pub decreases-reads : goal.decreases-reads
decreases-reads g l = turns_left l.self.more l.self.reads
