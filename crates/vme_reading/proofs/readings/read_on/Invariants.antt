use Rattle.std.proofs.Common.{◌≡◌, ◌-◌, ℕ, List, [], Option, Some}
use Rattle.vme_model.specs.declared.signals.Version.{Version}
use Rattle.vme_model.specs.Plan.{Plan}
use Rattle.vme_reading.specs.Steps.{Comes, IsCounted}
use Rattle.vme_reading.proofs.ReadTraces.{IsUnderWay}
use Rattle.vme_reading.proofs.readings.read_on.Given as goal

abbrev pub invariant-reads : goal.invariant-reads
invariant-reads g l = record {
  counted : IsCounted l.reader (l.fn.reads - l.counter) (g.J.Judge.count l.judge);
  under_way : (task : g.row.J-Task.Denot) (p : Plan) (v : Version) (from : Option (List ℕ)) (head : List ℕ)
      → g.J.Judge.stands task p v [] (g.W.Write.contents l.fn.out) (g.W.Write.contents l.fn.out) l.fn.judge
      → l.fn.reader.version ≡ Some v → Comes from (g.R.Read.remaining l.fn.input) head l.fn.reads l.fn.reader l.fn.edges.items l.fn.first
      → IsUnderWay (g.J.Judge.stands task p v) v head from (g.R.Read.remaining l.input) (g.W.Write.contents l.fn.out) (g.W.Write.contents l.out) l.judge l.reader (l.fn.reads - l.counter);
}
