use Rattle.std.proofs.Common.{◌≡◌, ◌-◌, ℕ, List, Option, Some}
use Rattle.vme_model.specs.declared.signals.Version.{Version}
use Rattle.vme_engines.specs.Steps.{Comes, IsCounted}
use Rattle.vme_engines.proofs.ReadOn.{IsUnderWay}
use Rattle.vme_engines.proofs.pieces.read_on.Given as goal

abbrev pub invariant-reads : goal.invariant-reads
invariant-reads g l = record {
  counted : IsCounted l.reader (l.fn.reads - l.counter) (g.J.Judge.count l.judge);
  under_way : (version : Version) (from : Option (List ℕ)) (text head : List ℕ) → l.fn.reader.version ≡ Some version
      → Comes from (g.R.Read.remaining l.fn.input) text head l.fn.reads l.fn.reader l.fn.edges.items l.fn.first
      → IsUnderWay (g.J.Judge.takes l.fn.judge) version text head from (g.R.Read.remaining l.input) (g.W.Write.contents l.fn.out) (g.W.Write.contents l.out) l.judge l.reader (l.fn.reads - l.counter);
}
