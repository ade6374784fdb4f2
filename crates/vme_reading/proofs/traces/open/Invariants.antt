use Rattle.std.proofs.Common.{◌≡◌, ◌-◌, [], None}
use Rattle.vme_reading.proofs.TraceReads.{IsReading}
use Rattle.vme_reading.proofs.traces.open.Given as goal

abbrev pub invariant-reads : goal.invariant-reads
invariant-reads g l = record {
  reading : IsReading [] (g.R.Read.remaining l.fn.input) (g.R.Read.remaining l.input) l.reader (16777216 - l.done) [];
  version : l.reader.version ≡ None;
  empty : l.edges.items ≡ [];
}
