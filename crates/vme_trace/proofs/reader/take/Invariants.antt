use Rattle.std.proofs.Common.{length}
use Rattle.vme_trace.specs.Reading.{IsPart}
use Rattle.vme_trace.specs.Taking.{place}
use Rattle.vme_trace.proofs.ReaderSteps.{Taken}
use Rattle.vme_trace.proofs.reader.take.Given as goal

abbrev pub invariant-lines : goal.invariant-lines
invariant-lines g l = record {
  part : IsPart l.part.items;
  so_far : Taken l.fn.version (place l.fn.n l.fn.part.items) l.piece l.rest l.fn.edges.items l.edges.items l.version (place l.n l.part.items);
}

abbrev pub decreases-lines : goal.decreases-lines
decreases-lines g l = length l.rest
