use Rattle.std.proofs.Common.{◌≡◌}
use Rattle.vme_replay.proofs.Fronts.{HasFront}
use Rattle.vme_replay.proofs.joins.joined.Given as goal

abbrev pub invariant-reads : goal.invariant-reads
invariant-reads g l = record {
  front : HasFront (g.R.Read.remaining l.fn.input) (g.R.Read.remaining l.input) l.front;
  out : g.W.Write.contents l.out ≡ g.W.Write.contents l.fn.out;
}
