use Rattle.std.proofs.Common.{drop, reverse}
use Rattle.vme_engines.proofs.DriveRounds.{HasListed}
use Rattle.vme_engines.proofs.drives.write_lines.Given as goal

abbrev pub invariant-loop-place : goal.invariant-loop-place
invariant-loop-place g l =
    HasListed (g.W.Write.contents l.fn.out) (g.W.Write.contents l.out) l.text (reverse l.backplane.history) (drop l.place (reverse l.backplane.history))
