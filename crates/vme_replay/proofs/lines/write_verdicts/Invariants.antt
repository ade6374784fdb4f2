use Rattle.std.proofs.Common.{◌≡◌, ◌+◌, ◌++◌, length}
use Rattle.vme_model.specs.Verdict.{kept}
use Rattle.vme_model.specs.Locality.{AreWellFormed}
use Rattle.vme_model.specs.Report.{verdict_lines}
use Rattle.vme_reading.specs.Texts.{HandsOn}
use Rattle.vme_replay.proofs.lines.write_verdicts.Given as goal

abbrev pub invariant-loop-rest : goal.invariant-loop-rest
invariant-loop-rest g l = record {
  number : l.count + length l.rest ≡ l.judged + 1 + length l.edges;
  formed : AreWellFormed l.rest;
  state : kept l.fn.bus l.edges ≡ kept l.bus l.rest;
  run : HandsOn (g.W.Write.contents l.fn.out) (g.W.Write.contents l.out) (verdict_lines l.fn.bus (l.judged + 1) l.edges) (l.text ++ verdict_lines l.bus l.count l.rest);
}

abbrev pub decreases-loop-rest : goal.decreases-loop-rest
decreases-loop-rest g l = length l.rest
