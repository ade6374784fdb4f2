use Rattle.std.proofs.Common.{◌≡◌, ◌+◌, ◌++◌, drop}
use Rattle.vme_model.specs.Verdict.{kept}
use Rattle.vme_reading.specs.Outcomes.{full_lines}
use Rattle.vme_reading.specs.Texts.{HandsOn}
use Rattle.vme_replay.proofs.forms.write_full.Given as goal

abbrev pub invariant-loop-edge : goal.invariant-loop-edge
invariant-loop-edge g l = record {
  number : l.n ≡ l.judged + l.edge-index;
  state : kept l.fn.bus l.edges ≡ kept l.bus (drop l.edge-index l.edges);
  run : HandsOn (g.W.Write.contents l.fn.out) (g.W.Write.contents l.out) (full_lines l.fn.bus (l.judged + 1) l.edges) (l.text ++ full_lines l.bus (l.n + 1) (drop l.edge-index l.edges));
}
