use Rattle.std.proofs.Common.{◌≡◌, ◌-◌}
use Rattle.vme_events.specs.Places.{by_place}
use Rattle.vme_explain.specs.Marked.{IsMarksOf}
use Rattle.vme_drive.specs.Seeking.{sought}
use Rattle.vme_reading.specs.Texts.{KeepsListed}
use Rattle.vme_drive.proofs.seeks.seek.Given as goal

abbrev pub invariant-loop-made : goal.invariant-loop-made
invariant-loop-made g l = record {
  rest : sought l.goal l.edges l.fn.walk ≡ sought l.goal (l.edges - l._made) l.walk;
  marks : IsMarksOf l.walk.state.plan (by_place l.walk.state.history) l.marks;
  listed : KeepsListed l.fn.walk.state l.fn.text (g.W.Write.contents l.fn.out) (g.W.Write.contents l.out) l.walk.state l.text;
}
