use Rattle.std.proofs.Common.{◌≡◌, ◌-◌}
use Rattle.vme_seeds.specs.Walks.{walked}
use Rattle.vme_reading.specs.Texts.{KeepsListed}
use Rattle.vme_drive.proofs.draws.take.Given as goal

abbrev pub invariant-loop-made : goal.invariant-loop-made
invariant-loop-made g l = record {
  rest : walked l.edges l.fn.walk ≡ walked (l.edges - l._made) l.walk;
  listed : KeepsListed l.fn.walk.state l.fn.text (g.W.Write.contents l.fn.out) (g.W.Write.contents l.out) l.walk.state l.text;
}
