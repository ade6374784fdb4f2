use Rattle.std.proofs.Common.{◌∙◌}
use Rattle.vme_same.proofs.progress.Pairing.look_on.Goals as goal

pub looks-preserved : goal.looks-preserved
looks-preserved c = record {
  going = λ p v w k fs going.
      c.look.ensures.going p v w k fs (c.looks.invariant.going p v w k fs going);
  ended = c.look.ensures.ended ∙ c.looks.invariant.ended;
  over = c.look.ensures.over ∙ c.looks.invariant.over;
}
