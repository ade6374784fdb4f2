use Rattle.std.proofs.Common.{◌∙◌}
use Rattle.vme_same.proofs.progress.Pairing.match_waiting.Goals as goal

pub matches-preserved : goal.matches-preserved
matches-preserved c = record {
  going = λ t going.
      c.match_next.ensures.going t (c.matches.invariant.going t going);
  ended = c.match_next.ensures.ended ∙ c.matches.invariant.ended;
  over = c.match_next.ensures.over ∙ c.matches.invariant.over;
}
