use Rattle.std.proofs.Common.{refl}
use Rattle.vme_goals.specs.Events.{all_events}
use Rattle.vme_summary.proofs.topics.topics.Goals as goal

pub returns : goal.returns
unfolding all_events
returns c =
    rw (
      c.add_answers.ensures.items,
      c.add_boards.ensures.items,
      c.add-4.ensures.items,
      c.add_situations.ensures.items,
      c.add-3.ensures.items,
      c.add-2.ensures.items,
      c.add_rules.ensures.items,
      c.add.ensures.items,
      c.new-topics.ensures,
    ) refl
