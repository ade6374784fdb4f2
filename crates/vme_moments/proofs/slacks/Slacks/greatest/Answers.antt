use Rattle.std.proofs.Common.{◌<◌, ◌≤◌, ◌+◌, ℕ, get_or, inl, refl, arith}
use Rattle.vme_moments.proofs.Greatest.{all_more, no_less, none_greater, one_more, some_driver}
use Rattle.vme_moments.proofs.slacks.Slacks.greatest.Goals as goal

pub loop-slack-preserved : goal.loop-slack-preserved
loop-slack-preserved c = (
  (let low : c.args.self.now.controller ≤ c.loop-slack.greatest = c.loop-slack.invariant.0 in
      let grown : c.loop-slack.greatest ≤ c.max-greatest.result =
      no_less c.loop-slack.greatest (get_or c.args.self.now.boards c.loop-slack.slack-index 0)
      c.max-greatest.result c.max-greatest.ensures in omega arith),
  all_more c.args.self.now.boards c.loop-slack.slack-index c.loop-slack.greatest c.max-greatest.result
      c.loop-slack.invariant.1 c.max-greatest.ensures,
  one_more c.args.self.now c.loop-slack.slack-index c.loop-slack.greatest c.max-greatest.result
      c.loop-slack.invariant.2 c.max-greatest.ensures,
)

pub returns-clause-all : goal.returns-clause-all
returns-clause-all c =
    none_greater c.args.self.now c.loop-slack.greatest c.loop-slack.invariant.0
    (λ k lt. c.loop-slack.invariant.1 k (grind arith))

pub returns-clause-some : goal.returns-clause-some
returns-clause-some c =
    some_driver c.args.self.now c.loop-slack.slack-index c.loop-slack.greatest (omega arith)
    c.loop-slack.invariant.2
