use Rattle.std.proofs.Common.{◌∙◌, ap, arith, ◌++◌, ◌+◌}
use Rattle.vme_replay.specs.Counting.{tens_text}
use Rattle.vme_replay.proofs.NextNumber.{rest_stands}
use Rattle.vme_replay.proofs.counts.Count.advance.Goals as goal

pub invariant_of-self : goal.invariant_of-self
invariant_of-self c = record {
  least = omega arith;
  most = omega arith;
  small = omega arith;
  ends = c.spell-self-inside.ensures.ends;
  is =
      c.spell-self-inside.ensures.is
      ∙ ap (λ l. tens_text (c.self.inside.tens + 1) ++ l) (rest_stands c.self.inside.tens c.self.inside.last c.self.inside.first c.self.inside.line c.self.invariant);
}
