use Rattle.std.proofs.Common.{rules}
use Rattle.std.proofs.lemmas.Fmt.{length-decimal-le}
use Rattle.vme_engines.proofs.NextNumber.{long_enough, digit_counted, digits_written}
use Rattle.vme_engines.proofs.counts.Count.advance.Goals as goal

pub invariant_of-self : goal.invariant_of-self
invariant_of-self c = digit_counted _ _ _ (search rules) c.self.invariant c.if-self-lt57.true

pub write_digits-self-inside-requires : goal.write_digits-self-inside-requires
write_digits-self-inside-requires c = (search (rules, length-decimal-le 20), long_enough _ _ _ (search rules) c.self.invariant)

pub invariant_of-self-else-self-lt57 : goal.invariant_of-self-else-self-lt57
invariant_of-self-else-self-lt57 c =
    digits_written _ _ _ (search rules) c.self.invariant _ _ c.write_digits-self-inside.ensures.start c.write_digits-self-inside.ensures.written
