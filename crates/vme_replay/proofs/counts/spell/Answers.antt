use Rattle.std.proofs.Common.{rules, arith}
use Rattle.std.proofs.lemmas.Fmt.{length-decimal-le}
use Rattle.vme_replay.proofs.counts.spell.Goals as goal

pub write_digits-requires : goal.write_digits-requires
write_digits-requires c = (search (rules, length-decimal-le 20), omega (arith, c.told-line))
