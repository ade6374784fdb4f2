use Rattle.std.specs.Int.{w64}
use Rattle.std.proofs.lemmas.Nat.Bits.{bit_at-trailing_zeros}
use Rattle.vme_trace.proofs.feeds.lowest.Goals as goal

pub returns : goal.returns
returns c = (bit_at-trailing_zeros w64 c.args.bits c.requires c.ranges.bits.fits).1
