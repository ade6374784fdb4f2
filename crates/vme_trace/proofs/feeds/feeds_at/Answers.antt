use Rattle.std.proofs.Common.{eqb, take, drop, arith, ap, sym, ◌∙◌, w8}
use Rattle.std.specs.Int.{bit_at}
use Rattle.std.proofs.lemmas.Simd.{bitmask_splat, length-chunk}
use Rattle.vme_trace.proofs.FeedBits.{feed_from_bit}
use Rattle.vme_trace.proofs.feeds.feeds_at.Goals as goal

pub returns : goal.returns
returns c = λ k set.
    let long = length-chunk c.args.at 64 c.args.text.now c.requires in
    let mask = bitmask_splat w8 eqb (take 64 (drop c.args.at c.args.text.now)) 64 10 long (omega arith) in
    feed_from_bit c.args.text.now c.args.at c.requires k (sym (ap (λ n. bit_at n k) mask) ∙ set)
