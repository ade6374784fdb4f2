use Rattle.std.proofs.Common.{◌∙◌, ap, ◌+◌, ◌++◌, ◌∷◌, [], arith}
use Rattle.vme_summary.specs.declared.topics.Topic.TheVariants.{Board}
use Rattle.vme_summary.proofs.Words.{numbered_more}
use Rattle.vme_summary.proofs.topics.add_boards.Goals as goal

pub loop-below-preserved : goal.loop-below-preserved
loop-below-preserved c =
    let n = c.loop-below.below in
    let before = c.loop-below.invariant.room in
    let one = c.add.ensures.len in
    record {
      items = c.add.ensures.items ∙ ap (λ l. l ++ Board (n + 1) ∷ []) c.loop-below.invariant.items ∙ numbered_more (λ k. Board k) c.args.topics.now.items n;
      room = omega (arith, before, one);
    }
