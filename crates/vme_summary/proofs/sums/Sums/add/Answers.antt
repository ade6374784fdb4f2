use Rattle.std.proofs.Common.{◌∙◌, ap}
use Rattle.vme_summary.specs.Tallied.{more}
use Rattle.vme_summary.proofs.AddedTraces.{trace_added}
use Rattle.vme_summary.proofs.sums.Sums.add.Goals as goal

pub returns : goal.returns
returns c = λ ts are t is.
    trace_added ts t c.args.self.now _ c.args.tally.now are is
    c.saturating_add-self.ensures c.saturating_add-self-2.ensures (c.saturating_add-self-3.ensures ∙ ap (more c.args.self.now.refused) (c.refused.ensures t is))
    c.add_counts.ensures.places c.add_counts.ensures.added
    (c.add.ensures ts t are.refusals is.refusals)
    c.add_counts-2.ensures.places c.add_counts-2.ensures.added
    c.add_boards.ensures.places c.add_boards.ensures.added
