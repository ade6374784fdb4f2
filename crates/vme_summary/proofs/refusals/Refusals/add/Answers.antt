use Rattle.vme_summary.proofs.AddedTraces.{refusals_added}
use Rattle.vme_summary.proofs.refusals.Refusals.add.Goals as goal

pub returns : goal.returns
returns c = λ ts t are is.
    refusals_added ts t c.args.self.now c.args.other.now _ are is
    c.add_counts.ensures.places c.add_counts.ensures.added c.add_counts-2.ensures.places c.add_counts-2.ensures.added
    c.saturating_add-self.ensures c.saturating_add-self-2.ensures c.saturating_add-self-3.ensures
