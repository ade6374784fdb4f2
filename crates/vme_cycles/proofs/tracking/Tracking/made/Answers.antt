use Rattle.std.proofs.Common.{◌∙◌, ap, arith, sym}
use Rattle.vme_model.specs.declared.signals.Driver.TheVariants.{Slot}
use Rattle.vme_model.specs.History.{cycles}
use Rattle.vme_model.specs.Numbered.{edges_in, numbered}
use Rattle.vme_reading.specs.Outcomes.{bench}
use Rattle.vme_cycles.proofs.Behind.{few_cycles}
use Rattle.vme_cycles.proofs.tracking.Tracking.made.Goals as goal

pub returns-in-Slot : goal.returns-in-Slot
returns-in-Slot c = λ p v es is.
    let k = numbered (bench p v) es in
    c.made.ensures p k is.follows.marks (few_cycles p v es c.args.self.now.following is.follows (Slot c.in-Slot.slot) (omega (arith, c.laws.ensures.fits, c.laws.ensures.bounded)))
    ∙ ap (cycles (edges_in k)) (sym c.in-Slot.is)
