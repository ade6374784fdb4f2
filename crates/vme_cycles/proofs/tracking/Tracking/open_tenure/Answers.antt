use Rattle.std.proofs.Common.{◌∙◌, [], None, ap, sym}
use Rattle.std.specs.Prelude.{option_map}
use Rattle.std.specs.Option.{option_map_or}
use Rattle.vme_model.specs.declared.signals.Driver.TheVariants.{Slot}
use Rattle.vme_model.specs.Numbered.{numbered}
use Rattle.vme_reading.specs.Outcomes.{bench}
use Rattle.vme_cycles.specs.Transactions.{tenure_line}
use Rattle.vme_cycles.proofs.Behind.{holder_is}
use Rattle.vme_cycles.proofs.tracking.Tracking.open_tenure.Goals as goal

pub returns-in-Some : goal.returns-in-Some
returns-in-Some c = λ p v es is.
    c.tenure_line.ensures p v es is
    ∙ sym (ap (λ o. option_map_or (λ d. tenure_line None d (numbered (bench p v) es)) (option_map (λ s. Slot s) o) []) (holder_is p v es _ is.follows _ c.holder.ensures.slot ∙ c.in-Some.is))

pub returns-in-None : goal.returns-in-None
returns-in-None c = λ p v es is.
    c.new.ensures
    ∙ sym (ap (λ o. option_map_or (λ d. tenure_line None d (numbered (bench p v) es)) (option_map (λ s. Slot s) o) []) (holder_is p v es _ is.follows _ c.holder.ensures.slot ∙ c.in-None.is))
