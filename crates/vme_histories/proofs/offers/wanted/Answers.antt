use Rattle.std.proofs.Common.{◌∙◌, sym, ap}
use Rattle.std.specs.Prelude.{◌&&◌, find}
use Rattle.vme_model.specs.declared.sets.Levels.{Levels}
use Rattle.vme_model.specs.History.{interrupt_line}
use Rattle.vme_model.specs.Sets.{has_level}
use Rattle.vme_model.specs.Offers.{irq_descending}
use Rattle.vme_model.proofs.PinSets.{wanted_of_pins}
use Rattle.vme_histories.proofs.offers.wanted.Goals as goal

pub returns : goal.returns
returns g c version p h is r same =
    c.wants.ensures
    ∙ ap (λ (s : Levels). find (λ v. has_level s v && has_level c.low_interrupts.result v) irq_descending) (c.new.ensures ∙ sym same)
    ∙ ap (λ (s : Levels). find (λ v. has_level r.handler v && has_level s v) irq_descending) (c.low_interrupts.ensures version p h is)
    ∙ wanted_of_pins r.handler (interrupt_line p h)
