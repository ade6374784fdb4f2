-- What is wanted of the pins is what is wanted of the lines.
use Rattle.std.proofs.Common.{◌∙◌, ap}
use Rattle.std.specs.Prelude.{find, ◌&&◌}
use Rattle.vme_model.specs.declared.sets.Levels.{Levels}
use Rattle.vme_model.specs.Sets.{has_level}
use Rattle.vme_model.specs.History.{interrupt_line}
use Rattle.vme_model.specs.Offers.{irq_descending}
use Rattle.vme_model.proofs.PinSets.{wanted_of_pins}
use Rattle.vme_backplane.specs.Looks.{history_of}
use Rattle.vme_backplane.proofs.looks.Look.wanted.Goals as goal

pub returns : goal.returns
returns c =
    c.wants.ensures
    ∙ ap (λ (x : Levels). find (λ v. has_level x v && has_level c.irqs.result v) irq_descending) c.new.ensures
    ∙ ap (λ (y : Levels). find (λ v. has_level c.args.board.now.handler v && has_level y v) irq_descending) c.irqs.ensures
    ∙ wanted_of_pins c.args.board.now.handler (interrupt_line c.args.self.now.plan.now (history_of c.args.self.now))
