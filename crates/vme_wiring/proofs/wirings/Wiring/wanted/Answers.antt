use Rattle.std.proofs.Common.{◌∙◌, ap}
use Rattle.std.specs.Prelude.{◌&&◌, find}
use Rattle.vme_model.specs.declared.sets.Levels.{Levels}
use Rattle.vme_model.specs.Sets.{has_level}
use Rattle.vme_model.specs.Offers.{irq_descending}
use Rattle.vme_wiring.proofs.ConsideredReads.{wants}
use Rattle.vme_wiring.proofs.wirings.Wiring.wanted.Goals as goal

pub returns : goal.returns
returns c version p h is =
    let w = c.args.self.now in
    c.wants.ensures
    ∙ ap (λ (s : Levels). find (λ v. has_level s v && has_level w.shared.irq v) irq_descending) c.new.ensures
    ∙ wants version p h w is c.args.row.now
