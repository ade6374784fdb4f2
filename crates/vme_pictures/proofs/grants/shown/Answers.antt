use Rattle.std.proofs.Common.{subst, sym, ap}
use Rattle.vme_model.specs.declared.pins.Pins.{Pins}
use Rattle.vme_pictures.proofs.Ranges.{IsInRange, shown_in_range}
use Rattle.vme_pictures.proofs.grants.shown.Goals as goal

pub returns-clause-range : goal.returns-clause-range
returns-clause-range c =
    let b = c.args.bus.now in
    subst IsInRange (sym (ap (λ (p : Pins). p.shown) c.pins.ensures)) (shown_in_range b.version b.plan b.history c.laws.ensures.legal)
