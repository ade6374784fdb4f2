use Rattle.std.proofs.Common.{◌∙◌, refl, sym, ap}
use Rattle.vme_bus.specs.Sets.{has}
use Rattle.vme_standings.specs.declared.phases.GrantPhase.TheVariants.{Idle, Granting, Expired}
use Rattle.vme_standings.proofs.phases.GrantPhases.has_free_at.Goals as goal

pub returns-then-is_idle_at-clause-some : goal.returns-then-is_idle_at-clause-some
returns-then-is_idle_at-clause-some c _ = (Idle c.args.level, sym c.is_idle_at.ensures ∙ c.if-is_idle_at.true, refl)

pub returns-then-is_granting-clause-some : goal.returns-then-is_granting-clause-some
returns-then-is_granting-clause-some c _ =
    let w = c.is_some-is_granting.ensures.some c.if-is_granting.true in
    (Granting c.args.level w.0, ap (λ r. has r w.0) (sym c.granting_row-lasts.ensures) ∙ w.1, refl)

pub returns-clause-some : goal.returns-clause-some
returns-clause-some c h =
    let w = c.is_some-is_expired.ensures.some h in
    (Expired c.args.level w.0, ap (λ r. has r w.0) (sym c.expired_row-firsts.ensures) ∙ w.1, refl)
