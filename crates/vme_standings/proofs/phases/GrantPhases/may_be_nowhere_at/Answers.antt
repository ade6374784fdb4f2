use Rattle.std.proofs.Common.{◌≡◌, ◌∙◌, ℕ, true, refl, sym, ap, arith}
use Rattle.std.specs.Prelude.{◌==◌}
use Rattle.std.proofs.lemmas.Bool.Decides.{nat_tests}
use Rattle.vme_bus.specs.Sets.{has}
use Rattle.vme_standings.specs.declared.phases.GrantPhase.TheVariants.{Idle, Granting, Expired}
use Rattle.vme_standings.specs.GrantChains.{end_place}
use Rattle.vme_standings.specs.Phases.{granting_row}
use Rattle.vme_standings.proofs.phases.GrantPhases.may_be_nowhere_at.Goals as goal

pub returns-then-is_idle_at-clause-some : goal.returns-then-is_idle_at-clause-some
returns-then-is_idle_at-clause-some c _ = (Idle c.args.level, sym c.is_idle_at.ensures ∙ c.if-is_idle_at.true, refl)

same : (n : ℕ) → (n == n) ≡ true
same n = grind (arith, nat_tests)

pub returns-then-is_past-clause-some : goal.returns-then-is_past-clause-some
returns-then-is_past-clause-some c _ =
    let n = c.args.level in
    let end = end_place c.args.plan.now n in (
      Granting n end,
      sym (c.has-is_past.ensures ∙ ap (λ r. has r c.end_place.result) c.granting_row.ensures ∙ ap (has (granting_row c.args.self.now n)) c.end_place.ensures) ∙ c.if-is_past.true,
      same end,
    )

pub returns-clause-some : goal.returns-clause-some
returns-clause-some c h =
    let w = c.is_some-is_expired.ensures.some h in
    (Expired c.args.level w.0, ap (λ r. has r w.0) (sym c.expired_row-firsts.ensures) ∙ w.1, refl)
