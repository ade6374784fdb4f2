use Rattle.std.specs.Prelude.{◌==◌}
use Rattle.vme_standings.specs.declared.phases.GrantPhase.TheVariants.{Held}
use Rattle.vme_standings.proofs.Rows.{not_by}
use Rattle.vme_standings.proofs.grants.is_elsewhere.Goals as goal

pub returns-then-is_free-clause-some : goal.returns-then-is_free-clause-some
returns-then-is_free-clause-some c _ =
    let w = c.has_free-is_free.ensures.some c.if-is_free.true in
    (w.0, w.1, not_by (λ b. b == c.args.slot) w.0 w.2)

pub returns-clause-some : goal.returns-clause-some
returns-clause-some c h =
    let w = c.has_other-is_other.ensures.some h in
    let v = c.holders-holders.ensures.some w.0 w.1 in
    (Held w.0 v.1.0, v.1.1, w.2)
