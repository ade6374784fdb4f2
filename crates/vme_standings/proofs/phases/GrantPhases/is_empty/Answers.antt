use Rattle.std.proofs.Common.{◌≡◌, Bool, true, false, refl}
use Rattle.std.specs.Prelude.{not}
use Rattle.vme_standings.specs.declared.phases.GrantPhase.TheVariants.{Held}
use Rattle.vme_standings.proofs.phases.GrantPhases.is_empty.Goals as goal

is_true : (b : Bool) → not b ≡ false → b ≡ true
is_true true e = refl
is_true false e = absurd (cc)

pub returns-clause-some : goal.returns-clause-some
returns-clause-some c h =
    let w = c.is_some-is_held.ensures.some (is_true c.is_some-is_held.result h) in
    let v = c.holders-holders.ensures.some w.0 w.1 in
    (Held w.0 v.1.0, v.1.1)
