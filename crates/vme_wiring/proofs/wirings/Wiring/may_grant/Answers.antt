use Rattle.std.proofs.Common.{◌≡◌, ◌∙◌, refl, Bool, true, false}
use Rattle.std.specs.Prelude.{◌&&◌}
use Rattle.vme_wiring.specs.Quiet.{may_grant}
use Rattle.vme_wiring.proofs.wirings.Wiring.may_grant.Goals as goal

and_true : (b : Bool) → (b && true) ≡ b
and_true true = refl
and_true false = refl

pub returns : goal.returns
returns c = c.may_grant.ensures ∙ and_true (may_grant c.args.self.now)
