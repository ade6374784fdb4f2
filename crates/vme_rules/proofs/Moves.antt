-- An edge that moves its wire is answered by its rule alone.
use Rattle.std.proofs.Common.{◌≡◌, Bool, true, false, ℕ}
use Rattle.std.proofs.Math.Bool.{beq}
use Rattle.std.specs.Prelude.{Ok}
use Rattle.vme_model.specs.declared.refusals.Refused.TheVariants.{AlreadyThere, Rule}
use Rattle.vme_model.specs.Verdict.{check, is_other_state}

pub ruled_alone : (low fall : Bool) {number n : ℕ} {it holds : Bool} → beq low fall ≡ false → number ≡ n → it ≡ holds →
    check it (Rule number) (Ok tt) ≡ check (is_other_state low fall) AlreadyThere (check holds (Rule n) (Ok tt))
ruled_alone true true moves same is = absurd (cc)
ruled_alone true false moves same is = cc (same, is)
ruled_alone false true moves same is = cc (same, is)
ruled_alone false false moves same is = absurd (cc)
