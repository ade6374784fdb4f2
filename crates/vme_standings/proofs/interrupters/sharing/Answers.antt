use Rattle.std.proofs.Common.{◌≡◌, ◌∙◌, ◌<◌, Bool, true, false, refl, sym, arith, below_more}
use Rattle.std.proofs.lemmas.Bool.Decides.{nat_tests}
use Rattle.std.specs.Prelude.{◌||◌}
use Rattle.vme_bus.specs.Sets.{has}
use Rattle.vme_standings.specs.Interrupters.{SharesLine}
use Rattle.vme_standings.proofs.Tests.{or_left, or_true}
use Rattle.vme_standings.proofs.RequestRows.{level_near}
use Rattle.vme_standings.proofs.interrupters.sharing.Goals as goal

-- one of two holds
one_of : {X : Type 0} (b a o : Bool) → a ≡ b → (a || o) ≡ true → (a ≡ true → X) → (o ≡ true → X) → X
one_of true a o is e f g = f is
one_of false a o is e f g = g (second a o is e)
  where
    second : (x y : Bool) → x ≡ false → (x || y) ≡ true → y ≡ true
    second x y i h = grind arith

pub loop-level-preserved : goal.loop-level-preserved
loop-level-preserved c = record {
  all = below_more _ _
      (λ n l s t on also differs. c.or-shared.ensures s ∙ or_left _ _ (c.loop-level.invariant.all n l s t on also differs))
      (λ s t on also differs. c.or-shared.ensures s ∙ or_true _ _ (c.sharing_on.ensures.all s t on also differs));
  others = λ s held.
      one_of {X = SharesLine c.args.plan.now s} (has c.loop-level.shared s) (has c.loop-level.shared s) (has c.sharing_on.result s) refl (sym (c.or-shared.ensures s) ∙ held)
      (c.loop-level.invariant.others s)
      (λ on. record { level = c.loop-level.level; shares = c.sharing_on.ensures.others s on });
}

pub returns : goal.returns
returns c =
    let ended : c.loop-level.level ≡ 8 = grind (arith, nat_tests, c.loop-level.auto.level-end, c.loop-level-test.false) in
    record {
      all = λ n s t on also differs.
          let near : n < 8 = level_near c.args.plan.now c.accepted.ensures n s on in
          let below : n < c.loop-level.level = omega arith in
          c.loop-level.invariant.all n below s t on also differs;
      others = c.loop-level.invariant.others;
    }
