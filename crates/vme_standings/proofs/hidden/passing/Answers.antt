use Rattle.std.proofs.Common.{◌≡◌, ◌∙◌, ◌<◌, Bool, true, sym, subst, arith}
use Rattle.std.proofs.lemmas.Bool.Decides.{nat_tests}
use Rattle.std.specs.Prelude.{◌&&◌}
use Rattle.vme_standings.specs.Driving.{MayPass}
use Rattle.vme_standings.proofs.Tests.{and_false_right}
use Rattle.vme_standings.proofs.hidden.passing.Goals as goal

and_on : (a b : Bool) → b ≡ true → (a && b) ≡ a
and_on a b e = grind arith

pub returns : goal.returns
returns c =
    let ended : c.loop-slot.slot ≡ 22 = grind (arith, nat_tests, c.loop-slot.auto.slot-end, c.loop-slot-test.false) in
    record {
      boards = c.slots-boards.result;
      low = c.on_low_lines-low.result;
      boards_are = c.slots-boards.ensures;
      low_are = c.on_low_lines-low.ensures;
      able = λ s from near is.
          let below : s < c.loop-slot.slot = omega arith in
          subst (λ (b : Bool). MayPass c.slots-boards.result c.on_low_lines-low.result c.args.requests s b)
          (sym (c.and.ensures s ∙ and_on _ _ (c.slots-interrupters.ensures s ∙ is)))
          (c.loop-slot.invariant.able s from below);
      others = λ s is. c.and.ensures s ∙ and_false_right _ _ (c.slots-interrupters.ensures s ∙ is);
    }
