use Rattle.std.proofs.Common.{◌≡◌, ◌∙◌, ◌<◌, ◌≤◌, sym, ap, arith, ⊎_elim}
use Rattle.std.proofs.lemmas.Bool.{cases_lt}
use Rattle.std.proofs.lemmas.Bool.Decides.{nat_tests}
use Rattle.std.specs.Prelude.{◌&&◌}
use Rattle.vme_bus.specs.Sets.{has}
use Rattle.vme_bus.proofs.Boards.{none_beyond}
use Rattle.vme_standings.specs.declared.interrupters.Interrupters.TheVariants.{All}
use Rattle.vme_standings.specs.Interrupters.{is_meant}
use Rattle.vme_standings.specs.Fronts.{input_place}
use Rattle.vme_standings.proofs.Tests.{and_false}
use Rattle.vme_standings.proofs.fronts.Fronts.reached.Goals as goal

pub returns : goal.returns
returns c s =
    let p = c.args.plan.now in
    let ended : c.loop-slot.slot ≡ 22 = grind (arith, nat_tests, c.loop-slot.auto.slot-end, c.loop-slot-test.false) in
    ⊎_elim
    (λ (l : s < 22).
    let near : s < c.loop-slot.slot = omega arith in
    c.loop-slot.invariant.below s near ∙ ap (λ b. b && has c.args.self.now.ends (input_place p s)) (c.slots-boards.ensures s))
    (λ (l : 22 ≤ s).
    let far : c.loop-slot.slot ≤ s = omega arith in
    c.loop-slot.invariant.above s far ∙ sym (and_false _ (has c.args.self.now.ends (input_place p s)) (none_beyond p c.accepted.ensures s l (is_meant All))))
    (cases_lt s 22)
