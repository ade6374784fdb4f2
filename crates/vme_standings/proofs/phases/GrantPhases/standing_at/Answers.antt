use Rattle.std.proofs.Common.{◌≡◌, ◌∙◌, ap, arith}
use Rattle.std.proofs.lemmas.Bool.Decides.{nat_tests}
use Rattle.std.specs.Prelude.{◌&&◌, nat_lt}
use Rattle.vme_bus.specs.Sets.{has}
use Rattle.vme_standings.specs.declared.phases.GrantPhase.TheVariants.{Granting}
use Rattle.vme_standings.specs.GrantChains.{is_of_level, place_before}
use Rattle.vme_standings.specs.Phases.{has_phase}
use Rattle.vme_standings.proofs.Growing.{grow}
use Rattle.vme_standings.proofs.Slots.{level_below_and}
use Rattle.vme_standings.proofs.phases.GrantPhases.standing_at.Goals as goal

pub loop-slot-preserved : goal.loop-slot-preserved
loop-slot-preserved c =
    let p = c.args.plan.now in
    let n = c.args.level in
    record {
      accepted = c.loop-slot.invariant.accepted;
      held = grow (has c.loop-slot.boards) (has c.with_if-boards.result) (λ s. is_of_level p n s
          && has_phase c.args.self.now (Granting n (place_before p n s))) c.loop-slot.slot c.is_standing_at.result c.with_if-boards.ensures c.loop-slot.invariant.held c.is_standing_at.ensures;
    }

pub returns : goal.returns
returns c s =
    let p = c.args.plan.now in
    let n = c.args.level in
    let ended : c.loop-slot.slot ≡ 22 = grind (arith, nat_tests, c.loop-slot.auto.slot-end, c.loop-slot-test.false) in
    c.loop-slot.invariant.held s
    ∙ ap (λ k. nat_lt s k && (is_of_level p n s && has_phase c.args.self.now (Granting n (place_before p n s)))) ended
    ∙ level_below_and p c.loop-slot.invariant.accepted n s (has_phase c.args.self.now (Granting n (place_before p n s)))
