use Rattle.std.proofs.Common.{◌≡◌, ◌∙◌, true, false, sym}
use Rattle.std.specs.Prelude.{◌==◌}
use Rattle.vme_bus.specs.Sets.{has}
use Rattle.vme_model.proofs.Bools.{and_left, and_right}
use Rattle.vme_standings.specs.declared.phases.GrantPhase.{GrantPhase}
use Rattle.vme_standings.specs.GrantChains.{is_of_level}
use Rattle.vme_standings.specs.Phases.{has_phase, is_held_by}
use Rattle.vme_standings.proofs.Growing.{grow_some, grow_all, both}
use Rattle.vme_standings.proofs.grants.askers.Goals as goal

pub loop-slot-preserved : goal.loop-slot-preserved
loop-slot-preserved c = record {
  some = grow_some (has c.loop-slot.found) (has c.with_if-found.result)
      (λ s. (is_of_level c.args.plan.now c.args.level s ≡ true) × ((q : GrantPhase) × (has_phase c.args.phases.now q ≡ true) × (is_held_by (λ b. b == s) q ≡ false)))
      c.loop-slot.slot c.both-is_both.result c.with_if-found.ensures c.loop-slot.invariant.some
      (λ h. let e = sym c.both-is_both.ensures ∙ h in (sym c.is_of_level-is_of_level.ensures ∙ and_left _ _ e, c.is_elsewhere-is_elsewhere.ensures.some (and_right _ _ e)));
  all = λ s q l table level is_in away. grow_all (has c.loop-slot.found) (has c.with_if-found.result)
      (λ s. (is_of_level c.args.plan.now c.args.level s ≡ true) × (is_held_by (λ b. b == s) q ≡ false))
      c.loop-slot.slot c.both-is_both.result c.with_if-found.ensures
      (λ s l w. c.loop-slot.invariant.all s q l table w.0 is_in w.1)
      (λ w. c.both-is_both.ensures ∙ both _ _ (c.is_of_level-is_of_level.ensures ∙ w.0) (c.is_elsewhere-is_elsewhere.ensures.all q table is_in w.1))
      s l (level, away);
}
