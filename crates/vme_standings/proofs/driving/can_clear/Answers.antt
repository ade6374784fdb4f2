use Rattle.std.proofs.Common.{◌∙◌, Bool, refl, sym, ap, below_more}
use Rattle.std.specs.Prelude.{◌&&◌, nat_lt}
use Rattle.vme_bus.specs.declared.sets.SlotSet.{SlotSet}
use Rattle.vme_bus.specs.Sets.{has}
use Rattle.vme_standings.specs.declared.phases.GrantPhase.TheVariants.{Held}
use Rattle.vme_standings.specs.Grants.{are_alike}
use Rattle.vme_standings.proofs.Tests.{never}
use Rattle.vme_standings.proofs.driving.can_clear.Goals as goal

pub returns-then-is_seen : goal.returns-then-is_seen
returns-then-is_seen c =
    let w = c.is_clear_seen-is_seen.ensures.some c.if-is_seen.true in
    record {
      some = λ _. (
        Held c.loop-board.board w.0,
        ap (λ (r : SlotSet). has r w.0) (sym c.held_row-row.ensures) ∙ w.1,
        ap (λ (b : Bool). are_alike (b && nat_lt 0 w.0) c.args.fall) (sym c.can_be_due-can_be_due.ensures) ∙ w.2,
      );
      all = λ _ _ _ _. refl;
    }

pub loop-board-preserved : goal.loop-board-preserved
loop-board-preserved c =
    below_more _ _ c.loop-board.invariant (λ t near is_in alike.
    never _ (c.is_clear_seen-is_seen.ensures.all t near
    (ap (λ (r : SlotSet). has r t) c.held_row-row.ensures ∙ is_in)
    (ap (λ (b : Bool). are_alike (b && nat_lt 0 t) c.args.fall) c.can_be_due-can_be_due.ensures ∙ alike))
    c.if-is_seen.false)
