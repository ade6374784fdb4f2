use Rattle.std.proofs.Common.{sym}
use Rattle.vme_slots.proofs.Drivers.{with_driver, without_driver}
use Rattle.vme_slots.proofs.plans.Plan.drivers.Goals.{then-has_board, else-has_board}
use Rattle.vme_slots.proofs.plans.Plan.drivers.Goals as goal

pub loop-below-preserved : goal.loop-below-preserved
loop-below-preserved c = elim c.if-has_board.branch [
  | then-has_board w ↦ (
      let h = with_driver c.args.self.now c.loop-below.below _ _ (sym w.if-has_board.ensures) c.loop-below.invariant.list w.push-then-has_board.ensures.items c.loop-below.invariant.few in
      record { list = rw w.drivers-is h.0; few = rw w.drivers-is h.1 })
  | else-has_board w ↦ (
      let h = without_driver c.args.self.now c.loop-below.below _ (sym w.if-has_board.ensures) c.loop-below.invariant.list c.loop-below.invariant.few in
      record { list = rw w.drivers-is h.0; few = rw w.drivers-is h.1 })
]
