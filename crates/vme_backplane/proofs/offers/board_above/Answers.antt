-- No slot below passes the test, and this one does.
use Rattle.std.proofs.Common.{◌≡◌, sym, arith, ℕ, true}
use Rattle.std.specs.Prelude.{◌&&◌, nat_lt, is_some}
use Rattle.vme_model.specs.Plan.{board}
use Rattle.vme_backplane.proofs.Slots.{find_up_to_first}
use Rattle.vme_backplane.proofs.offers.board_above.Goals as goal

pub returns-then-is_board_above : goal.returns-then-is_board_above
returns-then-is_board_above c =
    let test = λ (t : ℕ). nat_lt c.args.slot t && is_some (board c.args.plan.now t) in
    let holds : test c.loop-other.other ≡ true = cc in
    sym (find_up_to_first test c.args.plan.now.slots c.loop-other.other (omega arith) (omega arith) holds c.loop-other.invariant)
