use Rattle.vme_bus.proofs.NextBoards.{next_found, none_above}
use Rattle.vme_bus.proofs.states.BusState.board_above.Goals as goal

pub returns-then-slot-lt32 : goal.returns-then-slot-lt32
returns-then-slot-lt32 c version p h is =
    next_found p is.accepted c.args.self.now.layout.boards is.layout.boards c.args.slot c.next_after.result c.next_after.ensures

pub returns-else-slot-lt32 : goal.returns-else-slot-lt32
returns-else-slot-lt32 c version p h is = none_above p is.accepted c.args.slot c.if-slot-lt32.false
