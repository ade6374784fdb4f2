-- No slot below passes the test, and this one does.
use Rattle.std.proofs.Common.{◌≡◌, ◌∙◌, sym, arith, ℕ, true}
use Rattle.std.specs.Prelude.{◌&&◌, nat_lt, is_some}
use Rattle.vme_model.specs.Plan.{board}
use Rattle.vme_slots.proofs.Slots.{find_up_to_first, find_up_to_none}
use Rattle.vme_histories.proofs.Considered.{none_up_to}
use Rattle.vme_wiring.proofs.wirings.Wiring.board_above.Goals as goal

pub loop-other-preserved : goal.loop-other-preserved
loop-other-preserved c version p h is k from below =
    none_up_to (λ t. nat_lt c.args.slot t && is_some (board p t)) c.loop-other.other (c.loop-other.invariant version p h is)
    (sym (c.is_board_above.ensures version p h is) ∙ c.if-is_board_above.false) k from below

pub returns-then-is_board_above : goal.returns-then-is_board_above
returns-then-is_board_above c version p h is =
    let test = λ (t : ℕ). nat_lt c.args.slot t && is_some (board p t) in
    let holds : test c.loop-other.other ≡ true = sym (c.is_board_above.ensures version p h is) ∙ c.if-is_board_above.true in
    let last = is.slots in
    sym (find_up_to_first test p.slots c.loop-other.other (omega arith) (omega arith) holds (c.loop-other.invariant version p h is))

pub returns-else-is_board_above : goal.returns-else-is_board_above
returns-else-is_board_above c version p h is =
    let test = λ (t : ℕ). nat_lt c.args.slot t && is_some (board p t) in
    let last = is.slots in
    sym (find_up_to_none test p.slots (λ k from to.
    none_up_to test c.loop-other.other (c.loop-other.invariant version p h is) (sym (c.is_board_above.ensures version p h is) ∙ c.if-is_board_above.false) k from (omega arith)))
