use Rattle.std.proofs.Common.{◌≡◌, ◌∙◌, ap, length, arith}
use Rattle.std.proofs.lemmas.Bool.Decides.{nat_tests}
use Rattle.vme_bus.specs.Sets.{has}
use Rattle.vme_standings.proofs.PhaseBits.{in_bits, one_more}
use Rattle.vme_standings.proofs.phases.GrantPhases.holders_hold_bits.Goals as goal

pub loop-board-preserved : goal.loop-board-preserved
loop-board-preserved c =
    one_more c.args.self.now.held c.loop-board.board c.loop-board.invariant
    (λ t h. c.row_holds_bits.ensures t (ap (λ r. has r t) c.held_row.ensures ∙ h))

pub returns : goal.returns
returns c k t h =
    let size : length c.args.self.now.held ≡ 22 = omega arith in
    let ended : c.loop-board.board ≡ 22 = grind (arith, nat_tests, c.loop-board.auto.board-end, c.loop-board-test.false) in
    in_bits c.args.self.now.held 22 c.loop-board.board k t size ended c.loop-board.invariant h
