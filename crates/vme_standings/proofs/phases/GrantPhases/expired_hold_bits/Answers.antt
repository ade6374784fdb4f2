use Rattle.std.proofs.Common.{◌≡◌, ◌∙◌, ap, length, arith}
use Rattle.std.proofs.lemmas.Bool.Decides.{nat_tests}
use Rattle.vme_bus.specs.Sets.{has}
use Rattle.vme_standings.proofs.PhaseBits.{in_bits, one_more}
use Rattle.vme_standings.proofs.phases.GrantPhases.expired_hold_bits.Goals as goal

pub loop-level-preserved : goal.loop-level-preserved
loop-level-preserved c =
    one_more c.args.self.now.expired c.loop-level.level c.loop-level.invariant
    (λ t h. c.row_holds_bits.ensures t (ap (λ r. has r t) c.expired_row.ensures ∙ h))

pub returns : goal.returns
returns c k t h =
    let size : length c.args.self.now.expired ≡ 4 = omega arith in
    let ended : c.loop-level.level ≡ 4 = grind (arith, nat_tests, c.loop-level.auto.level-end, c.loop-level-test.false) in
    in_bits c.args.self.now.expired 4 c.loop-level.level k t size ended c.loop-level.invariant h
