use Rattle.std.proofs.Common.{◌≡◌, length, arith}
use Rattle.vme_standings.specs.declared.phases.GrantPhase.TheVariants.{Idle, Granting, Held, Expired}
use Rattle.vme_standings.proofs.PhaseBits.{idle_near}
use Rattle.vme_standings.proofs.phases.GrantPhases.holds_bits.Goals as goal

pub returns : goal.returns
returns c (Idle k) h =
    let size : length c.args.self.now.idle ≡ 4 = omega arith in
    idle_near c.args.self.now.idle 4 k size h
returns c (Granting k t) h = c.grants_hold_bits.ensures k t h
returns c (Held k t) h = c.holders_hold_bits.ensures k t h
returns c (Expired k t) h = c.expired_hold_bits.ensures k t h
