use Rattle.std.proofs.Common.{arith}
use Rattle.std.proofs.lemmas.Result.{err_from_is_err_and}
use Rattle.vme_engines.proofs.DrivenLines.{turns_front}
use Rattle.vme_engines.proofs.drives.Driving.take_turns.Goals as goal

pub returns-in_err-take_turn : goal.returns-in_err-take_turn
returns-in_err-take_turn g c =
    let e = err_from_is_err_and c.from_residual.result c.from_residual.ensures.1 in
    rw (e.1, e.2) (
      c.in_err-take_turn.ensures.0,
      λ first listed.
          turns_front c.args.round c.args.edges c.args.self.now.bus c.loop-driver.self.bus c.args.drivers.now c.loop-driver.driver-index _ (omega arith) c.loop-driver.invariant.rest first _
          (c.in_err-take_turn.ensures.1 first (c.loop-driver.invariant.listed first listed)),
    )
