use Rattle.vme_standings.specs.Running.{Undriven}
use Rattle.vme_standings.proofs.standings.Standings.running.Goals as goal

pub returns-then-is_undriven : goal.returns-then-is_undriven
returns-then-is_undriven c =
    let w = c.is_undriven-is_undriven.ensures.some c.if-is_undriven.true in Undriven w.0 w.1
