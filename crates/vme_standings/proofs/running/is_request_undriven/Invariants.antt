use Rattle.std.proofs.Common.{◌<◌, ℕ}
use Rattle.vme_captures.specs.declared.signals.Line.TheVariants.{Br}
use Rattle.vme_standings.specs.Running.{IsUndriven}
use Rattle.vme_standings.proofs.running.is_request_undriven.Given as goal

abbrev pub invariant-loop-level : goal.invariant-loop-level
invariant-loop-level l = (n : ℕ) → n < l.level → IsUndriven l.plan l.lines (Br n) → ⊥
