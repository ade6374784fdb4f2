use Rattle.std.proofs.Common.{◌≡◌, take}
use Rattle.vme_summary.specs.Tallied.{met_after}
use Rattle.vme_summary.proofs.met.Met.note.Given as goal

abbrev pub invariant-loop-event : goal.invariant-loop-event
invariant-loop-event l = l.self ≡ met_after l.n l.fn.self (take l.event-index l.events)
