use Rattle.std.proofs.Common.{◌∙◌, ◌+◌, [], ap, if◌then◌else◌, length, sym}
use Rattle.vme_model.specs.Verdict.{State}
use Rattle.vme_events.specs.Events.{events_of}
use Rattle.vme_events.specs.Places.{by_place}
use Rattle.vme_events.proofs.Places.{edges_placed, places_below}
use Rattle.vme_shrink_search.proofs.behind.events_behind.Goals as goal

pub returns-clause-events : goal.returns-clause-events
returns-clause-events c =
    let b : State = c.marks_of-marks.new.bus in
    c.events_of.ensures (by_place b.history) (length b.history + 1) (edges_placed b.history)
    c.marks_of-marks.ensures.marks (places_below b.history)
    ∙ ap (λ (s : State). events_of s.plan s.history c.args.edge) c.marks_of-marks.ensures.state
    ∙ ap (λ t. if t then events_of c.args.bus.now.plan c.args.bus.now.history c.args.edge else [])
    (sym c.if-not-is_accepted.false)
