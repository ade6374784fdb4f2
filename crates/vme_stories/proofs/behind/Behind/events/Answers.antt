use Rattle.std.proofs.Common.{◌∙◌, ◌+◌, ap, length}
use Rattle.vme_model.specs.Verdict.{State}
use Rattle.vme_events.specs.Events.{events_of}
use Rattle.vme_events.specs.Places.{by_place}
use Rattle.vme_events.proofs.Places.{edges_placed, places_below}
use Rattle.vme_stories.proofs.behind.Behind.events.Goals as goal

pub returns : goal.returns
returns c =
    let b : State = c.self.inside.bus in
    c.events_of.ensures (by_place b.history) (length b.history + 1) (edges_placed b.history)
    c.self.invariant (places_below b.history)
    ∙ ap (λ (s : State). events_of s.plan s.history c.args.edge) c.self.view_is
