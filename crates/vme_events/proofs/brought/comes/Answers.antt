use Rattle.std.proofs.Common.{◌∙◌, ap}
use Rattle.std.specs.List.{list_any}
use Rattle.vme_goals.specs.Events.{is_same_event}
use Rattle.vme_events.specs.Events.{comes}
use Rattle.vme_events.proofs.Contained.{among_all}
use Rattle.vme_events.proofs.brought.comes.Goals as goal

pub returns : goal.returns
returns c = λ k n same marks below. let b = c.args.bus.now in
    c.has.ensures
    ∙ ap (list_any (λ e. is_same_event e c.args.event)) (c.as_slice.ensures.value ∙ c.events_of.ensures k n same marks below)
    ∙ among_all (comes b.plan b.history c.args.edge.now) c.args.event
