use Rattle.std.proofs.Common.{◌∙◌, sym, ap, ◌++◌, ◌∷◌, [], take, get_or, append_assoc, arith}
use Rattle.std.specs.Prelude.{map}
use Rattle.std.proofs.lemmas.List.{map_more, take_all}
use Rattle.vme_goals.specs.declared.events.Event.TheVariants as event
use Rattle.vme_goals.specs.Events.{all_events}
use Rattle.vme_summary.specs.declared.topics.Topic.TheVariants.{Met}
use Rattle.vme_summary.proofs.topics.add_situations.Goals as goal

pub loop-event-preserved : goal.loop-event-preserved
unfolding all_events
loop-event-preserved c =
    let i = c.loop-event.event-index in
    let v = get_or all_events i event.GrantPassed in
    let before = c.loop-event.invariant.room in
    let one = c.add.ensures.len in
    record {
      items =
          c.add.ensures.items ∙ ap (λ l. l ++ Met v ∷ []) c.loop-event.invariant.items
          ∙ append_assoc c.args.topics.now.items (map (λ v. Met v) (take i all_events)) (Met v ∷ [])
          ∙ ap (λ l. c.args.topics.now.items ++ l) (sym (map_more (λ v. Met v) all_events i event.GrantPassed c.loop-event-test.true));
      room = omega (arith, before, one);
    }

pub returns-clause-items : goal.returns-clause-items
unfolding all_events
returns-clause-items c =
    c.loop-event.invariant.items ∙ ap (λ l. c.args.topics.now.items ++ map (λ v. Met v) l) (take_all c.loop-event.event-index all_events c.loop-event-test.false)
