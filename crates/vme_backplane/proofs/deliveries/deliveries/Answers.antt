use Rattle.std.proofs.Common.{◌∙◌, sym, ap, subst, reverse, take, List}
use Rattle.vme_model.specs.declared.deliveries.Delivery.{Delivery}
use Rattle.vme_model.specs.declared.signals.Edge.{Edge}
use Rattle.vme_model.specs.History.{in_order}
use Rattle.vme_model.specs.Deliveries.{delivered, followed_by}
use Rattle.vme_wiring.specs.Wired.{IsWiringOf}
use Rattle.vme_backplane.proofs.Replayed.{next_edge, was_allowed}
use Rattle.vme_backplane.proofs.deliveries.deliveries.Goals as goal

pub note-requires : goal.note-requires
note-requires c =
    let past = reverse (take c.loop-place.place (in_order c.args.store.now.history)) in
    record {
      allowed = record {
        version = c.args.version;
        plan = c.args.plan.now;
        history = past;
        is_wiring = c.loop-place.invariant.wired;
        allowed = was_allowed c.args.version c.args.plan.now c.args.store.now.history c.loop-place.place c.edge_at-edge.result c.requires c.edge_at-edge.ensures;
      };
    }

pub loop-place-preserved : goal.loop-place-preserved
loop-place-preserved c =
    let xs = in_order c.args.store.now.history in
    let i = c.loop-place.place in
    let e = c.edge_at-edge.result in
    let v = c.args.version in
    let p = c.args.plan.now in
    let past = reverse (take i xs) in
    let next = next_edge xs i e c.edge_at-edge.ensures in
    let allowed = was_allowed v p c.args.store.now.history i e c.requires c.edge_at-edge.ensures in
    record {
      wired = subst (λ (h : List Edge). IsWiringOf v p h c.note.new.self) (sym next) (c.note.ensures v p past c.loop-place.invariant.wired allowed);
      given =
          c.in_ok-append.ensures
          ∙ ap (λ (ds : List Delivery). followed_by ds c.delivery.result) c.loop-place.invariant.given
          ∙ ap (followed_by (delivered p past)) (c.delivery.ensures v p past c.loop-place.invariant.wired)
          ∙ sym (ap (delivered p) next);
    }
