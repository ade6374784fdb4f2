use Rattle.std.proofs.Common.{sym, ap, ◌∙◌, subst}
use Rattle.std.specs.Prelude.{slice_index}
use Rattle.vme_lock.specs.Seats.{Place, Keeping}
use Rattle.vme_lock.specs.Holds.{IsOwn, edge_answer}
use Rattle.vme_lock.proofs.HoldAnswers.{edge_lost}
use Rattle.vme_lock.proofs.laws.is_own.Goals as goal

pub returns-then-count-seat : goal.returns-then-count-seat
returns-then-count-seat g c =
    let same = sym c.is_same.ensures ∙ c.if-not-is_same.false in
    let own = ap (slice_index c.held.inside.counts) c.desk.ensures.place ∙ c.held.invariant.0.counts.counted c.seat.inside.driver c.seat.invariant.2 in
    edge_lost c.held.inside.backplane _ c.args.edge _ same own c.if-count-seat.true ∙ (λ i. edge_answer (c.held.view_is i).board (c.seat.view_is i) c.args.edge)

pub returns : goal.returns
returns g c =
    let same = sym c.is_same.ensures ∙ c.if-not-is_same.false in
    let own = ap (slice_index c.held.inside.counts) c.desk.ensures.place ∙ c.held.invariant.0.counts.counted c.seat.inside.driver c.seat.invariant.2 in
    subst (λ (s : Place). IsOwn c.args.held.now.board s c.args.edge) c.seat.view_is
    (subst (λ (k : Keeping). IsOwn k.board (record { driver = c.seat.inside.driver; made = c.seat.inside.made }) c.args.edge) c.held.view_is
    (record { driver = same; made = sym own ∙ c.if-count-seat.false }))
