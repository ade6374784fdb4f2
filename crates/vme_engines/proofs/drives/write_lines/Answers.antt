use Rattle.vme_trace.proofs.WrittenLines.{on_err_map}
use Rattle.vme_engines.proofs.WrittenLines.{on_err}
use Rattle.vme_engines.proofs.DriveRounds.{well_formed_at, listed_on, listed_more, listed_front}
use Rattle.vme_engines.proofs.drives.write_lines.Goals as goal

pub push_edge-requires-clause-well_formed : goal.push_edge-requires-clause-well_formed
push_edge-requires-clause-well_formed g c =
    well_formed_at c.args.backplane.now.version c.args.backplane.now.plan c.args.backplane.now.history c.loop-place.place c.edge_at.result c.laws.ensures.legal c.edge_at.ensures

pub returns-in_err-make_room-clause-front : goal.returns-in_err-make_room-clause-front
returns-in_err-make_room-clause-front g c =
    on_err c.from_residual.result _ (listed_front _ _ _ _ _ _ c.loop-place.invariant c.in_err-make_room.ensures.front)

pub loop-place-preserved : goal.loop-place-preserved
loop-place-preserved g c =
    rw c.push_edge.ensures
    (listed_more _ _ _ c.loop-place.place _ c.edge_at.result c.edge_at.ensures (listed_on _ _ _ _ _ _ c.loop-place.invariant _ c.in_ok-make_room.ensures.ok))

pub returns-clause-front : goal.returns-clause-front
returns-clause-front g c =
    on_err_map c.hand_on.result _ _ (λ w. listed_front _ _ _ _ _ _ c.loop-place.invariant w) c.hand_on.ensures.front
