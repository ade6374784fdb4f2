use Rattle.std.proofs.Common.{ap, sym, reverse}
use Rattle.std.proofs.lemmas.Option.{get_or_from_slice_get, slice_get_within}
use Rattle.vme_trace.specs.Writing.{edge_line}
use Rattle.vme_trace.proofs.WrittenLines.{on_err, line_more, line_front}
use Rattle.vme_drive.proofs.DriveRounds.{well_formed_at}
use Rattle.vme_run.proofs.histories.write_lines.Goals as goal

pub write_line-requires : goal.write_line-requires
write_line-requires g c =
    well_formed_at c.args.backplane.now.version c.args.backplane.now.plan c.args.backplane.now.history c.loop-place.place c.edge_at.result c.laws.ensures.legal c.edge_at.ensures

pub returns-in_err-write_line-clause-front : goal.returns-in_err-write_line-clause-front
returns-in_err-write_line-clause-front g c =
    let made = reverse c.args.backplane.now.history in
    on_err _ _
    (line_front _ _ _ made c.loop-place.place c.edge_at.result _ (slice_get_within made _ _ c.edge_at.ensures)
    (ap (λ e. edge_line e) (sym (get_or_from_slice_get made _ _ _ c.edge_at.ensures))) c.loop-place.invariant c.in_err-write_line.ensures.front)

pub loop-place-preserved : goal.loop-place-preserved
loop-place-preserved g c =
    let made = reverse c.args.backplane.now.history in
    line_more _ _ _ made c.loop-place.place c.edge_at.result _ (slice_get_within made _ _ c.edge_at.ensures)
    (ap (λ e. edge_line e) (sym (get_or_from_slice_get made _ _ _ c.edge_at.ensures))) c.loop-place.invariant c.in_ok-write_line.ensures.ok
