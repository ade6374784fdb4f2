use Rattle.std.proofs.Common.{◌++◌, ◌∷◌, []}
use Rattle.std.proofs.KnownBytes.{Appends-trans}
use Rattle.vme_model.specs.Text.{header, edge_lines, text}
use Rattle.vme_model.specs.History.{in_order}
use Rattle.vme_reading.proofs.WrittenLines.{front_of_more, front_behind, front_kept, on_err}
use Rattle.vme_run.proofs.histories.write_history.Goals as goal

pub returns-in_err-put-clause-front : goal.returns-in_err-put-clause-front
returns-in_err-put-clause-front g c =
    let h = rw (c.header_line.ensures, c.version.ensures) at c.in_err-put.ensures.front in
    on_err c.from_residual.result _ (front_of_more _ _ (header c.args.backplane.now.version ++ 10 ∷ []) (edge_lines (in_order c.args.backplane.now.history)) h)

pub returns-in_err-write_lines-clause-front : goal.returns-in_err-write_lines-clause-front
returns-in_err-write_lines-clause-front g c =
    let h = rw (c.header_line.ensures, c.version.ensures) at c.in_ok-put.ensures.ok in
    on_err c.from_residual-in_err-write_lines.result _
    (front_behind _ _ _ (header c.args.backplane.now.version ++ 10 ∷ []) (edge_lines (in_order c.args.backplane.now.history)) h c.in_err-write_lines.ensures.front)

pub returns-clause-front : goal.returns-clause-front
returns-clause-front g c =
    let h = rw (c.header_line.ensures, c.version.ensures) at c.in_ok-put.ensures.ok in
    on_err c.flush.result _
    (front_kept _ _ _ (text c.args.backplane.now.version (in_order c.args.backplane.now.history))
    (Appends-trans _ _ _ (header c.args.backplane.now.version ++ 10 ∷ []) (edge_lines (in_order c.args.backplane.now.history)) h c.in_ok-write_lines.ensures.ok) c.flush.ensures.kept)
