use Rattle.std.proofs.Common.{◌++◌, ◌∷◌, []}
use Rattle.std.proofs.KnownBytes.{Appends-trans}
use Rattle.vme_model.specs.Text.{header}
use Rattle.vme_drive.specs.Drawing.{ended_lines, ended_text}
use Rattle.vme_drive.specs.Seeking.{walk_to}
use Rattle.vme_reading.proofs.WrittenLines.{front_of_more, front_behind, front_kept, on_err}
use Rattle.vme_drive.proofs.draws.write_walk.Goals as goal

pub returns-in_err-put-clause-front : goal.returns-in_err-put-clause-front
returns-in_err-put-clause-front g c =
    let w = c.args.walk.now in
    let h = rw (c.header_line.ensures, c.version.ensures, c.bus.ensures) at c.in_err-put.ensures.front in
    on_err c.from_residual.result _ (front_of_more _ _ (header w.state.version ++ 10 ∷ []) (ended_lines (walk_to c.args.goal c.args.edges w)) h)

pub returns-in_err-ending-clause-front : goal.returns-in_err-ending-clause-front
returns-in_err-ending-clause-front g c =
    let w = c.args.walk.now in
    let h = rw (c.header_line.ensures, c.version.ensures, c.bus.ensures) at c.in_ok-put.ensures.ok in
    on_err c.from_residual-in_err-ending.result _ (front_behind _ _ _ (header w.state.version ++ 10 ∷ []) (ended_lines (walk_to c.args.goal c.args.edges w)) h c.in_err-ending.ensures.front)

pub returns-in_err-flush-clause-front : goal.returns-in_err-flush-clause-front
returns-in_err-flush-clause-front g c =
    let w = c.args.walk.now in
    let x = walk_to c.args.goal c.args.edges w in
    let h = rw (c.header_line.ensures, c.version.ensures, c.bus.ensures) at c.in_ok-put.ensures.ok in
    on_err c.from_residual-in_err-flush.result _
    (front_kept _ _ _ (ended_text w.state.version x) (Appends-trans _ _ _ (header w.state.version ++ 10 ∷ []) (ended_lines x) h c.in_ok-ending.ensures.ok) c.flush.ensures.kept)
