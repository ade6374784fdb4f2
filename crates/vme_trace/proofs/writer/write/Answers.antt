use Rattle.std.proofs.Common.{◌∷◌, [], ◌++◌, sym}
use Rattle.vme_model.specs.Text.{header, edge_lines}
use Rattle.vme_trace.proofs.WrittenLines.{on_err, on_err_map, first_front, second_front}
use Rattle.vme_trace.proofs.writer.write.Goals as goal

pub returns-in_err-put-clause-front : goal.returns-in_err-put-clause-front
returns-in_err-put-clause-front g c =
    on_err _ _ (first_front _ _ (header c.args.version ++ 10 ∷ []) (edge_lines c.args.edges.now) (rw (sym c.header_line.ensures) c.in_err-put.ensures.front))

pub returns-clause-front : goal.returns-clause-front
returns-clause-front g c =
    on_err_map _ _ _
    (second_front _ _ _ (header c.args.version ++ 10 ∷ []) (edge_lines c.args.edges.now) (rw (sym c.header_line.ensures) c.in_ok-put.ensures.ok)) c.write_lines.ensures.front
