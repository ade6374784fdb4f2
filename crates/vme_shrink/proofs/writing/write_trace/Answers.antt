use Rattle.std.proofs.Common.{◌∷◌, [], ◌++◌, sym}
use Rattle.std.proofs.KnownBytes.{Appends-kept, Appends-trans}
use Rattle.vme_model.specs.Text.{edge_lines, header}
use Rattle.vme_trace.proofs.WrittenLines.{first_front, on_err, second_front}
use Rattle.vme_reading.proofs.WrittenLines.{front_kept}
use Rattle.vme_shrink.proofs.writing.write_trace.Goals as goal

pub returns-in_err-put-clause-front : goal.returns-in_err-put-clause-front
returns-in_err-put-clause-front g c =
    on_err _ _ (first_front _ _ (header c.args.version ++ 10 ∷ [])
    (edge_lines (c.args.edges.now ++ c.args.edge.now ∷ []))
    (rw (sym c.header_line.ensures) c.in_err-put.ensures.front))

pub returns-in_err-write_edges-clause-front : goal.returns-in_err-write_edges-clause-front
returns-in_err-write_edges-clause-front g c =
    on_err _ _ (second_front _ _ _ (header c.args.version ++ 10 ∷ [])
    (edge_lines (c.args.edges.now ++ c.args.edge.now ∷ []))
    (rw (sym c.header_line.ensures) c.in_ok-put.ensures.ok) c.in_err-write_edges.ensures.front)

pub returns-in_err-flush-clause-front : goal.returns-in_err-flush-clause-front
returns-in_err-flush-clause-front g c =
    let old = g.W.Write.contents c.args.out.now in
    let mid = g.W.Write.contents c.put.new.out in
    let new = g.W.Write.contents c.write_edges.new.out in
    let lines = edge_lines (c.args.edges.now ++ c.args.edge.now ∷ []) in
    on_err _ _ (front_kept old new (g.W.Write.contents c.flush.new.out)
    ((header c.args.version ++ 10 ∷ []) ++ lines)
    (Appends-trans old mid new (header c.args.version ++ 10 ∷ []) lines
    (rw (sym c.header_line.ensures) c.in_ok-put.ensures.ok) c.in_ok-write_edges.ensures.ok)
    c.flush.ensures.kept)

pub returns-clause-ok : goal.returns-clause-ok
returns-clause-ok g c =
    let old = g.W.Write.contents c.args.out.now in
    let mid = g.W.Write.contents c.put.new.out in
    let new = g.W.Write.contents c.write_edges.new.out in
    let lines = edge_lines (c.args.edges.now ++ c.args.edge.now ∷ []) in
    Appends-kept old new (g.W.Write.contents c.flush.new.out)
    ((header c.args.version ++ 10 ∷ []) ++ lines)
    (Appends-trans old mid new (header c.args.version ++ 10 ∷ []) lines
    (rw (sym c.header_line.ensures) c.in_ok-put.ensures.ok) c.in_ok-write_edges.ensures.ok)
    c.flush.ensures.kept
