use Rattle.std.proofs.Common.{subst, sym}
use Rattle.std.specs.Io.KnownBytes.{Appends}
use Rattle.std.proofs.KnownBytes.{Appends-trans}
use Rattle.vme_model.specs.Text.{edge_lines}
use Rattle.vme_trace.specs.Writing.{AppendsFront, edge_line}
use Rattle.vme_trace.proofs.WrittenLines.{first_front, on_err, second_front}
use Rattle.vme_shrink.proofs.WrittenTraces.{one_more}
use Rattle.vme_shrink.proofs.writing.write_edges.Goals as goal

pub returns-in_err-write_lines-clause-front : goal.returns-in_err-write_lines-clause-front
returns-in_err-write_lines-clause-front g c =
    let old = g.W.Write.contents c.args.out.now in
    let mid = g.W.Write.contents c.write_lines.new.out in
    on_err _ _ (subst (AppendsFront old mid) (sym (one_more c.args.edges.now c.args.edge.now))
    (first_front old mid (edge_lines c.args.edges.now) (edge_line c.args.edge.now)
    c.in_err-write_lines.ensures.front))

pub returns-in_err-write_line-clause-front : goal.returns-in_err-write_line-clause-front
returns-in_err-write_line-clause-front g c =
    let old = g.W.Write.contents c.args.out.now in
    let mid = g.W.Write.contents c.write_lines.new.out in
    let new = g.W.Write.contents c.write_line.new.out in
    on_err _ _ (subst (AppendsFront old new) (sym (one_more c.args.edges.now c.args.edge.now))
    (second_front old mid new (edge_lines c.args.edges.now) (edge_line c.args.edge.now)
    c.in_ok-write_lines.ensures.ok c.in_err-write_line.ensures.front))

pub returns-clause-ok : goal.returns-clause-ok
returns-clause-ok g c =
    let old = g.W.Write.contents c.args.out.now in
    let mid = g.W.Write.contents c.write_lines.new.out in
    let new = g.W.Write.contents c.write_line.new.out in
    subst (Appends old new) (sym (one_more c.args.edges.now c.args.edge.now))
    (Appends-trans old mid new (edge_lines c.args.edges.now) (edge_line c.args.edge.now)
    c.in_ok-write_lines.ensures.ok c.in_ok-write_line.ensures.ok)
