use Rattle.std.proofs.Common.{sym, subst}
use Rattle.std.specs.Io.KnownBytes.{Appends}
use Rattle.std.proofs.KnownBytes.{Appends-trans}
use Rattle.vme_model.specs.Text.{edge_lines}
use Rattle.vme_model.specs.History.{in_order}
use Rattle.vme_trace.specs.Writing.{AppendsFront}
use Rattle.vme_engines.specs.Drawing.{missed_of}
use Rattle.vme_engines.proofs.WrittenLines.{front_of_more, front_behind, lines_behind, on_err}
use Rattle.vme_engines.proofs.DrawnWalks.{on_ok_more, on_err_more}
use Rattle.vme_engines.proofs.draws.write_edges.Goals as goal

pub returns-in_err-write_lines-clause-front : goal.returns-in_err-write_lines-clause-front
returns-in_err-write_lines-clause-front g c =
    let made = in_order c.args.backplane.now.history in
    let missed = missed_of c.args.ending in
    on_err c.from_residual.result _
    (subst (AppendsFront _ _) (sym (lines_behind made missed)) (front_of_more _ _ (edge_lines made) (edge_lines missed) c.in_err-write_lines.ensures.front))

pub returns-clause-ok : goal.returns-clause-ok
returns-clause-ok g c =
    let made = in_order c.args.backplane.now.history in
    let missed = missed_of c.args.ending in
    on_ok_more c.write_missed.result _ _ (λ w. subst (Appends _ _) (sym (lines_behind made missed)) (Appends-trans _ _ _ (edge_lines made) (edge_lines missed) c.in_ok-write_lines.ensures.ok w)) c.write_missed.ensures.ok

pub returns-clause-front : goal.returns-clause-front
returns-clause-front g c =
    let made = in_order c.args.backplane.now.history in
    let missed = missed_of c.args.ending in
    on_err_more c.write_missed.result _ _ (λ w. subst (AppendsFront _ _) (sym (lines_behind made missed)) (front_behind _ _ _ (edge_lines made) (edge_lines missed) c.in_ok-write_lines.ensures.ok w)) c.write_missed.ensures.front
