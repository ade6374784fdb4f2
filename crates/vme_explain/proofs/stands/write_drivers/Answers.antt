use Rattle.std.proofs.Common.{◌++◌}
use Rattle.std.specs.Io.KnownBytes.{Appends}
use Rattle.std.proofs.KnownBytes.{Appends-trans}
use Rattle.vme_model.specs.Stands.{asks_text, lines_of, low_text, open_line, pending_text}
use Rattle.vme_trace.specs.Writing.{AppendsFront}
use Rattle.vme_explain.specs.Traced.{OfTrace}
use Rattle.vme_explain.proofs.Written.{all_three, at_err, at_ok, front_behind, front_of_first, front_of_second, front_of_third, on_err}
use Rattle.vme_explain.proofs.stands.write_drivers.Goals as goal

pub returns-in_err-write_lines-clause-front : goal.returns-in_err-write_lines-clause-front
returns-in_err-write_lines-clause-front g c = on_err c.from_residual.result _ (λ k same marks.
    let b = c.args.bus.now in
    front_of_first _ _ (lines_of b (asks_text b k)) (lines_of b (pending_text b k)) (lines_of b (low_text b)) (lines_of b (open_line b))
    (c.in_err-write_lines.ensures.front k same marks))

pub returns-in_err-write_lines-2-clause-front : goal.returns-in_err-write_lines-2-clause-front
returns-in_err-write_lines-2-clause-front g c = on_err c.from_residual-in_err-write_lines-2.result _ (λ k same marks.
    let b = c.args.bus.now in
    front_of_second _ _ _ (lines_of b (asks_text b k)) (lines_of b (pending_text b k)) (lines_of b (low_text b)) (lines_of b (open_line b))
    (c.in_ok-write_lines.ensures.ok k same marks)
    (c.in_err-write_lines-2.ensures.front k same marks))

pub returns-in_err-write_lines-3-clause-front : goal.returns-in_err-write_lines-3-clause-front
returns-in_err-write_lines-3-clause-front g c = on_err c.from_residual-in_err-write_lines-3.result _ (λ k same marks.
    let b = c.args.bus.now in
    front_of_third _ _ _ _ (lines_of b (asks_text b k)) (lines_of b (pending_text b k)) (lines_of b (low_text b)) (lines_of b (open_line b))
    (c.in_ok-write_lines.ensures.ok k same marks)
    (c.in_ok-write_lines-2.ensures.ok k same marks)
    (c.in_err-write_lines-3.ensures.front k same marks))

pub returns-clause-ok : goal.returns-clause-ok
returns-clause-ok g c =
    at_ok c.write_lines-4.result (OfTrace c.args.bus.now c.args.marks.now (λ k. Appends (g.W.Write.contents c.write_lines-3.new.out) (g.W.Write.contents c.write_lines-4.new.out)
    (lines_of c.args.bus.now (open_line c.args.bus.now)))) _
    (λ w k same marks. let b = c.args.bus.now in
    Appends-trans _ _ _ ((lines_of b (asks_text b k) ++ lines_of b (pending_text b k)) ++ lines_of b (low_text b)) (lines_of b (open_line b))
    (all_three _ _ _ _ (lines_of b (asks_text b k)) (lines_of b (pending_text b k)) (lines_of b (low_text b))
    (c.in_ok-write_lines.ensures.ok k same marks)
    (c.in_ok-write_lines-2.ensures.ok k same marks)
    (c.in_ok-write_lines-3.ensures.ok k same marks))
    (w k same marks))
    c.write_lines-4.ensures.ok

pub returns-clause-front : goal.returns-clause-front
returns-clause-front g c =
    at_err c.write_lines-4.result (OfTrace c.args.bus.now c.args.marks.now (λ k. AppendsFront (g.W.Write.contents c.write_lines-3.new.out) (g.W.Write.contents c.write_lines-4.new.out)
    (lines_of c.args.bus.now (open_line c.args.bus.now)))) _
    (λ w k same marks. let b = c.args.bus.now in
    front_behind _ _ _ ((lines_of b (asks_text b k) ++ lines_of b (pending_text b k)) ++ lines_of b (low_text b)) (lines_of b (open_line b))
    (all_three _ _ _ _ (lines_of b (asks_text b k)) (lines_of b (pending_text b k)) (lines_of b (low_text b))
    (c.in_ok-write_lines.ensures.ok k same marks)
    (c.in_ok-write_lines-2.ensures.ok k same marks)
    (c.in_ok-write_lines-3.ensures.ok k same marks))
    (w k same marks))
    c.write_lines-4.ensures.front
