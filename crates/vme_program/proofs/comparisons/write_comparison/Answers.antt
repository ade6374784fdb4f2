use Rattle.vme_reading.proofs.WrittenLines.{front_of_more, on_err}
use Rattle.vme_same.specs.Lines.{found_lines}
use Rattle.vme_program.specs.Comparisons.{beginning_of}
use Rattle.vme_program.proofs.EscapedNames.{two_second}
use Rattle.vme_program.proofs.comparisons.write_comparison.Goals as goal

pub returns-in_err-write_beginning-clause-front : goal.returns-in_err-write_beginning-clause-front
returns-in_err-write_beginning-clause-front g c =
    on_err c.from_residual.result _
    (front_of_more (g.W.Write.contents c.args.out.now) (g.W.Write.contents c.write_beginning.new.out) (beginning_of c.args.first.now c.args.second.now c.args.found)
    (found_lines c.args.found) c.in_err-write_beginning.ensures.front)

pub returns-clause-front : goal.returns-clause-front
returns-clause-front g c =
    two_second (g.W.Write.contents c.args.out.now) (g.W.Write.contents c.write_beginning.new.out) (g.W.Write.contents c.write_found.new.out)
    (beginning_of c.args.first.now c.args.second.now c.args.found) (found_lines c.args.found) c.in_ok-write_beginning.ensures.ok
    c.write_found.result c.write_found.ensures.front
