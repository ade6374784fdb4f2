use Rattle.std.proofs.Common.{codes}
use Rattle.vme_reading.proofs.WrittenLines.{front_of_more, on_err}
use Rattle.vme_escapes.specs.Shown.{escaped}
use Rattle.vme_program.proofs.EscapedNames.{two_second}
use Rattle.vme_program.proofs.sums.write_illegal.Goals as goal

pub returns-in_err-write_escaped-clause-front : goal.returns-in_err-write_escaped-clause-front
returns-in_err-write_escaped-clause-front g c =
    on_err c.from_residual.result _
    (front_of_more (g.W.Write.contents c.args.out.now) (g.W.Write.contents c.write_escaped.new.out) (escaped c.args.name.now) (codes ": illegal\n") c.in_err-write_escaped.ensures.front)

pub returns-clause-front : goal.returns-clause-front
returns-clause-front g c =
    two_second (g.W.Write.contents c.args.out.now) (g.W.Write.contents c.write_escaped.new.out) (g.W.Write.contents c.put.new.out) (escaped c.args.name.now)
    (codes ": illegal\n") c.in_ok-write_escaped.ensures.ok c.put.result c.put.ensures.front
