use Rattle.std.proofs.Common.{codes}
use Rattle.vme_check.specs.Checking.{finding_line}
use Rattle.vme_reading.proofs.WrittenLines.{on_err}
use Rattle.vme_escapes.specs.Shown.{escaped}
use Rattle.vme_program.proofs.EscapedNames.{line_done, line_first, line_second, line_third}
use Rattle.vme_program.proofs.checks.write_found.Goals as goal

pub returns-in_err-write_escaped-clause-front : goal.returns-in_err-write_escaped-clause-front
returns-in_err-write_escaped-clause-front g c =
    on_err c.from_residual.result _
    (line_first (g.W.Write.contents c.args.out.now) (g.W.Write.contents c.write_escaped.new.out) (g.W.Write.contents c.write_escaped.new.out) (g.W.Write.contents c.write_escaped.new.out)
    (escaped c.args.name.now) (codes ": ") (finding_line c.args.finding) c.in_err-write_escaped.ensures.front)

pub returns-in_err-put-clause-front : goal.returns-in_err-put-clause-front
returns-in_err-put-clause-front g c =
    on_err c.from_residual-in_err-put.result _
    (line_second (g.W.Write.contents c.args.out.now) (g.W.Write.contents c.write_escaped.new.out) (g.W.Write.contents c.put.new.out) (g.W.Write.contents c.put.new.out) (escaped c.args.name.now)
    (codes ": ") (finding_line c.args.finding) c.in_ok-write_escaped.ensures.ok c.in_err-put.ensures.front)

pub returns-clause-ok : goal.returns-clause-ok
returns-clause-ok g c =
    line_done (g.W.Write.contents c.args.out.now) (g.W.Write.contents c.write_escaped.new.out) (g.W.Write.contents c.put.new.out) (g.W.Write.contents c.write_finding.new.out) (escaped c.args.name.now)
    (codes ": ") (finding_line c.args.finding) c.in_ok-write_escaped.ensures.ok c.in_ok-put.ensures.ok
    c.write_finding.result c.write_finding.ensures.ok

pub returns-clause-front : goal.returns-clause-front
returns-clause-front g c =
    line_third (g.W.Write.contents c.args.out.now) (g.W.Write.contents c.write_escaped.new.out) (g.W.Write.contents c.put.new.out) (g.W.Write.contents c.write_finding.new.out)
    (escaped c.args.name.now) (codes ": ") (finding_line c.args.finding) c.in_ok-write_escaped.ensures.ok c.in_ok-put.ensures.ok
    c.write_finding.result c.write_finding.ensures.front
