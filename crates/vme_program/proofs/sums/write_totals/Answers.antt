use Rattle.vme_reading.proofs.WrittenLines.{on_err}
use Rattle.vme_program.proofs.Adding.{count_cut, no_totals, totals_cut, totals_written}
use Rattle.vme_program.proofs.sums.write_totals.Goals as goal

pub returns-then-added-eq0-clause-ok : goal.returns-then-added-eq0-clause-ok
returns-then-added-eq0-clause-ok g c = no_totals c.args.plan.now (g.W.Write.contents c.args.out.now) c.args.added.now c.if-added-eq0.true

pub returns-in_err-write_traces-clause-front : goal.returns-in_err-write_traces-clause-front
returns-in_err-write_traces-clause-front g c =
    on_err c.from_residual.result _
    (count_cut c.args.plan.now (g.W.Write.contents c.args.out.now) (g.W.Write.contents c.write_traces.new.out) c.args.added.now c.if-added-eq0.false c.in_err-write_traces.ensures.front)

pub returns-clause-ok : goal.returns-clause-ok
returns-clause-ok g c =
    totals_written c.args.plan.now (g.W.Write.contents c.args.out.now) (g.W.Write.contents c.write_traces.new.out) c.args.added.now c.if-added-eq0.false
    (g.W.Write.contents c.write_sums.new.out) c.write_sums.result c.in_ok-write_traces.ensures.ok c.write_sums.ensures.ok

pub returns-clause-front : goal.returns-clause-front
returns-clause-front g c =
    totals_cut c.args.plan.now (g.W.Write.contents c.args.out.now) (g.W.Write.contents c.write_traces.new.out) c.args.added.now c.if-added-eq0.false
    (g.W.Write.contents c.write_sums.new.out) c.write_sums.result c.in_ok-write_traces.ensures.ok c.write_sums.ensures.front
