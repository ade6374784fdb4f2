use Rattle.std.proofs.Common.{◌∙◌, Err, ap, subst, sym}
use Rattle.std.proofs.lemmas.Result.{err_from_is_err_and}
use Rattle.vme_command_line.specs.Asked.{texts_of}
use Rattle.vme_program.specs.Adding.{SumsAll}
use Rattle.vme_program.proofs.Adding.{flush_cut, lines_cut, sums_cut, sums_written}
use Rattle.vme_program.proofs.sums.sum_files.Goals as goal

pub returns-in_err-added : goal.returns-in_err-added
returns-in_err-added g c =
    let e = err_from_is_err_and c.from_residual.result c.from_residual.ensures.1 in
    subst (λ r. SumsAll (texts_of c.args.traces.now) (g.W.Write.contents c.args.out.now) (g.W.Write.contents c.add_files.new.out) r c.args.plan.now) (sym (e.1 ∙ ap Err e.2))
    (lines_cut c.args.plan.now (texts_of c.args.traces.now) (g.W.Write.contents c.args.out.now) (g.W.Write.contents c.add_files.new.out)
    c.in_err-added.field-0.0 (c.in_err-added.ensures c.args.plan.now c.requires.0 c.requires.1))

pub returns-in_err-write_totals : goal.returns-in_err-write_totals
returns-in_err-write_totals g c =
    let e = err_from_is_err_and c.from_residual-in_err-write_totals.result c.from_residual-in_err-write_totals.ensures.1 in
    subst (λ r. SumsAll (texts_of c.args.traces.now) (g.W.Write.contents c.args.out.now) (g.W.Write.contents c.write_totals.new.out) r c.args.plan.now) (sym (e.1 ∙ ap Err e.2))
    (sums_cut c.args.plan.now (texts_of c.args.traces.now) (g.W.Write.contents c.args.out.now) (g.W.Write.contents c.add_files.new.out) (g.W.Write.contents c.write_totals.new.out)
    c.in_ok-added.added (c.in_ok-added.ensures c.args.plan.now c.requires.0 c.requires.1) c.in_err-write_totals.field-0.0 c.in_err-write_totals.ensures.fault c.in_err-write_totals.ensures.front)

pub returns-in_err-flush : goal.returns-in_err-flush
returns-in_err-flush g c =
    let e = err_from_is_err_and c.from_residual-in_err-flush.result c.from_residual-in_err-flush.ensures.1 in
    subst (λ r. SumsAll (texts_of c.args.traces.now) (g.W.Write.contents c.args.out.now) (g.W.Write.contents c.flush.new.out) r c.args.plan.now) (sym (e.1 ∙ ap Err e.2))
    (flush_cut c.args.plan.now (texts_of c.args.traces.now) (g.W.Write.contents c.args.out.now) (g.W.Write.contents c.add_files.new.out) (g.W.Write.contents c.write_totals.new.out)
    (g.W.Write.contents c.flush.new.out)
    c.in_ok-added.added (c.in_ok-added.ensures c.args.plan.now c.requires.0 c.requires.1) c.in_ok-write_totals.ensures.ok c.flush.ensures.kept c.in_err-flush.field-0.0 c.in_err-flush.ensures.fault)

pub returns : goal.returns
returns g c =
    sums_written c.args.plan.now (texts_of c.args.traces.now) (g.W.Write.contents c.args.out.now) (g.W.Write.contents c.add_files.new.out) (g.W.Write.contents c.write_totals.new.out)
    (g.W.Write.contents c.flush.new.out)
    c.in_ok-added.added (c.in_ok-added.ensures c.args.plan.now c.requires.0 c.requires.1) c.in_ok-write_totals.ensures.ok c.flush.ensures.kept
