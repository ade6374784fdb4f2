use Rattle.std.proofs.Common.{◌∙◌}
use Rattle.vme_explain.proofs.SixTested.{six_tested}
use Rattle.vme_explain.proofs.WrittenReasons.{first_line_fails, block_written, block_fails}
use Rattle.vme_explain.proofs.blocks.write_why.Goals as goal

pub returns-in_err-put-clause-front : goal.returns-in_err-put-clause-front
returns-in_err-put-clause-front g c =
    first_line_fails c.args.n c.args.bus.now c.args.marks.now c.args.edge.now _ _ _ (c.as_slice.ensures.value ∙ c.verdict_line.ensures c.args.bus.now c.requires.answered) _ c.in_err-put.ensures.front

pub returns-clause-ok : goal.returns-clause-ok
returns-clause-ok g c =
    let b = c.args.bus.now in let e = c.args.edge.now in
    block_written c.args.n b c.args.marks.now e _ _ _ (c.as_slice.ensures.value ∙ c.verdict_line.ensures c.args.bus.now c.requires.answered) _ _
    (c.as_slice-2.ensures ∙ c.outcome-witnesses.ensures (six_tested b e))
    c.in_ok-put.ensures.ok _ c.write_reasons.ensures.ok

pub returns-clause-front : goal.returns-clause-front
returns-clause-front g c =
    let b = c.args.bus.now in let e = c.args.edge.now in
    block_fails c.args.n b c.args.marks.now e _ _ _ (c.as_slice.ensures.value ∙ c.verdict_line.ensures c.args.bus.now c.requires.answered) _ _
    (c.as_slice-2.ensures ∙ c.outcome-witnesses.ensures (six_tested b e))
    c.in_ok-put.ensures.ok _ c.write_reasons.ensures.front
