use Rattle.std.proofs.Common.{◌≡◌, ◌∙◌}
use Rattle.vme_model.specs.Witnesses.{witnesses_of}
use Rattle.vme_explain.specs.Traced.{OfTrace}
use Rattle.vme_explain.proofs.WrittenReasons.{reason_line_fails, reason_written, reason_fails}
use Rattle.vme_explain.proofs.blocks.write_reason.Goals as goal

pub returns-in_err-put-clause-front : goal.returns-in_err-put-clause-front
returns-in_err-put-clause-front g c =
    reason_line_fails c.args.bus.now c.args.marks.now c.args.edge.now c.args.tested _ _ _ (c.as_slice.ensures.value ∙ c.condition_line.ensures) _ c.in_err-put.ensures.front

pub returns-clause-ok : goal.returns-clause-ok
returns-clause-ok g c =
    let b = c.args.bus.now in let e = c.args.edge.now in
    let found : OfTrace b c.args.marks.now (λ k. c.as_slice-2.result.now ≡ witnesses_of b k e c.args.tested.condition) = λ k of made.
    c.as_slice-2.ensures.value ∙ c.witnesses-found.ensures k of made in
    reason_written b c.args.marks.now e c.args.tested _ _ _ (c.as_slice.ensures.value ∙ c.condition_line.ensures) _ _ c.requires found
    c.in_ok-put.ensures.ok _ c.write_witnesses.ensures.ok

pub returns-clause-front : goal.returns-clause-front
returns-clause-front g c =
    let b = c.args.bus.now in let e = c.args.edge.now in
    let found : OfTrace b c.args.marks.now (λ k. c.as_slice-2.result.now ≡ witnesses_of b k e c.args.tested.condition) = λ k of made.
    c.as_slice-2.ensures.value ∙ c.witnesses-found.ensures k of made in
    reason_fails b c.args.marks.now e c.args.tested _ _ _ (c.as_slice.ensures.value ∙ c.condition_line.ensures) _ _ c.requires found
    c.in_ok-put.ensures.ok _ c.write_witnesses.ensures.front
