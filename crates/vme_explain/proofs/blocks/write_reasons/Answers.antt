use Rattle.std.proofs.Common.{refl, arith}
use Rattle.vme_model.specs.declared.conditions.Tested.{Tested}
use Rattle.vme_model.specs.Why.{reason_lines}
use Rattle.vme_trace.proofs.WrittenLines.{on_err}
use Rattle.vme_explain.specs.Blocks.{reason, reasons_text}
use Rattle.vme_explain.proofs.WrittenPieces.{none_written, one_more, front_of_one, all_written}
use Rattle.vme_explain.proofs.WrittenReasons.{WritesFront}
use Rattle.vme_explain.proofs.blocks.write_reasons.Goals as goal

pub loop-tested-init : goal.loop-tested-init
loop-tested-init g c = λ k of made.
    let b = c.args.bus.now in let e = c.args.edge.now in
    none_written (λ (t : Tested). reason_lines b e (reason b k e t)) c.args.witnesses.now _

pub returns-in_err-write_reason-clause-front : goal.returns-in_err-write_reason-clause-front
returns-in_err-write_reason-clause-front g c =
    let b = c.args.bus.now in let e = c.args.edge.now in
    let front : WritesFront b c.args.marks.now (g.W.Write.contents c.args.out.now) (g.W.Write.contents c.write_reason.new.out) (λ k. reasons_text b k e c.args.witnesses.now) = λ k of made.
    front_of_one (λ (t : Tested). reason_lines b e (reason b k e t)) c.args.witnesses.now _ _ _ c.loop-tested.tested-index _ _ (omega arith) refl
    (c.loop-tested.invariant k of made) (c.in_err-write_reason.ensures.front k of made) in
    on_err _ _ front

pub loop-tested-preserved : goal.loop-tested-preserved
loop-tested-preserved g c = λ k of made.
    let b = c.args.bus.now in let e = c.args.edge.now in
    one_more (λ (t : Tested). reason_lines b e (reason b k e t)) c.args.witnesses.now _ _ _ c.loop-tested.tested-index _ _ (omega arith) refl
    (c.loop-tested.invariant k of made) (c.in_ok-write_reason.ensures.ok k of made)

pub returns-clause-ok : goal.returns-clause-ok
returns-clause-ok g c = λ k of made.
    let b = c.args.bus.now in let e = c.args.edge.now in
    all_written (λ (t : Tested). reason_lines b e (reason b k e t)) c.args.witnesses.now _ _ c.loop-tested.tested-index (omega arith) (c.loop-tested.invariant k of made)
