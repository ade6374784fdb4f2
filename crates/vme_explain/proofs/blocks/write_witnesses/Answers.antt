use Rattle.std.proofs.Common.{◌∙◌, arith}
use Rattle.std.proofs.lemmas.List.Elements.{All-get_or}
use Rattle.std.specs.List.{All}
use Rattle.vme_model.specs.Why.{witness_lines}
use Rattle.vme_trace.specs.Writing.{AppendsFront}
use Rattle.vme_trace.proofs.WrittenLines.{on_err}
use Rattle.vme_explain.specs.Blocks.{IsSpoken, witness_line}
use Rattle.vme_explain.proofs.WrittenPieces.{none_written, one_more, front_of_one, all_written}
use Rattle.vme_explain.proofs.blocks.write_witnesses.Goals as goal

pub loop-witness-init : goal.loop-witness-init
loop-witness-init g c = λ spoken. none_written witness_line c.args.witnesses.now _

pub returns-in_err-put-clause-front : goal.returns-in_err-put-clause-front
returns-in_err-put-clause-front g c =
    let ws = c.args.witnesses.now in
    let front : All IsSpoken ws → AppendsFront (g.W.Write.contents c.args.out.now) (g.W.Write.contents c.put.new.out) (witness_lines ws) = λ spoken.
    front_of_one witness_line ws _ _ _ c.loop-witness.witness-index _ _ (omega arith)
    (c.as_slice.ensures.value ∙ c.witness_line.ensures (All-get_or IsSpoken ws c.loop-witness.witness-index _ (omega arith) spoken))
    (c.loop-witness.invariant spoken) c.in_err-put.ensures.front in
    on_err _ _ front

pub loop-witness-preserved : goal.loop-witness-preserved
loop-witness-preserved g c = λ spoken.
    one_more witness_line c.args.witnesses.now _ _ _ c.loop-witness.witness-index _ _ (omega arith)
    (c.as_slice.ensures.value ∙ c.witness_line.ensures (All-get_or IsSpoken c.args.witnesses.now c.loop-witness.witness-index _ (omega arith) spoken))
    (c.loop-witness.invariant spoken) c.in_ok-put.ensures.ok

pub returns-clause-ok : goal.returns-clause-ok
returns-clause-ok g c = λ spoken.
    all_written witness_line c.args.witnesses.now _ _ c.loop-witness.witness-index (omega arith) (c.loop-witness.invariant spoken)
