use Rattle.std.proofs.Common.{◌∙◌, arith}
use Rattle.std.specs.List.{flat_map}
use Rattle.vme_trace.specs.Writing.{AppendsFront}
use Rattle.vme_trace.proofs.WrittenLines.{on_err}
use Rattle.vme_explain.proofs.WrittenPieces.{none_written, one_more, front_of_one, all_written}
use Rattle.vme_summary.specs.Sums.{sums_line}
use Rattle.vme_summary.specs.Summed.{OfSums}
use Rattle.vme_summary.proofs.summaries.write_sums_of.Goals as goal

pub loop-topic-init : goal.loop-topic-init
loop-topic-init g c = λ ts is. none_written (sums_line c.args.plan.now ts) c.args.topics.now _

pub returns-in_err-put-clause-front : goal.returns-in_err-put-clause-front
returns-in_err-put-clause-front g c =
    let front : OfSums c.args.sums.now (λ ts. AppendsFront (g.W.Write.contents c.args.out.now) (g.W.Write.contents c.put.new.out) (flat_map (sums_line c.args.plan.now ts) c.args.topics.now)) =
    λ ts is.
    front_of_one (sums_line c.args.plan.now ts) c.args.topics.now _ _ _ c.loop-topic.topic-index _ _ (omega arith)
    (c.as_slice.ensures.value ∙ c.sums_line.ensures ts is)
    (c.loop-topic.invariant ts is) c.in_err-put.ensures.front in
    on_err _ _ front

pub loop-topic-preserved : goal.loop-topic-preserved
loop-topic-preserved g c = λ ts is.
    one_more (sums_line c.args.plan.now ts) c.args.topics.now _ _ _ c.loop-topic.topic-index _ _ (omega arith)
    (c.as_slice.ensures.value ∙ c.sums_line.ensures ts is)
    (c.loop-topic.invariant ts is) c.in_ok-put.ensures.ok

pub returns-clause-ok : goal.returns-clause-ok
returns-clause-ok g c = λ ts is.
    all_written (sums_line c.args.plan.now ts) c.args.topics.now _ _ c.loop-topic.topic-index (omega arith) (c.loop-topic.invariant ts is)
