use Rattle.std.proofs.Common.{◌∙◌, subst}
use Rattle.std.specs.Io.KnownBytes.{Appends}
use Rattle.std.proofs.KnownBytes.{Appends-kept}
use Rattle.vme_model.specs.Plan.{Plan}
use Rattle.vme_trace.specs.Writing.{AppendsFront}
use Rattle.vme_summary.specs.Tally.{answered}
use Rattle.vme_summary.specs.Summary.{summary_text}
use Rattle.vme_reading.specs.Outcomes.{bench}
use Rattle.vme_summary.specs.TraceSums.{sum_text}
use Rattle.vme_reading.proofs.WrittenLines.{front_kept, on_err}
use Rattle.vme_summary.proofs.TraceSums.{plan_of}
use Rattle.vme_summary.proofs.summing.Summing.print_summary.Goals as goal

pub returns-in_err-write_summary-clause-front : goal.returns-in_err-write_summary-clause-front
returns-in_err-write_summary-clause-front g c =
    on_err c.from_residual.result _ (λ p v es is.
    subst (λ (q : Plan). AppendsFront (g.W.Write.contents c.args.out.now) (g.W.Write.contents c.write_summary.new.out) (summary_text q (answered (bench p v) es)))
    (c.plan.ensures ∙ plan_of p v es _ is)
    (c.in_err-write_summary.ensures.front (answered (bench p v) es) is.tally))

pub returns-in_err-flush-clause-front : goal.returns-in_err-flush-clause-front
returns-in_err-flush-clause-front g c =
    on_err c.from_residual-in_err-flush.result _ (λ p v es is.
    front_kept _ _ _ (sum_text p v es)
    (subst (λ (q : Plan). Appends (g.W.Write.contents c.args.out.now) (g.W.Write.contents c.write_summary.new.out) (summary_text q (answered (bench p v) es))) (c.plan.ensures ∙ plan_of p v es _ is)
    (c.in_ok-write_summary.ensures.ok (answered (bench p v) es) is.tally))
    c.flush.ensures.kept)

pub returns-clause-ok : goal.returns-clause-ok
returns-clause-ok g c = λ p v es is.
    Appends-kept _ _ _ (sum_text p v es)
    (subst (λ (q : Plan). Appends (g.W.Write.contents c.args.out.now) (g.W.Write.contents c.write_summary.new.out) (summary_text q (answered (bench p v) es))) (c.plan.ensures ∙ plan_of p v es _ is)
    (c.in_ok-write_summary.ensures.ok (answered (bench p v) es) is.tally))
    c.flush.ensures.kept
