use Rattle.std.proofs.Common.{◌∙◌, sym, ap, ◌+◌, ◌-◌, length}
use Rattle.vme_model.specs.Verdict.{State}
use Rattle.vme_reading.proofs.FirstRefusals.{none_refused}
use Rattle.vme_check.proofs.CheckPieces.{refusals_are}
use Rattle.vme_check.proofs.checks.first_refused_in.Goals as goal

pub returns-then-saturating_sub-chunk-clause-found : goal.returns-then-saturating_sub-chunk-clause-found
returns-then-saturating_sub-chunk-clause-found c =
    let b = c.args.bus.now in
    let es = c.args.chunk.now in
    sym (none_refused (c.args.judged + 1) b es
    (ap (λ (s : State). length s.history - length b.history) (sym c.step_all.ensures.state) ∙ ap (λ n. n - length b.history) (sym c.len.ensures)
    ∙ ap (λ n. c.len.result - n) (sym c.len-before.ensures) ∙ sym c.saturating_sub.ensures ∙ c.if-saturating_sub-chunk.true))
    ∙ refusals_are (c.args.judged + 1) b es
