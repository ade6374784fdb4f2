use Rattle.std.proofs.Common.{◌∙◌, ap}
use Rattle.vme_trace.proofs.WrittenLines.{on_err}
use Rattle.vme_reading.specs.Outcomes.{status_with}
use Rattle.vme_replay.proofs.LeftOfTrace.{all_refused, ends, ends_cut}
use Rattle.vme_replay.proofs.replays.ReplayingAtEach.finish.Goals as goal

pub returns-in_err-close-clause-cut : goal.returns-in_err-close-clause-cut
returns-in_err-close-clause-cut g c = on_err c.from_residual.result _ (λ form p v es first known.
    ends_cut form p v es first _ _ c.args.self.now known _ _ (c.from-accepted.ensures ∙ c.len.ensures) c.saturating_sub-refused.ensures c.in_err-close.ensures.front)

pub returns-clause-ends : goal.returns-clause-ends
returns-clause-ends g c = λ form p v es first known.
    let accepted = c.from-accepted.ensures ∙ c.len.ensures in
    let refused = c.saturating_sub-refused.ensures in (
      ends form p v es first _ _ c.args.self.now known _ _ accepted refused c.in_ok-close.ensures.ok,
      c.of_refused.ensures ∙ ap (λ n. status_with n)
          (all_refused form p v es first _ (g.W.Write.contents c.close.new.out) c.args.self.now known _ _ accepted refused),
    )
