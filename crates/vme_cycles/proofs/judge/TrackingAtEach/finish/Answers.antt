use Rattle.std.proofs.Common.{◌∙◌, ap}
use Rattle.std.proofs.KnownBytes.{Appends-kept}
use Rattle.vme_trace.proofs.WrittenLines.{first_front, on_err}
use Rattle.vme_reading.specs.Outcomes.{status_with}
use Rattle.vme_reading.proofs.WrittenLines.{front_kept}
use Rattle.vme_cycles.specs.Outcomes.{last_lines}
use Rattle.vme_cycles.proofs.LeftOfTrace.{all_last, ends, ends_cut, part_last}
use Rattle.vme_cycles.proofs.judge.TrackingAtEach.finish.Goals as goal

pub returns-in_err-write_open-clause-cut : goal.returns-in_err-write_open-clause-cut
returns-in_err-write_open-clause-cut g c = on_err c.from_residual.result _ (λ _ p v es first known.
    ends_cut p v es c.args.self.now first _ _ known (first_front _ _ _ _ (c.in_err-write_open.ensures.front p v es known.1.0)))

pub returns-in_err-put-clause-cut : goal.returns-in_err-put-clause-cut
returns-in_err-put-clause-cut g c = on_err c.from_residual-in_err-put.result _ (λ _ p v es first known.
    let is = known.1.0 in
    ends_cut p v es c.args.self.now first _ _ known
    (part_last p v es c.args.self.now is _ (c.refused-refused.ensures p v es is) _ (g.W.Write.contents c.write_open.new.out) _
    (c.in_ok-write_open.ensures.ok p v es is) _ (c.as_slice.ensures.value ∙ c.totals_line.ensures) c.in_err-put.ensures.front))

pub returns-in_err-flush-clause-cut : goal.returns-in_err-flush-clause-cut
returns-in_err-flush-clause-cut g c = on_err c.from_residual-in_err-flush.result _ (λ _ p v es first known.
    let is = known.1.0 in
    let all = all_last p v es c.args.self.now is _ (c.refused-refused.ensures p v es is) _ (g.W.Write.contents c.write_open.new.out) (g.W.Write.contents c.put.new.out)
    (c.in_ok-write_open.ensures.ok p v es is) _ (c.as_slice.ensures.value ∙ c.totals_line.ensures) c.in_ok-put.ensures.ok in
    ends_cut p v es c.args.self.now first _ _ known (front_kept _ (g.W.Write.contents c.put.new.out) _ (last_lines p v es) all c.flush.ensures.kept))

pub returns-clause-ends : goal.returns-clause-ends
returns-clause-ends g c = λ _ p v es first known.
    let is = known.1.0 in
    let all = all_last p v es c.args.self.now is _ (c.refused-refused.ensures p v es is) _ (g.W.Write.contents c.write_open.new.out) (g.W.Write.contents c.put.new.out)
    (c.in_ok-write_open.ensures.ok p v es is) _ (c.as_slice.ensures.value ∙ c.totals_line.ensures) c.in_ok-put.ensures.ok in (
      ends p v es c.args.self.now first _ _ known (Appends-kept _ (g.W.Write.contents c.put.new.out) _ (last_lines p v es) all c.flush.ensures.kept),
      c.of_refused.ensures ∙ ap (λ n. status_with n) (c.refused-refused.ensures p v es is),
    )
