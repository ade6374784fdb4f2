use Rattle.std.proofs.Common.{◌∙◌}
use Rattle.std.proofs.KnownBytes.{Appends-kept}
use Rattle.vme_trace.proofs.WrittenLines.{first_front, on_err}
use Rattle.vme_reading.proofs.WrittenLines.{front_kept}
use Rattle.vme_cycles.specs.Outcomes.{last_lines}
use Rattle.vme_cycles.proofs.LeftOfTrace.{all_last, part_last}
use Rattle.vme_cycles.proofs.tracking.Tracking.finish.Goals as goal

pub returns-in_err-write_open-clause-front : goal.returns-in_err-write_open-clause-front
returns-in_err-write_open-clause-front g c = on_err c.from_residual.result _ (λ p v es is. first_front _ _ _ _ (c.in_err-write_open.ensures.front p v es is))

pub returns-in_err-put-clause-front : goal.returns-in_err-put-clause-front
returns-in_err-put-clause-front g c = on_err c.from_residual-in_err-put.result _ (λ p v es is.
    part_last p v es c.args.self.now is _ (c.refused-refused.ensures p v es is) _ (g.W.Write.contents c.write_open.new.out) _
    (c.in_ok-write_open.ensures.ok p v es is) _ (c.as_slice.ensures.value ∙ c.totals_line.ensures) c.in_err-put.ensures.front)

pub returns-in_err-flush-clause-front : goal.returns-in_err-flush-clause-front
returns-in_err-flush-clause-front g c = on_err c.from_residual-in_err-flush.result _ (λ p v es is.
    let all = all_last p v es c.args.self.now is _ (c.refused-refused.ensures p v es is) _ (g.W.Write.contents c.write_open.new.out) (g.W.Write.contents c.put.new.out)
    (c.in_ok-write_open.ensures.ok p v es is) _ (c.as_slice.ensures.value ∙ c.totals_line.ensures) c.in_ok-put.ensures.ok in
    front_kept _ (g.W.Write.contents c.put.new.out) _ (last_lines p v es) all c.flush.ensures.kept)

pub returns-clause-ok : goal.returns-clause-ok
returns-clause-ok g c = λ p v es is.
    let all = all_last p v es c.args.self.now is _ (c.refused-refused.ensures p v es is) _ (g.W.Write.contents c.write_open.new.out) (g.W.Write.contents c.put.new.out)
    (c.in_ok-write_open.ensures.ok p v es is) _ (c.as_slice.ensures.value ∙ c.totals_line.ensures) c.in_ok-put.ensures.ok in
    Appends-kept _ (g.W.Write.contents c.put.new.out) _ (last_lines p v es) all c.flush.ensures.kept
