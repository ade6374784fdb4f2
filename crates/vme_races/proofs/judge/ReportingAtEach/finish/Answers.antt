use Rattle.std.proofs.Common.{◌≡◌, ◌∙◌, ◌-◌, ap, length, rules}
use Rattle.vme_trace.proofs.WrittenLines.{on_err}
use Rattle.vme_reading.specs.Outcomes.{status_with}
use Rattle.vme_races.proofs.WrittenRaces.{ends, ends_cut, ends_unflushed, refused_is}
use Rattle.vme_races.proofs.judge.ReportingAtEach.finish.Goals as goal

pub returns-in_err-put-clause-cut : goal.returns-in_err-put-clause-cut
returns-in_err-put-clause-cut g c =
    on_err c.from_residual.result _ (λ _ p v es first known.
    ends_cut p v es first (g.W.Write.contents c.args.out.now) (g.W.Write.contents c.put.new.out) c.args.self.now known c.last_line-line.result.items (search rules)
    (rw (c.as_slice.ensures.value) at c.in_err-put.ensures.front))

pub returns-in_err-flush-clause-cut : goal.returns-in_err-flush-clause-cut
returns-in_err-flush-clause-cut g c =
    on_err c.from_residual-in_err-flush.result _ (λ _ p v es first known.
    ends_unflushed p v es first (g.W.Write.contents c.args.out.now) (g.W.Write.contents c.flush.new.out) c.args.self.now known c.last_line-line.result.items (search rules)
    (g.W.Write.contents c.put.new.out) (rw (c.as_slice.ensures.value) at c.in_ok-put.ensures.ok) c.in_err-flush.ensures.kept)

pub returns-clause-ends : goal.returns-clause-ends
returns-clause-ends g c = λ _ p v es first known.
    let made : c.from-accepted.result ≡ length c.args.self.now.racing.bus.history = search rules in (
      ends p v es first (g.W.Write.contents c.args.out.now) (g.W.Write.contents c.flush.new.out) c.args.self.now known c.last_line-line.result.items (search rules)
          (g.W.Write.contents c.put.new.out) (rw (c.as_slice.ensures.value) at c.in_ok-put.ensures.ok) c.in_ok-flush.ensures.kept,
      c.of_refused.ensures ∙ ap (λ n. status_with n)
          (c.saturating_sub-refused.ensures ∙ ap (λ n. c.args.self.now.judged - n) made ∙ refused_is p v es known.1.0 c.args.self.now.racing known.1.1 c.args.self.now.judged known.1.2),
    )
