use Rattle.std.proofs.Common.{◌≡◌, ◌+◌, ◌<◌, ◌^◌, ◌∙◌, ap, arith, is_ok, length, subst, sym, true}
use Rattle.vme_model.specs.Deliveries.{delivery}
use Rattle.vme_model.specs.Numbered.{Numbered, numbered}
use Rattle.vme_model.specs.Verdict.{verdict}
use Rattle.vme_reading.specs.Outcomes.{bench}
use Rattle.vme_cycles.specs.Kept.{IsCycleOf, IsTenureOf}
use Rattle.vme_cycles.proofs.Behind.{edges_are, numbered_within, plan_is, sent_is}
use Rattle.vme_cycles.proofs.NextLines.{line_accepted, numbered_accepted, numbered_refused}
use Rattle.vme_cycles.proofs.tracking.Tracking.take_in.Goals as goal

pub returns-in-Ok-clause-tracked : goal.returns-in-Ok-clause-tracked
returns-in-Ok-clause-tracked c = λ p v es is.
    let f = c.args.self.now.following in
    let e = c.args.edge.now in
    let k = numbered (bench p v) es in
    let ok : is_ok (verdict f.bus e) ≡ true = sym c.step-answer.ensures.accepted ∙ ap is_ok c.in-Ok.is in
    let all = numbered_accepted p v es e f.bus (f.judged + 1) is.follows.bus (ap (λ m. m + 1) is.follows.judged) ok in
    let within = numbered_within p v es in
    let count = is.follows.judged in
    let room = c.requires.room in
    let few : length k + 1 < 2 ^ 64 = omega (arith, within, count, room) in
    let request = c.sight-sight.ensures.request p v es is in
    let sent = sent_is (verdict f.bus e) (delivery f.bus.plan f.bus.history e) c.in-Ok.sent c.step-answer.result c.in-Ok.is c.step-answer.ensures.answer
    ∙ ap (λ q. delivery q f.bus.history e) (plan_is p v es f is.follows) ∙ ap (λ h. delivery p h e) (sym (edges_are p v es f is.follows)) in
    record {
      follows = c.step-answer.ensures.after p v es is.follows;
      cycle = subst (λ (m : Numbered). IsCycleOf p m c.note.new.self) all (c.note.ensures p k is.cycle few (c.sight-sight.ensures.shown p v es is) request sent);
      tenure = subst (λ (m : Numbered). IsTenureOf m c.note-in-Ok.new.self) all (c.note-in-Ok.ensures k (f.judged + 1) is.tenure few request);
    }

pub returns-in-Ok-clause-line : goal.returns-in-Ok-clause-line
returns-in-Ok-clause-line c = λ p v es is.
    let f = c.args.self.now.following in
    line_accepted p v es _ f.bus _ is.follows.bus (ap (λ m. m + 1) is.follows.judged) _ (sym c.step-answer.ensures.accepted ∙ ap is_ok c.in-Ok.is) (c.ended_line-ended.ensures p v es is)

pub returns-in-Err-clause-tracked : goal.returns-in-Err-clause-tracked
returns-in-Err-clause-tracked c = λ p v es is.
    let f = c.args.self.now.following in
    let e = c.args.edge.now in
    let all = numbered_refused p v es e f.bus (f.judged + 1) is.follows.bus (ap (λ m. m + 1) is.follows.judged) (sym c.step-answer.ensures.accepted ∙ ap is_ok c.in-Err.is) in
    record {
      follows = c.step-answer.ensures.after p v es is.follows;
      cycle = subst (λ (m : Numbered). IsCycleOf p m c.args.self.now.cycle) all is.cycle;
      tenure = subst (λ (m : Numbered). IsTenureOf m c.args.self.now.tenure) all is.tenure;
    }
