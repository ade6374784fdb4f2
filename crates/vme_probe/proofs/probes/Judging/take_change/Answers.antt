use Rattle.std.proofs.Common.{◌≡◌, ◌∙◌, ℕ, Option, refl, ap, subst, unwrap_or}
use Rattle.std.proofs.lemmas.Result.{err_from_is_err_and}
use Rattle.vme_captures.specs.declared.signals.Change.{Change}
use Rattle.vme_samples.specs.declared.samples.SeenChange.{SeenChange}
use Rattle.vme_probe.specs.declared.judging.Known.{Known}
use Rattle.vme_probe.specs.Reads.{skew_of, waiting_in}
use Rattle.vme_probe.specs.Steps.{Stands}
use Rattle.vme_probe.proofs.Judged.{change_fails, change_known, change_taken}
use Rattle.vme_probe.proofs.probes.Judging.take_change.Goals as goal

pub returns-in_default-clause-taken : goal.returns-in_default-clause-taken
returns-in_default-clause-taken g c = λ version bytes said from named read s.
    absurd (change_known c.args.plan.now (skew_of c.args.self.now.sampling) version c.args.self.now.reader bytes said c.args.change.now c.args.self.now.known
    (waiting_in c.args.self.now.sampling) s.text read named s.judged c.in_default.is)

-- a change at the moment that the reader has
seen : (m n : ℕ) (c : Change) → m ≡ n → (let a : SeenChange = record { moment = m; change = c } in let b : SeenChange = record { moment = n; change = c } in a ≡ b)
seen m n c e = rw e refl

pub returns-in_err-status-clause-taken : goal.returns-in_err-status-clause-taken
returns-in_err-status-clause-taken g c = λ version bytes said from named read s.
    let e = err_from_is_err_and c.from_residual.result c.from_residual.ensures.1 in
    let skew = skew_of c.args.self.now.sampling in
    let waits = waiting_in c.args.self.now.sampling in
    let stands =
    subst (λ (k : Option Known). Stands c.args.plan.now skew version said k waits from (g.W.Write.contents c.args.out.now)) c.in-Some.is s in
    let at = c.unwrap_or.ensures ∙ ap (λ (o : Option ℕ). unwrap_or o 0) (c.moment.ensures ∙ read.keeps.last) in
    rw (e.1, e.2)
    (change_fails c.args.plan.now skew version said c.args.change.now c.in-Some.known waits from (g.W.Write.contents c.args.out.now) (g.W.Write.contents c.take_seen.new.out) stands
    c.take_seen.new.known c.args.self.now.known (waiting_in c.take_seen.new.sampling) _ (seen _ _ c.args.change.now at) c.in_err-status.field-0.0 c.in_err-status.ensures.taken)

pub returns-clause-taken : goal.returns-clause-taken
returns-clause-taken g c = λ version bytes said from named read s.
    let skew = skew_of c.args.self.now.sampling in
    let waits = waiting_in c.args.self.now.sampling in
    let stands =
    subst (λ (k : Option Known). Stands c.args.plan.now skew version said k waits from (g.W.Write.contents c.args.out.now)) c.in-Some.is s in
    let at = c.unwrap_or.ensures ∙ ap (λ (o : Option ℕ). unwrap_or o 0) (c.moment.ensures ∙ read.keeps.last) in
    change_taken c.args.plan.now skew version said c.args.change.now c.in-Some.known waits from (g.W.Write.contents c.args.out.now) (g.W.Write.contents c.take_seen.new.out) stands
    c.take_seen.new.known _ (waiting_in c.take_seen.new.sampling) _ (seen _ _ c.args.change.now at) c.in_ok-status.status refl c.in_ok-status.ensures.taken
