use Rattle.std.proofs.Common.{◌∙◌, Option, Some, Ok, refl, subst}
use Rattle.std.proofs.lemmas.Result.{err_from_is_err_and}
use Rattle.vme_reading.specs.declared.Status.{Status}
use Rattle.vme_probe.specs.declared.judging.Known.{Known}
use Rattle.vme_probe.specs.Reads.{waiting_in}
use Rattle.vme_probe.specs.Steps.{SampleTaken, Stands}
use Rattle.vme_probe.proofs.Whole.{end_written, last_cut, last_stopped}
use Rattle.vme_probe.proofs.probes.Judging.write_end.Goals as goal

pub returns-in_default-clause-written : goal.returns-in_default-clause-written
returns-in_default-clause-written g c = λ skew version bytes said from named read s.
    c.write_head.ensures skew version bytes said from named read
    (subst (λ (k : Option Known). Stands c.args.plan.now skew version said k (waiting_in c.args.self.now.sampling) from (g.W.Write.contents c.args.out.now)) c.in_default.is s)

pub returns-in_err-status-clause-written : goal.returns-in_err-status-clause-written
returns-in_err-status-clause-written g c = λ skew version bytes said from named read s.
    let e = err_from_is_err_and c.from_residual.result c.from_residual.ensures.1 in
    let stands = subst (λ (k : Option Known). Stands c.args.plan.now skew version said k (waiting_in c.args.self.now.sampling) from (g.W.Write.contents c.args.out.now)) c.in-Some.is s in
    rw (e.1, e.2)
    (last_cut c.args.plan.now skew version said from (g.W.Write.contents c.args.out.now) c.in-Some.known (waiting_in c.args.self.now.sampling) stands c.judge_last.new.known
    (g.W.Write.contents c.judge_last.new.out) c.in_err-status.field-0.0 c.in_err-status.ensures)

-- the sample that waits is impossible
pub returns-in-Some-2-clause-written : goal.returns-in-Some-2-clause-written
returns-in-Some-2-clause-written g c = λ skew version bytes said from named read s.
    let waits = waiting_in c.args.self.now.sampling in
    let stands = subst (λ (k : Option Known). Stands c.args.plan.now skew version said k waits from (g.W.Write.contents c.args.out.now)) c.in-Some.is s in
    last_stopped c.args.plan.now skew version said from (g.W.Write.contents c.args.out.now) c.in-Some.known waits stands c.judge_last.new.known (g.W.Write.contents c.judge_last.new.out) _
    (subst (λ (o : Option Status). SampleTaken c.args.plan.now waits c.in-Some.known c.judge_last.new.known (g.W.Write.contents c.args.out.now) (g.W.Write.contents c.judge_last.new.out)
    (Ok o)) c.in-Some-2.is c.in_ok-status.ensures)

pub returns-clause-written : goal.returns-clause-written
returns-clause-written g c = λ skew version bytes said from named read s.
    let waits = waiting_in c.args.self.now.sampling in
    let near = g.W.Write.contents c.judge_last.new.out in
    let stands = subst (λ (k : Option Known). Stands c.args.plan.now skew version said k waits from (g.W.Write.contents c.args.out.now)) c.in-Some.is s in
    let t = subst (λ (o : Option Status). SampleTaken c.args.plan.now waits c.in-Some.known c.judge_last.new.known (g.W.Write.contents c.args.out.now) near
    (Ok o)) c.in_default-2.is c.in_ok-status.ensures in
    end_written c.args.plan.now skew version said from (g.W.Write.contents c.args.out.now) (Some c.in-Some.known) waits stands c.in-Some.known c.judge_last.new.known refl t.0 t.1
    near (g.W.Write.contents c.finish.new.out) c.probes.result.now c.finish.result t.2 (c.probes.ensures ∙ read.keeps.probes) c.finish.ensures
