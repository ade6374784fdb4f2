use Rattle.std.proofs.Common.{◌∙◌, [], List, Option, None, Ok, refl, sym, subst}
use Rattle.std.proofs.KnownBytes.{Appends-kept, Appends-nil}
use Rattle.std.proofs.lemmas.Result.{err_from_is_err_and}
use Rattle.vme_probe.specs.declared.judging.Known.{Known}
use Rattle.vme_samples.specs.declared.samples.SeenChange.{SeenChange}
use Rattle.vme_probe.specs.Knowing.{TakesSample}
use Rattle.vme_probe.specs.Reads.{waiting_in}
use Rattle.vme_probe.specs.Steps.{HeadEnded, Stands}
use Rattle.vme_probe.proofs.Judged.{nothing_waits}
use Rattle.vme_probe.proofs.Whole.{end_written, head_cut, head_written}
use Rattle.vme_probe.proofs.probes.Judging.write_head.Goals as goal

pub returns-in_err-known : goal.returns-in_err-known
returns-in_err-known g c = λ skew version bytes said from named read s.
    let e = err_from_is_err_and c.from_residual.result c.from_residual.ensures.1 in
    rw (e.1, e.2)
    (head_cut c.args.plan.now skew version said from (g.W.Write.contents c.args.out.now) (waiting_in c.args.self.now.sampling) s (g.W.Write.contents c.begin.new.out) c.in_err-known.field-0.0
    (c.in_err-known.ensures version bytes said named read))

-- nothing waits while nothing is known
pub returns-in-Some : goal.returns-in-Some
returns-in-Some g c = λ skew version bytes said from named read s.
    let waits = waiting_in c.args.self.now.sampling in
    let h =
    subst (λ (o : Option Known). HeadEnded c.args.plan.now version said (g.W.Write.contents c.args.out.now) (g.W.Write.contents c.begin.new.out) (Ok o)) c.in-Some.is
    (c.in_ok-known.ensures version bytes said named read) in
    let near = g.W.Write.contents c.begin.new.out in
    let stands : Stands c.args.plan.now skew version said None waits from near =
    record { text = s.text; judged = s.judged; wrote = Appends-kept from (g.W.Write.contents c.args.out.now) near s.text s.wrote h.1 } in
    let none = nothing_waits c.args.plan.now version skew said waits s.text s.judged in
    end_written c.args.plan.now skew version said from near None waits stands c.in-Some.known c.in-Some.known h.0 []
    (subst (λ (l : List SeenChange). TakesSample c.args.plan.now c.in-Some.known l c.in-Some.known []) (sym none) (refl, refl))
    near (g.W.Write.contents c.finish.new.out) c.probes.result.now c.finish.result (Appends-nil near) (c.probes.ensures ∙ read.keeps.probes) c.finish.ensures

pub returns-in-None : goal.returns-in-None
returns-in-None g c = λ skew version bytes said from named read s.
    head_written c.args.plan.now skew version said from (g.W.Write.contents c.args.out.now) (waiting_in c.args.self.now.sampling) s (g.W.Write.contents c.begin.new.out)
    (subst (λ (o : Option Known). HeadEnded c.args.plan.now version said (g.W.Write.contents c.args.out.now) (g.W.Write.contents c.begin.new.out) (Ok o)) c.in-None.is
    (c.in_ok-known.ensures version bytes said named read))
