use Rattle.std.proofs.Common.{◌∙◌, List, ℕ, get_or, subst, ap, arith}
use Rattle.std.specs.List.{flat_map}
use Rattle.std.specs.Io.KnownBytes.{Appends}
use Rattle.std.proofs.KnownBytes.{Appends-nil}
use Rattle.std.proofs.lemmas.List.{take_all}
use Rattle.vme_trace.specs.Writing.{AppendsFront}
use Rattle.vme_explain.proofs.Written.{on_err}
use Rattle.vme_show.specs.declared.columns.Column.{Column}
use Rattle.vme_show.specs.declared.columns.Topic.TheVariants.{GrantAt}
use Rattle.vme_show.specs.Columns.{Seen, topic_line, topics}
use Rattle.vme_show.proofs.Whole.{writes_front, writes_more}
use Rattle.vme_show.proofs.windows.Window.write_topics.Goals as goal

pub loop-topic-init : goal.loop-topic-init
loop-topic-init g c = Appends-nil _

pub returns-in_err-put-clause-front : goal.returns-in_err-put-clause-front
returns-in_err-put-clause-front g c =
    let i = c.loop-topic.topic-index in
    let text = topic_line c.args.color c.args.self.now.columns in
    on_err c.from_residual.result _
    (writes_front text _ _ _ topics i GrantAt (omega arith) c.loop-topic.invariant
    (subst (λ (l : List ℕ). AppendsFront (g.W.Write.contents c.loop-topic.out) (g.W.Write.contents c.put.new.out) l)
    (c.as_slice.ensures.value ∙ c.topic_line.ensures ∙ ap (λ (l : List Column). topic_line c.args.color l (get_or topics i GrantAt)) (c.as_slice-columns.ensures.value ∙ ap (λ (w : Seen). w.columns)
    c.self.view_is)) c.in_err-put.ensures.front))

pub loop-topic-preserved : goal.loop-topic-preserved
loop-topic-preserved g c =
    let i = c.loop-topic.topic-index in
    let text = topic_line c.args.color c.args.self.now.columns in
    writes_more text _ _ _ topics i GrantAt (omega arith) c.loop-topic.invariant
    (subst (λ (l : List ℕ). Appends (g.W.Write.contents c.loop-topic.out) (g.W.Write.contents c.put.new.out) l)
    (c.as_slice.ensures.value ∙ c.topic_line.ensures ∙ ap (λ (l : List Column). topic_line c.args.color l (get_or topics i GrantAt)) (c.as_slice-columns.ensures.value ∙ ap (λ (w : Seen). w.columns)
    c.self.view_is)) c.in_ok-put.ensures.ok)

pub returns-clause-ok : goal.returns-clause-ok
returns-clause-ok g c =
    subst (λ (l : List ℕ). Appends (g.W.Write.contents c.args.out.now) (g.W.Write.contents c.loop-topic.out) l) (ap (flat_map (topic_line c.args.color c.args.self.now.columns))
    (take_all c.loop-topic.topic-index topics (omega arith))) c.loop-topic.invariant
