use Rattle.std.proofs.Common.{◌≡◌, ◌+◌, ◌∙◌, ap, sym, is_ok, length, Bool, true, false, Option, Result, if◌then◌else◌}
use Rattle.std.specs.Io.KnownBytes.{Appends}
use Rattle.std.proofs.KnownBytes.{Appends-kept}
use Rattle.std.proofs.lemmas.Result.{err_from_is_err_and}
use Rattle.vme_model.specs.declared.deliveries.Delivery.{Delivery}
use Rattle.vme_model.specs.declared.refusals.Refused.{Refused}
use Rattle.vme_model.specs.declared.signals.Edge.{Edge}
use Rattle.vme_model.specs.Verdict.{State, verdict}
use Rattle.vme_model.specs.Deliveries.{answer, delivery}
use Rattle.vme_model.specs.Why.{why_text}
use Rattle.vme_explain.proofs.MarkedSteps.{ok_with}
use Rattle.vme_trace.specs.Writing.{AppendsFront}
use Rattle.vme_reading.specs.declared.Status.TheVariants.{Done, SomeRefused}
use Rattle.vme_reading.proofs.WrittenLines.{front_kept}
use Rattle.vme_following.specs.Explaining.{edge_status}
use Rattle.vme_following.proofs.FollowedEdges.{of_on}
use Rattle.vme_following.proofs.explains.ExplainingAtEdge.write.Goals as goal

-- whether the answer to an edge accepts it
status_by : (b now : State) (e : Edge) (r : Result (Option Delivery) Refused) (ok : Bool)
    → now ≡ b → r ≡ answer now e → is_ok r ≡ ok → (if ok then Done else SomeRefused) ≡ edge_status b e
status_by b now e r ok same is h =
    ap (λ t. if t then Done else SomeRefused)
    (sym h ∙ ap is_ok is ∙ ok_with (verdict now e) (delivery now.plan now.history e))
    ∙ ap (λ (s : State). edge_status s e) same

pub returns-in_err-write_why : goal.returns-in_err-write_why
returns-in_err-write_why g c = λ p v es is n.
    let e = err_from_is_err_and c.from_residual.result c.from_residual.ensures.1 in
    let edge = c.args.edge.now in
    rw (e.1, e.2) (
      c.in_err-write_why.ensures.fault,
      of_on p v es _ _ is c.args.n (length es + 1) (λ i b k. why_text i b k edge) (AppendsFront _ _) n
          c.in_err-write_why.ensures.front,
    )

pub returns-in_err-flush : goal.returns-in_err-flush
returns-in_err-flush g c = λ p v es is n.
    let e = err_from_is_err_and c.from_residual-in_err-flush.result
    c.from_residual-in_err-flush.ensures.1 in
    let edge = c.args.edge.now in
    let old = g.W.Write.contents c.args.out.now in
    let mid = g.W.Write.contents c.write_why.new.out in
    rw (e.1, e.2) (
      c.in_err-flush.ensures.fault,
      front_kept _ _ _ _ (of_on p v es _ _ is c.args.n (length es + 1)
          (λ i b k. why_text i b k edge) (Appends old mid) n c.in_ok-write_why.ensures.ok)
          c.flush.ensures.kept,
    )

pub returns-in-Ok : goal.returns-in-Ok
returns-in-Ok g c = λ p v es is n.
    let edge = c.args.edge.now in
    let old = g.W.Write.contents c.args.out.now in
    let mid = g.W.Write.contents c.write_why.new.out in (
      status_by _ _ edge c.answer-answer.result true is.kept_so c.answer-answer.ensures
          (ap is_ok c.in-Ok.is),
      Appends-kept _ _ _ _ (of_on p v es _ _ is c.args.n (length es + 1)
          (λ i b k. why_text i b k edge) (Appends old mid) n c.in_ok-write_why.ensures.ok)
          c.flush.ensures.kept,
    )

pub returns-in-Err : goal.returns-in-Err
returns-in-Err g c = λ p v es is n.
    let edge = c.args.edge.now in
    let old = g.W.Write.contents c.args.out.now in
    let mid = g.W.Write.contents c.write_why.new.out in (
      status_by _ _ edge c.answer-answer.result false is.kept_so c.answer-answer.ensures
          (ap is_ok c.in-Err.is),
      Appends-kept _ _ _ _ (of_on p v es _ _ is c.args.n (length es + 1)
          (λ i b k. why_text i b k edge) (Appends old mid) n c.in_ok-write_why.ensures.ok)
          c.flush.ensures.kept,
    )
