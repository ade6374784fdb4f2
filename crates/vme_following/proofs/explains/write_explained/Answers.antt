use Rattle.std.proofs.Common.{◌≡◌, ◌+◌, ◌∙◌, ap, sym, is_ok, Bool, true, false, Option, Result, if◌then◌else◌}
use Rattle.std.specs.Io.KnownBytes.{Appends}
use Rattle.std.proofs.KnownBytes.{Appends-kept}
use Rattle.vme_model.specs.declared.deliveries.Delivery.{Delivery}
use Rattle.vme_model.specs.declared.refusals.Refused.{Refused}
use Rattle.vme_model.specs.declared.signals.Edge.{Edge}
use Rattle.vme_model.specs.Verdict.{State, verdict}
use Rattle.vme_model.specs.Deliveries.{answer, delivery}
use Rattle.vme_model.specs.Why.{why_text}
use Rattle.vme_trace.specs.Writing.{AppendsFront}
use Rattle.vme_reading.specs.declared.Status.TheVariants.{Done, SomeRefused}
use Rattle.vme_following.specs.Explaining.{edge_status}
use Rattle.vme_following.proofs.FollowedEdges.{ok_with, of_after}
use Rattle.vme_reading.proofs.WrittenLines.{on_err, front_kept}
use Rattle.vme_following.proofs.explains.write_explained.Goals as goal

-- whether the answer to an edge accepts it
status_by : (b : State) (e : Edge) (r : Result (Option Delivery) Refused) (ok : Bool) → r ≡ answer b e → is_ok r ≡ ok → (if ok then Done else SomeRefused) ≡ edge_status b e
status_by b e r ok is h = ap (λ t. if t then Done else SomeRefused) (sym h ∙ ap is_ok is ∙ ok_with (verdict b e) (delivery b.plan b.history e))

pub returns-in_err-write_why-clause-front : goal.returns-in_err-write_why-clause-front
returns-in_err-write_why-clause-front g c =
    on_err _ _ (of_after _ (λ n b k. why_text (n + 1) b k c.args.found.now.edge) (AppendsFront _ _) c.in_err-write_why.ensures.front)

pub returns-in_err-flush-clause-front : goal.returns-in_err-flush-clause-front
returns-in_err-flush-clause-front g c =
    on_err c.from_residual-in_err-flush.result _ (λ p v es is. front_kept _ _ _ _ (of_after c.args.following.now (λ n b k. why_text (n + 1) b k c.args.found.now.edge) (Appends (g.W.Write.contents c.args.out.now) (g.W.Write.contents c.write_why.new.out)) c.in_ok-write_why.ensures.ok p v es is) c.flush.ensures.kept)

pub returns-in-Ok-clause-ok : goal.returns-in-Ok-clause-ok
returns-in-Ok-clause-ok g c = λ p v es is. Appends-kept _ _ _ _ (of_after _ (λ n b k. why_text (n + 1) b k c.args.found.now.edge) (Appends _ _) c.in_ok-write_why.ensures.ok p v es is) c.flush.ensures.kept

pub returns-in-Err-clause-ok : goal.returns-in-Err-clause-ok
returns-in-Err-clause-ok g c = λ p v es is. Appends-kept _ _ _ _ (of_after _ (λ n b k. why_text (n + 1) b k c.args.found.now.edge) (Appends _ _) c.in_ok-write_why.ensures.ok p v es is) c.flush.ensures.kept

pub returns-in-Ok-clause-status : goal.returns-in-Ok-clause-status
returns-in-Ok-clause-status g c = status_by c.args.following.now.bus c.args.found.now.edge c.args.found.now.answer true c.requires.answered (ap is_ok c.in-Ok.is)

pub returns-in-Err-clause-status : goal.returns-in-Err-clause-status
returns-in-Err-clause-status g c = status_by c.args.following.now.bus c.args.found.now.edge c.args.found.now.answer false c.requires.answered (ap is_ok c.in-Err.is)
