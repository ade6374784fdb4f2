use Rattle.std.proofs.Common.{◌≡◌, ◌∙◌, ◌+◌, Option, Result, is_ok, Bool, true, false, sym, ap}
use Rattle.std.specs.Prelude.{if◌then◌else◌}
use Rattle.vme_model.specs.declared.deliveries.Delivery.{Delivery}
use Rattle.vme_model.specs.declared.refusals.Refused.{Refused}
use Rattle.vme_model.specs.declared.signals.Edge.{Edge}
use Rattle.vme_model.specs.Deliveries.{answer, delivery}
use Rattle.vme_model.specs.Verdict.{State, verdict}
use Rattle.vme_model.specs.Why.{why_text}
use Rattle.vme_engines.specs.declared.Status.TheVariants.{Done, SomeRefused}
use Rattle.vme_engines.specs.Explaining.{edge_status}
use Rattle.vme_engines.proofs.FollowedEdges.{ok_with}
use Rattle.vme_engines.proofs.ToldPieces.{flushed_front}
use Rattle.vme_engines.proofs.explains.tell_edge.Goals as goal

-- whether the answer to an edge accepts it
status_by : (b : State) (e : Edge) (r : Result (Option Delivery) Refused) (ok : Bool) → r ≡ answer b e → is_ok r ≡ ok → (if ok then Done else SomeRefused) ≡ edge_status b e
status_by b e r ok is h = ap (λ t. if t then Done else SomeRefused) (sym h ∙ ap is_ok is ∙ ok_with (verdict b e) (delivery b.plan b.history e))

pub returns-in_err-flush-clause-front : goal.returns-in_err-flush-clause-front
returns-in_err-flush-clause-front g c =
    flushed_front c.from_residual-in_err-flush.result c.args.following.now.bus c.args.following.now.marks (λ k. why_text (c.args.following.now.judged + 1) c.args.following.now.bus k c.args.found.now.edge) _ _ _
    c.in_ok-write_why.ensures.ok c.flush.ensures.kept

pub returns-in-Ok-clause-status : goal.returns-in-Ok-clause-status
returns-in-Ok-clause-status g c = status_by c.args.following.now.bus c.args.found.now.edge c.args.found.now.answer true c.requires.answered (ap is_ok c.in-Ok.is)

pub returns-in-Err-clause-status : goal.returns-in-Err-clause-status
returns-in-Err-clause-status g c = status_by c.args.following.now.bus c.args.found.now.edge c.args.found.now.answer false c.requires.answered (ap is_ok c.in-Err.is)
