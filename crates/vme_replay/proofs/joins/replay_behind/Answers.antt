use Rattle.std.proofs.Common.{ℕ, List, [], ◌∷◌, ◌++◌, unwrap_or, subst}
use Rattle.std.proofs.lemmas.Result.{err_from_is_err_and}
use Rattle.std.proofs.KnownBytes.{Keeps-refl}
use Rattle.vme_model.specs.Text.{header}
use Rattle.std.specs.Io.KnownBytes.{Keeps}
use Rattle.vme_reading.specs.Streams.{streams}
use Rattle.vme_reading.specs.declared.LineForm.TheVariants.{Short}
use Rattle.vme_reading.specs.Outcomes.{Replays}
use Rattle.vme_reading.specs.Steps.{IsNoPlan}
use Rattle.vme_reading.proofs.FirstReads.{no_plan_asking}
use Rattle.vme_replay.proofs.AfterScenario.{no_plan_of, plan_of_text, input_behind}
use Rattle.vme_replay.proofs.joins.replay_behind.Goals as goal

pub returns-in_err-plan : goal.returns-in_err-plan
returns-in_err-plan g c =
    λ from before held taken.
    let e = err_from_is_err_and c.from_residual.result c.from_residual.ensures.1 in
    let refused = subst (λ (t : List ℕ). IsNoPlan t c.in_err-plan.field-0.0) c.deref.ensures.value c.in_err-plan.ensures.fault in (
      c.args.rest.now ++ unwrap_or (g.R.Read.remaining c.args.input.now) [],
      input_behind c.args.version from _ before c.args.rest.now taken,
      rw (e.1, e.2) (no_plan_asking before (Keeps _ _) (λ p r. Replays Short p before ((header c.args.version ++ 10 ∷ []) ++ (c.args.rest.now ++ unwrap_or (g.R.Read.remaining c.args.input.now) []))
          (streams from (g.R.Read.remaining c.args.input.now) (g.W.Write.contents c.args.out.now) (g.W.Write.contents c.args.out.now)) r) _
          (no_plan_of before _ _ (c.into_text-text.ensures before _ held) refused) (Keeps-refl _)),
    )

pub returns-in_err-buffer : goal.returns-in_err-buffer
returns-in_err-buffer g c =
    λ from before held taken.
    let e = err_from_is_err_and c.from_residual-in_err-buffer.result c.from_residual-in_err-buffer.ensures.1 in
    let got = plan_of_text before _ _ (c.into_text-text.ensures before _ held) (rw c.deref.ensures.value at c.in_ok-plan.ensures.ok.0) (rw c.deref.ensures.value at c.in_ok-plan.ensures.ok.1) in (
      c.args.rest.now ++ unwrap_or (g.R.Read.remaining c.args.input.now) [],
      input_behind c.args.version from _ before c.args.rest.now taken,
      rw (e.1, e.2, c.in_err-buffer.ensures.fault) (c.in_ok-plan.plan, got.0, got.1, Keeps-refl _),
    )

pub returns-in-Ok : goal.returns-in-Ok
returns-in-Ok g c =
    λ from before held taken.
    let got = plan_of_text before _ _ (c.into_text-text.ensures before _ held) (rw c.deref.ensures.value at c.in_ok-plan.ensures.ok.0) (rw c.deref.ensures.value at c.in_ok-plan.ensures.ok.1) in
    let ran = c.in-Ok.ensures from before taken in
    (ran.0, ran.1, (c.in_ok-plan.plan, got.0, got.1, ran.2))

pub returns : goal.returns
returns g c =
    λ from before held taken.
    let got = plan_of_text before _ _ (c.into_text-text.ensures before _ held) (rw c.deref.ensures.value at c.in_ok-plan.ensures.ok.0) (rw c.deref.ensures.value at c.in_ok-plan.ensures.ok.1) in
    let ran = c.in-Err.ensures from before taken in
    (ran.0, ran.1, (c.in_ok-plan.plan, got.0, got.1, ran.2))
