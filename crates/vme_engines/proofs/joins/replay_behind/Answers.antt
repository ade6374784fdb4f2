use Rattle.std.proofs.Common.{ℕ, List, [], ◌∷◌, ◌++◌, ◌∙◌, Ok, Err, unwrap_or, subst}
use Rattle.std.proofs.lemmas.Result.{err_from_is_err_and}
use Rattle.std.proofs.KnownBytes.{Keeps-refl}
use Rattle.vme_model.specs.Text.{header}
use Rattle.std.specs.Io.KnownBytes.{Keeps}
use Rattle.vme_engines.specs.declared.replays.Replaying.{Replaying}
use Rattle.vme_engines.specs.Streams.{streams}
use Rattle.vme_engines.specs.Outcomes.{Replays}
use Rattle.vme_engines.specs.Steps.{IsNoPlan}
use Rattle.vme_engines.proofs.FirstReads.{no_plan}
use Rattle.vme_engines.proofs.ReplayPieces.{replays_all}
use Rattle.vme_engines.proofs.AfterScenario.{no_plan_of, plan_of_text, came_start, counted_start, input_behind}
use Rattle.vme_engines.proofs.FormedEdges.{formed_start}
use Rattle.vme_engines.proofs.joins.replay_behind.Goals as goal

pub returns-in_err-plan : goal.returns-in_err-plan
returns-in_err-plan g c =
    λ from before held taken.
    let e = err_from_is_err_and c.from_residual.result c.from_residual.ensures.1 in
    let refused = subst (λ (t : List ℕ). IsNoPlan t c.in_err-plan.field-0.0) c.deref.ensures.value c.in_err-plan.ensures.fault in (
      c.args.rest.now ++ unwrap_or (g.R.Read.remaining c.args.input.now) [],
      input_behind c.args.version from _ before c.args.rest.now taken,
      rw (e.1, e.2) (no_plan before (Keeps (g.W.Write.contents c.args.out.now) (g.W.Write.contents c.args.out.now)) (λ p r. Replays p before ((header c.args.version ++ 10 ∷ []) ++ (c.args.rest.now ++ unwrap_or (g.R.Read.remaining c.args.input.now) [])) (streams from (g.R.Read.remaining c.args.input.now) (g.W.Write.contents c.args.out.now) (g.W.Write.contents c.args.out.now)) r) c.in_err-plan.field-0.0 (no_plan_of before c.into_text-text.result.items c.in_err-plan.field-0.0 (c.into_text-text.ensures before c.args.version held) refused) (Keeps-refl _)),
    )

pub read_on-requires : goal.read_on-requires
read_on-requires g c = record {
  counted = λ first. counted_start c.args.version c.args.rest.now c.args.reads _ _ _ c.start-first.ensures.starts first c.requires.rest c.requires.reads;
  begun = c.new-replay.ensures.judged;
  well_formed = formed_start _ _ _ _ c.start-first.ensures.starts;
}

pub returns-in-Ok : goal.returns-in-Ok
returns-in-Ok g c =
    λ from before held taken.
    let got = plan_of_text before c.into_text-text.result.items c.in_ok-plan.plan (c.into_text-text.ensures before c.args.version held) (rw c.deref.ensures.value at c.in_ok-plan.ensures.ok.0) (rw c.deref.ensures.value at c.in_ok-plan.ensures.ok.1) in
    let came = came_start c.args.version from _ before c.args.rest.now c.args.reads _ _ _ taken c.requires.rest c.requires.reads c.start-first.ensures.starts in
    let ran = c.in-Ok.ensures c.args.version from before (header c.args.version ++ 10 ∷ []) c.start-first.ensures.version came in
    let all = replays_all (λ (s : Replaying). s.bus) (λ (s : Replaying). s.judged) c.in_ok-plan.plan c.args.version before ((header c.args.version ++ 10 ∷ []) ++ ran.0) (streams from (g.R.Read.remaining c.read_on.new.input) (g.W.Write.contents c.args.out.now) (g.W.Write.contents c.read_on.new.out)) c.new-replay.result.bus c.new-replay.result.judged (Ok c.in-Ok.status) (c.new-replay.ensures.bus ∙ c.new.ensures) c.new-replay.ensures.judged ran.2 in
    (ran.0, ran.1, (c.in_ok-plan.plan, got.0, got.1, all))

pub returns : goal.returns
returns g c =
    λ from before held taken.
    let got = plan_of_text before c.into_text-text.result.items c.in_ok-plan.plan (c.into_text-text.ensures before c.args.version held) (rw c.deref.ensures.value at c.in_ok-plan.ensures.ok.0) (rw c.deref.ensures.value at c.in_ok-plan.ensures.ok.1) in
    let came = came_start c.args.version from _ before c.args.rest.now c.args.reads _ _ _ taken c.requires.rest c.requires.reads c.start-first.ensures.starts in
    let ran = c.in-Err.ensures c.args.version from before (header c.args.version ++ 10 ∷ []) c.start-first.ensures.version came in
    let all = replays_all (λ (s : Replaying). s.bus) (λ (s : Replaying). s.judged) c.in_ok-plan.plan c.args.version before ((header c.args.version ++ 10 ∷ []) ++ ran.0) (streams from (g.R.Read.remaining c.read_on.new.input) (g.W.Write.contents c.args.out.now) (g.W.Write.contents c.read_on.new.out)) c.new-replay.result.bus c.new-replay.result.judged (Err c.in-Err.fault) (c.new-replay.ensures.bus ∙ c.new.ensures) c.new-replay.ensures.judged ran.2 in
    (ran.0, ran.1, (c.in_ok-plan.plan, got.0, got.1, all))
