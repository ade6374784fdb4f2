use Rattle.std.proofs.Common.{[], ◌∙◌}
use Rattle.std.proofs.lemmas.Result.{err_from_is_err_and}
use Rattle.vme_engines.proofs.FirstReads.{replay_unbegun}
use Rattle.vme_engines.proofs.ReplayPieces.{replays_all}
use Rattle.vme_engines.proofs.replays.replay_trace.Goals as goal

pub returns-in_err-version : goal.returns-in_err-version
returns-in_err-version g c =
    let e = err_from_is_err_and c.from_residual.result c.from_residual.ensures.1 in
    rw (e.1, e.2) (replay_unbegun c.args.plan _ _ (g.W.Write.contents c.args.out.now) c.in_err-version.field-0.0 c.in_err-version.ensures.unbegun)

pub returns : goal.returns
returns g c =
    let ran = c.read_on.ensures _ _ c.in_ok-version.ensures.begun in
    (ran.0, ran.1, replays_all (λ s. s.bus) (λ s. s.judged) c.args.plan _ [] ran.0 _ c.new-replay.result.bus c.new-replay.result.judged c.read_on.result (c.new-replay.ensures.bus ∙ c.new.ensures) c.new-replay.ensures.judged ran.2)
