use Rattle.std.proofs.Common.{[], ◌∷◌, ◌++◌, ◌∙◌}
use Rattle.vme_model.specs.Text.{header}
use Rattle.vme_engines.specs.declared.replays.Replaying.{Replaying}
use Rattle.vme_engines.specs.Streams.{streams}
use Rattle.vme_engines.proofs.ReplayPieces.{replays_all}
use Rattle.vme_engines.proofs.AfterScenario.{came_start, counted_start}
use Rattle.vme_engines.proofs.FormedEdges.{formed_start}
use Rattle.vme_engines.proofs.joins.replay_rest.Goals as goal

pub read_on-requires : goal.read_on-requires
read_on-requires g c = record {
  room = c.requires.room;
  counted = λ first. counted_start c.args.version c.args.rest.now c.args.reads _ _ _ c.start-first.ensures.starts first c.requires.rest c.requires.reads;
  begun = c.new-replay.ensures.judged;
  well_formed = formed_start _ _ _ _ c.start-first.ensures.starts;
}

pub returns : goal.returns
returns g c =
    λ from before taken.
    let came = came_start c.args.version from _ before c.args.rest.now c.args.reads _ _ _ taken c.requires.rest c.requires.reads c.start-first.ensures.starts in
    let ran = c.read_on.ensures c.args.version from before (header c.args.version ++ 10 ∷ []) c.start-first.ensures.version came in
    let all = replays_all (λ (s : Replaying). s.bus) (λ (s : Replaying). s.judged) c.args.plan c.args.version before ((header c.args.version ++ 10 ∷ []) ++ ran.0) (streams from (g.R.Read.remaining c.read_on.new.input) (g.W.Write.contents c.args.out.now) (g.W.Write.contents c.read_on.new.out)) c.new-replay.result.bus c.new-replay.result.judged c.read_on.result (c.new-replay.ensures.bus ∙ c.new.ensures) c.new-replay.ensures.judged ran.2 in
    (ran.0, ran.1, all)
