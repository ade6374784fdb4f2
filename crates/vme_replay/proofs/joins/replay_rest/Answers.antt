use Rattle.std.proofs.Common.{[], ◌∷◌, ◌++◌}
use Rattle.vme_model.specs.Text.{header}
use Rattle.vme_reading.specs.declared.LineForm.TheVariants.{Short}
use Rattle.vme_replay.proofs.LeftOfTrace.{behind_text, input_of, replays_behind, reported}
use Rattle.vme_replay.proofs.AfterScenario.{came_start, counted_start}
use Rattle.vme_replay.proofs.FormedStarts.{formed_start}
use Rattle.vme_replay.proofs.joins.replay_rest.Goals as goal

pub read_on-requires : goal.read_on-requires
read_on-requires g c = record {
  room = c.requires.room;
  counted = λ first. counted_start c.args.version c.args.rest.now c.args.reads _ _ _ c.start-first.ensures.starts first c.requires.rest c.requires.reads;
  begun = c.begin-replay.ensures.count;
  well_formed = formed_start _ _ _ _ c.start-first.ensures.starts;
}

pub returns : goal.returns
returns g c =
    λ from before taken.
    let v = c.args.version in
    let head = header v ++ 10 ∷ [] in
    let mid = behind_text from (g.R.Read.remaining c.args.input.now) before (head ++ c.args.rest.now) taken in
    let came = came_start v mid.0 (g.R.Read.remaining c.args.input.now) c.args.rest.now c.args.reads _ _ _ mid.2 c.requires.rest c.requires.reads c.start-first.ensures.starts in
    let ran = c.read_on.ensures Short c.args.plan v (c.begin-replay.ensures.stands c.args.plan v _ c.new.ensures) mid.0 head c.start-first.ensures.version came in (
      ran.0,
      input_of from mid.0 before (head ++ ran.0) mid.1 ran.1,
      replays_behind Short _ before (head ++ ran.0) from mid.0 _ _ _ mid.1 _ (reported Short c.args.plan (head ++ ran.0) _ c.read_on.result ran.2),
    )
