use Rattle.vme_reading.proofs.FirstReads.{replay_unbegun}
use Rattle.vme_replay.proofs.replays.ReplayingJudge.unbegun.Goals as goal

pub returns : goal.returns
returns c = replay_unbegun c.args._task.now
