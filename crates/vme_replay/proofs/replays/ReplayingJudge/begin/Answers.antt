use Rattle.std.proofs.Common.{refl}
use Rattle.vme_reading.specs.Outcomes.{bench}
use Rattle.vme_replay.proofs.ReplayPieces.{piece_none}
use Rattle.vme_replay.proofs.replays.ReplayingJudge.begin.Goals as goal

pub returns-clause-stands : goal.returns-clause-stands
returns-clause-stands c = λ p v old is. (refl, (refl, piece_none c.args.task.now (bench p v) old, is, refl))
