use Rattle.std.proofs.Common.{refl}
use Rattle.vme_reading.specs.Outcomes.{bench}
use Rattle.vme_replay.proofs.LeftOfTrace.{no_lines}
use Rattle.vme_replay.proofs.replays.ReplayingAtEach.begin.Goals as goal

pub returns-clause-knows : goal.returns-clause-knows
returns-clause-knows c = λ p v is. record { form_is = refl; bus = is; judged = refl; lines = no_lines c.args.task.now (bench p v) }
