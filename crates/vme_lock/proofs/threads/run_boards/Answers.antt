use Rattle.vme_lock.proofs.SeatsAndLogs.{same_drivers}
use Rattle.vme_lock.proofs.threads.run_boards.Goals as goal

pub returns-clause-drivers : goal.returns-clause-drivers
returns-clause-drivers g t = same_drivers _ _ _ t.run_all.ensures.worked
