use Rattle.std.proofs.Common.{arith, ap, length}
use Rattle.vme_lock.proofs.SeatsAndLogs.{as_many}
use Rattle.vme_lock.proofs.shared.Shared.close.Goals as goal

pub count_all-requires-clause-all : goal.count_all-requires-clause-all
count_all-requires-clause-all g c =
    omega (arith, c.backplane.invariant.2, c.requires.parts, ap length c.requires.seats, as_many c.args.seats.items, c.args.seats.ok)
