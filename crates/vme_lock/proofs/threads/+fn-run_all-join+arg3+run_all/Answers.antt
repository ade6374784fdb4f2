use Rattle.std.proofs.lemmas.List.Elements.{All-push}
use Rattle.vme_lock.specs.Seats.{IsWithin}
use Rattle.vme_lock.proofs.SeatsAndLogs.{AllWorked-push}
use Rattle.vme_lock.proofs.threads.+fn-run_all-join+arg3+run_all.Goals as goal

pub returns-clause-worked : goal.returns-clause-worked
returns-clause-worked g t c =
    rw (c.in-Some.ensures.items, c.push_reserved.ensures.items, c.push_reserved-2.ensures.items) (AllWorked-push _ _ _ _ _ _ c.join-seat.ensures.second.0 c.join-seat.ensures.first.0)

pub returns-clause-most : goal.returns-clause-most
returns-clause-most g t c =
    rw (c.push_reserved-2.ensures.items) (All-push (IsWithin c.args.bounds.turns c.args.bounds.edges) _ _ c.join-seat.ensures.second.1.1.1 c.join-seat.ensures.first.1)
