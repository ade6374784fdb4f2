use Rattle.vme_lock.specs.Seats.{drivers_of}
use Rattle.vme_lock.proofs.OnePass.{all_logs}
use Rattle.vme_lock.proofs.following.are_logs.Goals as goal

pub returns : goal.returns
returns g c = λ whole.
    all_logs c.args.backplane.now.history c.in-Some.numbers c.in-Some-followed.ends (drivers_of c.args.seats.now) c.args.logs.now
    c.in-Some.ensures c.in-Some-followed.ensures (c.are_whole.ensures whole)
