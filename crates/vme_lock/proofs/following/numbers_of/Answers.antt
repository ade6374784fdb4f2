use Rattle.std.proofs.Common.{arith, length, ◌∙◌}
use Rattle.std.proofs.lemmas.List.{length-set}
use Rattle.vme_lock.specs.Seats.{drivers_of}
use Rattle.vme_lock.proofs.OnePass.{numbered_more, driver_at, all_numbered}
use Rattle.vme_lock.proofs.following.numbers_of.Goals as goal

pub loop-number-preserved : goal.loop-number-preserved
loop-number-preserved g c =
    let seats = c.args.seats.now in
    let numbers = c.loop-number.numbers in
    let n = c.loop-number.number in
    let at = c.desk-desk.result in
    let seat = c.index-seats-number.result in
    let kept = c.loop-number.invariant in
    let here = driver_at seats n seat (omega arith) c.index-seats-number.is in
    let more = numbered_more numbers (drivers_of seats) n at (length seats) seat.driver kept.0 kept.1 here c.desk-desk.ensures.sits c.desk-desk.ensures.place in
    (length-set numbers at n ∙ kept.0, more c.if-numbers-desk.false (omega arith))

pub returns : goal.returns
returns g c = all_numbered c.loop-number.numbers c.args.seats.now c.loop-number.number (omega arith) c.loop-number.invariant.1
