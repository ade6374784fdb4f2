use Rattle.std.proofs.Common.{◌∙◌, sym, ap}
use Rattle.std.specs.Prelude.{Some}
use Rattle.vme_model.specs.Plan.{board}
use Rattle.vme_bus.specs.declared.records.Seat.{Seat}
use Rattle.vme_bus.proofs.OneSlot.{seated, unseated}
use Rattle.vme_bus.proofs.judging.BusStateJudges.row.Goals as goal

pub returns-in-Some : goal.returns-in-Some
returns-in-Some c version p h is =
    let s = c.args.slot in
    let k = seated p s c.in-Some.seat (sym c.in-Some.is ∙ c.seat.ensures ∙ is.layout.seats s) in
    ap (λ (x : Seat). Some x.row) k.same ∙ sym k.found

pub returns-in-None : goal.returns-in-None
returns-in-None c version p h is =
    let s = c.args.slot in
    sym (unseated p (board p s) (sym (is.layout.seats s) ∙ sym c.seat.ensures ∙ c.in-None.is))
