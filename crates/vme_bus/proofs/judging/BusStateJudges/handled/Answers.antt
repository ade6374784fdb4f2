use Rattle.std.proofs.Common.{◌∙◌, sym, ap}
use Rattle.std.specs.Prelude.{Option, Some, option_map}
use Rattle.std.specs.Option.{option_copied}
use Rattle.vme_model.specs.declared.boards.Row.{Row}
use Rattle.vme_model.specs.declared.sets.Levels.{Levels}
use Rattle.vme_model.specs.Plan.{board}
use Rattle.vme_bus.specs.declared.records.Seat.{Seat}
use Rattle.vme_bus.specs.Records.{seat_of_record}
use Rattle.vme_bus.proofs.OneSlot.{seated, unseated}
use Rattle.vme_bus.proofs.judging.BusStateJudges.handled.Goals as goal

pub returns-in-Some : goal.returns-in-Some
returns-in-Some c version p h is =
    let s = c.args.slot in
    let k = seated p s (seat_of_record c.in-Some.seat.now) (sym (ap (option_map seat_of_record) (ap option_copied c.in-Some.is)) ∙ c.record.ensures ∙ is.layout.seats s) in
    ap (λ (x : Levels). Some x) c.handler.ensures
    ∙ ap (λ (x : Seat). Some x.row.handler) k.same
    ∙ sym (ap (λ (o : Option Row). option_map (λ r. r.handler) o) k.found)

pub returns-in-None : goal.returns-in-None
returns-in-None c version p h is =
    let s = c.args.slot in
    sym (ap (λ (o : Option Row). option_map (λ r. r.handler) o) (unseated p (board p s) (sym (is.layout.seats s) ∙ sym c.record.ensures ∙ ap (option_map seat_of_record)
    (ap option_copied c.in-None.is))))
