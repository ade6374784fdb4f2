use Rattle.std.proofs.Common.{◌≡◌, ◌∙◌, ap, false, arith}
use Rattle.std.proofs.lemmas.Bool.Decides.{nat_tests}
use Rattle.std.specs.Prelude.{◌&&◌, nat_lt}
use Rattle.std.specs.Option.{option_map_or}
use Rattle.vme_bus.specs.Layouts.{seat, is_input_at}
use Rattle.vme_bus.proofs.Seats.{all_seats}
use Rattle.vme_bus.proofs.layouts.fed_by.Goals as goal

pub returns : goal.returns
returns c s =
    let ended : c.loop-slot.slot ≡ 22 = grind (arith, nat_tests, c.loop-slot.auto.slot-end, c.loop-slot-test.false) in
    c.loop-slot.invariant s
    ∙ ap (λ n. nat_lt s n && option_map_or (is_input_at c.args.input c.args.place) (seat c.args.seats.now s) false) ended
    ∙ all_seats c.args.seats.now (is_input_at c.args.input c.args.place) c.told-seats s
