use Rattle.std.proofs.Common.{◌≡◌, ℕ, ◌<◌, length, get_or}
use Rattle.std.specs.Prelude.{option_map}
use Rattle.vme_model.specs.Plan.{board}
use Rattle.vme_bus.specs.Layouts.{seat_of}
use Rattle.vme_bus.specs.Records.{seat_in, no_seat}
use Rattle.vme_bus.proofs.layouts.seats_of.Given as goal

abbrev pub invariant-loop-slot : goal.invariant-loop-slot
invariant-loop-slot l = record {
  room : length l.seats ≡ 22;
  made : (s : ℕ) → s < l.slot → seat_in (get_or l.seats s no_seat) ≡ option_map (seat_of l.plan) (board l.plan s);
}
