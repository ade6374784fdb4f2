use Rattle.std.proofs.Common.{◌≡◌, ℕ, ◌<◌, length}
use Rattle.vme_bus.specs.Layouts.{HoldsInputs, set_at}
use Rattle.vme_bus.proofs.layouts.fed_by_places.Given as goal

abbrev pub invariant-loop-place : goal.invariant-loop-place
invariant-loop-place l = record {
  room : length l.sets ≡ 28;
  made : (n : ℕ) → n < l.place → HoldsInputs l.input l.seats n (set_at l.sets n);
}
