use Rattle.std.proofs.Common.{◌≡◌, ℕ}
use Rattle.std.specs.Prelude.{◌&&◌, nat_lt}
use Rattle.vme_bus.specs.Sets.{has}
use Rattle.vme_probe.specs.Pins.{is_in, segment_at}
use Rattle.vme_probe.proofs.pins.places_in.Given as goal

abbrev pub invariant-loop-slot : goal.invariant-loop-slot
invariant-loop-slot l =
    (s : ℕ) → has l.places s ≡ (nat_lt s l.slot && is_in l.low l.probes (segment_at l.chain s))
