-- The stretch that a lease's granules are.
use Rattle.std.specs.Prelude.{◌+◌, ◌*◌}
use Rattle.vme_arena.specs.Stretch.{Stretch}
use Rattle.vme_arena.specs.declared.held.Held.{Held}

abbrev pub held_stretch : Held → Stretch
held_stretch h = record {
  block = h.loan.spot.block;
  start = h.loan.spot.at;
  end = h.loan.spot.at + h.count * 16;
}
