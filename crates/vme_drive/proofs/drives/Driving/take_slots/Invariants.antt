use Rattle.std.proofs.Common.{◌≡◌, ◌-◌, ◌<◌}
use Rattle.vme_reading.specs.Texts.{KeepsListed}
use Rattle.vme_drive.proofs.SlotsInTurn.{up_to_slot}
use Rattle.vme_drive.proofs.drives.Driving.take_slots.Given as goal

abbrev pub invariant-loop-slot : goal.invariant-loop-slot
invariant-loop-slot g l = record {
  near : l.last < 32;
  so_far : l.self.bus ≡ up_to_slot l.round l.edges l.fn.self.bus l.last;
  listed : KeepsListed l.fn.self.bus l.fn.self.text (g.W.Write.contents l.fn.out) (g.W.Write.contents l.out) l.self.bus l.self.text;
}

abbrev pub decreases-loop-slot : goal.decreases-loop-slot
decreases-loop-slot g l = 32 - l.last
