use Rattle.std.proofs.Common.{◌≡◌, ◌-◌}
use Rattle.vme_model.specs.Offers.{rounds, rounds_from}
use Rattle.vme_reading.specs.Texts.{KeepsListed}
use Rattle.vme_drive.proofs.drives.Driving.take_rounds.Given as goal

abbrev pub invariant-loop-round : goal.invariant-loop-round
invariant-loop-round g l = record {
  rest : rounds l.fn.self.bus l.edges ≡ rounds_from (l.edges - l.round) l.round l.edges l.self.bus;
  listed : KeepsListed l.fn.self.bus l.fn.self.text (g.W.Write.contents l.fn.out) (g.W.Write.contents l.out) l.self.bus l.self.text;
}
