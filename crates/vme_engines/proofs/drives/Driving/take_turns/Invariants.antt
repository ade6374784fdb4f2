use Rattle.std.proofs.Common.{◌≡◌, drop}
use Rattle.vme_model.specs.Offers.{turns}
use Rattle.vme_engines.specs.Texts.{KeepsListed}
use Rattle.vme_engines.proofs.drives.Driving.take_turns.Given as goal

abbrev pub invariant-loop-driver : goal.invariant-loop-driver
invariant-loop-driver g l = record {
  rest : turns l.round l.edges l.fn.self.bus l.drivers ≡ turns l.round l.edges l.self.bus (drop l.driver-index l.drivers);
  listed : KeepsListed l.fn.self.bus l.fn.self.text (g.W.Write.contents l.fn.out) (g.W.Write.contents l.out) l.self.bus l.self.text;
}
