use Rattle.std.proofs.Common.{◌≡◌, drop}
use Rattle.vme_model.specs.Offers.{turns}
use Rattle.vme_engines.proofs.drives.take_turns.Given as goal

abbrev pub invariant-loop-driver : goal.invariant-loop-driver
invariant-loop-driver l = turns l.round l.edges l.fn.backplane l.drivers ≡ turns l.round l.edges l.backplane (drop l.driver-index l.drivers)
