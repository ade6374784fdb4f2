use Rattle.std.proofs.Common.{◌≡◌, ◌*◌, ◌≤◌, sum, take}
use Rattle.vme_seeds.proofs.chances.Chances.sum.Given as goal

abbrev pub invariant-loop-chance : goal.invariant-loop-chance
invariant-loop-chance l = record {
  summed : l.sum ≡ sum (take l.chance-index l.self.by_kind);
  small : l.sum ≤ 65535 * l.chance-index;
}
