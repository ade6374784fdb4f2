use Rattle.std.proofs.Common.{◌≡◌, length, take}
use Rattle.vme_chain.proofs.chains.padded.Given as goal

abbrev pub invariant-loop-at : goal.invariant-loop-at
invariant-loop-at l = record {
  kept : take l.at l.slots ≡ take l.at l.active;
  room : length l.slots ≡ 21;
}
