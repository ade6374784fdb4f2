use Rattle.std.proofs.Common.{◌≡◌, ◌<◌, ℕ, length, get_or}
use Rattle.vme_chain.specs.Segments.{input_number}
use Rattle.vme_chain.proofs.chains.input_numbers.Given as goal

abbrev pub invariant-loop-slot : goal.invariant-loop-slot
invariant-loop-slot l = record {
  numbered : (s : ℕ) → s < l.slot → get_or l.numbers s 0 ≡ input_number l.active s;
  room : length l.numbers ≡ 22;
}
