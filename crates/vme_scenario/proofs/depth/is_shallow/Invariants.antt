use Rattle.std.proofs.Common.{◌≡◌, ◌≤◌, drop}
use Rattle.arrayvec.specs.ArrayVec.{array_vec_len}
use Rattle.vme_scenario.specs.Depth.{is_shallow, is_shallow_from}
use Rattle.vme_scenario.specs.Borrowed.{placed}
use Rattle.vme_scenario.proofs.depth.is_shallow.Given as goal

abbrev pub invariant-loop-byte : goal.invariant-loop-byte
invariant-loop-byte l =
    (l.place.here ≤ 80) × (array_vec_len l.place.outer ≤ 80) × (is_shallow_from (placed l.place) (drop l.byte-index l.text) ≡ is_shallow l.text)
