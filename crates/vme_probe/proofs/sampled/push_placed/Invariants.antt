use Rattle.std.proofs.Common.{◌≡◌, ◌≤◌, ◌*◌}
use Rattle.arrayvec.specs.ArrayVec.{array_vec_len}
use Rattle.vme_probe.specs.Sampled.{placed_lines}
use Rattle.vme_probe.proofs.sampled.push_placed.Given as goal

abbrev pub invariant-loop-place : goal.invariant-loop-place
invariant-loop-place l = record {
  items : l.report.items ≡ placed_lines l.sample l.places l.makers l.place;
  len : array_vec_len l.report ≤ 160 * l.place;
}
