use Rattle.std.proofs.Common.{◌≤◌, ◌+◌, ◌*◌}
use Rattle.arrayvec.specs.ArrayVec.{array_vec_len}
use Rattle.vme_probe.specs.Sampled.{AddsRefused}
use Rattle.vme_probe.proofs.sampled.push_refused_next.Given as goal

abbrev pub invariant-loop-place : goal.invariant-loop-place
invariant-loop-place l = record {
  adds : AddsRefused l.plan l.probed.version l.before l.sample l.places l.place l.fn.report.items l.report.items l.is_ours;
  len : array_vec_len l.report ≤ 1920 + 2326 * l.place;
}
