use Rattle.std.proofs.Common.{arith}
use Rattle.std.proofs.lemmas.Option.{slice_get-get_or}
use Rattle.vme_probe.proofs.SampleLines.{refused_more}
use Rattle.vme_probe.proofs.sampled.push_refused_next.Goals as goal

pub loop-place-preserved : goal.loop-place-preserved
loop-place-preserved c = record {
  adds =
      refused_more c.args.plan.now c.args.probed.now.version c.args.before.now c.args.sample.now c.args.places c.loop-place.place _ c.comes_next-is_next.result
      c.push_refused_if-here.result c.loop-place.is_ours c.either-is_ours.result
      c.args.report.now.items c.loop-place.report.items c.push_refused_if-here.new.report.items
      (slice_get-get_or c.args.sample.now c.loop-place.place _ (omega (arith, c.loop-place-test.true)))
      c.comes_next-is_next.ensures c.loop-place.invariant.adds c.push_refused_if-here.ensures.adds c.either-is_ours.ensures;
  len = omega (arith, c.loop-place.invariant.len, c.push_refused_if-here.ensures.len);
}
