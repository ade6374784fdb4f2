use Rattle.std.proofs.Common.{◌≡◌, ◌^◌, length, refl, arith}
use Rattle.std.proofs.Math.Pow.{pow_pos}
use Rattle.vme_samples.proofs.Furthest.{few_sets}
use Rattle.vme_samples.proofs.Kept.{all_filled, first_filled, one_filled}
use Rattle.vme_samples.proofs.ways.Ways.fill.Goals as goal

pub loop-number-init : goal.loop-number-init
loop-number-init c = first_filled c.args.plan.now c.args.probed.now c.args.start.now c.args.sample.now _ _ _ refl c.keep.ensures

pub numbered-places-requires : goal.numbered-places-requires
numbered-places-requires c =
    let few = few_sets (length c.args.sample.now) c.requires.few in
    let some = pow_pos (length c.args.sample.now) in
    let all = c.first.ensures in
    let end = c.number-number-end.ensures in
    let l = c.loop-number-test.true in
    omega (arith, few, some, all, end, l)

pub keep-requires-in-loop-number : goal.keep-requires-in-loop-number
keep-requires-in-loop-number c =
    let few = few_sets (length c.args.sample.now) c.requires.few in
    let some = pow_pos (length c.args.sample.now) in
    let all = c.first.ensures in
    let end = c.number-number-end.ensures in
    let l = c.loop-number-test.true in
    let e = c.numbered-places.ensures in
    omega (arith, few, some, all, end, l, e)

pub loop-number-preserved : goal.loop-number-preserved
loop-number-preserved c =
    one_filled c.args.plan.now c.args.probed.now c.args.start.now c.args.sample.now c.numbered-places.result c.loop-number.number c.behind-known.result _ _
    c.numbered-places.ensures c.loop-number.auto.number c.behind-known.ensures c.keep-in-loop-number.ensures c.loop-number.invariant

pub returns : goal.returns
returns c =
    let some = pow_pos (length c.args.sample.now) in
    let all = c.first.ensures in
    let end = c.number-number-end.ensures in
    let l = c.loop-number-test.false in
    let m = c.loop-number.auto.number-end in
    let e : c.loop-number.number ≡ 2 ^ length c.args.sample.now = grind (arith, some, all, end, l, m) in
    all_filled c.args.plan.now c.args.probed.now c.args.start.now c.args.sample.now _ c.loop-number.number e c.loop-number.invariant
