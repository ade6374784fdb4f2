use Rattle.std.proofs.Common.{◌≡◌, ◌+◌, ◌^◌, true, false, refl, sym, subst, arith}
use Rattle.std.proofs.Math.Pow.{pow_pos}
use Rattle.vme_standings.proofs.Tests.{never}
use Rattle.vme_samples.proofs.Furthest.{IsBest, all_best, farther_best, few_sets, first_best, same_best}
use Rattle.vme_samples.proofs.ways.Ways.furthest.Goals.{then-is_farther, else-is_farther}
use Rattle.vme_samples.proofs.ways.Ways.furthest.Goals as goal

pub loop-number-init : goal.loop-number-init
loop-number-init c = first_best c.args.self.now.known.items _ refl

pub numbered-places-requires : goal.numbered-places-requires
numbered-places-requires c =
    let few = few_sets c.args.count c.requires in
    let some = pow_pos c.args.count in
    let all = c.first.ensures in
    let end = c.number-number-end.ensures in
    let l = c.loop-number-test.true in
    omega (arith, few, some, all, end, l)

pub loop-number-preserved : goal.loop-number-preserved
loop-number-preserved c =
    let known = c.args.self.now.known.items in
    let k = c.loop-number.number in
    let old = c.loop-number.furthest in
    let here = c.numbered-places.result in
    elim c.if-is_farther.branch [
      | then-is_farther w ↦ subst (IsBest known (k + 1)) (sym w.furthest-is) (farther_best known k old here c.loop-number.invariant c.numbered-places.ensures
          (c.is_farther.ensures.farther w.if-is_farther.true))
      | else-is_farther w ↦ subst (IsBest known (k + 1)) (sym w.furthest-is) (same_best known k old here c.loop-number.invariant c.numbered-places.ensures
          (λ f. never c.is_farther.result (c.is_farther.ensures.not f) w.if-is_farther.false))
    ]

pub returns : goal.returns
returns c =
    let some = pow_pos c.args.count in
    let all = c.first.ensures in
    let end = c.number-number-end.ensures in
    let l = c.loop-number-test.false in
    let m = c.loop-number.auto.number-end in
    let e : c.loop-number.number ≡ 2 ^ c.args.count = grind (arith, some, all, end, l, m) in
    all_best c.args.self.now.known.items c.loop-number.number c.args.count c.loop-number.furthest e c.loop-number.invariant
