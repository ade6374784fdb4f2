use Rattle.std.proofs.Common.{◌∙◌, ◌-◌, length, ap, subst, arith}
use Rattle.vme_samples.specs.Makers.{AreNoted, by_at}
use Rattle.vme_samples.specs.Ways.{Known}
use Rattle.vme_samples.proofs.Towards.{all_done, set_done}
use Rattle.vme_samples.proofs.ways.Ways.makers.Goals as goal

pub loop-back-preserved : goal.loop-back-preserved
loop-back-preserved c =
    let known = c.args.self.now.known.items in
    let end = c.number-back-end.ensures in
    let l = c.loop-back-test.true in
    let n = c.number.ensures in
    let b = c.numbered-places.ensures in
    record {
      known = c.set_reaching.ensures.known ∙ c.loop-back.invariant.known;
      done = set_done c.args.plan.now c.args.probed.now c.args.sample.now known c.args.goal c.numbered-places.result c.loop-back.back c.note_next-is_some.result c.is_either-is_reaching.result
          c.loop-back.self.reaching.items c.set_reaching.new.self.reaching.items c.loop-back.makers c.note_next-is_some.new.makers
          (record {
            back_near = omega (arith, end, l);
            place = b ∙ ap (λ x. x - c.loop-back.back) n;
            here = c.set_reaching.ensures.here;
            others = c.set_reaching.ensures.others;
          })
          c.is_either-is_reaching.ensures
          (subst (λ (k : Known). AreNoted c.args.plan.now c.args.probed.now c.args.sample.now k c.args.goal c.loop-back.self.reaching.items c.numbered-places.result
          (length c.args.sample.now) c.loop-back.makers c.note_next-is_some.new.makers c.note_next-is_some.result) (ap (λ v. v.items) c.loop-back.invariant.known) c.note_next-is_some.ensures)
          c.loop-back.invariant.done;
    }

pub returns-clause-makers : goal.returns-clause-makers
returns-clause-makers c =
    let end = c.number-back-end.ensures in
    let l = c.loop-back-test.false in
    let m = c.loop-back.auto.back-end in
    all_done c.args.plan.now c.args.probed.now c.args.sample.now c.args.self.now.known.items c.args.goal c.loop-back.self.reaching.items c.loop-back.back (by_at c.loop-back.makers)
    (omega (arith, end, l, m)) c.loop-back.invariant.done
