use Rattle.std.proofs.Common.{◌≡◌, ◌∙◌, ap, arith, ◌-◌, ◌++◌, filter, map}
use Rattle.vme_model.specs.declared.signals.Driver.TheVariants.{Slot}
use Rattle.vme_model.specs.declared.signals.Cycle.TheVariants.{Acknowledge}
use Rattle.vme_model.specs.Plan.{up_to}
use Rattle.vme_model.specs.Open.{showing}
use Rattle.vme_histories.specs.Offered.{is_open}
use Rattle.vme_histories.proofs.EachNumber.{next_more}
use Rattle.vme_histories.proofs.opens.open_acknowledges.Goals as goal

pub loop-level-preserved : goal.loop-level-preserved
loop-level-preserved g c = record {
  opened = λ version p h is.
      next_more (is_open version p h) (showing (Slot c.args.slot)) (λ n. Acknowledge n) c.loop-level.level c.args.edges.now.items c.loop-level.edges.items c.offer_shown.new.offers.items
      (omega arith) (c.loop-level.invariant.opened version p h is)
      (c.offer_shown.ensures.offered version p h is);
  few = omega arith;
}

pub returns-clause-opened : goal.returns-clause-opened
returns-clause-opened g c version p h is =
    let ended : c.loop-level.level - 1 ≡ 7 = omega arith in
    c.loop-level.invariant.opened version p h is
    ∙ ap (λ n. c.args.edges.now.items ++ filter (is_open version p h) (map (showing (Slot c.args.slot)) (map (λ k. Acknowledge k) (up_to n)))) ended
