use Rattle.std.proofs.Common.{◌≡◌, ◌∙◌, ap, arith, ◌-◌, ◌++◌, filter, map}
use Rattle.vme_model.specs.declared.signals.Driver.TheVariants.{Slot}
use Rattle.vme_model.specs.declared.signals.Cycle.TheVariants.{Access}
use Rattle.vme_model.specs.Plan.{up_to}
use Rattle.vme_model.specs.Open.{showing}
use Rattle.vme_histories.specs.Offered.{is_open}
use Rattle.vme_histories.proofs.EachNumber.{next_more}
use Rattle.vme_histories.proofs.opens.open_accesses.Goals as goal

pub loop-target-preserved : goal.loop-target-preserved
loop-target-preserved g c = record {
  opened = λ version p h is.
      next_more (is_open version p h) (showing (Slot c.args.slot)) (λ n. Access n) c.loop-target.target c.args.edges.now.items c.loop-target.edges.items c.offer_shown.new.offers.items
      (omega arith) (c.loop-target.invariant.opened version p h is)
      (c.offer_shown.ensures.offered version p h is);
  few = omega arith;
}

pub returns-clause-opened : goal.returns-clause-opened
returns-clause-opened g c version p h is =
    let ended : c.loop-target.target - 1 ≡ 21 = omega arith in
    c.loop-target.invariant.opened version p h is
    ∙ ap (λ n. c.args.edges.now.items ++ filter (is_open version p h) (map (showing (Slot c.args.slot)) (map (λ k. Access k) (up_to n)))) ended
