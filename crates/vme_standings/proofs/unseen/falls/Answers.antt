use Rattle.std.proofs.Common.{◌≡◌, ◌∙◌, ap, arith}
use Rattle.std.proofs.lemmas.Bool.Decides.{nat_tests}
use Rattle.std.specs.Prelude.{◌&&◌, ◌||◌, ◌==◌, not, nat_lt}
use Rattle.vme_model.specs.Signals.{is_two}
use Rattle.vme_standings.specs.GrantChains.{end_place}
use Rattle.vme_standings.specs.Unseen.{falls_unseen, is_unseen}
use Rattle.vme_standings.proofs.Slots.{level_below_and}
use Rattle.vme_bus.specs.Sets.{has}
use Rattle.vme_standings.proofs.Growing.{grow}
use Rattle.vme_standings.proofs.unseen.falls.Goals as goal

pub returns : goal.returns
returns c s =
    let p = c.args.plan.now in
    let n = c.args.level in
    let ended : c.loop-slot.slot ≡ 22 = grind (arith, nat_tests, c.loop-slot.auto.slot-end, c.loop-slot-test.false) in
    c.loop-slot.invariant.held s
    ∙ ap (λ k. nat_lt s k && falls_unseen p c.args.version c.args.probed.now n s) ended
    ∙ level_below_and p c.loop-slot.invariant.accepted n s ((is_two c.args.version || not (s == end_place p n)) && is_unseen c.args.probed.now n s)

pub loop-slot-preserved : goal.loop-slot-preserved
loop-slot-preserved c = record {
  accepted = c.loop-slot.invariant.accepted;
  held = grow (has c.loop-slot.found) (has c.with_if-found.result)
      (falls_unseen c.args.plan.now c.args.version c.args.probed.now c.args.level) c.loop-slot.slot c.falls_unseen.result c.with_if-found.ensures c.loop-slot.invariant.held c.falls_unseen.ensures;
}
