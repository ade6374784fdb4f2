use Rattle.std.proofs.Common.{◌∙◌, Bool, get_or, length, sym, ap, arith}
use Rattle.vme_model.specs.declared.signals.Driver.{Driver}
use Rattle.vme_model.specs.declared.signals.Wire.{Wire}
use Rattle.vme_model.specs.declared.signals.Wire.TheVariants.{Bg}
use Rattle.vme_model.specs.Plan.{has_driver}
use Rattle.vme_model.specs.History.{drive}
use Rattle.vme_model.specs.Verdict.{State}
use Rattle.vme_explain.proofs.Grown.{passed_more, failed_more, next_grown}
use Rattle.vme_show.specs.declared.wires.PlanWire.{PlanWire}
use Rattle.vme_show.proofs.wires.push_wires.Goals as goal
use Rattle.vme_show.proofs.wires.push_wires.Goals.{then-has_driver, else-has_driver}

abbrev seen : Driver → Wire → Bool → PlanWire
seen d w low = record { driver = d; wire = w; low = low }

abbrev before : State → Driver → Wire → PlanWire
before b d w = seen d w (drive b.history d w)

pub loop-wire-preserved : goal.loop-wire-preserved
loop-wire-preserved c =
    let b = c.args.bus.now in
    let d = c.args.driver in
    let ws = c.wires-wire-items.result.now in
    let i = c.loop-wire.wire-index in
    let w = get_or ws i (Bg 0) in
    let f = before b d in
    elim c.if-has_driver.branch [
      | then-has_driver s ↦ record {
        items = next_grown f (has_driver b.plan d) ws i (Bg 0) c.args.found.now.items c.loop-wire.found.items c.if-has_driver.found.items c.loop-wire-test.true c.loop-wire.invariant.items
            (passed_more f (has_driver b.plan d) w c.loop-wire.found.items c.if-has_driver.found.items (seen d w s.is_low.result) (sym c.has_driver.ensures.has ∙ s.if-has_driver.true)
            (ap (seen d w) s.is_low.ensures.low)
            (ap (λ v. v.items) s.found-is ∙ s.push.ensures.items));
        len = let was = c.loop-wire.invariant.len in let now = s.push.ensures.len in let same = ap (λ v. length v.items) s.found-is in omega (arith, was, now, same);
      }
      | else-has_driver s ↦ record {
        items = next_grown f (has_driver b.plan d) ws i (Bg 0) c.args.found.now.items c.loop-wire.found.items c.if-has_driver.found.items c.loop-wire-test.true c.loop-wire.invariant.items
            (ap (λ v. v.items) s.found-is ∙ failed_more f (has_driver b.plan d) w c.loop-wire.found.items (sym c.has_driver.ensures.has ∙ s.if-has_driver.false));
        len = let was = c.loop-wire.invariant.len in let same = ap (λ v. length v.items) s.found-is in omega (arith, was, same);
      }
    ]
