use Rattle.std.proofs.Common.{◌∙◌, Bool, get_or, length, sym, ap, arith}
use Rattle.vme_model.specs.declared.signals.Driver.{Driver}
use Rattle.vme_model.specs.declared.signals.Wire.{Wire}
use Rattle.vme_model.specs.declared.signals.Wire.TheVariants.{Bg}
use Rattle.vme_model.specs.Plan.{has_driver}
use Rattle.vme_model.specs.History.{drive}
use Rattle.vme_model.specs.Verdict.{State}
use Rattle.vme_reasons.proofs.Found.{absent}
use Rattle.vme_reasons.proofs.Grown.{passed_more, failed_more, next_grown}
use Rattle.vme_pictures.specs.declared.wires.PlanWire.{PlanWire}
use Rattle.vme_pictures.proofs.Rises.{some_state, no_state}
use Rattle.vme_pictures.proofs.wires.push_wires.Goals as goal
use Rattle.vme_pictures.proofs.wires.push_wires.Goals.{in-Some, in_default}

abbrev seen : Driver → Wire → Bool → PlanWire
seen d w low = record { driver = d; wire = w; low = low }

abbrev before : State → Driver → Wire → PlanWire
before b d w = seen d w (drive b.history d w)

pub loop-wire-preserved : goal.loop-wire-preserved
loop-wire-preserved c =
    let b = c.args.bus.now in
    let d = c.args.driver in
    let ws = c.wires-wire-items.result.now in
    let i = c.loop-wire.wire-index in
    let w = get_or ws i (Bg 0) in
    let f = before b d in
    elim c.match-state.branch [
      | in-Some s ↦ (let at = some_state (has_driver b.plan d w) (drive b.history d w) s.in-Some.low (sym c.state.ensures ∙ s.in-Some.is) in record {
        items = next_grown f (has_driver b.plan d) ws i (Bg 0) c.args.found.now.items c.loop-wire.found.items c.match-state.found.items c.loop-wire-test.true c.loop-wire.invariant.items
            (passed_more f (has_driver b.plan d) w c.loop-wire.found.items c.match-state.found.items (seen d w s.in-Some.low) at.0 (ap (seen d w) at.1)
            (ap (λ v. v.items) s.found-is ∙ s.push.ensures.items));
        len = let was = c.loop-wire.invariant.len in let now = s.push.ensures.len in let same = ap (λ v. length v.items) s.found-is in omega (arith, was, now, same);
      })
      | in_default s ↦ (let none = no_state (has_driver b.plan d w) (drive b.history d w) (sym c.state.ensures ∙ absent c.state.result s.in_default.not-Some) in record {
        items = next_grown f (has_driver b.plan d) ws i (Bg 0) c.args.found.now.items c.loop-wire.found.items c.match-state.found.items c.loop-wire-test.true c.loop-wire.invariant.items
            (ap (λ v. v.items) s.found-is ∙ failed_more f (has_driver b.plan d) w c.loop-wire.found.items none);
        len = let was = c.loop-wire.invariant.len in let same = ap (λ v. length v.items) s.found-is in omega (arith, was, same);
      })
    ]
