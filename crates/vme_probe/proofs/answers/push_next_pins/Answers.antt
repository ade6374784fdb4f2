use Rattle.std.proofs.Common.{◌≡◌, ◌∙◌, Option, sym, ap, arith, add-one}
use Rattle.std.proofs.lemmas.Bool.Decides.{nat_tests}
use Rattle.vme_probe.specs.Ends.{next_of_probe, next_pins, pins_below}
use Rattle.vme_probe.specs.Pins.{probe_at, segment_at}
use Rattle.vme_captures.specs.declared.reader.Probe.{Probe}
use Rattle.vme_captures.specs.Signals.{is_same_segment}
use Rattle.vme_probe.proofs.FoundPins.{probe_passes}
use Rattle.vme_probe.proofs.Coming.{adds_as, adds_both}
use Rattle.vme_probe.proofs.answers.push_next_pins.Goals as goal

pub push_next_pin-requires-clause-slot : goal.push_next_pin-requires-clause-slot
push_next_pin-requires-clause-slot c =
    probe_passes c.args.probes.now (λ r. is_same_segment r.wire c.segment_at.result) c.probe_at-probe.result c.probe_at-probe.ensures c.requires.slots

pub loop-slot-preserved : goal.loop-slot-preserved
loop-slot-preserved c = record {
  adds =
      adds_as c.args.plan.now c.args.probed.now c.args.standings.now _ _ _ _ (ap (λ n. pins_below c.args.probes.now c.args.chain n) (sym (add-one c.loop-slot.slot)))
      (adds_both c.args.plan.now c.args.probed.now c.args.standings.now (pins_below c.args.probes.now c.args.chain c.loop-slot.slot)
      (next_of_probe (probe_at c.args.probes.now (segment_at c.args.chain c.loop-slot.slot))) _ _ _ c.loop-slot.invariant.adds
      (adds_as c.args.plan.now c.args.probed.now c.args.standings.now _ _ _ _ (ap (λ (x : Option Probe). next_of_probe x)
      (c.probe_at-probe.ensures ∙ ap (λ g. probe_at c.args.probes.now g) c.segment_at.ensures)) c.push_next_pin.ensures.adds));
  len = omega (arith, c.loop-slot.invariant.len, c.push_next_pin.ensures.len);
}

pub returns-clause-adds : goal.returns-clause-adds
unfolding next_pins
returns-clause-adds c =
    let ended : c.loop-slot.slot ≡ 22 = grind (arith, nat_tests, c.loop-slot.auto.slot-end, c.loop-slot-test.false) in
    adds_as c.args.plan.now c.args.probed.now c.args.standings.now _ _ _ _ (ap (λ n. pins_below c.args.probes.now c.args.chain n) ended) c.loop-slot.invariant.adds
