use Rattle.std.proofs.Common.{◌≡◌, ◌∙◌, ap, arith}
use Rattle.std.specs.Prelude.{◌&&◌, nat_lt}
use Rattle.std.proofs.lemmas.Bool.Decides.{nat_tests}
use Rattle.vme_bus.specs.Sets.{has}
use Rattle.vme_standings.proofs.Growing.{grow}
use Rattle.vme_probe.specs.Pins.{is_in, segment_at}
use Rattle.vme_probe.proofs.pins.places_in.Goals as goal

pub returns : goal.returns
returns c s =
    let ended : c.loop-slot.slot ≡ 22 = grind (arith, nat_tests, c.loop-slot.auto.slot-end, c.loop-slot-test.false) in
    c.loop-slot.invariant s
    ∙ ap (λ n. nat_lt s n && is_in c.args.low c.args.probes.now (segment_at c.args.chain s)) ended

pub loop-slot-preserved : goal.loop-slot-preserved
loop-slot-preserved c =
    grow (has c.loop-slot.places) (has c.with_if-places.result) (λ s. is_in c.args.low c.args.probes.now
    (segment_at c.args.chain s)) c.loop-slot.slot c.is_in-is_there.result c.with_if-places.ensures c.loop-slot.invariant
    (c.is_in-is_there.ensures ∙ ap (λ g. is_in c.args.low c.args.probes.now g) c.segment_at.ensures)
