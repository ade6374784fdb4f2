use Rattle.std.proofs.Common.{◌≡◌, ap, arith}
use Rattle.std.specs.Prelude.{unwrap_or}
use Rattle.vme_captures.specs.declared.signals.Segment.{Segment}
use Rattle.vme_captures.specs.Wires.{wire_of}
use Rattle.vme_standings.proofs.Slots.{wire_near}
use Rattle.vme_standings.proofs.moving.wire_place.Goals as goal

pub returns-clause-near : goal.returns-clause-near
returns-clause-near c is =
    let near = wire_near c.args.plan.now c.args.pin is in
    let e : unwrap_or c.wire_of.result.place 0 ≡ unwrap_or (wire_of c.args.plan.now c.args.pin).place 0 = ap (λ (g : Segment). unwrap_or g.place 0) c.wire_of.ensures in
    omega (arith, c.unwrap_or.ensures, e, near)
