use Rattle.std.proofs.Common.{◌≡◌, ap, subst, arith}
use Rattle.std.specs.Prelude.{IsTrue, unwrap_or}
use Rattle.vme_captures.specs.declared.signals.Segment.{Segment}
use Rattle.vme_captures.specs.declared.signals.Signal.{Signal}
use Rattle.vme_captures.specs.Signals.{is_signal}
use Rattle.vme_captures.specs.Wires.{wire_of}
use Rattle.vme_standings.proofs.Slots.{wire_near}
use Rattle.vme_standings.proofs.behind.low_behind.Goals as goal

pub set-requires : goal.set-requires
set-requires c =
    let q = c.in-Pin.pin in
    let near = wire_near c.args.plan.now q (subst (λ (x : Signal). IsTrue (is_signal x)) c.in-Pin.is c.requires) in
    let e : unwrap_or c.wire_of.result.place 0 ≡ unwrap_or (wire_of c.args.plan.now q).place 0 = ap (λ (g : Segment). unwrap_or g.place 0) c.wire_of.ensures in
    omega (arith, e, near)
