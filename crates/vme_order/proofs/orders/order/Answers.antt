use Rattle.vme_reading.specs.Streams.{ReadNothing, WroteNothing, streams}
use Rattle.std.proofs.KnownBytes.{Keeps-refl}
use Rattle.vme_order.proofs.Answered.{unnamed}
use Rattle.vme_order.proofs.orders.order.Goals as goal

pub returns-in-Some : goal.returns-in-Some
returns-in-Some g c =
    let s = streams (g.R.Read.remaining c.args.moments.now) (g.R.Read.remaining c.args.moments.now) (g.W.Write.contents c.args.out.now) (g.W.Write.contents c.args.out.now) in
    unnamed c.args.scenario.now (ReadNothing s × WroteNothing s) c.args.form c.args.slacks.now s c.in_ok-plan.plan c.in_ok-plan.ensures.ok.0 c.in_ok-plan.ensures.ok.1 c.in-Some.slot c.in-Some.ensures
    (Keeps-refl _) (Keeps-refl _)
