use Rattle.std.proofs.Common.{Ok, subst}
use Rattle.vme_reading.specs.declared.seeking.Found.{Found}
use Rattle.vme_reading.specs.Streams.{streams, ReadNothing, WroteNothing}
use Rattle.vme_races.specs.declared.other.OtherOrder.{OtherOrder}
use Rattle.vme_races.proofs.OtherOrders.{Sought, orders_at}
use Rattle.vme_races.proofs.other.other_order.Goals as goal

pub returns-in-Ok-At : goal.returns-in-Ok-At
returns-in-Ok-At g c =
    let text = c.args.scenario.now in
    let s = streams (g.R.Read.remaining c.args.trace.now) (g.R.Read.remaining c.at_edge.new.trace)
    (g.W.Write.contents c.args.out.now) (g.W.Write.contents c.at_edge.new.out) in
    let nothing = ReadNothing s × WroteNothing s in
    orders_at c.args.edge text nothing s c.in-Ok-At.order
    (subst (λ (f : Found OtherOrder). Sought c.args.edge text nothing s (Ok f)) c.in-Ok-At.field-0-is
    c.in-Ok-At.ensures)
