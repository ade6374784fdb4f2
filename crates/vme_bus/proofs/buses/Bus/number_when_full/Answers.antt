use Rattle.std.proofs.Common.{◌∙◌, sym, ap}
use Rattle.vme_model.specs.Deliveries.{delivery, with_delivery}
use Rattle.vme_bus.proofs.Numbers.{short}
use Rattle.vme_bus.proofs.buses.Bus.number_when_full.Goals as goal

pub returns-in-Err : goal.returns-in-Err
returns-in-Err c d =
    let b = c.args.self.now in
    let e = c.args.edge in
    let refused = sym c.verdict.ensures ∙ c.in-Err.is in
    c.refusal_number.ensures (short b e c.in-Err.refused refused) d
    ∙ sym (ap (λ v. with_delivery v (delivery b.plan b.history e)) refused)
