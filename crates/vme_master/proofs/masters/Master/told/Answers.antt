use Rattle.std.proofs.Common.{refl, subst}
use Rattle.vme_model.specs.declared.signals.Wire.TheVariants.{Addr, AddressStrobe, DataStrobe}
use Rattle.vme_master.proofs.Over.{guards_over}
use Rattle.vme_master.proofs.masters.Master.told.Goals as goal

pub returns-in-Addr : goal.returns-in-Addr
returns-in-Addr g c = λ version noted same own.
    subst (λ k. g.A.Outcome.tells c.address_rule.result.1 k)
    (guards_over version c.args.self.now noted c.args.pins c.args.holds_bus c.args.edge.wire Addr c.args.edge.fall c.args.edge.value same c.in-Addr.is refl)
    (c.address_rule.ensures.answer)

pub returns-in-AddressStrobe : goal.returns-in-AddressStrobe
returns-in-AddressStrobe g c = λ version noted same own.
    subst (λ k. g.A.Outcome.tells c.address_strobe_rule.result.1 k)
    (guards_over version c.args.self.now noted c.args.pins c.args.holds_bus c.args.edge.wire AddressStrobe c.args.edge.fall c.args.edge.value same c.in-AddressStrobe.is refl)
    (c.address_strobe_rule.ensures.answer c.args.holds_bus c.args.edge.value)

pub returns-in-DataStrobe : goal.returns-in-DataStrobe
returns-in-DataStrobe g c = λ version noted same own.
    subst (λ k. g.A.Outcome.tells c.data_strobe_rule.result.1 k)
    (guards_over version c.args.self.now noted c.args.pins c.args.holds_bus c.args.edge.wire DataStrobe c.args.edge.fall c.args.edge.value same c.in-DataStrobe.is refl)
    (c.data_strobe_rule.ensures.answer c.args.holds_bus c.args.edge.value)
