use Rattle.std.proofs.Common.{◌∙◌, refl}
use Rattle.vme_model.specs.declared.signals.Wire.TheVariants.{Addr, AddressStrobe, DataStrobe}
use Rattle.vme_master.proofs.Over.{rules_over}
use Rattle.vme_master.proofs.masters.Master.may.Goals as goal

pub returns-in-Addr-clause-own : goal.returns-in-Addr-clause-own
returns-in-Addr-clause-own c version noted same own =
    c.may_address.ensures
    ∙ rules_over version c.args.self.now noted c.args.pins c.args.holds_bus c.args.edge.driver c.args.edge.wire Addr c.args.edge.fall c.args.edge.value same c.in-Addr.is refl

pub returns-in-AddressStrobe-clause-own : goal.returns-in-AddressStrobe-clause-own
returns-in-AddressStrobe-clause-own c version noted same own =
    c.may_strobe_address.ensures c.args.holds_bus c.args.edge.value
    ∙ rules_over version c.args.self.now noted c.args.pins c.args.holds_bus c.args.edge.driver c.args.edge.wire AddressStrobe c.args.edge.fall c.args.edge.value same c.in-AddressStrobe.is refl

pub returns-in-DataStrobe-clause-own : goal.returns-in-DataStrobe-clause-own
returns-in-DataStrobe-clause-own c version noted same own =
    c.may_strobe_data.ensures c.args.holds_bus c.args.edge.value
    ∙ rules_over version c.args.self.now noted c.args.pins c.args.holds_bus c.args.edge.driver c.args.edge.wire DataStrobe c.args.edge.fall c.args.edge.value same c.in-DataStrobe.is refl
