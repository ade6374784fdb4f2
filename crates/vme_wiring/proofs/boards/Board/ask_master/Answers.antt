use Rattle.std.proofs.Common.{◌∙◌, refl, ap}
use Rattle.vme_model.specs.declared.signals.Version.TheVariants.{One}
use Rattle.vme_model.specs.declared.signals.Wire.TheVariants.{Addr, AddressStrobe, DataStrobe, Bbsy}
use Rattle.vme_model.specs.Verdict.{ruling_on}
use Rattle.vme_master.specs.Local.{local}
use Rattle.vme_wiring.specs.Asked.{seen_by}
use Rattle.vme_wiring.specs.Boards.{low_of}
use Rattle.vme_wiring.proofs.PartAnswers.{master_ruled, blind_to_inputs}
use Rattle.vme_wiring.proofs.boards.Board.ask_master.Goals as goal

pub returns-in-Addr : goal.returns-in-Addr
returns-in-Addr c version p h r same chains asked own =
    let b = c.args.self.now in
    let m = c.in-Some.master in
    let e = c.args.edge in
    let pins = seen_by chains c.args.pins.now b.row in
    master_ruled version p h r b m pins e Addr _ same c.in-Some.is asked c.in-Addr.is refl
    (c.may_address.ensures
    ∙ ap (λ holds. ruling_on One (local m c.args.pins.now holds) Addr e.fall e.value) c.is_low-holds_bus.ensures
    ∙ blind_to_inputs m c.args.pins.now pins.grant_in pins.iack_in (low_of b Bbsy) Addr e.fall e.value refl)

pub returns-in-AddressStrobe : goal.returns-in-AddressStrobe
returns-in-AddressStrobe c version p h r same chains asked own =
    let b = c.args.self.now in
    let m = c.in-Some.master in
    let e = c.args.edge in
    let pins = seen_by chains c.args.pins.now b.row in
    master_ruled version p h r b m pins e AddressStrobe _ same c.in-Some.is asked c.in-AddressStrobe.is refl
    (c.may_strobe_address.ensures (low_of b Bbsy) e.value
    ∙ blind_to_inputs m c.args.pins.now pins.grant_in pins.iack_in (low_of b Bbsy) AddressStrobe e.fall e.value refl)

pub returns-in-DataStrobe : goal.returns-in-DataStrobe
returns-in-DataStrobe c version p h r same chains asked own =
    let b = c.args.self.now in
    let m = c.in-Some.master in
    let e = c.args.edge in
    let pins = seen_by chains c.args.pins.now b.row in
    master_ruled version p h r b m pins e DataStrobe _ same c.in-Some.is asked c.in-DataStrobe.is refl
    (c.may_strobe_data.ensures (low_of b Bbsy) e.value
    ∙ blind_to_inputs m c.args.pins.now pins.grant_in pins.iack_in (low_of b Bbsy) DataStrobe e.fall e.value refl)
