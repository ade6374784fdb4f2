use Rattle.std.proofs.Common.{◌∙◌, refl, sym, ap}
use Rattle.std.specs.Prelude.{set, get_or}
use Rattle.std.proofs.lemmas.List.{set-get_or}
use Rattle.vme_model.specs.declared.signals.Wire.TheVariants.{Br, BgOut, Bbsy, Addr, AddressStrobe, DataStrobe}
use Rattle.vme_model.specs.Plan.{board}
use Rattle.vme_histories.proofs.Drivers.{standing}
use Rattle.vme_model.specs.declared.signals.Part.TheVariants as parts
use Rattle.vme_model.specs.Signals.{is_of}
use Rattle.vme_model.proofs.Wires.{of_no_other}
use Rattle.vme_bus.specs.Records.{cycle_in, slot_in}
use Rattle.vme_bus.specs.Moves.{release_of}
use Rattle.vme_bus.proofs.LongerHistory.{noted_by_board}
use Rattle.vme_bus.proofs.Stays.{wire_stays, inputs_stay, strobed_stays, shown_stays, addressing_stays, cycles_stay}
use Rattle.vme_bus.proofs.states.BusState.move_interrupter.Goals as goal

pub returns : goal.returns
returns c version p h is driver allowed =
    let s = c.args.slot in
    let e = c.args.edge in
    let old = c.args.self.now in
    let part = c.requires.part in
    let k = standing version p h s e allowed driver in
    noted_by_board version p h s k.row e old _ is allowed driver k.found (record {
      rules = refl;
      layout = refl;
      kind = refl;
      last_level = refl;
      controls = refl;
      br = wire_stays (is_of parts.Interrupter) e.wire Br part refl s _;
      bbsy = wire_stays (is_of parts.Interrupter) e.wire Bbsy part refl s _;
      addr = wire_stays (is_of parts.Interrupter) e.wire Addr part refl s _;
      address_strobe = wire_stays (is_of parts.Interrupter) e.wire AddressStrobe part refl s _;
      data_strobe = wire_stays (is_of parts.Interrupter) e.wire DataStrobe part refl s _;
      irq = c.low_after-self.ensures;
      dtack = c.low_after-self-2.ensures;
      grants = wire_stays (is_of parts.Interrupter) e.wire BgOut part refl s _;
      acknowledges = c.low_after-self-3.ensures;
      granted = inputs_stay (is_of parts.Interrupter) e.wire BgOut part refl _ _;
      acknowledged = rw c.from-place.ensures at c.inputs_after-self.ensures;
      serves = c.is_serving-serves.result;
      is_serving = c.is_serving-serves.ensures version p h is;
      served = c.served_after-self.ensures;
      strobed = strobed_stays e.wire e.fall (of_no_other parts.Interrupter parts.Master e.wire part refl) s _;
      release = release_of (board p s);
      is_release = refl;
      cycles = sym (set-get_or old.cycles s 0) ∙ ap (set old.cycles s) (cycles_stay e.wire e.fall (release_of (board p s)) (get_or old.cycles s 0) part);
      shown = shown_stays e.wire e.value (cycle_in old.shown) (of_no_other parts.Interrupter parts.Master e.wire part refl);
      addressing = addressing_stays e.wire e.fall s (slot_in old.addressing) (of_no_other parts.Interrupter parts.Master e.wire part refl);
    })
