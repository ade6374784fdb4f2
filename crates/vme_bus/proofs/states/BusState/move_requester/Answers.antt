use Rattle.std.proofs.Common.{refl}
use Rattle.std.specs.Prelude.{get_or}
use Rattle.vme_model.specs.declared.boards.Release.TheVariants.{Request}
use Rattle.vme_model.specs.declared.signals.Wire.TheVariants.{Addr, AddressStrobe, DataStrobe, Irq, IackOut, Dtack}
use Rattle.vme_model.specs.Plan.{board}
use Rattle.vme_model.specs.History.{shown}
use Rattle.vme_histories.proofs.Drivers.{standing}
use Rattle.vme_model.specs.declared.signals.Part.TheVariants as parts
use Rattle.vme_model.specs.Signals.{is_of}
use Rattle.vme_model.proofs.Wires.{of_no_other}
use Rattle.vme_bus.specs.Records.{cycle_in, slot_in}
use Rattle.vme_bus.specs.Moves.{is_serving, release_of}
use Rattle.vme_bus.proofs.LongerHistory.{noted_by_board}
use Rattle.vme_bus.proofs.Stays.{wire_stays, inputs_stay, served_stays, strobed_stays, shown_stays, addressing_stays, cycles_alike}
use Rattle.vme_bus.proofs.states.BusState.move_requester.Goals as goal

pub returns : goal.returns
returns c version p h is driver allowed =
    let s = c.args.slot in
    let e = c.args.edge in
    let old = c.args.self.now in
    let part = c.requires.part in
    let k = standing version p h s e allowed driver in
    noted_by_board version p h s k.row e old _ is allowed driver k.found (record {
      rules = refl;
      layout = refl;
      kind = refl;
      last_level = refl;
      controls = refl;
      br = c.low_after-self.ensures;
      bbsy = c.low_after-self-2.ensures;
      addr = wire_stays (is_of parts.Requester) e.wire Addr part refl s _;
      address_strobe = wire_stays (is_of parts.Requester) e.wire AddressStrobe part refl s _;
      data_strobe = wire_stays (is_of parts.Requester) e.wire DataStrobe part refl s _;
      irq = wire_stays (is_of parts.Requester) e.wire Irq part refl s _;
      dtack = wire_stays (is_of parts.Requester) e.wire Dtack part refl s _;
      grants = c.low_after-self-3.ensures;
      acknowledges = wire_stays (is_of parts.Requester) e.wire IackOut part refl s _;
      granted = rw c.from-place.ensures at c.inputs_after-self.ensures;
      acknowledged = inputs_stay (is_of parts.Requester) e.wire IackOut part refl _ _;
      serves = is_serving (board p s) (shown p h);
      is_serving = refl;
      served = served_stays e.wire e.fall (is_serving (board p s) (shown p h)) (of_no_other parts.Requester parts.Interrupter e.wire part refl) s _;
      strobed = strobed_stays e.wire e.fall (of_no_other parts.Requester parts.Master e.wire part refl) s _;
      release = release_of (board p s);
      is_release = refl;
      cycles = let alike = cycles_alike e.wire e.fall Request (release_of (board p s)) (get_or old.cycles s 0) part in cc;
      shown = shown_stays e.wire e.value (cycle_in old.shown) (of_no_other parts.Requester parts.Master e.wire part refl);
      addressing = addressing_stays e.wire e.fall s (slot_in old.addressing) (of_no_other parts.Requester parts.Master e.wire part refl);
    })
