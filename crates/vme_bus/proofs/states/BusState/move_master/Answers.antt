use Rattle.std.proofs.Common.{refl}
use Rattle.vme_model.specs.declared.signals.Wire.TheVariants.{Br, BgOut, Bbsy, Irq, IackOut, Dtack}
use Rattle.vme_model.specs.Plan.{board}
use Rattle.vme_model.specs.History.{shown}
use Rattle.vme_histories.proofs.Drivers.{standing}
use Rattle.vme_model.specs.declared.signals.Part.TheVariants as parts
use Rattle.vme_model.specs.Signals.{is_of}
use Rattle.vme_model.proofs.Wires.{of_no_other}
use Rattle.vme_bus.specs.Moves.{is_serving}
use Rattle.vme_bus.proofs.LongerHistory.{noted_by_board}
use Rattle.vme_bus.proofs.Stays.{wire_stays, inputs_stay, served_stays}
use Rattle.vme_bus.proofs.states.BusState.move_master.Goals as goal

pub returns : goal.returns
returns c version p h is driver allowed =
    let s = c.args.slot in
    let e = c.args.edge in
    let old = c.args.self.now in
    let part = c.requires.part in
    let k = standing version p h s e allowed driver in
    noted_by_board version p h s k.row e old _ is allowed driver k.found (record {
      rules = refl;
      layout = refl;
      kind = refl;
      last_level = refl;
      controls = refl;
      br = wire_stays (is_of parts.Master) e.wire Br part refl s _;
      bbsy = wire_stays (is_of parts.Master) e.wire Bbsy part refl s _;
      addr = c.low_after-self.ensures;
      address_strobe = c.low_after-self-2.ensures;
      data_strobe = c.low_after-self-3.ensures;
      irq = wire_stays (is_of parts.Master) e.wire Irq part refl s _;
      dtack = wire_stays (is_of parts.Master) e.wire Dtack part refl s _;
      grants = wire_stays (is_of parts.Master) e.wire BgOut part refl s _;
      acknowledges = wire_stays (is_of parts.Master) e.wire IackOut part refl s _;
      granted = inputs_stay (is_of parts.Master) e.wire BgOut part refl _ _;
      acknowledged = inputs_stay (is_of parts.Master) e.wire IackOut part refl _ _;
      serves = is_serving (board p s) (shown p h);
      is_serving = refl;
      served = served_stays e.wire e.fall (is_serving (board p s) (shown p h)) (of_no_other parts.Master parts.Interrupter e.wire part refl) s _;
      strobed = c.strobed_after-self.ensures;
      release = c.release-release.result;
      is_release = c.release-release.ensures version p h is;
      cycles = cc;
      shown = c.shown_after-self.ensures;
      addressing = c.addressing_after-self.ensures;
    })
