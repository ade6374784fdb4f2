use Rattle.std.proofs.Common.{refl}
use Rattle.vme_bus.proofs.LongerHistory.{noted_by_board}
use Rattle.vme_wiring.proofs.LongerHistory.{standing}
use Rattle.vme_bus.proofs.states.BusState.note_board.Goals as goal

pub returns : goal.returns
returns c version p h is driver allowed =
    let s = c.args.slot in
    let k = standing version p h s c.args.edge allowed driver in
    noted_by_board version p h s k.row c.args.edge c.args.self.now _ is allowed driver k.found (record {
      rules = refl;
      layout = refl;
      kind = refl;
      last_level = refl;
      controls = refl;
      br = c.low_after-self.ensures;
      bbsy = c.low_after-self-2.ensures;
      addr = c.low_after-self-3.ensures;
      address_strobe = c.low_after-self-4.ensures;
      data_strobe = c.low_after-self-5.ensures;
      irq = c.low_after-self-6.ensures;
      dtack = c.low_after-self-7.ensures;
      grants = c.low_after-self-8.ensures;
      acknowledges = c.low_after-self-9.ensures;
      granted = rw c.from-place.ensures at c.inputs_after-self.ensures;
      acknowledged = rw c.from-place.ensures at c.inputs_after-self-2.ensures;
      serves = c.is_serving-serves.result;
      is_serving = c.is_serving-serves.ensures version p h is;
      served = c.served_after-self.ensures;
      strobed = c.strobed_after-self.ensures;
      release = c.release-release.result;
      is_release = c.release-release.ensures version p h is;
      cycles = cc;
      shown = c.shown_after-self.ensures;
      addressing = c.addressing_after-self.ensures;
    })
