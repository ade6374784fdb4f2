-- What a driver reads on its pins, and all that it ever saw. (Profile.)
use Rattle.std.specs.Prelude.{if◌then◌else◌, List, [], ◌∷◌}
use Rattle.vme_model.specs.declared.pins.Pins.{Pins}
use Rattle.vme_model.specs.declared.signals.Driver.{Driver}
use Rattle.vme_model.specs.declared.signals.Driver.TheVariants.{Controller}
use Rattle.vme_model.specs.declared.signals.Wire.TheVariants.{Bclr, Berr, Bbsy, AddressStrobe, DataStrobe, Dtack}
use Rattle.vme_model.specs.declared.signals.Edge.{Edge}
use Rattle.vme_model.specs.Signals.{is_same_driver}
use Rattle.vme_model.specs.Sets.{bus_levels, irq_levels}
use Rattle.vme_model.specs.Plan.{Plan}
use Rattle.vme_model.specs.History.{drive, line, request_line, interrupt_line, shown}
use Rattle.vme_model.specs.Readings.{grant_in, iack_in}

-- what a driver reads on its pins after a history
abbrev pub pins : Plan → List Edge → Driver → Pins
pins p h d = record {
  requests = bus_levels (request_line p h);
  bbsy = line p h Bbsy;
  bclr = drive h Controller Bclr;
  address_strobe = line p h AddressStrobe;
  data_strobe = line p h DataStrobe;
  dtack = line p h Dtack;
  berr = drive h Controller Berr;
  irq = irq_levels (interrupt_line p h);
  shown = shown p h;
  grant_in = grant_in p h d;
  iack_in = iack_in p h d;
}

-- the driver's own edges, the newest first, each with its pins just before it
abbrev pub noted : Plan → List Edge → Driver → List (Edge × Pins)
noted p [] d = []
noted p (e ∷ h) d = if is_same_driver e.driver d then (e, pins p h d) ∷ noted p h d else noted p h d

-- all that a driver saw: its own edges with their pins, and its pins now
abbrev pub view : Plan → List Edge → Driver → List (Edge × Pins) × Pins
view p h d = (noted p h d, pins p h d)
