-- What of a state the answers to later edges may depend on, but for the plan and the version.
use Rattle.vme_bus.specs.declared.kinds.BusKind.{BusKind}
use Rattle.vme_bus.specs.declared.states.BusState.{BusState}

abbrev pub kind_of : BusState → BusKind
kind_of b = record {
  br = b.br;
  bbsy = b.bbsy;
  addr = b.addr;
  address_strobe = b.address_strobe;
  data_strobe = b.data_strobe;
  irq = b.irq;
  dtack = b.dtack;
  grants = b.grants;
  acknowledges = b.acknowledges;
  granted = b.granted;
  acknowledged = b.acknowledged;
  served = b.served;
  strobed = b.strobed;
  controls = b.controls;
  cycles = b.cycles;
  shown = b.shown;
  addressing = b.addressing;
  last_level = b.last_level;
}
