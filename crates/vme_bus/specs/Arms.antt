-- The number of a wire, by which an edge finds its arm.
use Rattle.std.specs.Prelude.{ℕ}
use Rattle.vme_model.specs.declared.signals.Wire.{Wire}
use Rattle.vme_model.specs.declared.signals.Wire.TheVariants.{Bg, Bclr, Iack, Berr, Br, BgOut, Bbsy, Addr, AddressStrobe, DataStrobe, Irq, IackOut, Dtack}

abbrev pub wire_number : Wire → ℕ
wire_number (Bg level) = 0
wire_number Bclr = 1
wire_number Iack = 2
wire_number Berr = 3
wire_number Br = 4
wire_number BgOut = 5
wire_number Bbsy = 6
wire_number Addr = 7
wire_number AddressStrobe = 8
wire_number DataStrobe = 9
wire_number Irq = 10
wire_number IackOut = 11
wire_number Dtack = 12
