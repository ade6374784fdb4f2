-- How a fault names a driver.
use Rattle.std.specs.Prelude.{ℕ, List, codes}
use Rattle.std.specs.Fmt.{decimal}
use Rattle.vme_model.specs.declared.signals.Driver.{Driver}
use Rattle.vme_model.specs.declared.signals.Driver.TheVariants.{Controller, Slot}

-- the controller is c, and a board is its slot in decimal; this holds for slots above 21 too, which
-- have no spelling in a trace
abbrev pub driver_name : Driver → List ℕ
driver_name Controller = codes "c"
driver_name (Slot s) = decimal s
