-- The number of what stands in the way of opening a bus.
use Rattle.std.specs.Prelude.{ℕ}
use Rattle.vmebus_c.specs.declared.opens.OpenError.{OpenError}
use Rattle.vmebus_c.specs.declared.opens.OpenError.TheVariants.{NoVersion, TooLong, Scenario}
use Rattle.vmebus_c.specs.Opened.{scenario_number}

-- X1 is 31 and F2 is 20; any other is the scenario's
abbrev pub open_number : OpenError → ℕ
open_number NoVersion = 31
open_number TooLong = 20
open_number (Scenario e) = scenario_number e
