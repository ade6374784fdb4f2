-- All edges that a driver can make, without the end of the trace.
use Rattle.std.specs.Prelude.{List, filter}
use Rattle.std.specs.List.{flat_map}
use Rattle.vme_model.specs.declared.signals.Version.{Version}
use Rattle.vme_model.specs.declared.signals.Driver.{Driver}
use Rattle.vme_model.specs.declared.signals.Edge.{Edge}
use Rattle.vme_model.specs.Plan.{Plan}
use Rattle.vme_model.specs.Offers.{wires}
use Rattle.vme_model.specs.Open.{moves}
use Rattle.vme_histories.specs.Offered.{is_open}

-- of the edges that move the driver's wires, those that the rules allow
abbrev pub open_but_full : Version → Plan → List Edge → Driver → List Edge
open_but_full version p h d = filter (is_open version p h) (flat_map (moves h d) (wires d))
