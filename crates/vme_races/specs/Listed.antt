-- A trace whose accepted edges are kept in a list, and what is written of it.
use Rattle.std.specs.Prelude.{◌≡◌, ◌-◌, ◌+◌, ℕ, List, length, take}
use Rattle.vme_model.specs.declared.signals.Version.{Version}
use Rattle.vme_model.specs.declared.signals.Edge.{Edge}
use Rattle.vme_model.specs.History.{in_order}
use Rattle.vme_model.specs.Plan.{Plan}
use Rattle.vme_races.specs.declared.racing.Racing.{Racing}
use Rattle.vme_races.specs.Kept.{AreTaken}

-- these are its accepted edges so far, in the order of time
abbrev pub IsListed : Racing → List Edge → Type 0
IsListed now list = list ≡ in_order now.bus.history

-- these edges of a trace were taken in, and the list has the accepted ones
abbrev pub AreListed : Plan → Version → List Edge → Racing → List Edge → Type 0
AreListed p v es now list = AreTaken p v es now × IsListed now list

-- the edges of the list before the one that an edge meets, if it passed so many behind that one
abbrev pub before_met : List Edge → ℕ → List Edge
before_met list passed = take (length list - (passed + 1)) list
