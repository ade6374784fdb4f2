-- A driver's own edges, and how many there are. (Profile.)
use Rattle.std.specs.Prelude.{ℕ, List, filter, count_by}
use Rattle.vme_model.specs.declared.signals.Driver.{Driver}
use Rattle.vme_model.specs.declared.signals.Edge.{Edge}
use Rattle.vme_model.specs.Signals.{is_same_driver}
use Rattle.vme_model.specs.History.{in_order}

-- the driver's own edges, in the order of time
abbrev pub only : List Edge → Driver → List Edge
only h d = filter (λ e. is_same_driver e.driver d) (in_order h)

-- how many edges are the driver's own
abbrev pub count : List Edge → Driver → ℕ
count h d = count_by (λ e. is_same_driver e.driver d) h
