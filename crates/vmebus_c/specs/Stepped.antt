-- The answer to an edge that is named or spelled, and the history that it leaves.
use Rattle.std.specs.Prelude.{ℕ, List, Option, Some, None}
use Rattle.vme_model.specs.declared.signals.Version.{Version}
use Rattle.vme_model.specs.declared.signals.Edge.{Edge}
use Rattle.vme_model.specs.Plan.{Plan}
use Rattle.vme_bus.specs.Steps.{answer_but_full, kept_but_full}
use Rattle.vmebus_c.specs.Numbers.{answer_number, delivered_number}

-- the answer if the numbers name no edge: it is E1, as no driver has such an edge
abbrev pub no_driver : ℕ
no_driver = 256

-- the answer if the line spells no edge
abbrev pub no_edge : ℕ
no_edge = 1280

-- the answer if the record is not a bus
abbrev pub no_bus : ℕ
no_bus = 4294967295

-- the answer to an edge, or to none
abbrev pub answered_or : ℕ → Version → Plan → List Edge → Option Edge → ℕ
answered_or none version p h (Some e) = answer_number (answer_but_full version p h e)
answered_or none version p h None = none

-- what is reported as delivered
abbrev pub delivery_of_edge : Version → Plan → List Edge → Option Edge → ℕ
delivery_of_edge version p h (Some e) = delivered_number (answer_but_full version p h e)
delivery_of_edge version p h None = 0

-- the history with the edge if it is accepted, and otherwise as it was
abbrev pub followed : Version → Plan → List Edge → Option Edge → List Edge
followed version p h (Some e) = kept_but_full version p h e
followed version p h None = h
