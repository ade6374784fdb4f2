-- What is asked of an edge: E1 to E3.
use Rattle.std.specs.Prelude.{◌&&◌, Bool, List}
use Rattle.vme_model.specs.declared.signals.Version.{Version}
use Rattle.vme_model.specs.declared.signals.Edge.{Edge}
use Rattle.vme_model.specs.Signals.{is_well_formed}
use Rattle.vme_model.specs.Plan.{Plan, has_driver}
use Rattle.vme_model.specs.Readings.{readings}
use Rattle.vme_model.specs.Guards.{Guard}
use Rattle.vme_model.specs.Rules.{guard}
use Rattle.vme_model.specs.Verdict.{Judgement, ruling}

-- E1 does not apply: the edge is well formed, and the plan has such a driver
abbrev pub exists : Plan → Edge → Bool
exists p e = is_well_formed e && has_driver p e.driver e.wire

-- E2 and E3
abbrev pub asked : Version → Plan → List Edge → Edge → Judgement
asked version p h e = ruling version (readings p h e.driver) e

-- the guard of the rule that names an edge
abbrev pub asked_guard : Version → Plan → List Edge → Edge → Guard
asked_guard version p h e = (guard version (readings p h e.driver) e.wire e.fall e.value).1
