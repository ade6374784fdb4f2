-- Which conditions an edge fails. (Profile.)
use Rattle.std.specs.Prelude.{if◌then◌else◌, false, Ok, Err, List, [], ◌∷◌}
use Rattle.vme_model.specs.declared.conditions.Condition.{Condition}
use Rattle.vme_model.specs.declared.conditions.Condition.TheVariants.{HasDriver, OtherState, HasRoom}
use Rattle.vme_model.specs.declared.refusals.Refused.TheVariants.{NoSuchDriver, AlreadyThere, Rule, NotSettled, TraceFull}
use Rattle.vme_model.specs.declared.signals.Version.{Version}
use Rattle.vme_model.specs.declared.signals.Edge.{Edge}
use Rattle.vme_model.specs.Plan.{Plan}
use Rattle.vme_model.specs.History.{drive}
use Rattle.vme_model.specs.Readings.{readings}
use Rattle.vme_model.specs.Guards.{Guard, asks, ◌⊓◌, holds, failed}
use Rattle.vme_model.specs.Rules.{guard, failing}
use Rattle.vme_model.specs.Settling.{settling_guard, unsettled}
use Rattle.vme_model.specs.Verdict.{State, Judgement, verdict, verdict_but_full, driver_guard, state_guard, room_guard}

-- the conditions for which an answer refuses an edge: at E3 the failing ones of the rule, at E4
-- those of the settling rule, at E1, E2 and E5 the one that it asks for; none if the edge is
-- accepted
abbrev pub refused_for : Version → Plan → List Edge → Edge → Judgement → List Condition
refused_for version p h e (Ok u) = []
refused_for version p h e (Err NoSuchDriver) = HasDriver ∷ []
refused_for version p h e (Err AlreadyThere) = OtherState ∷ []
refused_for version p h e (Err (Rule n)) =
    failing version (readings p h e.driver) e.wire e.fall e.value
refused_for version p h e (Err (NotSettled n)) = unsettled version p h e.wire e.fall
refused_for version p h e (Err TraceFull) = HasRoom ∷ []

-- the conditions that an edge fails
abbrev pub unmet : State → Edge → List Condition
unmet b e = refused_for b.version b.plan b.history e (verdict b e)

-- the conditions that an edge fails, without E5
abbrev pub unmet_but_full : Version → Plan → List Edge → Edge → List Condition
unmet_but_full version p h e = refused_for version p h e (verdict_but_full version p h e)

-- what E1 to E5 ask for, in their order
abbrev pub all_asked : State → Edge → List Guard
all_asked b e =
    driver_guard b.plan e
    ∷ state_guard (drive b.history e.driver e.wire) e.fall
    ∷ (guard b.version (readings b.plan b.history e.driver) e.wire e.fall e.value).1
    ∷ (settling_guard b.version b.plan b.history e.wire e.fall).1
    ∷ room_guard b
    ∷ []

-- the conditions that fail in the first of the guards that does not hold
abbrev pub first_failed : List Guard → List Condition
first_failed [] = []
first_failed (g ∷ gs) = if holds g then first_failed gs else failed g

-- What is tested for an edge, as far as its answer needs it. If E1 or E2 applies, this is the one
-- condition that it asks for. Otherwise it is all conditions of the edge's rule; if they hold, the
-- condition of its settling rule as well; and at E5 that of the room.
abbrev pub tested_for : Version → Plan → List Edge → Edge → Judgement → Guard
tested_for version p h e (Err NoSuchDriver) = asks HasDriver false
tested_for version p h e (Err AlreadyThere) = asks OtherState false
tested_for version p h e (Err (Rule n)) =
    (guard version (readings p h e.driver) e.wire e.fall e.value).1
tested_for version p h e (Err TraceFull) =
    (guard version (readings p h e.driver) e.wire e.fall e.value).1
    ⊓ (settling_guard version p h e.wire e.fall).1 ⊓ asks HasRoom false
tested_for version p h e answer =
    (guard version (readings p h e.driver) e.wire e.fall e.value).1
    ⊓ (settling_guard version p h e.wire e.fall).1

abbrev pub tested : State → Edge → Guard
tested b e = tested_for b.version b.plan b.history e (verdict b e)

-- what is tested for an edge, without E5
abbrev pub tested_but_full : Version → Plan → List Edge → Edge → Guard
tested_but_full version p h e = tested_for version p h e (verdict_but_full version p h e)
