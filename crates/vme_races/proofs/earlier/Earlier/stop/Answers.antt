use Rattle.std.proofs.Common.{◌≡◌, List, refl}
use Rattle.vme_model.specs.declared.signals.Edge.{Edge}
use Rattle.vme_model.specs.declared.signals.Version.{Version}
use Rattle.vme_model.specs.Plan.{Plan}
use Rattle.vme_bus.specs.declared.kinds.BusKind.{BusKind}
use Rattle.vme_bus.specs.declared.states.BusState.{BusState}
use Rattle.vme_bus.specs.Kinds.{kind_of}
use Rattle.vme_bus.specs.States.{IsStateOf}
use Rattle.vme_races.specs.Kinds.{IsKindOf, IsOnPlan}
use Rattle.vme_races.proofs.earlier.Earlier.stop.Goals as goal

-- a state of the plan that was set to the kind
set_to : (old new : BusState) (kind : BusKind)
    → ((v : Version) (p : Plan) (h k : List Edge) (b : BusState) → IsStateOf v p h old
    → IsStateOf v p k b → kind_of b ≡ kind → IsStateOf v p k new)
    → (v : Version) (p : Plan) (h : List Edge) → IsOnPlan v p old → IsKindOf v p h kind
    → IsStateOf v p h new
set_to old new kind sets v p h on is = sets v p on.0 h is.0 on.1 is.1 is.2

pub returns-in-Passes-clause-passes : goal.returns-in-Passes-clause-passes
returns-in-Passes-clause-passes c = λ v p h on is legal.
    c.in-Passes.ensures.steps v p h (set_to _ _ _ c.set_kind.ensures v p h on is) legal

pub returns-in-Passes-clause-plan : goal.returns-in-Passes-clause-plan
returns-in-Passes-clause-plan c = λ v p h on is.
    (_, c.step_back.ensures.state v p h (set_to _ _ _ c.set_kind.ensures v p h on is))

pub returns-in-Waits-clause-stops : goal.returns-in-Waits-clause-stops
returns-in-Waits-clause-stops c = λ v p h on is legal.
    let goes = c.in-Waits.ensures.steps v p h (set_to _ _ _ c.set_kind.ensures v p h on is) legal in
    (goes.0, (refl, refl, goes.1))

pub returns-in-Waits-clause-plan : goal.returns-in-Waits-clause-plan
returns-in-Waits-clause-plan c = λ v p h on is.
    (_, c.step_back.ensures.state v p h (set_to _ _ _ c.set_kind.ensures v p h on is))

pub returns-in-Races-clause-stops : goal.returns-in-Races-clause-stops
returns-in-Races-clause-stops c = λ v p h on is legal.
    let goes = c.in-Races.ensures.steps v p h (set_to _ _ _ c.set_kind.ensures v p h on is) legal in
    (goes.0, (refl, refl, goes.1, goes.2))

pub returns-in-Races-clause-plan : goal.returns-in-Races-clause-plan
returns-in-Races-clause-plan c = λ v p h on is.
    (_, c.step_back.ensures.state v p h (set_to _ _ _ c.set_kind.ensures v p h on is))
