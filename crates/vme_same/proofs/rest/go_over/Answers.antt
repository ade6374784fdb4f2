use Rattle.std.proofs.Common.{inl, inr, refl, subst, sym}
use Rattle.vme_swaps.specs.Swaps.{StepsBack}
use Rattle.vme_same.proofs.rest.go_over.Goals as goal

pub returns-in-Passes-clause-back : goal.returns-in-Passes-clause-back
returns-in-Passes-clause-back c = λ v p h is legal.
    inl (
      subst (StepsBack v p h c.args.left.now.edge c.args.edge.now) c.in-Passes.is
          (c.step_back-step.ensures.steps v p h is legal),
      refl,
    )

pub returns-in-Waits-clause-back : goal.returns-in-Waits-clause-back
returns-in-Waits-clause-back c = λ v p h is legal.
    let waits = subst (StepsBack v p h c.args.left.now.edge c.args.edge.now) c.in-Waits.is
    (c.step_back-step.ensures.steps v p h is legal) in
    inr (waits.0, _, refl, (refl, refl, waits.1))

pub returns-in-Races-clause-back : goal.returns-in-Races-clause-back
returns-in-Races-clause-back c = λ v p h is legal.
    let races = subst (StepsBack v p h c.args.left.now.edge c.args.edge.now) c.in-Races.is
    (c.step_back-step.ensures.steps v p h is legal) in
    inr (races.0, _, refl, (refl, refl, races.1, races.2))

pub returns-in-Passes-clause-state : goal.returns-in-Passes-clause-state
returns-in-Passes-clause-state c = λ v p h is.
    c.set_kind.ensures v p _ h c.args.state.now (c.step_back-step.ensures.state v p h is) is
    (sym c.to_kind-before.ensures)

pub returns-in-Waits-clause-state : goal.returns-in-Waits-clause-state
returns-in-Waits-clause-state c = λ v p h is.
    c.set_kind.ensures v p _ h c.args.state.now (c.step_back-step.ensures.state v p h is) is
    (sym c.to_kind-before.ensures)

pub returns-in-Races-clause-state : goal.returns-in-Races-clause-state
returns-in-Races-clause-state c = λ v p h is.
    c.set_kind.ensures v p _ h c.args.state.now (c.step_back-step.ensures.state v p h is) is
    (sym c.to_kind-before.ensures)
