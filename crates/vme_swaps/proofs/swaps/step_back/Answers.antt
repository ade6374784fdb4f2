use Rattle.std.proofs.Common.{◌≡◌, ◌∙◌, ◌∷◌, Ok, sym}
use Rattle.vme_model.specs.Verdict.{verdict_but_full}
use Rattle.vme_swaps.proofs.Free.{accepted_so, passes, races, races_served, refused_so, taken_so, waits}
use Rattle.vme_swaps.proofs.swaps.step_back.Goals as goal

pub returns-in-Err-clause-steps : goal.returns-in-Err-clause-steps
returns-in-Err-clause-steps c = λ version p h is legal.
    waits version p h c.args.first c.args.edge c.in-Err.refused
    (refused_so version p h c.args.edge c.in-Err.refused
    (sym c.in-Err.is ∙ c.step.ensures.answer version p h is))

pub returns-in-Err-judge_by_wire-clause-steps : goal.returns-in-Err-judge_by_wire-clause-steps
returns-in-Err-judge_by_wire-clause-steps c = λ version p h is legal.
    let alone : verdict_but_full version p h c.args.edge ≡ Ok tt =
    accepted_so version p h c.args.edge c.in_default.field-0
    (sym c.in_default.is ∙ c.step.ensures.answer version p h is) in
    let state = taken_so version p h c.args.edge c.step.new.self alone (c.step.ensures.state version p h is) in
    races version p h c.args.first c.args.edge is.accepted legal alone c.in-Err-judge_by_wire.refused
    (sym c.in-Err-judge_by_wire.is ∙ c.judge_by_wire.ensures version p (c.args.edge ∷ h) state)

pub returns-then-is_served-clause-steps : goal.returns-then-is_served-clause-steps
returns-then-is_served-clause-steps c = λ version p h is legal.
    let alone : verdict_but_full version p h c.args.edge ≡ Ok tt =
    accepted_so version p h c.args.edge c.in_default.field-0
    (sym c.in_default.is ∙ c.step.ensures.answer version p h is) in
    let state = taken_so version p h c.args.edge c.step.new.self alone (c.step.ensures.state version p h is) in
    races_served version p h c.args.first c.args.edge is.accepted legal alone
    (sym c.in_default-judge_by_wire.is ∙ c.judge_by_wire.ensures version p (c.args.edge ∷ h) state)
    c.is_request_served-is_served.result (c.is_request_served-is_served.ensures version p h is)
    c.if-is_served.true

pub returns-else-is_served-clause-steps : goal.returns-else-is_served-clause-steps
returns-else-is_served-clause-steps c = λ version p h is legal.
    let alone : verdict_but_full version p h c.args.edge ≡ Ok tt =
    accepted_so version p h c.args.edge c.in_default.field-0
    (sym c.in_default.is ∙ c.step.ensures.answer version p h is) in
    let state = taken_so version p h c.args.edge c.step.new.self alone (c.step.ensures.state version p h is) in
    passes version p h c.args.first c.args.edge is.accepted legal alone
    (sym c.in_default-judge_by_wire.is ∙ c.judge_by_wire.ensures version p (c.args.edge ∷ h) state)
    c.is_request_served-is_served.result (c.is_request_served-is_served.ensures version p h is)
    c.if-is_served.false
