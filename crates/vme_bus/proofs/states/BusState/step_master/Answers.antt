use Rattle.std.proofs.Common.{◌∙◌, sym}
use Rattle.vme_bus.proofs.Numbers.{written, taken, left, refusal}
use Rattle.vme_bus.proofs.states.BusState.step_master.Goals as goal

pub returns-in-Ok-clause-state : goal.returns-in-Ok-clause-state
returns-in-Ok-clause-state c version p h is =
    let judged = c.judge_master.ensures version p h is in
    let after = c.take_master.ensures.state version p h is (sym judged ∙ c.in-Ok.is) in
    taken version p h _ c.args.edge (written c.args.edge _ _ _ c.requires.slot c.requires.wire c.requires.fall) _ judged c.take_master.new.self c.in-Ok.is after

pub returns-in-Err-clause-answer : goal.returns-in-Err-clause-answer
returns-in-Err-clause-answer c version p h is =
    let judged = c.judge_master.ensures version p h is in
    refusal version p h _ c.args.edge (written c.args.edge _ _ _ c.requires.slot c.requires.wire c.requires.fall) _ judged c.in-Err.refused c.in-Err.is _
    (λ short. c.refusal_number.ensures short c.args.delivery.now)

pub returns-in-Err-clause-state : goal.returns-in-Err-clause-state
returns-in-Err-clause-state c version p h is =
    let judged = c.judge_master.ensures version p h is in
    left version p h _ c.args.edge (written c.args.edge _ _ _ c.requires.slot c.requires.wire c.requires.fall) _ judged c.in-Err.refused c.in-Err.is c.args.self.now is
