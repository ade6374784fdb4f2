use Rattle.std.proofs.Common.{◌∙◌, sym}
use Rattle.vme_histories.proofs.JudgedParts.{refused, passed, exists_by}
use Rattle.vme_bus.proofs.states.BusState.judge_controller.Goals as goal

pub returns-in-Ok : goal.returns-in-Ok
returns-in-Ok c version p h is =
    let some = exists_by p c.args.edge c.requires.formed (sym (c.has_driver.ensures version p h is) ∙ c.if-not-has_driver.false) in
    c.settle.ensures version p h is ∙ passed version p h c.args.edge some (sym (c.ask_controller.ensures version p h is some) ∙ c.in-Ok.is)

pub returns-in-Err : goal.returns-in-Err
returns-in-Err c version p h is =
    let some = exists_by p c.args.edge c.requires.formed (sym (c.has_driver.ensures version p h is) ∙ c.if-not-has_driver.false) in
    refused version p h c.args.edge c.in-Err.refused some (sym (c.ask_controller.ensures version p h is some) ∙ c.in-Err.is)
