use Rattle.std.proofs.Common.{◌∙◌, sym}
use Rattle.vme_bus.proofs.Turned.{requesters_settle}
use Rattle.vme_bus.proofs.Settled.{asked_alone}
use Rattle.vme_histories.proofs.JudgedParts.{exists_by}
use Rattle.vme_bus.proofs.states.BusState.judge_requester.Goals as goal

pub returns : goal.returns
returns c version p h is =
    let e = c.args.edge in
    let some = exists_by p e c.requires.formed (sym (c.has_driver.ensures version p h is) ∙ c.if-not-has_driver.false) in
    c.ask_requester.ensures version p h is some
    ∙ asked_alone version p h e some (requesters_settle version p h e.wire e.fall c.requires.part)
