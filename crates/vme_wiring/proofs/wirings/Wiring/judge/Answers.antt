use Rattle.std.proofs.Common.{◌∙◌, sym}
use Rattle.vme_histories.proofs.JudgedParts.{refused_asked, passed_asked}
use Rattle.vme_wiring.proofs.wirings.Wiring.judge.Goals as goal

pub returns-in-Ok : goal.returns-in-Ok
returns-in-Ok c version p h is =
    c.settle.ensures version p h is ∙ passed_asked version p h c.args.edge (sym (c.ask.ensures version p h is) ∙ c.in-Ok.is)

pub returns-in-Err : goal.returns-in-Err
returns-in-Err c version p h is =
    refused_asked version p h c.args.edge c.in-Err.refused (sym (c.ask.ensures version p h is) ∙ c.in-Err.is)
