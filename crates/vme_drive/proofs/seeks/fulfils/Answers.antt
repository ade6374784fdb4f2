use Rattle.std.proofs.Common.{◌∙◌, sym, ap}
use Rattle.vme_drive.specs.Seeking.{fulfils}
use Rattle.vme_drive.proofs.SoughtGoals.{printed_comes}
use Rattle.vme_drive.proofs.seeks.fulfils.Goals as goal

pub returns-in-Event : goal.returns-in-Event
returns-in-Event c =
    printed_comes c.bus.result.now c.args.walk.now.state c.args.marks.now c.args.edge.now c.in-Event.event c.comes.result c.bus.ensures c.requires c.comes.ensures
    ∙ ap (λ a. fulfils a c.args.walk.now.state c.args.edge.now) (sym c.in-Event.is)
