use Rattle.std.proofs.Common.{◌∙◌, sym, ap}
use Rattle.vme_engines.specs.Seeking.{brings}
use Rattle.vme_engines.proofs.SoughtGoals.{told_comes}
use Rattle.vme_engines.proofs.seeks.brings.Goals as goal

pub returns-in-Event : goal.returns-in-Event
returns-in-Event c =
    told_comes c.bus.result.now c.args.walk.now.state c.args.marks.now c.args.edge.now c.in-Event.event c.comes.result c.bus.ensures c.requires c.comes.ensures
    ∙ ap (λ g. brings g c.args.walk.now.state c.args.edge.now) (sym c.in-Event.is)
