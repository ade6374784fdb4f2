use Rattle.std.proofs.Common.{refl}
use Rattle.vme_races.proofs.Pushed.{pushed}
use Rattle.vme_races.proofs.recent.Recent.push.Goals as goal

pub returns-in-Ok-clause-last : goal.returns-in-Ok-clause-last
returns-in-Ok-clause-last c = λ v p k last state.
    pushed v p k c.make_room.new.self _ c.args.earlier (c.make_room.ensures v p k last) state
    c.in-Ok.ensures.items refl
