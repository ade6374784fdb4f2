use Rattle.std.proofs.Common.{◌-◌, refl, rules}
use Rattle.vme_races.proofs.Pushed.{ready_full}
use Rattle.vme_races.proofs.recent.Recent.make_room.Goals as goal

pub returns : goal.returns
returns c = λ v p k last.
    ready_full v p k c.args.self.now _ last (c.args.self.now.edges.len - 1) (search rules)
    (search rules) c.pop_back.ensures.rest refl
