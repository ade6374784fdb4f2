use Rattle.std.proofs.Common.{◌≡◌, ◌++◌, ◌∷◌, [], false, subst, sym}
use Rattle.vme_same.specs.Kept.{Goes, IsSought, with_second}
use Rattle.vme_same.proofs.Leading.{sought_later, sure_later}
use Rattle.vme_same.proofs.progress.Pairing.take_second.Goals as goal

pub returns-in-Seeks-clause-going : goal.returns-in-Seeks-clause-going
returns-in-Seeks-clause-going c = λ t going goes room.
    let now = c.args.self.now in
    let old : (now.has_ended ≡ false) × IsSought t c.in-Seeks.field-0 =
    subst (Goes t now) c.in-Seeks.is going in
    subst (Goes (with_second t c.args.edge.now) now) (sym c.in-Seeks.is)
    (old.0, sought_later t c.in-Seeks.field-0 c.args.edge.now old.1)

pub returns-in-Finds-clause-going : goal.returns-in-Finds-clause-going
returns-in-Finds-clause-going c = λ t going goes room.
    let now = c.args.self.now in
    subst (Goes (with_second t c.args.edge.now) now) (sym c.in-Finds.is)
    (sure_later t now.has_ended now.is_over c.in-Finds.field-0
    (subst (Goes t now) c.in-Finds.is going) c.args.edge.now goes)
