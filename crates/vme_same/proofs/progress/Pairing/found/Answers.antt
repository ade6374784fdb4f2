use Rattle.std.proofs.Common.{ap, subst, sym}
use Rattle.vme_same.specs.Kept.{Goes, IsOutcomeOf, edges_of}
use Rattle.vme_same.proofs.Leading.{left_found, same_found, sure_found}
use Rattle.vme_same.proofs.progress.Pairing.found.Goals as goal

pub returns-in-Finds-clause-found : goal.returns-in-Finds-clause-found
returns-in-Finds-clause-found c = λ t going idle ended over.
    sure_found t c.in-Finds.found c.args.self.now.has_ended c.args.self.now.is_over
    (subst (Goes t c.args.self.now) c.in-Finds.is going)

pub returns-in-None-clause-found : goal.returns-in-None-clause-found
returns-in-None-clause-found c = λ t going idle ended over.
    let now = c.args.self.now in
    same_found t (edges_of now.waiting.items) now.rest now.taken
    (subst (Goes t now) c.in-Open.is going) (ap edges_of (idle c.in-Open.is ended))
    c.in-None.ensures.none

pub returns-in-Some-clause-found : goal.returns-in-Some-clause-found
returns-in-Some-clause-found c = λ t going idle ended over.
    let now = c.args.self.now in
    let some = c.in-Some.ensures.some in
    subst (IsOutcomeOf t) (sym c.leaves.ensures.found)
    (left_found t (edges_of now.waiting.items) now.rest now.taken
    (subst (Goes t now) c.in-Open.is going) (ap edges_of (idle c.in-Open.is ended))
    some.0 c.in-Some.left.now some.1)
