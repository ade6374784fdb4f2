use Rattle.std.proofs.Common.{ap}
use Rattle.vme_arbiter.proofs.arbiters.Arbiter.note.Goals as goal

pub returns-clause-state : goal.returns-clause-state
returns-clause-state g c = λ kind version noted same.
    c.note.ensures kind version noted (cc (same, ap (λ v. v.1) c.self.view_is))
