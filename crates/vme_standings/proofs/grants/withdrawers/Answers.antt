use Rattle.std.proofs.Common.{◌∙◌, sym}
use Rattle.vme_model.proofs.Bools.{and_left, and_right}
use Rattle.vme_standings.proofs.Growing.{both}
use Rattle.vme_standings.proofs.grants.withdrawers.Goals as goal

pub returns-clause-some : goal.returns-clause-some
returns-clause-some c one s h =
    let e = sym (c.of_level.ensures s) ∙ h in
    let w = c.holders.ensures.some s (and_right _ _ e) in
    (and_left _ _ e, w.1)

pub returns-clause-all : goal.returns-clause-all
returns-clause-all c one s first near level holds =
    c.of_level.ensures s ∙ both _ _ level (c.holders.ensures.all s first near holds)
