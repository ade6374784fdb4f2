use Rattle.std.proofs.Common.{◌&&◌, subst}
use Rattle.std.specs.Prelude.{IsTrue}
use Rattle.vme_model.specs.Signals.{is_well_formed}
use Rattle.vme_model.proofs.Bools.{and_right}
use Rattle.vme_same.specs.Formed.{is_formed_found, is_formed_own, is_formed_why}
use Rattle.vme_same.proofs.lines.second_line_of.Goals as goal

pub push_own-requires-clause-formed : goal.push_own-requires-clause-formed
push_own-requires-clause-formed c =
    and_right (is_formed_why c.in-Differs.why) (is_formed_own c.in-Differs.own)
    (and_right (is_well_formed c.in-Differs.edge)
    (is_formed_why c.in-Differs.why && is_formed_own c.in-Differs.own)
    (subst (λ f. IsTrue (is_formed_found f)) c.in-Differs.is c.requires))
