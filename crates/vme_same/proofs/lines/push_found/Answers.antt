use Rattle.std.proofs.Common.{◌&&◌, subst}
use Rattle.std.specs.Prelude.{IsTrue}
use Rattle.vme_model.specs.Signals.{is_well_formed}
use Rattle.vme_model.proofs.Bools.{and_left, and_right}
use Rattle.vme_same.specs.Formed.{is_formed_found, is_formed_own, is_formed_why}
use Rattle.vme_same.proofs.lines.push_found.Goals as goal

pub push_why-requires-clause-formed : goal.push_why-requires-clause-formed
push_why-requires-clause-formed c =
    and_left (is_formed_why c.in-Differs.why) (is_formed_own c.in-Differs.own)
    (and_right (is_well_formed c.in-Differs.edge)
    (is_formed_why c.in-Differs.why && is_formed_own c.in-Differs.own)
    (subst (λ f. IsTrue (is_formed_found f)) c.in-Differs.is c.requires.formed))
