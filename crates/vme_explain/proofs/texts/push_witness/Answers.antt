use Rattle.std.proofs.Common.{subst, append_assoc}
use Rattle.vme_explain.specs.Blocks.{IsSpoken}
use Rattle.vme_explain.proofs.texts.push_witness.Goals as goal

pub returns-in-Wire-clause-items : goal.returns-in-Wire-clause-items
returns-in-Wire-clause-items g c = λ spoken.
    let word = subst IsSpoken c.in-Wire.is spoken in
    rw (c.push_since.ensures.items, c.push_level.ensures.items, c.push_argument.ensures.items, c.push_state.ensures.items word, c.in-Wire.is) (simp append_assoc)

pub returns-in-Served-clause-items : goal.returns-in-Served-clause-items
returns-in-Served-clause-items g c = λ spoken.
    rw (c.push_number.ensures.items, c.push-in-Served.ensures.items, c.push_driver.ensures.items, c.in-Served.is) (simp append_assoc)
