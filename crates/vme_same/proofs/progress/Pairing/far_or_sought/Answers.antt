use Rattle.std.proofs.lemmas.Bool.{and_from}
use Rattle.vme_model.specs.Signals.{is_well_formed}
use Rattle.vme_model.proofs.Bools.{and_left, and_right}
use Rattle.vme_same.specs.Formed.{is_formed_own}
use Rattle.vme_same.proofs.Leading.{sought_far, sought_on}
use Rattle.vme_same.proofs.progress.Pairing.far_or_sought.Goals as goal

pub own_with-own-requires-clause-own : goal.own_with-own-requires-clause-own
own_with-own-requires-clause-own c =
    let sought = c.args.sought.now in
    and_right (is_well_formed sought.edge) (is_formed_own sought.own) c.requires.sought

pub returns-else-is_same-clause-formed : goal.returns-else-is_same-clause-formed
returns-else-is_same-clause-formed c =
    let sought = c.args.sought.now in
    and_from (is_well_formed sought.edge) (is_formed_own c.own_with-own.result)
    (and_left (is_well_formed sought.edge) (is_formed_own sought.own) c.requires.sought)
    c.own_with-own.ensures.formed

pub returns-then-is_same-clause-going : goal.returns-then-is_same-clause-going
returns-then-is_same-clause-going c = λ t seeks.
    sought_far t c.args.sought.now seeks.1 c.args.number c.args.edge.now
    c.own_with-own.result c.own_with-own.ensures.own
    c.args.self.now.has_ended c.args.self.now.is_over (c.is_same.ensures.same c.if-is_same.true)

pub returns-else-is_same-clause-going : goal.returns-else-is_same-clause-going
returns-else-is_same-clause-going c = λ t seeks. (
  seeks.0,
  sought_on t c.args.sought.now seeks.1 c.args.number c.args.edge.now
      c.own_with-own.result c.own_with-own.ensures.own
      (c.is_same.ensures.apart c.if-is_same.false),
)
