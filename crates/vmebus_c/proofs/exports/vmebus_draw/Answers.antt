use Rattle.std.proofs.Common.{◌∙◌, refl, sym, ap, subst, arith}
use Rattle.std.proofs.lemmas.Bool.Decides.{nat_tests}
use Rattle.std.specs.Prelude.{Option, IfSome}
use Rattle.std.specs.List.{Contains}
use Rattle.vme_model.specs.declared.signals.Edge.{Edge}
use Rattle.vme_seeds.specs.Draws.{IsCountedIn}
use Rattle.vme_seeds.specs.Kinds.{has_board}
use Rattle.vme_seeds.specs.declared.kinds.Kind.TheVariants.{BgFall}
use Rattle.vmebus_c.specs.Played.{IsFullKept, drawn_answer, drawn_number, played}
use Rattle.vmebus_c.proofs.exports.vmebus_draw.Goals as goal

pub returns-then-not-is_bus-clause-answer : goal.returns-then-not-is_bus-clause-answer
returns-then-not-is_bus-clause-answer c = λ seeded version p h at. let is = c.is_bus.ensures.bus version p h at in absurd (cc)

pub returns-then-not-is_bus-clause-edge : goal.returns-then-not-is_bus-clause-edge
returns-then-not-is_bus-clause-edge c = λ seeded version p h at. let is = c.is_bus.ensures.bus version p h at in absurd (cc)

pub returns-then-not-is_bus-clause-counts : goal.returns-then-not-is_bus-clause-counts
returns-then-not-is_bus-clause-counts c = λ seeded version p h at. let is = c.is_bus.ensures.bus version p h at in absurd (cc)

pub returns-then-not-is_bus-clause-full : goal.returns-then-not-is_bus-clause-full
returns-then-not-is_bus-clause-full c = λ seeded version p h at. let is = c.is_bus.ensures.bus version p h at in absurd (cc)

pub returns-in-Some-clause-answer : goal.returns-in-Some-clause-answer
returns-in-Some-clause-answer c = λ seeded version p h at. ap drawn_answer (sym c.in-Some.is ∙ c.draw.ensures.edge version p h at)

pub returns-in-Some-clause-edge : goal.returns-in-Some-clause-edge
returns-in-Some-clause-edge c = λ seeded version p h at. c.edge_number.ensures ∙ ap drawn_number (sym c.in-Some.is ∙ c.draw.ensures.edge version p h at)

pub returns-in-Some-clause-counts : goal.returns-in-Some-clause-counts
returns-in-Some-clause-counts c = λ seeded version p h at.
    subst (λ (o : Option Edge). IsCountedIn (has_board p) o c.args.draws.now c.draw.new.draws) (c.draw.ensures.edge version p h at) (c.draw.ensures.counts version p h at)

pub returns-in-Some-clause-full : goal.returns-in-Some-clause-full
returns-in-Some-clause-full c = λ seeded version p h at.
    subst (λ (o : Option Edge). IsFullKept (has_board p) o c.args.draws.now c.draw.new.draws) (c.draw.ensures.edge version p h at) (c.draw.ensures.full version p h at)

pub returns-in-None-clause-answer : goal.returns-in-None-clause-answer
returns-in-None-clause-answer c = λ seeded version p h at. ap drawn_answer (sym c.in-None.is ∙ c.draw.ensures.edge version p h at)

pub returns-in-None-clause-edge : goal.returns-in-None-clause-edge
returns-in-None-clause-edge c = λ seeded version p h at. ap drawn_number (sym c.in-None.is ∙ c.draw.ensures.edge version p h at)

pub returns-in-None-clause-counts : goal.returns-in-None-clause-counts
returns-in-None-clause-counts c = λ seeded version p h at.
    subst (λ (o : Option Edge). IsCountedIn (has_board p) o c.args.draws.now c.draw.new.draws) (c.draw.ensures.edge version p h at) (c.draw.ensures.counts version p h at)

pub returns-in-None-clause-full : goal.returns-in-None-clause-full
returns-in-None-clause-full c = λ seeded version p h at.
    subst (λ (o : Option Edge). IsFullKept (has_board p) o c.args.draws.now c.draw.new.draws) (c.draw.ensures.edge version p h at) (c.draw.ensures.full version p h at)

pub returns-then-not-is_bus-clause-none : goal.returns-then-not-is_bus-clause-none
returns-then-not-is_bus-clause-none c = λ weighed version p h at. let is = c.is_bus.ensures.bus version p h at in absurd (cc)

-- the first kind has a weight
pub returns-then-not-is_seeded-clause-none : goal.returns-then-not-is_seeded-clause-none
returns-then-not-is_seeded-clause-none c = λ weighed. let heavy = weighed BgFall in absurd (grind (arith, nat_tests))

pub returns-in-Some-clause-among : goal.returns-in-Some-clause-among
returns-in-Some-clause-among c = λ version p h at zero. (
  c.in-Some.drawn,
  subst (λ (o : Option Edge). IfSome o (λ e. Contains (played version p h c.args.wires.now) e)) c.in-Some.is (c.draw.ensures.among version p h at),
  c.edge_number.ensures,
)

pub returns-in-Some-clause-none : goal.returns-in-Some-clause-none
returns-in-Some-clause-none c = λ weighed version p h at. (
  λ one. absurd (omega (arith, one)),
  λ empty. let none = (c.draw.ensures.none weighed version p h at).1 empty in let is = c.in-Some.is in absurd (cc),
)

pub returns-in-None-clause-none : goal.returns-in-None-clause-none
returns-in-None-clause-none c = λ weighed version p h at. (
  λ one. (c.draw.ensures.none weighed version p h at).0 c.in-None.is,
  λ empty. refl,
)
