use Rattle.std.proofs.Common.{◌≡◌, ◌∙◌, sym, ap, subst, suc, ◌+◌, ◌-◌, arith, List}
use Rattle.vme_model.specs.declared.signals.Edge.{Edge}
use Rattle.vme_events.specs.Places.{by_place}
use Rattle.vme_reasons.specs.Marked.{IsMarksOf}
use Rattle.vme_engines.specs.Seeking.{Ended, sought}
use Rattle.vme_engines.proofs.SoughtGoals.{seek_ends, seek_goes_on}
use Rattle.vme_engines.proofs.seeks.seek.Goals as goal

pub loop-made-init : goal.loop-made-init
loop-made-init c =
    let all : c.args.edges ≡ c.args.edges - 0 = omega arith in
    record {
      rest = ap (λ n. sought c.args.goal n c.args.walk.now) all;
      marks =
          subst (λ (h : List Edge). IsMarksOf c.args.walk.now.state.plan (by_place h) c.new-marks.result) (sym c.requires)
          (c.new-marks.ensures c.args.walk.now.state.plan);
    }

pub returns-in-Some-clause-ending : goal.returns-in-Some-clause-ending
returns-in-Some-clause-ending c =
    let more = c.args.edges - (c.loop-made._made + 1) in
    let one_less : c.args.edges - c.loop-made._made ≡ suc more = omega arith in
    ap (λ (x : Ended). x.ending)
    (seek_ends c.args.goal c.loop-made.walk more c.turn.new.walk c.turn.ensures.walk c.in-Some.ending (sym c.in-Some.is ∙ c.turn.ensures.ending)
    ∙ ap (λ n. sought c.args.goal n c.loop-made.walk) (sym one_less) ∙ sym c.loop-made.invariant.rest)

pub returns-in-Some-clause-walk : goal.returns-in-Some-clause-walk
returns-in-Some-clause-walk c =
    let more = c.args.edges - (c.loop-made._made + 1) in
    let one_less : c.args.edges - c.loop-made._made ≡ suc more = omega arith in
    ap (λ (x : Ended). x.walk)
    (seek_ends c.args.goal c.loop-made.walk more c.turn.new.walk c.turn.ensures.walk c.in-Some.ending (sym c.in-Some.is ∙ c.turn.ensures.ending)
    ∙ ap (λ n. sought c.args.goal n c.loop-made.walk) (sym one_less) ∙ sym c.loop-made.invariant.rest)

pub loop-made-preserved : goal.loop-made-preserved
loop-made-preserved c =
    let more = c.args.edges - (c.loop-made._made + 1) in
    let one_less : c.args.edges - c.loop-made._made ≡ suc more = omega arith in
    record {
      rest =
          c.loop-made.invariant.rest ∙ ap (λ n. sought c.args.goal n c.loop-made.walk) one_less
          ∙ seek_goes_on c.args.goal c.loop-made.walk more c.turn.new.walk c.turn.ensures.walk (sym c.in-None.is ∙ c.turn.ensures.ending);
      marks = c.turn.ensures.marks;
    }

pub returns-clause-ending : goal.returns-clause-ending
returns-clause-ending c =
    let none : c.args.edges - c.loop-made._made ≡ 0 = omega arith in
    sym (ap (λ (x : Ended). x.ending) (c.loop-made.invariant.rest ∙ ap (λ n. sought c.args.goal n c.loop-made.walk) none))

pub returns-clause-walk : goal.returns-clause-walk
returns-clause-walk c =
    let none : c.args.edges - c.loop-made._made ≡ 0 = omega arith in
    sym (ap (λ (x : Ended). x.walk) (c.loop-made.invariant.rest ∙ ap (λ n. sought c.args.goal n c.loop-made.walk) none))
