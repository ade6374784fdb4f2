use Rattle.std.proofs.Common.{◌≡◌, ◌∙◌, sym, ap, subst, suc, ◌+◌, ◌-◌, arith, List}
use Rattle.std.proofs.lemmas.Result.{err_from_is_err_and}
use Rattle.vme_model.specs.declared.signals.Edge.{Edge}
use Rattle.vme_events.specs.Places.{by_place}
use Rattle.vme_explain.specs.Marked.{IsMarksOf}
use Rattle.vme_drive.specs.Seeking.{Ended, sought}
use Rattle.vme_drive.proofs.SoughtGoals.{seek_ends, seek_goes_on}
use Rattle.vme_drive.proofs.DrawnLines.{turn_front}
use Rattle.vme_drive.proofs.seeks.seek.Goals as goal

pub loop-made-init : goal.loop-made-init
loop-made-init g c =
    let all : c.args.edges ≡ c.args.edges - 0 = omega arith in
    record {
      rest = ap (λ n. sought c.args.goal n c.args.walk.now) all;
      marks =
          subst (λ (h : List Edge). IsMarksOf c.args.walk.now.state.plan (by_place h) c.new-marks.result) (sym c.requires)
          (c.new-marks.ensures c.args.walk.now.state.plan);
      listed = λ first listed. listed;
    }

pub returns-in_err-ending-clause-listed : goal.returns-in_err-ending-clause-listed
returns-in_err-ending-clause-listed g c =
    let more = c.args.edges - (c.loop-made._made + 1) in
    let one_less : c.args.edges - c.loop-made._made ≡ suc more = omega arith in
    let e = err_from_is_err_and c.from_residual.result c.from_residual.ensures.1 in
    let end = ap (λ (x : Ended). x.walk.state) (c.loop-made.invariant.rest ∙ ap (λ n. sought c.args.goal n c.loop-made.walk) one_less) in
    rw (e.1, e.2) (
      c.in_err-ending.ensures.listed.0,
      λ first listed. turn_front c.args.goal more c.loop-made.walk _ end first _ (c.in_err-ending.ensures.listed.1 first (c.loop-made.invariant.listed first listed)),
    )

pub returns-in-Some-clause-ending : goal.returns-in-Some-clause-ending
returns-in-Some-clause-ending g c =
    let more = c.args.edges - (c.loop-made._made + 1) in
    let one_less : c.args.edges - c.loop-made._made ≡ suc more = omega arith in
    ap (λ (x : Ended). x.ending)
    (seek_ends c.args.goal c.loop-made.walk more c.take_turn.new.walk c.take_turn.ensures.walk c.in-Some.ending (sym c.in-Some.is ∙ c.in_ok-ending.ensures.ending)
    ∙ ap (λ n. sought c.args.goal n c.loop-made.walk) (sym one_less) ∙ sym c.loop-made.invariant.rest)

pub returns-in-Some-clause-listed : goal.returns-in-Some-clause-listed
returns-in-Some-clause-listed g c =
    let more = c.args.edges - (c.loop-made._made + 1) in
    let one_less : c.args.edges - c.loop-made._made ≡ suc more = omega arith in (
      ap (λ (x : Ended). x.walk.state)
          (seek_ends c.args.goal c.loop-made.walk more c.take_turn.new.walk c.take_turn.ensures.walk c.in-Some.ending (sym c.in-Some.is ∙ c.in_ok-ending.ensures.ending)
          ∙ ap (λ n. sought c.args.goal n c.loop-made.walk) (sym one_less) ∙ sym c.loop-made.invariant.rest),
      λ first listed. c.in_ok-ending.ensures.listed.1 first (c.loop-made.invariant.listed first listed),
    )

pub loop-made-preserved : goal.loop-made-preserved
loop-made-preserved g c =
    let more = c.args.edges - (c.loop-made._made + 1) in
    let one_less : c.args.edges - c.loop-made._made ≡ suc more = omega arith in
    record {
      rest =
          c.loop-made.invariant.rest ∙ ap (λ n. sought c.args.goal n c.loop-made.walk) one_less
          ∙ seek_goes_on c.args.goal c.loop-made.walk more c.take_turn.new.walk c.take_turn.ensures.walk (sym c.in-None.is ∙ c.in_ok-ending.ensures.ending);
      marks = c.take_turn.ensures.marks;
      listed = λ first listed. c.in_ok-ending.ensures.listed.1 first (c.loop-made.invariant.listed first listed);
    }

pub returns-clause-ending : goal.returns-clause-ending
returns-clause-ending g c =
    let none : c.args.edges - c.loop-made._made ≡ 0 = omega arith in
    sym (ap (λ (x : Ended). x.ending) (c.loop-made.invariant.rest ∙ ap (λ n. sought c.args.goal n c.loop-made.walk) none))

pub returns-clause-listed : goal.returns-clause-listed
returns-clause-listed g c =
    let none : c.args.edges - c.loop-made._made ≡ 0 = omega arith in
    (sym (ap (λ (x : Ended). x.walk.state) (c.loop-made.invariant.rest ∙ ap (λ n. sought c.args.goal n c.loop-made.walk) none)), c.loop-made.invariant.listed)
