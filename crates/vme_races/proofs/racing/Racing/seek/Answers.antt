use Rattle.std.proofs.Common.{◌++◌, Some, arith, subst, take}
use Rattle.std.proofs.lemmas.List.{take_all}
use Rattle.vme_following.specs.Explaining.{IsUnasked}
use Rattle.vme_races.specs.Sought.{AreTaken}
use Rattle.vme_races.proofs.AskedLines.{met_here, taken_next, unasked_next}
use Rattle.vme_races.proofs.racing.Racing.seek.Goals as goal

pub loop-edge-preserved : goal.loop-edge-preserved
loop-edge-preserved c =
    let edges = c.args.edges.now in
    let i = c.loop-edge.edge-index in
    record {
      judged = (let was = c.loop-edge.invariant.judged in let now = c.in_ok-take_in.ensures.judged in omega (arith, was, now));
      taken = λ p v es is.
          taken_next c.args.number p v es edges i c.loop-edge-test.true c.loop-edge.self
          (c.loop-edge.invariant.taken p v es is) _ c.take_in.new.self _
          (c.in_ok-take_in.ensures.line p v (es ++ take i edges));
      unasked = λ p v es is none.
          unasked_next c.args.number p v es edges i c.loop-edge-test.true c.loop-edge.self
          (c.loop-edge.invariant.taken p v es is) c.if-self-number.false
          (c.loop-edge.invariant.unasked p v es is none);
    }

pub returns-then-self-number-clause-sought : goal.returns-then-self-number-clause-sought
returns-then-self-number-clause-sought c = λ p v es is.
    met_here c.args.number p v es c.args.edges.now c.loop-edge.edge-index c.loop-edge-test.true c.loop-edge.self
    (c.loop-edge.invariant.taken p v es is) _ c.if-self-number.true

pub returns-clause-sought : goal.returns-clause-sought
returns-clause-sought c = λ p v es is.
    let whole = take_all c.loop-edge.edge-index c.args.edges.now (omega arith) in (
      subst (λ l. AreTaken p v (es ++ l) c.loop-edge.self) whole (c.loop-edge.invariant.taken p v es is),
      λ none. subst (λ l. IsUnasked (Some c.args.number) p (Some v) (es ++ l)) whole (c.loop-edge.invariant.unasked p v es is none),
    )
