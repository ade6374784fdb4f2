use Rattle.std.proofs.Common.{◌∙◌, ◌+◌, ◌++◌, Some, true, subst, sym, arith}
use Rattle.vme_following.specs.Explaining.{IsUnasked}
use Rattle.vme_shrink.specs.Sought.{IsFront, is_asked}
use Rattle.vme_shrink.proofs.SoughtEdges.{asked_still, formed_at, front_next, goes_on, met_here, number_at, stays_at, unasked_next, whole_taken}
use Rattle.vme_shrink.proofs.fronts.seek.Goals as goal

pub meets-requires : goal.meets-requires
meets-requires c = record {
  formed = formed_at c.args.edges.now c.loop-edge.edge-index _ c.loop-edge-test.true c.requires.formed;
}

pub returns-then-is_met-clause-sought : goal.returns-then-is_met-clause-sought
returns-then-is_met-clause-sought c = λ p v before at is none.
    let i = c.loop-edge.edge-index in
    let met = sym c.in_ok-is_met.ensures.met ∙ c.if-is_met.true in
    let same = stays_at (is_asked c.args.asked (c.loop-edge.number + 1) c.loop-edge.front _)
    c.loop-edge.front _ c.meets.new.front c.in_ok-is_met.ensures.state met in
    met_here c.args.asked p v before c.args.edges.now i _ c.meets.new.front (c.loop-edge.number + 1)
    (number_at before c.args.edges.now i c.args.judged c.loop-edge.number c.loop-edge-test.true at
    c.loop-edge.invariant.number) c.loop-edge-test.true
    (same ∙ c.loop-edge.invariant.kept p v before at is)
    (asked_still c.args.asked (c.loop-edge.number + 1) c.loop-edge.front c.meets.new.front _ same met)
    (c.loop-edge.invariant.unasked p v before at is none)

pub returns-then-is_met-clause-formed : goal.returns-then-is_met-clause-formed
returns-then-is_met-clause-formed c =
    formed_at c.args.edges.now c.loop-edge.edge-index _ c.loop-edge-test.true c.requires.formed

pub loop-edge-preserved : goal.loop-edge-preserved
loop-edge-preserved c =
    let i = c.loop-edge.edge-index in
    let other = sym c.in_ok-is_met.ensures.met ∙ c.if-is_met.false in
    let next = goes_on (is_asked c.args.asked (c.loop-edge.number + 1) c.loop-edge.front _)
    c.loop-edge.front _ c.meets.new.front c.in_ok-is_met.ensures.state other in record {
      number = (let was = c.loop-edge.invariant.number in omega (arith, was));
      kept = λ p v before at is.
          front_next p v before c.args.edges.now i _ c.loop-edge.front c.meets.new.front
          c.loop-edge-test.true (c.loop-edge.invariant.kept p v before at is) next;
      unasked = λ p v before at is none.
          unasked_next c.args.asked p v before c.args.edges.now i _ c.loop-edge.front
          (c.loop-edge.number + 1)
          (number_at before c.args.edges.now i c.args.judged c.loop-edge.number
          c.loop-edge-test.true at c.loop-edge.invariant.number) c.loop-edge-test.true
          (c.loop-edge.invariant.kept p v before at is) other
          (c.loop-edge.invariant.unasked p v before at is none);
    }

pub returns-clause-sought : goal.returns-clause-sought
returns-clause-sought c = λ p v before at is.
    let whole = whole_taken c.args.edges.now c.loop-edge.edge-index (omega arith) in (
      subst (λ l. IsFront p v (before ++ l) c.loop-edge.front) whole
          (c.loop-edge.invariant.kept p v before at is),
      λ none. subst (λ l. IsUnasked c.args.asked p (Some v) (before ++ l)) whole
          (c.loop-edge.invariant.unasked p v before at is none),
    )
