use Rattle.std.proofs.Common.{◌∙◌, ◌+◌, ◌++◌, Some, subst, sym, arith, take}
use Rattle.vme_engines.specs.Explaining.{IsUnasked}
use Rattle.vme_shrink.specs.Sought.{IsFront}
use Rattle.vme_shrink.proofs.SoughtEdges.{formed_at, front_kept, front_next, met_here, number_at, unasked_next, whole_taken}
use Rattle.vme_shrink.proofs.fronts.Front.seek.Goals as goal

pub keep-requires : goal.keep-requires
keep-requires c = record {
  formed = formed_at c.args.edges.now c.loop-edge.edge-index _ c.loop-edge-test.true c.requires.formed;
}

pub returns-then-is_asked-clause-sought : goal.returns-then-is_asked-clause-sought
returns-then-is_asked-clause-sought c = λ p v before at is none.
    let i = c.loop-edge.edge-index in
    met_here c.args.asked p v before c.args.edges.now i _ c.loop-edge.self (c.loop-edge.number + 1)
    (number_at before c.args.edges.now i c.args.judged c.loop-edge.number c.loop-edge-test.true at
    c.loop-edge.invariant.number) c.loop-edge-test.true
    (c.loop-edge.invariant.kept p v before at is) (sym c.is_asked.ensures ∙ c.if-is_asked.true)
    (c.loop-edge.invariant.unasked p v before at is none)

pub returns-then-is_asked-clause-formed : goal.returns-then-is_asked-clause-formed
returns-then-is_asked-clause-formed c =
    formed_at c.args.edges.now c.loop-edge.edge-index _ c.loop-edge-test.true c.requires.formed

pub loop-edge-preserved : goal.loop-edge-preserved
loop-edge-preserved c =
    let i = c.loop-edge.edge-index in record {
      number = (let was = c.loop-edge.invariant.number in omega (arith, was));
      kept = λ p v before at is.
          let mid = c.loop-edge.invariant.kept p v before at is in
          front_next p v before c.args.edges.now i _ c.loop-edge.self c.keep.new.self
          c.loop-edge-test.true mid c.in_ok-keep.ensures.bus
          (c.in_ok-keep.ensures.kept
          (front_kept p v (before ++ take i c.args.edges.now) c.loop-edge.self mid));
      unasked = λ p v before at is none.
          unasked_next c.args.asked p v before c.args.edges.now i _ c.loop-edge.self
          (c.loop-edge.number + 1)
          (number_at before c.args.edges.now i c.args.judged c.loop-edge.number
          c.loop-edge-test.true at c.loop-edge.invariant.number) c.loop-edge-test.true
          (c.loop-edge.invariant.kept p v before at is)
          (sym c.is_asked.ensures ∙ c.if-is_asked.false)
          (c.loop-edge.invariant.unasked p v before at is none);
    }

pub returns-clause-sought : goal.returns-clause-sought
returns-clause-sought c = λ p v before at is.
    let whole = whole_taken c.args.edges.now c.loop-edge.edge-index (omega arith) in (
      subst (λ l. IsFront p v (before ++ l) c.loop-edge.self) whole
          (c.loop-edge.invariant.kept p v before at is),
      λ none. subst (λ l. IsUnasked c.args.asked p (Some v) (before ++ l)) whole
          (c.loop-edge.invariant.unasked p v before at is none),
    )
