use Rattle.std.proofs.Common.{◌∙◌, ◌++◌, Some, arith, subst, take}
use Rattle.std.proofs.lemmas.List.{take_all}
use Rattle.vme_following.specs.Explaining.{IsUnasked}
use Rattle.vme_races.specs.Listed.{AreListed}
use Rattle.vme_races.proofs.AskedLines.{met_here, unasked_next}
use Rattle.vme_races.proofs.ListedEdges.{listed_next}
use Rattle.vme_races.proofs.other.Reordering.seek.Goals as goal

pub loop-edge-preserved : goal.loop-edge-preserved
loop-edge-preserved c =
    let i = c.loop-edge.edge-index in
    let edges = c.args.edges.now in
    let lt = c.loop-edge-test.true in record {
      judged = (let was = c.loop-edge.invariant.judged in let now = c.in_ok-keep.ensures.judged in omega (arith, was, now));
      asked = c.keep.ensures.asked ∙ c.loop-edge.invariant.asked;
      listed = λ p v es are.
          listed_next p v es edges i _ c.keep.new.self.racing c.keep.new.self.edges.items lt
          (c.in_ok-keep.ensures.kept p v (es ++ take i edges) (c.loop-edge.invariant.listed p v es are));
      unasked = λ p v es are none.
          unasked_next c.args.self.now.asked p v es edges i lt c.loop-edge.self.racing
          (c.loop-edge.invariant.listed p v es are).0 (λ same. omega arith)
          (c.loop-edge.invariant.unasked p v es are none);
    }

pub returns-then-self-clause-sought : goal.returns-then-self-clause-sought
returns-then-self-clause-sought c = λ p v es are.
    let now = c.loop-edge.invariant.listed p v es are in (
      met_here c.args.self.now.asked p v es c.args.edges.now c.loop-edge.edge-index c.loop-edge-test.true
          c.loop-edge.self.racing now.0 _ (omega arith),
      now.1,
    )

pub returns-clause-sought : goal.returns-clause-sought
returns-clause-sought c = λ p v es are.
    let whole = take_all c.loop-edge.edge-index c.args.edges.now (omega arith) in
    let now = subst (λ l. AreListed p v (es ++ l) c.loop-edge.self.racing c.loop-edge.self.edges.items) whole
    (c.loop-edge.invariant.listed p v es are) in (
      (
        now.0,
        λ none. subst (λ l. IsUnasked (Some c.args.self.now.asked) p (Some v) (es ++ l)) whole
            (c.loop-edge.invariant.unasked p v es are none),
      ),
      now.1,
    )
