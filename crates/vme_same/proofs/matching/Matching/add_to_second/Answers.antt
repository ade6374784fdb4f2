use Rattle.std.proofs.Common.{◌∙◌, ◌++◌, arith, false, subst, take}
use Rattle.std.proofs.lemmas.List.{take_all}
use Rattle.vme_reading.proofs.KeptEdges.{next_list}
use Rattle.vme_same.specs.Kept.{Runs}
use Rattle.vme_same.proofs.Running.{runs_on}
use Rattle.vme_same.proofs.matching.Matching.add_to_second.Goals as goal

pub take_of_second-requires-clause-count : goal.take_of_second-requires-clause-count
take_of_second-requires-clause-count c =
    let was = c.loop-edge.invariant.judged in
    let room = c.requires.count in
    omega (arith, was, room)

pub loop-edge-preserved : goal.loop-edge-preserved
loop-edge-preserved c =
    let i = c.loop-edge.edge-index in
    let edges = c.args.edges.now in record {
      judged = (let was = c.loop-edge.invariant.judged in let now = c.take_of_second.ensures.judged in omega (arith, was, now));
      others = c.take_of_second.ensures.first ∙ c.loop-edge.invariant.others;
      runs = λ p v w es ended fs runs.
          subst (λ l. Runs p v w es ended l false c.take_of_second.new.self)
          (next_list fs edges i _ c.loop-edge-test.true)
          (c.in_ok-take_of_second.ensures.runs p v w es ended (fs ++ take i edges)
          (c.loop-edge.invariant.runs p v w es ended fs runs));
    }

pub returns-clause-stands : goal.returns-clause-stands
returns-clause-stands c = λ p v w es ended fs stands.
    let runs = subst (λ l. Runs p v w es ended (fs ++ l) false c.loop-edge.self)
    (take_all c.loop-edge.edge-index c.args.edges.now (omega arith))
    (c.loop-edge.invariant.runs p v w es ended fs stands.0) in (
      runs_on p v w es (fs ++ c.args.edges.now) ended false ended false c.loop-edge.self c.advance.new.self runs
          c.advance.ensures.going (c.advance.ensures.ended ∙ runs.first_ends)
          (c.advance.ensures.over ∙ runs.second_ends),
      c.advance.ensures.idle,
    )
