use Rattle.std.proofs.Common.{arith}
use Rattle.vme_trace.proofs.WrittenLines.{on_err_map}
use Rattle.vme_engines.proofs.WrittenLines.{handed_on, judged_more, judged_front, on_err}
use Rattle.vme_engines.proofs.lines.write_verdicts.Goals as goal

pub returns-in_err-make_room-clause-front : goal.returns-in_err-make_room-clause-front
returns-in_err-make_room-clause-front g c =
    on_err c.from_residual.result _ (judged_front _ _ _ _ _ _ _ _ _ _ c.loop-edge.invariant.run c.in_err-make_room.ensures.front)

pub loop-edge-preserved : goal.loop-edge-preserved
loop-edge-preserved g c = record {
  number = omega arith;
  run =
      rw (c.push_line.ensures, c.step.ensures.answer, c.advance.ensures)
      (judged_more _ _ _ _ _ _ _ c.loop-edge.edge-index c.args.edges.now _ (omega arith) (handed_on _ _ _ _ _ _ _ _ _ _ c.loop-edge.invariant.run _ c.in_ok-make_room.ensures.ok)
      c.step.new.self c.step.ensures.state);
}

pub returns-clause-front : goal.returns-clause-front
returns-clause-front g c =
    on_err_map c.hand_on.result _ _ (λ w. judged_front _ _ _ _ _ _ _ _ _ _ c.loop-edge.invariant.run w) c.hand_on.ensures.front
