use Rattle.std.proofs.Common.{arith}
use Rattle.vme_replay.proofs.RecordedLines.{lines_of_group}
use Rattle.vme_reading.proofs.WrittenLines.{handed_on, handed_front, lines_put, on_err}
use Rattle.vme_replay.proofs.lines.write_lines.Goals as goal

pub returns-in_err-make_room-clause-front : goal.returns-in_err-make_room-clause-front
returns-in_err-make_room-clause-front g c =
    on_err c.from_residual.result _ (handed_front _ _ _ _ _ _ c.loop-rest.invariant.run c.in_err-make_room.ensures.front)

pub loop-rest-preserved : goal.loop-rest-preserved
loop-rest-preserved g c = record {
  number = omega arith;
  run =
      lines_put _ _ _ _ _ _ _ _ (handed_on _ _ _ _ _ _ c.loop-rest.invariant.run _ c.in_ok-make_room.ensures.ok)
      (lines_of_group c.loop-rest.count c.min-many.result c.advance.new.self c.loop-rest.rest.now c.split_at.result.0.now c.split_at.result.1.now
      (omega arith) c.split_at.ensures.front c.split_at.ensures.back (omega arith)) c.push_lines.ensures;
}
