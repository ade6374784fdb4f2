use Rattle.std.proofs.Common.{drop, arith}
use Rattle.vme_trace.specs.Taking.{HasLines}
use Rattle.vme_trace.proofs.KnownLines.{join_lines}
use Rattle.vme_trace.proofs.known.Known.take_blocks.Goals as goal

pub steps-preserved : goal.steps-preserved
steps-preserved g c =
    let piece = c.args.piece.now in
    let before : HasLines piece (drop c.steps.start piece) c.args.edges.now.items c.reserve.new.self.items = rw c.reserve.ensures.items c.steps.invariant.so_far in
    record {
      at = omega arith;
      next = c.take_block-start.ensures.next;
      so_far = join_lines _ _ _ _ _ _ before c.take_block-start.ensures.lines;
    }
