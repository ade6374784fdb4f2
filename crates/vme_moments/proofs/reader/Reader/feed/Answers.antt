use Rattle.std.proofs.Common.{arith}
use Rattle.std.proofs.lemmas.Result.{err_from_is_err_and}
use Rattle.vme_moments.proofs.TakenBytes.{piece_faulty, piece_more, piece_whole, taken_none}
use Rattle.vme_moments.proofs.reader.Reader.feed.Goals as goal

pub loop-byte-init : goal.loop-byte-init
loop-byte-init c = taken_none c.args.self.now c.requires

pub returns-in_err-take : goal.returns-in_err-take
returns-in_err-take c =
    let p = err_from_is_err_and c.from_residual.result c.from_residual.ensures.1 in
    rw (p.1, p.2)
    (piece_faulty c.args.self.now c.loop-byte.self c.args.piece.now c.loop-byte.byte-index _
    (omega arith) c.loop-byte.invariant c.in_err-take.ensures)

pub loop-byte-preserved : goal.loop-byte-preserved
loop-byte-preserved c =
    piece_more c.args.self.now c.loop-byte.self c.take.new.self c.args.piece.now c.loop-byte.byte-index
    (omega arith) c.loop-byte.invariant c.in_ok-take.ensures

pub returns : goal.returns
returns c =
    piece_whole c.args.self.now c.loop-byte.self c.args.piece.now c.loop-byte.byte-index
    (omega arith) c.loop-byte.invariant
