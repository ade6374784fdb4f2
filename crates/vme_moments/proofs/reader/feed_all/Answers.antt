use Rattle.std.proofs.Common.{arith, subst, take}
use Rattle.std.proofs.lemmas.List.{length-take}
use Rattle.std.proofs.lemmas.Result.{err_from_is_err_and}
use Rattle.std.specs.Io.KnownBytes.{Consumes}
use Rattle.vme_moments.proofs.InputRead.{at_end, begun, faulty, fed_more, gave_up, unread}
use Rattle.vme_moments.proofs.reader.feed_all.Goals as goal

pub reads-init : goal.reads-init
reads-init g c = begun (g.R.Read.remaining c.args.input.now) c.args.reader.now c.requires

pub returns-in-Err : goal.returns-in-Err
returns-in-Err g c =
    rw (c.in-Err.ensures.fault)
    (unread (g.R.Read.remaining c.args.input.now) (g.R.Read.remaining c.reads.input)
    (g.R.Read.remaining c.read_piece.new.input) c.reads.reader c.reads.invariant.read c.in-Err.ensures.err)

pub returns-then-count-eq0 : goal.returns-then-count-eq0
returns-then-count-eq0 g c =
    at_end (g.R.Read.remaining c.args.input.now) (g.R.Read.remaining c.reads.input)
    (g.R.Read.remaining c.read_piece.new.input) c.reads.reader c.reads.invariant.read
    (subst (λ n. Consumes (g.R.Read.remaining c.reads.input) (g.R.Read.remaining c.read_piece.new.input) (take n c.read_piece.new.buffer)) c.if-count-eq0.true c.in-Ok.ensures.ok.1)
    (c.in-Ok.ensures.ok.2 c.if-count-eq0.true)

pub returns-in_err-feed : goal.returns-in_err-feed
returns-in_err-feed g c =
    let e = err_from_is_err_and c.from_residual.result c.from_residual.ensures.1 in
    rw (e.1, e.2)
    (faulty (g.R.Read.remaining c.args.input.now) (g.R.Read.remaining c.reads.input) (g.R.Read.remaining c.read_piece.new.input) c.reads.reader (take c.in-Ok.count c.read_piece.new.buffer)
    c.in_err-feed.field-0.0 c.reads.invariant.read c.in-Ok.ensures.ok.1 c.in_err-feed.ensures)

pub reads-preserved : goal.reads-preserved
reads-preserved g c =
    fed_more c.reads.done (g.R.Read.remaining c.args.input.now) (g.R.Read.remaining c.reads.input) (g.R.Read.remaining c.read_piece.new.input) c.reads.reader c.feed.new.self
    (take c.in-Ok.count c.read_piece.new.buffer) c.reads.invariant c.in-Ok.ensures.ok.1
    (rw (length-take c.in-Ok.count c.read_piece.new.buffer) (omega (arith, c.in-Ok.ensures.ok.0, c.if-count-eq0.false, c.read_piece.array_long))) c.in_ok-feed.ensures

pub returns : goal.returns
returns g c =
    gave_up c.reads.done (g.R.Read.remaining c.args.input.now) (g.R.Read.remaining c.reads.input)
    c.reads.reader c.reads.invariant (omega (arith, c.reads-test.false))
