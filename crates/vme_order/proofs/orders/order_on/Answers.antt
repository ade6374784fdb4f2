use Rattle.std.proofs.Common.{subst, sym}
use Rattle.std.proofs.KnownBytes.{Keeps-refl}
use Rattle.std.proofs.lemmas.Result.{err_from_is_err_and}
use Rattle.vme_reading.specs.Streams.{streams}
use Rattle.vme_moments.specs.Orders.{AreInOrder}
use Rattle.vme_order.proofs.Answered.{cut_off, found_in, not_read, written}
use Rattle.vme_order.proofs.orders.order_on.Goals as goal

pub longest-requires-clause-ascending : goal.longest-requires-clause-ascending
longest-requires-clause-ascending g c =
    subst AreInOrder (sym c.deref.ensures.value) c.in_ok-moments.ensures.ordered

pub returns-in_err-moments : goal.returns-in_err-moments
returns-in_err-moments g c =
    let e = err_from_is_err_and c.from_residual.result c.from_residual.ensures.1 in
    rw (e.1, e.2)
    (not_read c.args.form c.args.slacks.now c.args.plan
    (streams (g.R.Read.remaining c.args.moments.now) (g.R.Read.remaining c.read_moments.new.input) (g.W.Write.contents c.args.out.now) (g.W.Write.contents c.args.out.now))
    c.in_err-moments.field-0.0 c.requires c.in_err-moments.ensures.reads (Keeps-refl (g.W.Write.contents c.args.out.now)))

pub returns-in_err-write : goal.returns-in_err-write
returns-in_err-write g c =
    let e = err_from_is_err_and c.from_residual-in_err-write.result c.from_residual-in_err-write.ensures.1 in
    let read = c.in_ok-moments.ensures.reads in
    let moments = c.in_ok-moments.moments in
    let found = c.in_ok-found.found in
    let s = streams (g.R.Read.remaining c.args.moments.now) (g.R.Read.remaining c.read_moments.new.input) (g.W.Write.contents c.args.out.now) (g.W.Write.contents c.write.new.out) in
    rw (e.1, e.2)
    (cut_off c.args.form c.args.slacks.now c.args.plan c.requires s read.0 read.1 moments read.3 found.order.items found.next.items
    (found_in moments.version c.args.plan c.args.slacks.now moments.seen.items c.deref.result.now found.order.items found.next.items c.deref.ensures.value c.in_ok-found.ensures.longest
    c.in_ok-found.ensures.next)
    c.in_err-write.field-0.0 c.in_err-write.ensures.fault c.in_err-write.ensures.front)

pub returns : goal.returns
returns g c =
    let read = c.in_ok-moments.ensures.reads in
    let moments = c.in_ok-moments.moments in
    let found = c.in_ok-found.found in
    let s = streams (g.R.Read.remaining c.args.moments.now) (g.R.Read.remaining c.read_moments.new.input) (g.W.Write.contents c.args.out.now) (g.W.Write.contents c.write.new.out) in
    written c.args.form c.args.slacks.now c.args.plan c.requires s read.0 read.1 moments read.3 found.order.items found.next.items
    (found_in moments.version c.args.plan c.args.slacks.now moments.seen.items c.deref.result.now found.order.items found.next.items c.deref.ensures.value c.in_ok-found.ensures.longest
    c.in_ok-found.ensures.next)
    c.status_of.result read.2 c.in_ok-write.ensures.ok c.status_of.ensures
