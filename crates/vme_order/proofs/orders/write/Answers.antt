use Rattle.std.proofs.Common.{◌≡◌, ◌∙◌, ap, length, sym}
use Rattle.vme_trace.proofs.WrittenLines.{on_err}
use Rattle.vme_order.proofs.SeenLines.{all_front, all_written, head_front, next_front, on_ok, order_front}
use Rattle.vme_order.proofs.orders.write.Goals as goal

pub returns-in_err-write_head-clause-front : goal.returns-in_err-write_head-clause-front
returns-in_err-write_head-clause-front g c =
    on_err c.from_residual.result _
    (head_front c.args.form c.args.moments.now.version c.args.plan c.args.moments.now.seen.items c.args.found.now.order.items c.args.found.now.next.items c.requires.order
    (g.W.Write.contents c.args.out.now) (g.W.Write.contents c.write_head.new.out) c.in_err-write_head.ensures.front)

pub returns-in_err-write_edges-clause-front : goal.returns-in_err-write_edges-clause-front
returns-in_err-write_edges-clause-front g c =
    let order = rw (c.deref.ensures.value, c.deref-2.ensures.value, c.new.ensures) at c.in_err-write_edges.ensures.front in
    on_err c.from_residual-in_err-write_edges.result _
    (order_front c.args.form c.args.moments.now.version c.args.plan c.args.moments.now.seen.items c.args.found.now.order.items c.args.found.now.next.items c.requires.order
    (g.W.Write.contents c.args.out.now) (g.W.Write.contents c.write_head.new.out) c.in_ok-write_head.ensures.ok (g.W.Write.contents c.write_edges.new.out) order)

pub returns-in_err-write_edges-2-clause-front : goal.returns-in_err-write_edges-2-clause-front
returns-in_err-write_edges-2-clause-front g c =
    let order = rw (c.deref.ensures.value, c.deref-2.ensures.value, c.new.ensures) at c.in_ok-write_edges.ensures.ok in
    let count : c.len-made.result ≡ length c.args.found.now.order.items =
    c.len-made.ensures ∙ sym c.deref-2.ensures.len ∙ ap length c.deref-2.ensures.value in
    let next = rw (c.in_ok-write_edges.ensures.state, c.new.ensures, c.deref.ensures.value, c.deref-2.ensures.value, c.deref-3.ensures.value, c.deref-4.ensures.value, count) at
    c.in_err-write_edges-2.ensures.front in
    on_err c.from_residual-in_err-write_edges-2.result _
    (next_front c.args.form c.args.moments.now.version c.args.plan c.args.moments.now.seen.items c.args.found.now.order.items c.args.found.now.next.items c.requires.order
    (g.W.Write.contents c.args.out.now) (g.W.Write.contents c.write_head.new.out) c.in_ok-write_head.ensures.ok (g.W.Write.contents c.write_edges.new.out) order
    (g.W.Write.contents c.write_edges-2.new.out) next)

pub returns-clause-ok : goal.returns-clause-ok
returns-clause-ok g c =
    let order = rw (c.deref.ensures.value, c.deref-2.ensures.value, c.new.ensures) at c.in_ok-write_edges.ensures.ok in
    let count : c.len-made.result ≡ length c.args.found.now.order.items =
    c.len-made.ensures ∙ sym c.deref-2.ensures.len ∙ ap length c.deref-2.ensures.value in
    let next = rw (c.in_ok-write_edges.ensures.state, c.new.ensures, c.deref.ensures.value, c.deref-2.ensures.value, c.deref-3.ensures.value, c.deref-4.ensures.value, count) at
    c.in_ok-write_edges-2.ensures.ok in
    on_ok c.flush.result _
    (all_written c.args.form c.args.moments.now.version c.args.plan c.args.moments.now.seen.items c.args.found.now.order.items c.args.found.now.next.items c.requires.order
    (g.W.Write.contents c.args.out.now) (g.W.Write.contents c.write_head.new.out) c.in_ok-write_head.ensures.ok (g.W.Write.contents c.write_edges.new.out) order
    (g.W.Write.contents c.write_edges-2.new.out) next (g.W.Write.contents c.flush.new.out) c.flush.ensures.kept)

pub returns-clause-front : goal.returns-clause-front
returns-clause-front g c =
    let order = rw (c.deref.ensures.value, c.deref-2.ensures.value, c.new.ensures) at c.in_ok-write_edges.ensures.ok in
    let count : c.len-made.result ≡ length c.args.found.now.order.items =
    c.len-made.ensures ∙ sym c.deref-2.ensures.len ∙ ap length c.deref-2.ensures.value in
    let next = rw (c.in_ok-write_edges.ensures.state, c.new.ensures, c.deref.ensures.value, c.deref-2.ensures.value, c.deref-3.ensures.value, c.deref-4.ensures.value, count) at
    c.in_ok-write_edges-2.ensures.ok in
    on_err c.flush.result _
    (all_front c.args.form c.args.moments.now.version c.args.plan c.args.moments.now.seen.items c.args.found.now.order.items c.args.found.now.next.items c.requires.order
    (g.W.Write.contents c.args.out.now) (g.W.Write.contents c.write_head.new.out) c.in_ok-write_head.ensures.ok (g.W.Write.contents c.write_edges.new.out) order
    (g.W.Write.contents c.write_edges-2.new.out) next (g.W.Write.contents c.flush.new.out) c.flush.ensures.kept)
