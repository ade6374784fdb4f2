use Rattle.std.proofs.Common.{◌∙◌, ℕ, List, OnErr, ap, subst, sym}
use Rattle.vme_trace.specs.Writing.{AppendsFront}
use Rattle.vme_order.specs.Lines.{seen_line}
use Rattle.vme_order.specs.Ordering.{place_line}
use Rattle.vme_order.proofs.lines.write_edge.Goals as goal

pub returns-in-Trace-clause-front : goal.returns-in-Trace-clause-front
returns-in-Trace-clause-front g c =
    subst (λ (l : List ℕ). OnErr c.write_line.result (AppendsFront (g.W.Write.contents c.args.out.now) (g.W.Write.contents c.write_line.new.out) l))
    (ap (λ f. seen_line f c.args.bus.now c.args.n c.args.seen.now) (sym c.in-Trace.is)) c.write_line.ensures.front

pub returns-in-Places-clause-front : goal.returns-in-Places-clause-front
returns-in-Places-clause-front g c =
    subst (λ (l : List ℕ). OnErr c.put.result (AppendsFront (g.W.Write.contents c.args.out.now) (g.W.Write.contents c.put.new.out) l))
    (c.as_slice.ensures.value ∙ c.place_line.ensures
    ∙ ap (λ found. place_line c.args.n c.args.seen.now found) c.step-answer.ensures.answer
    ∙ ap (λ f. seen_line f c.args.bus.now c.args.n c.args.seen.now) (sym c.in-Places.is)) c.put.ensures.front
