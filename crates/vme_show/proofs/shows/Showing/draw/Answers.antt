use Rattle.std.proofs.Common.{Option, List, OnErr, subst, arith}
use Rattle.vme_model.specs.declared.signals.Edge.{Edge}
use Rattle.vme_model.specs.Verdict.{State}
use Rattle.vme_trace.specs.Writing.{AppendsFront}
use Rattle.vme_show.specs.Columns.{Seen}
use Rattle.vme_show.specs.Stretches.{Stage, IsCount, IsOpen}
use Rattle.vme_show.specs.Shown.{IsShown, stretch_text}
use Rattle.vme_show.proofs.ShownPieces.{flushed}
use Rattle.vme_show.proofs.shows.Showing.draw.Goals as goal

pub draw-requires-clause-fits : goal.draw-requires-clause-fits
draw-requires-clause-fits g c =
    let opened : IsCount c.self.inside.stretch.from c.self.inside.judged c.in-Some.window = subst (λ (w : Option Seen). IsOpen c.self.inside.stretch.from c.self.inside.judged w) c.in-Some.is
    c.self.invariant.open_at in
    let first = opened.first_is in
    let count = opened.count in
    let within = c.self.invariant.within in
    let most = c.self.invariant.stretch.most in
    omega (arith, first, count, within, most)

pub returns-in_ok-draw-in-Some-clause-front : goal.returns-in_ok-draw-in-Some-clause-front
returns-in_ok-draw-in-Some-clause-front g c =
    let opened : IsCount c.self.inside.stretch.from c.self.inside.judged c.in-Some.window = subst (λ (w : Option Seen). IsOpen c.self.inside.stretch.from c.self.inside.judged w) c.in-Some.is
    c.self.invariant.open_at in
    let old : Stage = record { bus = c.self.inside.bus; stretch = c.self.inside.stretch; judged = c.self.inside.judged; window = c.self.inside.window } in
    subst (λ (s : Stage). OnErr c.flush.result ((b : State) (es : List Edge) → IsShown b es s → AppendsFront (g.W.Write.contents c.args.out.now) (g.W.Write.contents c.flush.new.out)
    (stretch_text s.stretch b es))) c.self.view_is
    (flushed c.flush.result old c.in-Some.window _ _ _ c.in_ok-draw-in-Some.ensures.ok c.flush.ensures.kept c.self.invariant.within opened.first_is c.in-Some.is)
