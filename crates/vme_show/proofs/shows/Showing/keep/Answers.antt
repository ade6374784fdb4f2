use Rattle.std.proofs.Common.{◌+◌, ◌<◌, ◌≤◌, Option, length, refl, sym, ap, subst, arith}
use Rattle.vme_show.specs.Columns.{Seen}
use Rattle.vme_show.specs.Stretches.{Stage}
use Rattle.vme_show.specs.Shown.{IsKept, IsShown}
use Rattle.vme_show.proofs.ShownPieces.{begun_before, begun_now, grown, next_shown}
use Rattle.vme_show.proofs.shows.Showing.keep.Goals as goal

pub returns-in-Some-clause-shown : goal.returns-in-Some-clause-shown
returns-in-Some-clause-shown c = λ b es h.
    let from = c.self.inside.stretch.from in
    let old : Stage = record { bus = c.self.inside.bus; stretch = c.self.inside.stretch; judged = c.self.inside.judged; window = c.self.inside.window } in
    let was : IsShown b es old = subst (λ (s : Stage). IsShown b es s) (sym c.self.view_is) h in
    next_shown b es c.args.edge old _ c.step.ensures.bus refl refl was
    (grown b _ es _ from _ _ was.bus (begun_before b es from _ (subst (λ (w : Option Seen). IsKept b es from w) c.in-Some.is was.window)) c.step.ensures.window)

pub returns-in-None-clause-shown : goal.returns-in-None-clause-shown
returns-in-None-clause-shown c = λ b es h.
    let from = c.self.inside.stretch.from in
    let old : Stage = record { bus = c.self.inside.bus; stretch = c.self.inside.stretch; judged = c.self.inside.judged; window = c.self.inside.window } in
    let was : IsShown b es old = subst (λ (s : Stage). IsShown b es s) (sym c.self.view_is) h in
    let low : length es < from = subst (λ (w : Option Seen). IsKept b es from w) c.in-None.is was.window in
    let high : from ≤ length es + 1 = (let is = h.judged in let asked = c.requires.from in let same = ap (λ (s : Stage). s.stretch.from) c.self.view_is in omega (arith, is, asked, same)) in
    next_shown b es c.args.edge old _ c.step-in-None.ensures.bus refl refl was
    (grown b _ es _ from _ _ was.bus (begun_now b _ es from _ was.bus low high c.new-window.ensures) c.step-in-None.ensures.window)
