use Rattle.std.proofs.Common.{length, refl, sym, subst}
use Rattle.vme_show.specs.Stretches.{Stage}
use Rattle.vme_show.specs.Shown.{IsBefore, IsShown}
use Rattle.vme_show.proofs.ShownPieces.{skipped}
use Rattle.vme_show.proofs.shows.Showing.skip.Goals as goal

pub returns-clause-shown : goal.returns-clause-shown
returns-clause-shown c = λ b es h.
    let old : Stage = record { bus = c.self.inside.bus; stretch = c.self.inside.stretch; judged = c.self.inside.judged; window = c.self.inside.window } in
    skipped b es _ old _ (subst (λ (s : Stage). IsBefore s (length c.args.edges.now)) (sym c.self.view_is) c.requires.before) c.run.ensures.state refl refl refl
    (subst (λ (s : Stage). IsShown b es s) (sym c.self.view_is) h)
