use Rattle.std.proofs.Common.{◌<◌, ◌∙◌, ◌++◌, length, subst, sym}
use Rattle.vme_show.specs.declared.shows.Stretch.{Stretch}
use Rattle.vme_reading.specs.Outcomes.{bench}
use Rattle.vme_show.specs.Shown.{Ends}
use Rattle.vme_show.proofs.ShownTraces.{shows_takes}
use Rattle.vme_show.proofs.shows.ShowingJudge.take.Goals as goal

pub returns-clause-takes : goal.returns-clause-takes
returns-clause-takes g c =
    λ r p v es old h.
    shows_takes p v r (es ++ c.args.edges.now) c.args.more old _ _ c.take_piece.new.self c.take_piece.result h.1 h.2 (c.take_piece.ensures.stretch ∙ h.0)
    (subst (λ (s : Stretch). Ends s (bench p v) (es ++ c.args.edges.now) c.args.more (g.W.Write.contents c.args.out.now) (g.W.Write.contents c.take_piece.new.out)
    c.take_piece.new.self c.take_piece.result) h.0
    (c.take_piece.ensures.ends (bench p v) es h.4 (subst (λ (s : Stretch). length es < s.to) (sym h.0) h.3)))
