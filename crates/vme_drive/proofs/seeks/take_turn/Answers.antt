use Rattle.std.proofs.Common.{◌≡◌, ◌∙◌, ap, sym, None}
use Rattle.std.proofs.lemmas.Result.{err_from_is_err_and}
use Rattle.vme_seeds.specs.Walks.{Walk, drawn, with_edge}
use Rattle.vme_drive.specs.Seeking.{missed_by, turned}
use Rattle.vme_drive.proofs.ListedLines.{edge_listed, edge_cut}
use Rattle.vme_drive.proofs.DrawnLines.{before_turned}
use Rattle.vme_drive.proofs.SoughtGoals.{made_turns}
use Rattle.vme_drive.proofs.seeks.take_turn.Goals as goal

pub returns-in_err-put_line-in-Some-draw-clause-listed : goal.returns-in_err-put_line-in-Some-draw-clause-listed
returns-in_err-put_line-in-Some-draw-clause-listed g c =
    let e = err_from_is_err_and c.from_residual.result c.from_residual.ensures.1 in
    rw (e.1, e.2) (
      c.in_err-put_line-in-Some-draw.ensures.fault,
      λ first listed. edge_cut c.args.walk.now.state (turned c.args.goal c.args.walk.now).state _ _ _ (before_turned c.args.goal c.args.walk.now)
          c.in_err-put_line-in-Some-draw.ensures.front first listed,
    )

pub returns-then-has_come-clause-listed : goal.returns-then-has_come-clause-listed
returns-then-has_come-clause-listed g c =
    let w = c.args.walk.now in
    let e = c.in-Some-draw.edge in
    let unmissed : None ≡ missed_by c.args.goal w.state = sym c.in-None.is ∙ c.missed_by.ensures ∙ ap (missed_by c.args.goal) c.bus.ensures in
    let made_on : c.make.new.walk ≡ with_edge (drawn w) e = c.make.ensures.walk ∙ ap (λ (v : Walk). with_edge v e) c.draw.ensures.state in (
      ap (λ (v : Walk). v.state) (made_on ∙ made_turns c.args.goal w unmissed e (sym c.in-Some-draw.is ∙ c.draw.ensures.edge)),
      edge_listed w.state c.make.new.walk.state e _ _ _ _ (ap (λ (v : Walk). v.state) made_on) c.in_ok-put_line-in-Some-draw.ensures.ok,
    )

pub returns-else-has_come-clause-listed : goal.returns-else-has_come-clause-listed
returns-else-has_come-clause-listed g c =
    let w = c.args.walk.now in
    let e = c.in-Some-draw.edge in
    let unmissed : None ≡ missed_by c.args.goal w.state = sym c.in-None.is ∙ c.missed_by.ensures ∙ ap (missed_by c.args.goal) c.bus.ensures in
    let made_on : c.make.new.walk ≡ with_edge (drawn w) e = c.make.ensures.walk ∙ ap (λ (v : Walk). with_edge v e) c.draw.ensures.state in (
      ap (λ (v : Walk). v.state) (made_on ∙ made_turns c.args.goal w unmissed e (sym c.in-Some-draw.is ∙ c.draw.ensures.edge)),
      edge_listed w.state c.make.new.walk.state e _ _ _ _ (ap (λ (v : Walk). v.state) made_on) c.in_ok-put_line-in-Some-draw.ensures.ok,
    )
