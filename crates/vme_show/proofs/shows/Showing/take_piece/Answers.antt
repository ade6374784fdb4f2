use Rattle.std.proofs.Common.{◌≡◌, ◌≤◌, Ok, Err, length, subst, arith, ◌∙◌, ap}
use Rattle.std.proofs.lemmas.Result.{err_from_is_err_and}
use Rattle.vme_show.specs.declared.shows.Stretch.{Stretch}
use Rattle.vme_show.specs.Stretches.{Stage}
use Rattle.vme_show.proofs.ShownPieces.{ends_then}
use Rattle.vme_show.proofs.shows.Showing.take_piece.Goals as goal

pub returns-then-self-clause-ends : goal.returns-then-self-clause-ends
returns-then-self-clause-ends g c = λ b es h low.
    let few : c.numbered_within-count.result ≤ length c.args.edges.now = (let is = c.numbered_within-count.ensures in omega (arith, is)) in
    ends_then _ b es _ _ _ _ c.take_in.new.self _ (Ok _) _ (subst (λ (s : Stage). s.stretch.from ≤ s.stretch.to) c.self.view_is c.self.invariant.stretch.order) c.take_in.ensures.stretch few
    (subst (λ (s : Stage). s.judged ≡ s.stretch.to) c.self-2.view_is c.if-self.true ∙ ap (λ (t : Stretch). t.to) c.take_in.ensures.stretch) (c.take_in.ensures.shown b es h) c.in_ok-end.ensures

pub returns-in_err-end-clause-ends : goal.returns-in_err-end-clause-ends
returns-in_err-end-clause-ends g c = λ b es h low.
    let few : c.numbered_within-count.result ≤ length c.args.edges.now = (let is = c.numbered_within-count.ensures in omega (arith, is)) in
    let e = err_from_is_err_and c.from_residual.result c.from_residual.ensures.1 in
    rw (e.1, e.2)
    (ends_then _ b es _ _ _ _ c.take_in.new.self _ (Err _) _ (subst (λ (s : Stage). s.stretch.from ≤ s.stretch.to) c.self.view_is c.self.invariant.stretch.order) c.take_in.ensures.stretch few
    (subst (λ (s : Stage). s.judged ≡ s.stretch.to) c.self-2.view_is c.if-self.true ∙ ap (λ (t : Stretch). t.to) c.take_in.ensures.stretch) (c.take_in.ensures.shown b es h) c.in_err-end.ensures)
