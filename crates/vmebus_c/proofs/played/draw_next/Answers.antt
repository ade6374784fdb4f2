use Rattle.std.proofs.Common.{◌≡◌, ◌∙◌, ap, ℕ, Bool, List}
use Rattle.vme_model.specs.declared.signals.Edge.{Edge}
use Rattle.vme_seeds.specs.Draws.{next_by}
use Rattle.vme_seeds.specs.Kinds.{has_board}
use Rattle.vmebus_c.proofs.played.draw_next.Goals as goal

pub returns-then-append_all-clause-edge : goal.returns-then-append_all-clause-edge
returns-then-append_all-clause-edge c = λ version p h at is.
    c.draw_one.ensures.edge
    ∙ ap (λ (f : ℕ → Bool). next_by c.args.draws.now f c.as_slice.result.now) is
    ∙ ap (λ (es : List Edge). next_by c.args.draws.now (has_board p) es) (c.as_slice.ensures.edges ∙ c.append_all.ensures.all c.if-append_all.true version p h at is)
