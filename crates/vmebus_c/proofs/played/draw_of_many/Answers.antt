use Rattle.std.proofs.Common.{◌≡◌, ◌∙◌, ap, ℕ, Bool, List, arith}
use Rattle.vme_model.specs.declared.signals.Edge.{Edge}
use Rattle.vme_seeds.specs.Draws.{next_by}
use Rattle.vme_seeds.specs.Kinds.{has_board}
use Rattle.vmebus_c.proofs.played.draw_of_many.Goals as goal

pub returns-clause-edge : goal.returns-clause-edge
returns-clause-edge c = λ version p h at is.
    c.draw_one.ensures.edge
    ∙ ap (λ (f : ℕ → Bool). next_by c.args.draws.now f c.as_slice.result.now) is
    ∙ ap (λ (es : List Edge). next_by c.args.draws.now (has_board p) es) (c.as_slice.ensures.edges ∙ c.append_all.ensures.all (c.append_all.ensures.fit (omega arith)) version p h at is)
