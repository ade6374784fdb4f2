use Rattle.std.proofs.Common.{inr, ◌++◌, ◌∙◌, ap, Ok}
use Rattle.std.proofs.lemmas.Result.{err_from_is_err_and}
use Rattle.vme_engines.proofs.summaries.sum_piece.Goals as goal

pub returns-in_err-tell-in-Ok-false : goal.returns-in_err-tell-in-Ok-false
returns-in_err-tell-in-Ok-false g c =
    let e = err_from_is_err_and c.from_residual.result c.from_residual.ensures.1 in
    rw (e.1, e.2)
    (inr (
      c.in_err-tell-in-Ok-false.ensures.fault,
      c.in-Ok-false.is ∙ ap (λ b. Ok b) c.in-Ok-false.field-0-test,
      λ b es is. c.in_err-tell-in-Ok-false.ensures.front b (es ++ c.args.edges.now) (c.take_edges.ensures.sum b es is),
    ))

pub returns-in_ok-tell-in-Ok-false : goal.returns-in_ok-tell-in-Ok-false
returns-in_ok-tell-in-Ok-false g c = (
  c.in-Ok-false.is ∙ ap (λ b. Ok b) c.in-Ok-false.field-0-test,
  λ b es is. (
    c.in_ok-tell-in-Ok-false.ensures.ok b (es ++ c.args.edges.now) (c.take_edges.ensures.sum b es is),
    c.in_ok-tell-in-Ok-false.ensures.status b (es ++ c.args.edges.now) (c.take_edges.ensures.sum b es is),
  ),
)
