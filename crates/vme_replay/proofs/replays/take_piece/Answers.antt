use Rattle.std.proofs.Common.{Ok, inr, ◌∙◌, ap}
use Rattle.std.proofs.lemmas.Result.{err_from_is_err_and}
use Rattle.vme_reading.proofs.WrittenLines.{front_of_more, closing_front}
use Rattle.vme_replay.proofs.replays.take_piece.Goals as goal

pub returns-in_err-write_form : goal.returns-in_err-write_form
returns-in_err-write_form g c =
    let p = err_from_is_err_and c.from_residual.result c.from_residual.ensures.1 in
    rw (p.1, p.2) (inr (c.in_err-write_form.ensures.fault, front_of_more _ _ _ _ c.in_err-write_form.ensures.front))

pub returns-in_err-close-in-Ok-false : goal.returns-in_err-close-in-Ok-false
returns-in_err-close-in-Ok-false g c =
    let p = err_from_is_err_and c.from_residual-in_err-close-in-Ok-false.result c.from_residual-in_err-close-in-Ok-false.ensures.1 in
    rw (p.1, p.2)
    (inr (
      c.in_err-close-in-Ok-false.ensures.fault,
      closing_front _ _ _ _ _ _ _ _ _ _ _ (c.in-Ok-false.is ∙ ap (λ b. Ok b) c.in-Ok-false.field-0-test) c.in_ok-write_form.ensures.state
          (c.from-accepted.ensures ∙ c.len.ensures) c.saturating_sub-refused.ensures
          c.in_ok-write_form.ensures.ok c.in_err-close-in-Ok-false.ensures.front,
    ))
