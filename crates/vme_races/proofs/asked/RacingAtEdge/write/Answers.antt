use Rattle.std.proofs.KnownBytes.{Appends-kept}
use Rattle.std.proofs.lemmas.Result.{err_from_is_err_and}
use Rattle.vme_reading.proofs.WrittenLines.{front_kept}
use Rattle.vme_races.proofs.asked.RacingAtEdge.write.Goals as goal

pub returns-in_err-put : goal.returns-in_err-put
returns-in_err-put g c = λ p v es taken number.
    let e = err_from_is_err_and c.from_residual.result c.from_residual.ensures.1 in
    rw (e.1, e.2) (
      c.in_err-put.ensures.fault,
      c.line_of-line.result.1,
      c.line_of-line.result.0.items,
      c.line_of-line.ensures p v es taken number,
      rw (c.as_slice.ensures.value) at c.in_err-put.ensures.front,
    )

pub returns-in_err-flush : goal.returns-in_err-flush
returns-in_err-flush g c = λ p v es taken number.
    let e = err_from_is_err_and c.from_residual-in_err-flush.result
    c.from_residual-in_err-flush.ensures.1 in
    rw (e.1, e.2) (
      c.in_err-flush.ensures.fault,
      c.line_of-line.result.1,
      c.line_of-line.result.0.items,
      c.line_of-line.ensures p v es taken number,
      front_kept _ _ _ c.line_of-line.result.0.items
          (rw (c.as_slice.ensures.value) at c.in_ok-put.ensures.ok) c.in_err-flush.ensures.kept,
    )

pub returns : goal.returns
returns g c = λ p v es taken number. (
  c.line_of-line.result.0.items,
  c.line_of-line.ensures p v es taken number,
  Appends-kept _ _ _ c.line_of-line.result.0.items
      (rw (c.as_slice.ensures.value) at c.in_ok-put.ensures.ok) c.in_ok-flush.ensures.kept,
)
