use Rattle.std.proofs.KnownBytes.{Appends-kept}
use Rattle.vme_reading.proofs.WrittenLines.{front_kept, on_err}
use Rattle.vme_races.proofs.racing.Racing.write_line_of.Goals as goal

pub returns-in_err-put-clause-cuts : goal.returns-in_err-put-clause-cuts
returns-in_err-put-clause-cuts g c =
    on_err c.from_residual.result _ (λ p v es taken. (
      c.line_of-line.result.1,
      c.line_of-line.result.0.items,
      c.line_of-line.ensures p v es taken,
      rw (c.as_slice.ensures.value) at c.in_err-put.ensures.front,
    ))

pub returns-in_err-flush-clause-cuts : goal.returns-in_err-flush-clause-cuts
returns-in_err-flush-clause-cuts g c =
    on_err c.from_residual-in_err-flush.result _ (λ p v es taken. (
      c.line_of-line.result.1,
      c.line_of-line.result.0.items,
      c.line_of-line.ensures p v es taken,
      front_kept _ _ _ c.line_of-line.result.0.items (rw (c.as_slice.ensures.value) at c.in_ok-put.ensures.ok) c.in_err-flush.ensures.kept,
    ))

pub returns-clause-writes : goal.returns-clause-writes
returns-clause-writes g c = λ p v es taken. (
  c.line_of-line.result.0.items,
  c.line_of-line.ensures p v es taken,
  Appends-kept _ _ _ c.line_of-line.result.0.items (rw (c.as_slice.ensures.value) at c.in_ok-put.ensures.ok) c.in_ok-flush.ensures.kept,
)
