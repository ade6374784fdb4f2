use Rattle.std.proofs.Common.{◌∙◌, subst}
use Rattle.std.specs.Io.KnownBytes.{Appends}
use Rattle.vme_reading.proofs.WrittenLines.{front_kept, on_err}
use Rattle.vme_replay.proofs.lines.close.Goals as goal

pub returns-clause-front : goal.returns-clause-front
returns-clause-front g c =
    on_err _ _ (front_kept _ _ _ _ (subst (Appends _ _) (c.as_slice.ensures.value ∙ c.closing_line.ensures) c.in_ok-put.ensures.ok) c.flush.ensures.kept)
