use Rattle.std.proofs.Common.{◌+◌, ◌∙◌, ap}
use Rattle.vme_races.specs.Lines.{count_if}
use Rattle.vme_races.proofs.TakenIn.{noted}
use Rattle.vme_races.proofs.racing.Counts.note.Goals as goal

pub returns : goal.returns
returns c = λ walks few is.
    let old = c.args.self.now in
    noted walks c.args.walk.now old _ _ _ is few
    (λ room. c.counted-self.ensures room ∙ ap (λ t. old.races + count_if t) c.is_race.ensures)
    (λ room. c.counted-self-2.ensures room ∙ ap (λ t. old.waits + count_if t) c.is_wait.ensures)
    (λ room. c.counted-self-3.ensures room ∙ ap (λ t. old.free + count_if t) c.is_back.ensures)
