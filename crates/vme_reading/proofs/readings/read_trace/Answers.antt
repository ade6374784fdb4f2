use Rattle.std.proofs.lemmas.Result.{err_from_is_err_and}
use Rattle.std.proofs.KnownBytes.{Keeps-refl}
use Rattle.vme_reading.specs.Streams.{streams}
use Rattle.vme_reading.proofs.readings.read_trace.Goals as goal

pub returns-in_err-version : goal.returns-in_err-version
returns-in_err-version g c =
    let e = err_from_is_err_and c.from_residual.result c.from_residual.ensures.1 in
    let none = c.in_err-version.ensures.unbegun in
    rw (e.1, e.2) (
      none.0,
      none.1,
      g.met.J.Judge.unbegun c.args.task.now c.requires.can _ none.0 (streams _ _ _ _) _ (Keeps-refl _) none.2,
    )

pub returns : goal.returns
returns g c = c.read_on.ensures c.args.task.now c.args.plan _ _ (c.begin-judge.ensures.stands c.args.plan _ _ c.new.ensures) c.in_ok-version.ensures.begun
