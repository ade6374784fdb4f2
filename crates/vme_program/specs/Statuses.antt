-- The exit status of a job that met no fault.
use Rattle.std.specs.Prelude.{ℕ}
use Rattle.vme_reading.specs.declared.Status.{Status}
use Rattle.vme_reading.specs.declared.Status.TheVariants.{Done, SomeRefused, Limit}

abbrev pub exit_code : Status → ℕ
exit_code Done = 0
exit_code SomeRefused = 2
exit_code Limit = 3
