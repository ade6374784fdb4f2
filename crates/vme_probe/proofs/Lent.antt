-- The text of a scenario is lent to the engine: `probes`.
use Rattle.std.proofs.Common.{◌≡◌, ◌≤◌, ℕ, List, Option, Ok, Err, length}
use Rattle.vme_model.specs.Plan.{Plan}
use Rattle.vme_scenario.specs.Format.{scenario}
use Rattle.vme_reading.specs.declared.EngineFault.TheVariants as engine
use Rattle.vme_reading.specs.Outcomes.{scenario_limit}
use Rattle.vme_reading.specs.Streams.{Streams}
use Rattle.vme_probe.specs.declared.probes.ProbeFault.TheVariants as fault
use Rattle.vme_probe.specs.Probing.{Answer, LentText, ProbesText}

-- it ran on the plan of the text
pub lent : (text : List ℕ) (nothing : Type 0) (p : Plan) (skew : Option ℕ) (s : Streams) (a : Answer) → length text ≤ scenario_limit → scenario text ≡ Ok p → ProbesText skew s p a → LentText text nothing (ProbesText skew s) a
lent text nothing p skew s (Ok status) few is h = (p, few, is, h)
lent text nothing p skew s (Err (fault.Capture f)) few is h = (p, few, is, h)
lent text nothing p skew s (Err fault.TooManyOrders) few is h = (p, few, is, h)
lent text nothing p skew s (Err (fault.Engine engine.TooLong)) few is h = absurd h.2
lent text nothing p skew s (Err (fault.Engine (engine.Scenario e))) few is h = absurd h.2
lent text nothing p skew s (Err (fault.Engine (engine.Trace f))) few is h = (p, few, is, h)
lent text nothing p skew s (Err (fault.Engine engine.NoMemory)) few is h = (p, few, is, h)
lent text nothing p skew s (Err (fault.Engine engine.CannotRead)) few is h = (p, few, is, h)
lent text nothing p skew s (Err (fault.Engine (engine.Beyond n))) few is h = (p, few, is, h)
