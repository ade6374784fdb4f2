-- What each error says about a scenario.
use Rattle.std.specs.Prelude.{◌≡◌, ◌≢◌, ⊤, Result, Err, IsOk, string_bytes}
use Rattle.vme_model.specs.declared.refusals.PlanError.TheVariants as refusal
use Rattle.vme_model.specs.Plan.{Plan}
use Rattle.vme_scenario.specs.declared.errors.ScenarioError.{ScenarioError}
use Rattle.vme_scenario.specs.declared.errors.ScenarioError.TheVariants as error
use Rattle.vme_scenario.specs.Faults.{Fault, not_toml, unknown, missing, bad, plan}

-- the error is what is wrong; an error for want of memory says nothing, but P9 comes only if the
-- scenario is right
abbrev pub IsErrorOf : Result Plan Fault → ScenarioError → Type 0
IsErrorOf r error.NotToml = r ≡ Err not_toml
IsErrorOf r (error.UnknownKey key) = r ≡ Err (unknown (string_bytes key))
IsErrorOf r (error.Missing key) = r ≡ Err (missing (string_bytes key))
IsErrorOf r (error.BadValue key) = r ≡ Err (bad (string_bytes key))
IsErrorOf r (error.Plan e) = (e ≢ refusal.Memory → r ≡ Err (plan e)) × (e ≡ refusal.Memory → IsOk r)
IsErrorOf r error.Memory = ⊤
