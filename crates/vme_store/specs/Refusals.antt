-- When there is no trace. (Profile.)
use Rattle.std.specs.Prelude.{◌==◌, ℕ, Option, Some, None, if◌then◌else◌, nat_lt}
use Rattle.vme_model.specs.Report.{trace_limit}
use Rattle.vme_store.specs.Pages.{pages_for}
use Rattle.vme_store.specs.declared.traces.TraceError.{TraceError}
use Rattle.vme_store.specs.declared.traces.TraceError.TheVariants.{TooMany, WrongLeases}

-- the reason for which a trace of max edges on so many leases is refused, memory aside
abbrev pub refusal : ℕ → ℕ → Option TraceError
refusal max leases =
    if nat_lt trace_limit max then Some TooMany
    else if leases == pages_for max then None
    else Some (WrongLeases (pages_for max) leases)
