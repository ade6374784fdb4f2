-- What a drive with a seed writes and answers.
use Rattle.std.specs.Prelude.{◌≡◌, ◌==◌, ℕ, List, length, Option, Ok, Err, if◌then◌else◌}
use Rattle.std.specs.Io.KnownBytes.{Appends}
use Rattle.vme_model.specs.declared.signals.Version.{Version}
use Rattle.vme_model.specs.declared.signals.Edge.{Edge}
use Rattle.vme_model.specs.Plan.{Plan}
use Rattle.vme_model.specs.History.{in_order}
use Rattle.vme_model.specs.Verdict.{IsLegal}
use Rattle.vme_model.specs.Safe.{IsSafe, IsOrderly}
use Rattle.vme_model.specs.Text.{text, read_of}
use Rattle.vme_scenario.specs.Format.{scenario}
use Rattle.vme_trace.specs.declared.Fault.TheVariants.{Write}
use Rattle.vme_trace.specs.Writing.{AppendsFront}
use Rattle.vme_draws.specs.Walks.{at_start, walked}
use Rattle.vme_engines.specs.declared.Status.TheVariants.{Done, Limit}
use Rattle.vme_engines.specs.declared.EngineFault.TheVariants as fault
use Rattle.vme_engines.specs.Outcomes.{Answer, bench}
use Rattle.vme_engines.specs.Checking.{IsLegalTrace}

-- the edges that a seed draws on a plan, at most n of them, the newest first
abbrev pub walk : Plan → Version → ℕ → ℕ → List Edge
walk p version seed n = (walked n (at_start (bench p version) seed)).state.history

-- their trace
abbrev pub walk_text : Plan → Version → ℕ → ℕ → List ℕ
walk_text p version seed n = text version (in_order (walk p version seed n))

-- What a drive with a seed leaves, by what the writer held and holds: the trace of a legal list, which
-- `check` calls legal; at X8 a prefix of it.
abbrev pub Draws : Version → ℕ → ℕ → Option (List ℕ) → Option (List ℕ) → Plan → Answer → Type 0
Draws version seed n old new p (Ok status) =
    Appends old new (walk_text p version seed n)
    × IsLegal version p (walk p version seed n)
    × IsLegalTrace p (read_of (walk_text p version seed n))
    × (status ≡ (if length (walk p version seed n) == n then Limit else Done))
Draws version seed n old new p (Err (fault.Trace f)) =
    (f ≡ Write) × AppendsFront old new (walk_text p version seed n)
Draws version seed n old new p (Err _) = ⊥

-- The edges that a seed draws are a safe and orderly list.
abbrev pub DrawsSafely : List ℕ → Version → ℕ → ℕ → Type 0
DrawsSafely lent version seed n =
    (p : Plan) × (scenario lent ≡ Ok p) × IsSafe p (walk p version seed n)
    × IsOrderly version p (walk p version seed n)
