-- What a drive writes and answers.
use Rattle.std.specs.Prelude.{◌≡◌, ◌==◌, ℕ, List, length, map, filter, is_some, Option, Ok, Err, if◌then◌else◌}
use Rattle.std.specs.Io.KnownBytes.{Appends}
use Rattle.vme_model.specs.declared.signals.Version.{Version}
use Rattle.vme_model.specs.declared.signals.Driver.{Driver}
use Rattle.vme_model.specs.declared.signals.Driver.TheVariants.{Slot}
use Rattle.vme_model.specs.declared.signals.Edge.{Edge}
use Rattle.vme_model.specs.Plan.{Plan, board, up_to}
use Rattle.vme_model.specs.History.{in_order}
use Rattle.vme_model.specs.Verdict.{IsLegal}
use Rattle.vme_model.specs.Safe.{IsSafe}
use Rattle.vme_model.specs.Offers.{rounds}
use Rattle.vme_model.specs.Text.{text, read_of}
use Rattle.vme_scenario.specs.Format.{scenario}
use Rattle.vme_trace.specs.declared.Fault.TheVariants.{Write}
use Rattle.vme_trace.specs.Writing.{AppendsFront}
use Rattle.vme_reading.specs.declared.Status.TheVariants.{Done, Limit}
use Rattle.vme_reading.specs.declared.EngineFault.TheVariants as fault
use Rattle.vme_reading.specs.Outcomes.{Answer, bench}
use Rattle.vme_reading.specs.LegalTraces.{IsLegalTrace}

-- the drivers but for the controller: each board by slot
abbrev pub boards : Plan → List Driver
boards p = map (λ s. Slot s) (filter (λ s. is_some (board p s)) (up_to p.slots))

-- the edges that the drivers of a plan make in turn, at most n of them, the newest first
abbrev pub driven : Plan → Version → ℕ → List Edge
driven p version n = (rounds (bench p version) n).history

-- their trace
abbrev pub driven_text : Plan → Version → ℕ → List ℕ
driven_text p version n = text version (in_order (driven p version n))

-- What a drive leaves, by what the writer held and holds: the trace of a legal list, which `check`
-- calls legal; at X8 a prefix of it.
abbrev pub Drives : Version → ℕ → Option (List ℕ) → Option (List ℕ) → Plan → Answer → Type 0
Drives version n old new p (Ok status) =
    Appends old new (driven_text p version n)
    × IsLegal version p (driven p version n)
    × IsLegalTrace p (read_of (driven_text p version n))
    × (status ≡ (if length (driven p version n) == n then Limit else Done))
Drives version n old new p (Err (fault.Trace f)) =
    (f ≡ Write) × AppendsFront old new (driven_text p version n)
Drives version n old new p (Err _) = ⊥

-- The edges that the drivers make are a safe list.
abbrev pub DrivesSafely : List ℕ → Version → ℕ → Type 0
DrivesSafely lent version n = (p : Plan) × (scenario lent ≡ Ok p) × IsSafe p (driven p version n)
