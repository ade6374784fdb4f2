-- What a drive with a seed writes and answers.
use Rattle.std.specs.Prelude.{◌≡◌, ◌==◌, ◌++◌, ◌∷◌, [], ℕ, List, length, true, Option, Some, None, Ok, Err, IsTrue, if◌then◌else◌}
use Rattle.std.specs.Io.KnownBytes.{Appends}
use Rattle.vme_model.specs.declared.signals.Version.{Version}
use Rattle.vme_model.specs.declared.signals.Edge.{Edge}
use Rattle.vme_model.specs.Plan.{Plan}
use Rattle.vme_model.specs.History.{in_order}
use Rattle.vme_model.specs.Signals.{is_well_formed}
use Rattle.vme_model.specs.Verdict.{State, IsLegal}
use Rattle.vme_model.specs.Safe.{IsSafe, IsOrderly}
use Rattle.vme_model.specs.Text.{edge_lines, text, read_of}
use Rattle.vme_scenario.specs.Format.{scenario}
use Rattle.vme_trace.specs.declared.Fault.TheVariants.{Write}
use Rattle.vme_trace.specs.Writing.{AppendsFront}
use Rattle.vme_seeds.specs.Walks.{at_start}
use Rattle.vme_goals.specs.declared.goals.Aim.{Aim}
use Rattle.vme_goals.specs.declared.goals.Aim.TheVariants as aim
use Rattle.vme_goals.specs.declared.goals.Goal.{Goal}
use Rattle.vme_events.specs.Misses.{refuses}
use Rattle.vme_reading.specs.declared.Status.{Status}
use Rattle.vme_reading.specs.declared.Status.TheVariants.{Done, Limit}
use Rattle.vme_reading.specs.declared.EngineFault.TheVariants as fault
use Rattle.vme_drive.specs.declared.seeks.Ending.{Ending}
use Rattle.vme_drive.specs.declared.seeks.Ending.TheVariants.{Over, Missed}
use Rattle.vme_reading.specs.Outcomes.{Answer, bench}
use Rattle.vme_reading.specs.LegalTraces.{IsLegalTrace}
use Rattle.vme_drive.specs.Seeking.{Ended, is_counted, walk_to}

-- the walk of a seed on a plan: n edges at most, or up to the goal
abbrev pub walk : Plan → Version → ℕ → ℕ → Option Goal → Ended
walk p version seed n g = walk_to g n (at_start (bench p version) seed)

-- the edge that was missed, if one was
abbrev pub missed_of : Ending → List Edge
missed_of (Missed e) = e ∷ []
missed_of _ = []

-- the lines of the edges that were made, and of the one that was missed
abbrev pub ended_lines : Ended → List ℕ
ended_lines x = edge_lines (in_order x.walk.state.history ++ missed_of x.ending)

-- their text
abbrev pub ended_text : Version → Ended → List ℕ
ended_text version x = text version (in_order x.walk.state.history ++ missed_of x.ending)

-- that text of the walk of a seed
abbrev pub walk_text : Plan → Version → ℕ → ℕ → Option Goal → List ℕ
walk_text p version seed n g = ended_text version (walk p version seed n g)

-- the condition that is the aim alone refuses the edge
abbrev pub IsRefusedFor : Aim → State → Edge → Type 0
IsRefusedFor (aim.Event v) b e = ⊥
IsRefusedFor (aim.Miss m) b e = refuses b m e ≡ true

-- the edge counts, and the condition that is the goal alone refuses it
abbrev pub IsRefusedBy : Option Goal → State → Edge → Type 0
IsRefusedBy None b e = ⊥
IsRefusedBy (Some g) b e = (is_counted g b e ≡ true) × IsRefusedFor g.aim b e

-- What is written without an edge that was missed, `check` calls legal; an edge that was missed is
-- refused by the goal alone.
abbrev pub EndsRightly : Plan → Version → Option Goal → State → Ending → Type 0
EndsRightly p version g b (Missed e) = IsRefusedBy g b e
EndsRightly p version g b ending = IsLegalTrace p (read_of (text version (in_order b.history)))

-- the status without a goal, by how many edges were made; with one, by whether it came
abbrev pub status_to : Option Goal → ℕ → ℕ → Ending → Status
status_to None n made ending = if made == n then Limit else Done
status_to (Some g) n made Over = Limit
status_to (Some g) n made _ = Done

-- What a drive with a seed leaves, by what the writer held and holds: the trace of a legal list,
-- with the edge that was missed after it; at X8 a prefix of that.
abbrev pub Draws :
    Version → ℕ → ℕ → Option Goal → Option (List ℕ) → Option (List ℕ)
    → Plan → Answer → Type 0
Draws version seed n g old new p (Ok status) =
    let x = walk p version seed n g in
    Appends old new (walk_text p version seed n g)
    × IsLegal version p x.walk.state.history
    × EndsRightly p version g x.walk.state x.ending
    × (status ≡ status_to g n (length x.walk.state.history) x.ending)
Draws version seed n g old new p (Err (fault.Trace f)) =
    (f ≡ Write) × AppendsFront old new (walk_text p version seed n g)
Draws version seed n g old new p (Err _) = ⊥

-- The edges that the walk of a seed makes on a plan are a safe and orderly list.
abbrev pub WalksSafely : Plan → Version → ℕ → ℕ → Option Goal → Type 0
WalksSafely p version seed n g =
    IsSafe p (walk p version seed n g).walk.state.history
    × IsOrderly version p (walk p version seed n g).walk.state.history

-- So are those that were made on the plan of a scenario.
abbrev pub DrawsSafely : List ℕ → Version → ℕ → ℕ → Option Goal → Type 0
DrawsSafely lent version seed n g =
    (p : Plan) × (scenario lent ≡ Ok p) × WalksSafely p version seed n g

-- an edge that was missed is well formed
abbrev pub IsWellFormed : Ending → Type 0
IsWellFormed (Missed e) = IsTrue (is_well_formed e)
IsWellFormed _ = Unit {0}
