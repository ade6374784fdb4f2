-- What a drive over seeds leaves and answers.
use Rattle.std.specs.Prelude.{◌≡◌, ◌≤◌, ◌<◌, ◌+◌, ℕ, Bool, true, false, List, Option, Some, None, Result, Ok, Err}
use Rattle.std.specs.Io.KnownBytes.{Keeps}
use Rattle.vme_model.specs.declared.signals.Version.{Version}
use Rattle.vme_model.specs.Plan.{Plan}
use Rattle.vme_goals.specs.declared.goals.Goal.{Goal}
use Rattle.vme_reading.specs.declared.EngineFault.{EngineFault}
use Rattle.vme_reading.specs.declared.Status.TheVariants.{Done, Limit}
use Rattle.vme_drive.specs.declared.seeks.Ending.TheVariants.{Over}
use Rattle.vme_reading.specs.Outcomes.{Answer}
use Rattle.vme_drive.specs.Drawing.{walk, Draws}

-- whether a seed comes to the goal
abbrev pub Tried : Type 0
Tried = Result Bool EngineFault

-- and which of some seeds is the first that does
abbrev pub Found : Type 0
Found = Result (Option ℕ) EngineFault

-- the answer that a drive with that seed would give
abbrev pub found_answer : Found → Answer
found_answer (Ok (Some seed)) = Ok Done
found_answer (Ok None) = Ok Limit
found_answer (Err f) = Err f

-- no seed from the first on and below another comes to the goal
abbrev pub NoneBelow : Plan → Version → ℕ → Goal → ℕ → ℕ → Type 0
NoneBelow p version n g first seed =
    (s : ℕ) → first ≤ s → s < seed → (walk p version s n (Some g)).ending ≡ Over

-- What a try of one seed leaves: what a drive with it leaves if it reaches the goal, and otherwise
-- nothing.
abbrev pub Attempts :
    Plan → Version → ℕ → ℕ → Goal → Option (List ℕ) → Option (List ℕ) → Tried → Type 0
Attempts p version seed n g old new (Ok true) = Draws version seed n (Some g) old new p (Ok Done)
Attempts p version seed n g old new (Ok false) =
    ((walk p version seed n (Some g)).ending ≡ Over) × Keeps old new
Attempts p version seed n g old new (Err f) = Draws version seed n (Some g) old new p (Err f)

-- What a drive over seeds leaves: what a drive leaves with the first of them that reaches the goal,
-- and nothing if none does.
abbrev pub Finds :
    Version → ℕ → ℕ → ℕ → Goal → Option (List ℕ) → Option (List ℕ)
    → Found → Plan → Answer → Type 0
Finds version n first last g old new (Ok (Some seed)) p answer =
    (first ≤ seed) × (seed ≤ last) × NoneBelow p version n g first seed
    × Draws version seed n (Some g) old new p (Ok Done)
Finds version n first last g old new (Ok None) p answer =
    NoneBelow p version n g first (last + 1) × Keeps old new
Finds version n first last g old new (Err f) p answer =
    (seed : ℕ) × (first ≤ seed) × (seed ≤ last) × NoneBelow p version n g first seed
    × Draws version seed n (Some g) old new p (Err f)
