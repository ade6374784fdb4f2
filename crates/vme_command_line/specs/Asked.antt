-- The job for which the words after the program's name ask.
use Rattle.std.specs.Prelude.{◌≡◌, ◌≢◌, ◌↔◌, ◌⊎◌, ◌+◌, ◌-◌, ◌^◌, ◌≤◌, ◌++◌, ℕ, Bool, true, false, IsTrue, List, [], ◌∷◌, Option, Some, None, codes, length, map, max, min, option_map, unwrap_or, IsSomeAnd}
use Rattle.std.specs.Borrow.{Bor}
use Rattle.std.specs.Str.Parse.{digits_value, without_leading_plus}
use Rattle.clap.specs.Words.{IsAmong, Row, Text, all_of, fault_of, first_of, one_of, subcommand_of}
use Rattle.clap.specs.declared.error.kind.ErrorKind.TheVariants.{DisplayVersion}
use Rattle.vme_model.specs.declared.Version.{Version}
use Rattle.vme_model.specs.declared.Version.TheVariants.{One, Two}
use Rattle.vme_model.specs.declared.Driver.{Driver}
use Rattle.vme_goals.specs.declared.goals.Aim.{Aim}
use Rattle.vme_goals.specs.declared.goals.Goal.{Goal}
use Rattle.vme_command_line.specs.Aims.{IsNameOf, NamesNobody}
use Rattle.vme_command_line.specs.Alone.{aim_named}
use Rattle.vme_command_line.specs.Commands.{commands}
use Rattle.vme_command_line.specs.declared.Choice.{Choice}
use Rattle.vme_command_line.specs.declared.Choice.TheVariants.{InTurn, Drawn, Sought}
use Rattle.vme_command_line.specs.declared.Job.{Job}
use Rattle.vme_command_line.specs.declared.Job.TheVariants.{Joined, OwnVersion, Rules, OnScenario}
use Rattle.vme_command_line.specs.declared.Task.{Task}
use Rattle.vme_command_line.specs.declared.Task.TheVariants.{Replay, Check, Explain, Shrink, State, Show, Cycles, Summary, Races, Walk}
use Rattle.vme_command_line.specs.declared.Work.{Work}
use Rattle.vme_command_line.specs.declared.Work.TheVariants.{OnTrace, Checks, Sums, OtherOrder, Same, Order, Probe, Drive, Run}
use Rattle.vme_command_line.specs.Limits.{IsNoWindow}
use Rattle.vme_moments.specs.declared.slacks.Slacks.{Slacks}
use Rattle.vme_rulebook.specs.declared.Entry.{Entry}
use Rattle.vme_rulebook.specs.Entries.{entry_named}
use Rattle.vme_command_line.specs.Numbers.{IsSeed}
use Rattle.vme_command_line.specs.Slacks.{AreAll, AreSlacks, NameNoSlacks}

-- the words that are lent, as texts
abbrev pub texts_of : List (Bor Text) → List Text
texts_of words = map (λ word. word.now) words

-- the operand of this name is this file
abbrev pub IsFile : Text → List Row → Text → Type 0
IsFile name rows file = first_of name rows ≡ Some file

-- one trace is given
abbrev pub IsOneTrace : List Row → Type 0
IsOneTrace rows = (file : Text) × (all_of (codes "TRACE") rows ≡ Some (file ∷ []))

-- two traces or more are given, which are these files in this order
abbrev pub AreSeveral : List Row → List (Bor Text) → Type 0
AreSeveral rows files =
    (all_of (codes "TRACE") rows ≡ Some (texts_of files)) × (2 ≤ length files)

-- the number that the option of this name spells, in decimal digits; none if the option is not
-- given
abbrev pub spelled : Text → List Row → Option ℕ
spelled name rows =
    option_map (λ text. digits_value 10 (without_leading_plus text)) (one_of name rows)

abbrev pub version_number : Version → ℕ
version_number One = 1
version_number Two = 2

-- the options `--edges` and `--version`; the default of the latter stands in the command line
abbrev pub AreOptions : List Row → ℕ → Version → Type 0
AreOptions rows edges version =
    (spelled (codes "edges") rows ≡ Some edges)
    × (spelled (codes "version") rows ≡ Some (version_number version))

-- the flag of this name is given, or is not
abbrev pub IsFlag : Text → List Row → Bool → Type 0
IsFlag name rows given = IsTrue given ↔ (one_of name rows ≡ Some (codes "true"))

-- the first edge that a picture shows, by `--from` and `--to`: with `--to` alone 60 edges end there
abbrev pub first_shown : Option ℕ → Option ℕ → ℕ
first_shown (Some from) to = from
first_shown None (Some to) = max 1 (to - 59)
first_shown None None = 1

-- the last edge of a picture, by `--to` and the first edge: without `--to` it is the 60th edge of
-- the picture, or the greatest number if that is less
abbrev pub last_shown : Option ℕ → ℕ → ℕ
last_shown (Some to) first = to
last_shown None first = min (first + 59) (2 ^ 64 - 1)

abbrev pub first_of_window : List Row → ℕ
first_of_window rows = first_shown (spelled (codes "from") rows) (spelled (codes "to") rows)

abbrev pub last_of_window : List Row → ℕ
last_of_window rows = last_shown (spelled (codes "to") rows) (first_of_window rows)

-- the aim that `--until` names, among all that a trace can reach in that version
abbrev pub IsAim : List Row → Version → Option Aim → Type 0
IsAim rows version None = first_of (codes "until") rows ≡ None
IsAim rows version (Some aim) = (named : Text) × (first_of (codes "until") rows ≡ Some named)
    × (aim_named named version ≡ Some aim)

-- the driver that `--of` names
abbrev pub IsOnly : List Row → Option Driver → Type 0
IsOnly rows None = first_of (codes "of") rows ≡ None
IsOnly rows (Some d) = (named : Text) × (first_of (codes "of") rows ≡ Some named)
    × IsNameOf named d

-- the goal of a drive: what `--until` names, of the driver of `--of` and after as many edges as
-- `--after` spells, or after none; without `--until` neither is given
abbrev pub IsGoal : List Row → Version → Option Goal → Type 0
IsGoal rows version None = IsAim rows version None
    × (first_of (codes "of") rows ≡ None) × (spelled (codes "after") rows ≡ None)
IsGoal rows version (Some goal) = IsAim rows version (Some goal.aim)
    × IsOnly rows goal.driver × (goal.after ≡ unwrap_or (spelled (codes "after") rows) 0)

-- a text names the seeds from this one to that one: two dots stand between them
abbrev pub AreSeeds : Text → ℕ → ℕ → Type 0
AreSeeds named first last = (begins : Text) × (ends : Text) × (named ≡ begins ++ codes ".." ++ ends)
    × IsSeed begins first × IsSeed ends last × (first ≤ last)

-- a text names no seeds
abbrev pub NamesNoSeeds : Text → Type 0
NamesNoSeeds named = (first last : ℕ) → ¬ (AreSeeds named first last)

-- the option `--seeds`, with the first and the last seed
abbrev pub AreTried : List Row → ℕ → ℕ → Type 0
AreTried rows first last = (named : Text) × (first_of (codes "seeds") rows ≡ Some named)
    × AreSeeds named first last

-- the flag `--progress`
abbrev pub IsProgress : List Row → Bool → Type 0
IsProgress rows progress = IsFlag (codes "progress") rows progress

-- the rule or other code that the operand NAME names; none if it is not given
abbrev pub IsEntry : List Row → Option Entry → Type 0
IsEntry rows None = first_of (codes "NAME") rows ≡ None
IsEntry rows (Some entry) = (named : Text) × (first_of (codes "NAME") rows ≡ Some named)
    × (entry_named named ≡ Some entry)

-- the operand NAME names neither
abbrev pub IsNoEntry : List Row → Type 0
IsNoEntry rows = (named : Text) × (first_of (codes "NAME") rows ≡ Some named)
    × (entry_named named ≡ None)

-- the slacks that `--slack` names; no driver has slack if it is not given
abbrev pub AreTheSlacks : List Row → Slacks → Type 0
AreTheSlacks rows x = ((first_of (codes "slack") rows ≡ None) × AreAll 0 x)
    ⊎ ((named : Text) × (first_of (codes "slack") rows ≡ Some named) × AreSlacks named x)

-- a command of this name, with these operands, is this task with one trace
abbrev pub AsksForTask : Text → List Row → Task → Type 0
AsksForTask name rows (Replay full) = (name ≡ codes "replay") × IsFlag (codes "full") rows full
AsksForTask name rows Check = (name ≡ codes "check") × IsOneTrace rows
AsksForTask name rows (Explain edge) =
    (name ≡ codes "explain") × (spelled (codes "edge") rows ≡ edge)
AsksForTask name rows (Shrink edge progress) =
    (name ≡ codes "shrink") × (spelled (codes "edge") rows ≡ edge) × IsProgress rows progress
AsksForTask name rows (State after) =
    (name ≡ codes "state") × (spelled (codes "after") rows ≡ after)
AsksForTask name rows (Show from to color) = (name ≡ codes "show")
    × (from ≡ first_of_window rows) × (to ≡ last_of_window rows)
    × IsFlag (codes "color") rows color
AsksForTask name rows Cycles = name ≡ codes "cycles"
AsksForTask name rows Summary = (name ≡ codes "summary") × IsOneTrace rows
AsksForTask name rows Races = (name ≡ codes "races")
    × (spelled (codes "edge") rows ≡ None) × (spelled (codes "other") rows ≡ None)
AsksForTask name rows (Walk edge) = (name ≡ codes "races")
    × (spelled (codes "edge") rows ≡ Some edge) × (spelled (codes "other") rows ≡ None)

-- the options of `drive`, but for `--edges`, choose the edges in this way
abbrev pub IsChoice : List Row → Version → Choice → Type 0
IsChoice rows version InTurn =
    (spelled (codes "seed") rows ≡ None) × (first_of (codes "seeds") rows ≡ None)
    × IsGoal rows version None × IsProgress rows false
IsChoice rows version (Drawn seed until) =
    (spelled (codes "seed") rows ≡ Some seed) × (first_of (codes "seeds") rows ≡ None)
    × IsGoal rows version until × IsProgress rows false
IsChoice rows version (Sought first last goal progress) =
    (spelled (codes "seed") rows ≡ None) × AreTried rows first last
    × IsGoal rows version (Some goal) × IsProgress rows progress

-- a command of this name, with these operands, is this work on a scenario
abbrev pub AsksForWork : Text → List Row → Work → Type 0
AsksForWork name rows (OnTrace task trace) =
    IsFile (codes "TRACE") rows trace.now × AsksForTask name rows task
AsksForWork name rows (Checks traces) = (name ≡ codes "check") × AreSeveral rows traces.items
AsksForWork name rows (Sums traces) = (name ≡ codes "summary") × AreSeveral rows traces.items
AsksForWork name rows (OtherOrder trace edge) =
    (name ≡ codes "races") × IsFile (codes "TRACE") rows trace.now
    × (spelled (codes "edge") rows ≡ None) × (spelled (codes "other") rows ≡ Some edge)
AsksForWork name rows (Same trace other) = (name ≡ codes "same")
    × IsFile (codes "TRACE") rows trace.now × IsFile (codes "OTHER") rows other.now
AsksForWork name rows (Order moments slacks places progress) =
    (name ≡ codes "order") × IsFile (codes "MOMENTS") rows moments.now
    × AreTheSlacks rows slacks × IsFlag (codes "where") rows places × IsProgress rows progress
AsksForWork name rows (Probe capture skew) =
    (name ≡ codes "probe") × IsFile (codes "CAPTURE") rows capture.now
    × (spelled (codes "skew") rows ≡ skew)
AsksForWork name rows (Drive edges version choice) =
    (name ≡ codes "drive") × AreOptions rows edges version × IsChoice rows version choice
AsksForWork name rows (Run edges turns version) = (name ≡ codes "run")
    × AreOptions rows edges version × (spelled (codes "turns") rows ≡ Some turns)

-- a command of this name, with these operands, is this job
abbrev pub AsksFor : Text → List Row → Job → Type 0
AsksFor name rows Joined = ⊥
AsksFor name rows OwnVersion = ⊥
AsksFor name rows (Rules entry) = (name ≡ codes "rule") × IsEntry rows entry
AsksFor name rows (OnScenario scenario work) =
    IsFile (codes "SCENARIO") rows scenario.now × AsksForWork name rows work

-- the command line reaches the option that asks for the program's own version
abbrev pub AskForVersion : List Text → Type 0
AskForVersion words = IsAmong DisplayVersion (fault_of commands words)

-- without words the job is to replay standard input; other words ask for the version, or for what
-- their command says, with the operands that the command line gives it
abbrev pub Ask : List Text → Job → Type 0
Ask [] job = job ≡ Joined
Ask (word ∷ words) job = (AskForVersion (word ∷ words) × (job ≡ OwnVersion))
    ⊎ IsSomeAnd (subcommand_of commands (word ∷ words)) (λ met. AsksFor met.0 met.1 job)

-- `--until` is given without seeds, or names nothing that a trace can reach in that version
abbrev pub IsNoAim : List Row → Type 0
IsNoAim rows = (named : Text) × (first_of (codes "until") rows ≡ Some named)
    × (((spelled (codes "seed") rows ≡ None) × (first_of (codes "seeds") rows ≡ None))
    ⊎ ((version : Version) × (spelled (codes "version") rows ≡ Some (version_number version))
    × (aim_named named version ≡ None)))

-- `--seeds` is given together with `--seed` or without `--until`, or does not name seeds
abbrev pub AreNotTried : List Row → Type 0
AreNotTried rows = (named : Text) × (first_of (codes "seeds") rows ≡ Some named)
    × ((spelled (codes "seed") rows ≢ None) ⊎ (first_of (codes "until") rows ≡ None)
    ⊎ NamesNoSeeds named)

-- `--progress` is given without `--seeds`
abbrev pub IsIdle : List Row → Type 0
IsIdle rows = IsProgress rows true × (first_of (codes "seeds") rows ≡ None)

-- `--of` or `--after` is given without `--until`, or `--of` names no driver
abbrev pub IsUnaimed : List Row → Type 0
IsUnaimed rows = ((first_of (codes "until") rows ≡ None)
    × ((first_of (codes "of") rows ≢ None) ⊎ (spelled (codes "after") rows ≢ None)))
    ⊎ ((named : Text) × (first_of (codes "of") rows ≡ Some named) × NamesNobody named)

-- `--slack` names no slacks
abbrev pub IsNoSlack : List Row → Type 0
IsNoSlack rows = (named : Text) × (first_of (codes "slack") rows ≡ Some named) × NameNoSlacks named

-- `--edge` and `--other` are both given
abbrev pub AreTwoEdges : List Row → Type 0
AreTwoEdges rows =
    (spelled (codes "edge") rows ≢ None) × (spelled (codes "other") rows ≢ None)

-- a command of this name is no job with these operands
abbrev pub IsNoJob : Text → List Row → Type 0
IsNoJob name rows =
    ((name ≡ codes "show") × IsNoWindow (first_of_window rows) (last_of_window rows))
    ⊎ ((name ≡ codes "drive") × ((IsNoAim rows ⊎ IsIdle rows) ⊎ AreNotTried rows))
    ⊎ ((name ≡ codes "rule") × IsNoEntry rows)
    ⊎ ((name ≡ codes "order") × IsNoSlack rows)
    ⊎ ((name ≡ codes "drive") × IsUnaimed rows)
    ⊎ ((name ≡ codes "races") × AreTwoEdges rows)

abbrev pub AskForNoJob : List Text → Type 0
AskForNoJob words = IsSomeAnd (subcommand_of commands words) (λ met. IsNoJob met.0 met.1)
