-- The slacks that `--slack` names.
use Rattle.std.specs.Prelude.{◌≡◌, ◌⊎◌, ◌||◌, ◌++◌, ◌∷◌, [], ℕ, Bool, false, List, codes, if◌then◌else◌}
use Rattle.clap.specs.Words.{Text}
use Rattle.vme_model.specs.declared.signals.Driver.{Driver}
use Rattle.vme_model.specs.Signals.{is_same_driver}
use Rattle.vme_model.specs.Text.{driver_text}
use Rattle.vme_trace.specs.Fronts.{IsDriver}
use Rattle.vme_moments.specs.declared.slacks.Slacks.{Slacks}
use Rattle.vme_moments.specs.Before.{names, slack_of}
use Rattle.vme_command_line.specs.Numbers.{IsSeed}

-- a text is the name of a driver
abbrev pub IsDriverName : Text → Driver → Type 0
IsDriverName text d = IsDriver d × (text ≡ driver_text d)

-- a driver with its slack
pub record Late : Type 0 where
  pub driver : Driver
  pub slack : ℕ

-- a text names a driver and its slack, such as `c=2`
abbrev pub IsLate : Text → Late → Type 0
IsLate text late = (name number : Text) × (text ≡ name ++ codes "=" ++ number)
    × IsDriverName name late.driver × IsSeed number late.slack

-- a text names these drivers with a slack each, in this order, and has commas between them
abbrev pub AreLate : Text → List Late → Type 0
AreLate text [] = ⊥
AreLate text (late ∷ []) = IsLate text late
AreLate text (late ∷ later ∷ others) = (first rest : Text) × (text ≡ first ++ codes "," ++ rest)
    × IsLate first late × AreLate rest (later ∷ others)

-- the driver is one of these
abbrev pub is_late : List Late → Driver → Bool
is_late [] d = false
is_late (late ∷ lates) d = is_same_driver late.driver d || is_late lates d

-- the slack that a driver has by these; none if it is not one of them
abbrev pub late_slack : List Late → Driver → ℕ
late_slack [] d = 0
late_slack (late ∷ lates) d =
    if is_same_driver late.driver d then late.slack else late_slack lates d

-- no driver comes twice
abbrev pub AreApart : List Late → Type 0
AreApart [] = Unit {0}
AreApart (late ∷ lates) = (is_late lates late.driver ≡ false) × AreApart lates

-- each driver has the slack that it has by these, and is named if it is one of them
abbrev pub HaveSlacks : List Late → Slacks → Type 0
HaveSlacks lates x = (d : Driver) → IsDriver d
    → (slack_of x d ≡ late_slack lates d) × (names x d ≡ is_late lates d)

-- every driver has this slack, and none is named
abbrev pub AreAll : ℕ → Slacks → Type 0
AreAll n x = (d : Driver) → IsDriver d → (slack_of x d ≡ n) × (names x d ≡ false)

-- a text names one slack for all drivers, or drivers with a slack each
abbrev pub AreSlacks : Text → Slacks → Type 0
AreSlacks text x = ((n : ℕ) × IsSeed text n × AreAll n x)
    ⊎ ((lates : List Late) × AreLate text lates × AreApart lates × HaveSlacks lates x)

abbrev pub NameNoSlacks : Text → Type 0
NameNoSlacks text = (x : Slacks) → ¬ AreSlacks text x
