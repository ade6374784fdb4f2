-- The slacks that `--slack` names.
use Rattle.std.specs.Prelude.{◌≡◌, ◌≢◌, ◌⊎◌, ◌++◌, ◌∷◌, [], ℕ, List, All, Contains, Option, Some, None, codes}
use Rattle.clap.specs.Words.{Text}
use Rattle.vme_model.specs.declared.signals.Driver.{Driver}
use Rattle.vme_model.specs.declared.signals.Driver.TheVariants.{Controller, Slot}
use Rattle.vme_model.specs.Text.{all_drivers, driver_text}
use Rattle.vme_moments.specs.declared.slacks.Slacks.{Slacks}
use Rattle.vme_moments.specs.Before.{slack_of}
use Rattle.vme_words.specs.Numbers.{IsSeed}

-- a text is the name of a driver
abbrev pub IsDriverName : Text → Driver → Type 0
IsDriverName text d = Contains all_drivers d × (text ≡ driver_text d)

abbrev pub IsNoDriver : Text → Type 0
IsNoDriver text = (d : Driver) → ¬ IsDriverName text d

-- where a driver stands among all: the controller, and then the boards by slot
abbrev pub place_of : Driver → ℕ
place_of Controller = 0
place_of (Slot s) = s

-- a driver with its slack
pub record Late : Type 0 where
  pub driver : Driver
  pub slack : ℕ

-- a text names a driver and its slack, as `c=2`
abbrev pub IsLate : Text → Late → Type 0
IsLate text late = Contains all_drivers late.driver × (number : Text)
    × (text ≡ driver_text late.driver ++ codes "=" ++ number) × IsSeed number late.slack

-- a text names these drivers, each with its slack, with commas between them
abbrev pub AreLate : Text → List Late → Type 0
AreLate text [] = ⊥
AreLate text (late ∷ []) = IsLate text late
AreLate text (late ∷ later ∷ others) = (first rest : Text) × (text ≡ first ++ codes "," ++ rest)
    × IsLate first late × AreLate rest (later ∷ others)

-- no driver is named twice
abbrev pub AreApart : List Late → Type 0
AreApart [] = Unit {0}
AreApart (late ∷ others) = All (λ other. other.driver ≢ late.driver) others × AreApart others

-- these drivers have these slacks, and the others none
abbrev pub HaveSlacks : List Late → Slacks → Type 0
HaveSlacks lates x = (d : Driver) → Contains all_drivers d
    → ((late : Late) → Contains lates late → late.driver ≡ d → slack_of x d ≡ late.slack)
    × (All (λ late. late.driver ≢ d) lates → slack_of x d ≡ 0)

-- every driver has this slack
abbrev pub AreAll : ℕ → Slacks → Type 0
AreAll n x = (d : Driver) → Contains all_drivers d → slack_of x d ≡ n

-- a text names one slack for all drivers, or drivers with a slack each
abbrev pub AreSlacks : Text → Slacks → Type 0
AreSlacks text x = ((n : ℕ) × IsSeed text n × AreAll n x)
    ⊎ ((lates : List Late) × AreLate text lates × AreApart lates × HaveSlacks lates x)

abbrev pub NameNoSlacks : Text → Type 0
NameNoSlacks text = (x : Slacks) → ¬ AreSlacks text x
