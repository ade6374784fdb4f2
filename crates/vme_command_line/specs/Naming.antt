-- What a part of a list of slacks says, and what was said so far.
use Rattle.std.specs.Prelude.{◌≡◌, ◌||◌, ◌++◌, ℕ, true, false, List, if◌then◌else◌}
use Rattle.clap.specs.Words.{Text}
use Rattle.vme_model.specs.declared.signals.Driver.{Driver}
use Rattle.vme_model.specs.Signals.{is_same_driver}
use Rattle.vme_moments.specs.declared.slacks.Slacks.{Slacks}
use Rattle.vme_moments.specs.Before.{names, slack_of}
use Rattle.vme_command_line.specs.Slacks.{AreApart, AreLate, HaveSlacks, IsDriverName, IsLate, Late}

abbrev pub NamesNoDriver : Text → Type 0
NamesNoDriver name = (d : Driver) → ¬ IsDriverName name d

-- this driver has the name, and no other
abbrev pub IsOnlyDriver : Text → Driver → Type 0
IsOnlyDriver name d = IsDriverName name d × ((other : Driver) → IsDriverName name other → other ≡ d)

abbrev pub NamesNoLate : Text → Type 0
NamesNoLate text = (late : Late) → ¬ IsLate text late

-- the text names this driver with its slack, and says nothing else
abbrev pub IsOnlyLate : Text → Late → Type 0
IsOnlyLate text late = IsLate text late × ((other : Late) → IsLate text other → other ≡ late)

-- a text names one more driver with its slack
pub record NamesOne (old : Slacks) (text : Text) (new : Slacks) : Type 0 where
  pub late : Late
  pub only : IsOnlyLate text late
  pub unnamed : names old late.driver ≡ false
  pub slacks : (d : Driver) → slack_of new d
      ≡ (if is_same_driver late.driver d then late.slack else slack_of old d)
  pub named : (d : Driver) → names new d ≡ (is_same_driver late.driver d || names old d)

-- a text names no driver with its slack, or one that is named already
abbrev pub NamesNone : Slacks → Text → Type 0
NamesNone old text = (late : Late) → IsLate text late → names old late.driver ≡ true

-- The first drivers of a text were named, and the rest names the others.
pub record HasNamed (text rest : Text) (x : Slacks) : Type 0 where
  pub lates : List Late
  pub apart : AreApart lates
  pub slacks : HaveSlacks lates x
  pub behind : (more : List Late) → AreLate rest more → AreLate text (lates ++ more)
  pub only : (all : List Late) → AreLate text all
      → (more : List Late) × (all ≡ lates ++ more) × AreLate rest more

-- a text names drivers with a slack each, and none twice
abbrev pub NameApart : Text → Slacks → Type 0
NameApart text x = (lates : List Late) × AreLate text lates × AreApart lates × HaveSlacks lates x

-- a text names no drivers, or one of them twice
abbrev pub NameNoneApart : Text → Type 0
NameNoneApart text = (lates : List Late) → AreLate text lates → ¬ AreApart lates
