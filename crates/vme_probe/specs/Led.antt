-- What is known behind a capture of which somebody may have made each change, and what is printed
-- of a change that nobody may have made. Lists of changes, and of what was said, have the newest
-- first.
use Rattle.std.specs.Prelude.{◌≡◌, ◌++◌, ◌∷◌, [], ℕ, true, false, List, reverse}
use Rattle.vme_model.specs.declared.signals.Driver.{Driver}
use Rattle.vme_model.specs.declared.signals.Version.{Version}
use Rattle.vme_model.specs.Plan.{Plan}
use Rattle.vme_captures.specs.declared.signals.Change.{Change}
use Rattle.vme_captures.specs.declared.signals.Entry.{Entry}
use Rattle.vme_captures.specs.declared.signals.Entry.TheVariants as entry
use Rattle.vme_captures.specs.declared.signals.Line.TheVariants as line
use Rattle.vme_captures.specs.declared.signals.Signal.TheVariants as signal
use Rattle.vme_captures.specs.Possible.{Capture, is_among}
use Rattle.vme_captures.specs.Reading.{Reading, capture_of}
use Rattle.vme_captures.specs.Signals.{is_change}
use Rattle.vme_standings.specs.declared.standings.Drivers.{Drivers}
use Rattle.vme_standings.specs.declared.standings.Probed.{Probed}
use Rattle.vme_standings.specs.declared.standings.Standings.{Standings}
use Rattle.vme_standings.specs.Behind.{IsBehind}
use Rattle.vme_standings.specs.Covers.{Among}
use Rattle.vme_standings.specs.Driving.{AreDrivers}
use Rattle.vme_standings.specs.Hidden.{HasMoved}
use Rattle.vme_standings.specs.Standings.{Drive, is_nobody}
use Rattle.vme_probe.specs.Hindered.{is_hindered}
use Rattle.vme_probe.specs.Holding.{IsKnown}
use Rattle.vme_probe.specs.Stopped.{stopped_text}

-- From what is known first, the hidden moves and a change in turn lead to what is known last, and
-- somebody may have made each change.
abbrev pub Leads : Plan → Probed → Standings → List Change → Standings → Type 0
Leads p probed first [] last = last ≡ first
Leads p probed first (c ∷ earlier) last =
    (before hidden : Standings) × (makers : Drivers) × Leads p probed first earlier before
    × HasMoved p probed before hidden × AreDrivers p probed hidden c makers
    × (is_nobody makers ≡ false) × (is_change c ≡ true) × IsBehind p probed hidden c last

-- It is known behind a capture of which somebody may have made each change. DS* is high where the
-- capture begins.
pub record IsLed (p : Plan) (probed : Probed) (c : Capture) (last : Standings) : Type 0 where
  pub known : IsKnown p probed c last
  pub high : is_among c.lows (signal.Line line.DataStrobe) ≡ false
  pub leads : Leads p probed known.first c.changes known.behind

-- What was read ends at a change that is refused, and the lines of its drivers are those of what is
-- known before it. In them a condition is named for each driver that has the line of the change, or
-- drives the wire of its pin.
pub record TellsHindered (p : Plan) (r : Reading) (text : List ℕ) : Type 0 where
  pub version : Version
  pub said : List Entry
  pub change : Change
  pub others : List Entry
  pub are : r.entries ≡ reverse said ++ entry.Change change ∷ others
  pub known : Standings
  pub moment : ℕ
  pub drivers : Drivers
  pub have_it : Drive p change.signal drivers
  pub lines : List ℕ
  pub is : text ≡ lines ++ stopped_text p version known moment change drivers
  pub probed : Probed
  pub led : IsLed p probed (capture_of version said) known
  pub hindered : (d : Driver) → Among drivers d → is_hindered p version known change d ≡ true
