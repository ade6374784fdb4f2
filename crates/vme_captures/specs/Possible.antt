-- What a bus that keeps the rules can show. Lists of edges, and of changes, have the newest first.
-- (What a legal list of edges is, is `vme_model.specs.Verdict`. The words here are this project's.)
use Rattle.std.specs.Prelude.{◌≡◌, ◌-◌, ℕ, Bool, true, false, Option, Some, None, List, [], ◌∷◌, ◌++◌, drop, length, reverse}
use Rattle.std.specs.List.{list_any, slice_get}
use Rattle.vme_model.specs.declared.signals.Version.{Version}
use Rattle.vme_model.specs.declared.signals.Driver.{Driver}
use Rattle.vme_model.specs.declared.signals.Edge.{Edge}
use Rattle.vme_model.specs.Plan.{Plan}
use Rattle.vme_model.specs.Verdict.{IsLegal}
use Rattle.vme_captures.specs.declared.signals.Pin.{Pin}
use Rattle.vme_captures.specs.declared.signals.Signal.{Signal}
use Rattle.vme_captures.specs.declared.signals.Signal.TheVariants as signal
use Rattle.vme_captures.specs.declared.signals.Change.{Change}
use Rattle.vme_captures.specs.Signals.{is_line, is_same_pin, is_same_signal}
use Rattle.vme_captures.specs.Changes.{agrees, is_low, seen}

-- what was captured: the version of the rules, the probed pins, whether the bus was running at the
-- beginning, what was low then, and the changes
pub record Capture : Type 0 where
  pub version : Version
  pub pins : List Pin
  pub is_running : Bool
  pub lows : List Signal
  pub changes : List Change

-- a change, and who made it
pub record Sighting : Type 0 where
  pub driver : Driver
  pub change : Change

-- a sighting more, if the edge was seen
abbrev pub with_sighting : Driver → Option Change → List Sighting → List Sighting
with_sighting d None others = others
with_sighting d (Some v) others = record { driver = d; change = v } ∷ others

-- what the probes see of the edges of h, made behind g
abbrev pub sightings : Plan → List Pin → List Edge → List Edge → List Sighting
sightings p pins g [] = []
sightings p pins g (e ∷ h) =
    with_sighting e.driver (seen p pins (h ++ g) e) (sightings p pins g h)

-- the captured changes are those that were seen, one by one
abbrev pub AgreeEach : List Change → List Sighting → Type 0
AgreeEach [] [] = Unit {0}
AgreeEach (c ∷ cs) (s ∷ ss) = (agrees c s.change ≡ true) × AgreeEach cs ss
AgreeEach _ _ = ⊥

-- the edges of h, made behind g, show the capture
abbrev pub Shows : Plan → Capture → List Edge → List Edge → Type 0
Shows p c g h = AgreeEach c.changes (sightings p c.pins g h)

-- a probe is on it: each shared line has one
abbrev pub is_probed : List Pin → Signal → Bool
is_probed pins (signal.Line l) = is_line l
is_probed pins (signal.Pin q) = list_any (is_same_pin q) pins

-- it is one of these
abbrev pub is_among : List Signal → Signal → Bool
is_among xs x = list_any (is_same_signal x) xs

-- The capture begins behind the edges of g: at power-up there are none, and otherwise exactly those
-- lines and pins are low behind them that the capture says. (So AS* and DS0* are high.)
pub record Begins (p : Plan) (c : Capture) (g : List Edge) : Type 0 where
  pub power_up : c.is_running ≡ false → g ≡ []
  pub legal : IsLegal c.version p g
  pub levels : (x : Signal) → is_probed c.pins x ≡ true → is_low p g x ≡ is_among c.lows x

-- a legal list of edges, those of g and then those of h, shows the capture
pub record Explains (p : Plan) (c : Capture) (g h : List Edge) : Type 0 where
  pub begins : Begins p c g
  pub legal : IsLegal c.version p (h ++ g)
  pub shows : Shows p c g h

-- some legal list of edges shows the capture
pub record IsPossible (p : Plan) (c : Capture) : Type 0 where
  pub before : List Edge
  pub edges : List Edge
  pub explains : Explains p c before edges

-- The driver may have made the i-th change, counted from 0: it made it in some legal list that
-- shows the capture.
pub record IsBy (p : Plan) (c : Capture) (i : ℕ) (d : Driver) : Type 0 where
  pub before : List Edge
  pub edges : List Edge
  pub explains : Explains p c before edges
  pub change : Change
  pub made : slice_get (reverse (sightings p c.pins before edges)) i
      ≡ Some (record { driver = d; change = change })

-- the capture up to its n-th change
abbrev pub first_changes : ℕ → Capture → Capture
first_changes n c = record c { changes = drop (length c.changes - n) c.changes }
