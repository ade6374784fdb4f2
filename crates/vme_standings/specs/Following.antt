-- What the calls of `Standings` make of a capture, one after the other. A list has its newest
-- change first.
use Rattle.std.specs.Prelude.{◌≡◌, ℕ, true, false, List, [], ◌∷◌}
use Rattle.std.specs.Option.{option_map_or}
use Rattle.vme_model.specs.declared.sets.ChainId.{ChainId}
use Rattle.vme_model.specs.Plan.{Plan}
use Rattle.vme_captures.specs.declared.levels.Levels.{Levels}
use Rattle.vme_captures.specs.declared.signals.Change.{Change}
use Rattle.vme_captures.specs.declared.signals.Line.{Line}
use Rattle.vme_captures.specs.declared.signals.Line.TheVariants.{AddressStrobe}
use Rattle.vme_captures.specs.declared.signals.Signal.TheVariants as signal
use Rattle.vme_captures.specs.Levels.{is_line_left_low}
use Rattle.vme_captures.specs.Possible.{Capture, is_among}
use Rattle.vme_captures.specs.Signals.{is_line}
use Rattle.vme_captures.specs.Wires.{pin_on}
use Rattle.vme_standings.specs.declared.segments.Segments.{Segments}
use Rattle.vme_standings.specs.declared.standings.Probed.{Probed}
use Rattle.vme_standings.specs.declared.standings.Standings.{Standings}
use Rattle.vme_standings.specs.Behind.{IsBehind}
use Rattle.vme_standings.specs.Covers.{segment_at}
use Rattle.vme_standings.specs.Hidden.{HasMoved}
use Rattle.vme_standings.specs.Running.{IsPowerUp, Runs}
use Rattle.vme_standings.specs.Segments.{has_segment}

-- the levels are those that the capture says were low at its beginning
pub record HeadSays (p : Plan) (c : Capture) (lines : Levels) (low : Segments) : Type 0 where
  pub shared : (l : Line) → is_line l ≡ true
      → is_line_left_low lines l ≡ is_among c.lows (signal.Line l)
  pub probed : (k : ChainId) (s : ℕ) → has_segment low k s
      ≡ option_map_or (λ q. is_among c.lows (signal.Pin q)) (pin_on p c.pins (segment_at k s)) false

-- what is known of a running bus by the capture's head, on which AS* is high
pub record RunsAs (p : Plan) (probed : Probed) (c : Capture) (first : Standings) : Type 0 where
  pub lines : Levels
  pub low : Segments
  pub said : HeadSays p c lines low
  pub high : is_among c.lows (signal.Line AddressStrobe) ≡ false
  pub known : Runs p probed lines low first

-- what is known where the capture begins
pub record StartsAs (p : Plan) (probed : Probed) (c : Capture) (first : Standings) : Type 0 where
  pub power_up : c.is_running ≡ false → IsPowerUp p first
  pub running : c.is_running ≡ true → RunsAs p probed c first

-- from what is known first, the hidden moves and a change in turn lead to what is known last
abbrev pub Follows : Plan → Probed → Standings → List Change → Standings → Type 0
Follows p probed first [] last = last ≡ first
Follows p probed first (c ∷ earlier) last =
    (before hidden : Standings) × Follows p probed first earlier before
    × HasMoved p probed before hidden × IsBehind p probed hidden c last
