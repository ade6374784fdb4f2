-- What is known of the bus behind what was said of a capture, and what is written of it. What was
-- said is looked back at, so these lists have the newest first.
use Rattle.std.specs.Prelude.{◌≡◌, ◌<◌, ◌++◌, ◌∷◌, [], ℕ, Bool, true, false, List, Option, Some, None, codes, length, unwrap_or}
use Rattle.vme_model.specs.declared.signals.Version.{Version}
use Rattle.vme_model.specs.Plan.{Plan}
use Rattle.vme_model.specs.Text.{next_number}
use Rattle.vme_captures.specs.declared.levels.Levels.{Levels}
use Rattle.vme_captures.specs.declared.reader.Probe.{Probe}
use Rattle.vme_captures.specs.declared.signals.Change.{Change}
use Rattle.vme_captures.specs.declared.signals.Entry.{Entry}
use Rattle.vme_captures.specs.declared.signals.Entry.TheVariants as entry
use Rattle.vme_captures.specs.declared.signals.Line.{Line}
use Rattle.vme_captures.specs.declared.signals.Signal.TheVariants as signal
use Rattle.vme_captures.specs.Feeding.{probes_of}
use Rattle.vme_captures.specs.Levels.{is_line_left_low}
use Rattle.vme_captures.specs.Reading.{is_left_low, is_running, last_moment}
use Rattle.vme_captures.specs.Signals.{is_line}
use Rattle.vme_standings.specs.declared.segments.Segments.{Segments}
use Rattle.vme_standings.specs.declared.standings.Drivers.{Drivers}
use Rattle.vme_standings.specs.declared.standings.Probed.{Probed}
use Rattle.vme_standings.specs.declared.standings.Standings.{Standings}
use Rattle.vme_standings.specs.Behind.{IsBehind}
use Rattle.vme_standings.specs.Driving.{AreDrivers}
use Rattle.vme_standings.specs.Hidden.{HasMoved}
use Rattle.vme_standings.specs.Running.{CannotRun, IsPowerUp, Runs}
use Rattle.vme_standings.specs.Standings.{Drive, is_nobody}
use Rattle.vme_samples.specs.declared.samples.SeenChange.{SeenChange}
use Rattle.vme_samples.specs.Samples.{joins}
use Rattle.vme_probe.specs.declared.judging.Known.{Known}
use Rattle.vme_probe.specs.Ends.{IsEnd}
use Rattle.vme_probe.specs.Lines.{change_line}
use Rattle.vme_probe.specs.Pins.{HoldsProbed}
use Rattle.vme_probe.specs.Sampled.{CannotSample, Samples}
use Rattle.vme_probe.specs.Stopped.{stopped_text}

-- ---- the beginning

-- the version, and the segments of the pins
pub record IsProbed (version : Version) (probes : List Probe) (probed : Probed) : Type 0 where
  pub version_is : probed.version ≡ version
  pub segments : HoldsProbed false probes probed.segments

-- the levels of the shared lines and of these probes
pub record AreLevels (probes : List Probe) (is_low : Line → Bool) (lines : Levels)
    (low : Segments) : Type 0 where
  pub lines_are : (l : Line) → is_line l ≡ true → is_line_left_low lines l ≡ is_low l
  pub low_are : HoldsProbed true probes low

-- a bus at power-up, or one that is running with these levels
abbrev pub StartsWith : Plan → List Probe → (Line → Bool) → Probed → Bool → Standings → Type 0
StartsWith p probes is_low probed false st = IsPowerUp p st
StartsWith p probes is_low probed true st =
    (lines : Levels) × (low : Segments) × AreLevels probes is_low lines low
    × Runs p probed lines low st

-- no bus that is running has these levels
abbrev pub CannotStart : Plan → List Probe → (Line → Bool) → Probed → Bool → Type 0
CannotStart p probes is_low probed false = ⊥
CannotStart p probes is_low probed true =
    (lines : Levels) × (low : Segments) × AreLevels probes is_low lines low
    × CannotRun p probed lines low

-- what is known before the first change
pub record BeginsWith (p : Plan) (version : Version) (probes : List Probe) (is_low : Line → Bool)
    (running : Bool) (k : Known) : Type 0 where
  pub probed : IsProbed version probes k.probed
  pub start : StartsWith p probes is_low k.probed running k.standings
  pub none : k.changes ≡ 0

-- no bus that keeps the rules has the levels
pub record CannotBeginWith (p : Plan) (version : Version) (probes : List Probe)
    (is_low : Line → Bool) (running : Bool) : Type 0 where
  pub probed : Probed
  pub probed_is : IsProbed version probes probed
  pub cannot : CannotStart p probes is_low probed running

-- a line is low by what the head said
abbrev pub is_low_by : List Entry → Line → Bool
is_low_by said l = is_left_low said (signal.Line l)

-- the same when a head that says this has ended
abbrev pub Begins : Plan → Version → List Entry → Known → Type 0
Begins p version said k =
    BeginsWith p version (probes_of p said) (is_low_by said) (is_running said) k

abbrev pub CannotBegin : Plan → Version → List Entry → Type 0
CannotBegin p version said =
    CannotBeginWith p version (probes_of p said) (is_low_by said) (is_running said)

-- ---- a change

-- these drivers may have made the change, and then that is known
pub record Follows (p : Plan) (old : Known) (c : Change) (d : Drivers) (new : Known) : Type 0 where
  pub hidden : Standings
  pub moved : HasMoved p old.probed old.standings hidden
  pub drivers : AreDrivers p old.probed hidden c d
  pub some : is_nobody d ≡ false
  pub behind : IsBehind p old.probed hidden c new.standings
  pub probed : new.probed ≡ old.probed
  pub changes : new.changes ≡ next_number old.changes

-- nobody may have made the change at that moment, and that is written of it
pub record Stops (p : Plan) (old : Known) (m : ℕ) (c : Change) (text : List ℕ) : Type 0 where
  pub hidden : Standings
  pub moved : HasMoved p old.probed old.standings hidden
  pub makers : Drivers
  pub makers_are : AreDrivers p old.probed hidden c makers
  pub nobody : is_nobody makers ≡ true
  pub owners : Drivers
  pub owners_are : Drive p c.signal owners
  pub is : text ≡ stopped_text p old.probed.version hidden m c owners

-- ---- a sample

-- The changes of a sample may have been made, and that is known then and written. They are in the
-- order of the capture. One change alone has one order.
abbrev pub TakesSample : Plan → Known → List SeenChange → Known → List ℕ → Type 0
TakesSample p old [] new text = (new ≡ old) × (text ≡ [])
TakesSample p old (s ∷ []) new text =
    (d : Drivers) × Follows p old s.change d new × (text ≡ change_line s.moment s.change d)
TakesSample p old (s ∷ t ∷ others) new text = Samples p old (s ∷ t ∷ others) new text

-- they cannot have been made, in whatever order, and that is written
abbrev pub StopsSample : Plan → Known → List SeenChange → List ℕ → Type 0
StopsSample p old [] text = ⊥
StopsSample p old (s ∷ []) text = Stops p old s.moment s.change text
StopsSample p old (s ∷ t ∷ others) text = CannotSample p old (s ∷ t ∷ others) text

-- ---- the end

-- what is written at the end of a capture with these probes
pub record Ends (p : Plan) (k : Known) (probes : List Probe) (text : List ℕ) : Type 0 where
  pub hidden : Standings
  pub moved : HasMoved p k.probed k.standings hidden
  pub is : IsEnd p k.probed hidden probes k.changes text

-- ---- what was said

-- Known before a moment is what the head says, if it ends there.
abbrev pub Begun : Plan → Version → List Entry → Option Known → Known → Type 0
Begun p version said None k = Begins p version said k
Begun p version said (Some j) k = j ≡ k

-- a line for each change
pub record Takes (p : Plan) (before : List ℕ) (old : Known) (m : ℕ) (c : Change) (new : Known)
    (text : List ℕ) : Type 0 where
  pub drivers : Drivers
  pub follows : Follows p old c drivers new
  pub is : text ≡ before ++ change_line m c drivers

-- A change belongs to the sample that waits, and waits with it; or that sample is complete, and is
-- judged. A sample has at most 12 changes.
pub record Waits (p : Plan) (skew : ℕ) (before : List ℕ) (old : Known) (waiting : List SeenChange)
    (s : SeenChange) (new : Known) (waits : List SeenChange) (text : List ℕ) : Type 0 where
  pub joined : joins skew waiting s.moment ≡ true
      → (length waiting < 12) × (waits ≡ waiting ++ s ∷ []) × (new ≡ old) × (text ≡ before)
  pub complete : joins skew waiting s.moment ≡ false
      → (lines : List ℕ) × TakesSample p old waiting new lines × (waits ≡ s ∷ [])
      × (text ≡ before ++ lines)

-- With `--skew` the changes of a sample are judged together, and without it each by itself.
abbrev pub TakesNext :
    Plan → Option ℕ → List ℕ → Known → List SeenChange → SeenChange
    → Known → List SeenChange → List ℕ → Type 0
TakesNext p None before old waiting s new waits text =
    Takes p before old s.moment s.change new text × (waits ≡ [])
TakesNext p (Some skew) before old waiting s new waits text =
    Waits p skew before old waiting s new waits text

-- a change at the last moment
abbrev pub seen_at : List Entry → Change → SeenChange
seen_at said c = record { moment = unwrap_or (last_moment said) 0; change = c }

-- Behind what was said: what is known, once the head has ended, the changes that wait for their
-- sample to be complete, and the lines that are written. Somebody may have made each change that
-- was judged.
abbrev pub Judged :
    Plan → Version → Option ℕ → List Entry → Option Known → List SeenChange → List ℕ → Type 0
Judged p version skew [] known waits text = (known ≡ None) × (waits ≡ []) × (text ≡ [])
Judged p version skew (entry.Pin q ∷ said) known waits text =
    Judged p version skew said known waits text
Judged p version skew (entry.Running ∷ said) known waits text =
    Judged p version skew said known waits text
Judged p version skew (entry.Low x ∷ said) known waits text =
    Judged p version skew said known waits text
Judged p version skew (entry.Moment m ∷ said) known waits text =
    (before : Option Known) × (k : Known) × Judged p version skew said before waits text
    × Begun p version said before k × (known ≡ Some k)
Judged p version skew (entry.Change c ∷ said) known waits text =
    (before : Known) × (waiting : List SeenChange) × (lines : List ℕ) × (k : Known)
    × Judged p version skew said (Some before) waiting lines
    × TakesNext p skew lines before waiting (seen_at said c) k waits text × (known ≡ Some k)

-- what is written if no bus that keeps the rules has the levels of the head
abbrev pub no_beginning : List ℕ
no_beginning = codes "impossible running" ++ 10 ∷ []

-- what is written of a change that is impossible, or of the sample that is complete before it
abbrev pub StopsNext :
    Plan → Option ℕ → Known → List SeenChange → SeenChange → List ℕ → Type 0
StopsNext p None old waiting s text = Stops p old s.moment s.change text
StopsNext p (Some skew) old waiting s text =
    (joins skew waiting s.moment ≡ false) × StopsSample p old waiting text

-- what is written of a capture that is impossible at what was said last
abbrev pub StopsAt : Plan → Version → Option ℕ → List Entry → Entry → List ℕ → Type 0
StopsAt p version skew said (entry.Moment m) text =
    (waits : List SeenChange) × (lines : List ℕ) × Judged p version skew said None waits lines
    × CannotBegin p version said × (text ≡ lines ++ no_beginning)
StopsAt p version skew said (entry.Change c) text =
    (before : Known) × (waiting : List SeenChange) × (lines : List ℕ) × (others : List ℕ)
    × Judged p version skew said (Some before) waiting lines
    × StopsNext p skew before waiting (seen_at said c) others × (text ≡ lines ++ others)
StopsAt p version skew said _ text = ⊥

-- a 13th change of a sample was said last, and these lines are written of what was judged before
pub record IsOverfull (p : Plan) (version : Version) (skew : Option ℕ) (said : List Entry)
    (c : Change) (text : List ℕ) : Type 0 where
  pub most : ℕ
  pub skew_is : skew ≡ Some most
  pub known : Known
  pub waiting : List SeenChange
  pub judged : Judged p version skew said (Some known) waiting text
  pub joined : joins most waiting (seen_at said c).moment ≡ true
  pub full : length waiting ≡ 12

-- The lines of all changes of a capture that says this, and what is known then: somebody may have
-- made each change.
pub record HasLines (p : Plan) (version : Version) (skew : Option ℕ) (said : List Entry)
    (after : Known) (text : List ℕ) : Type 0 where
  pub before : Option Known
  pub waits : List SeenChange
  pub lines : List ℕ
  pub judged : Judged p version skew said before waits lines
  pub known : Known
  pub begun : Begun p version said before known
  pub sample : List ℕ
  pub takes : TakesSample p known waits after sample
  pub is : text ≡ lines ++ sample

-- All that is written of such a capture.
pub record IsWhole (p : Plan) (version : Version) (skew : Option ℕ) (said : List Entry)
    (text : List ℕ) : Type 0 where
  pub after : Known
  pub lines : List ℕ
  pub has : HasLines p version skew said after lines
  pub last : List ℕ
  pub ends : Ends p after (probes_of p said) last
  pub is : text ≡ lines ++ last

-- All that is written of a capture that says this, if its last sample is impossible.
pub record IsStoppedAtEnd (p : Plan) (version : Version) (skew : Option ℕ) (said : List Entry)
    (text : List ℕ) : Type 0 where
  pub known : Known
  pub waits : List SeenChange
  pub lines : List ℕ
  pub judged : Judged p version skew said (Some known) waits lines
  pub others : List ℕ
  pub stops : StopsSample p known waits others
  pub is : text ≡ lines ++ others

-- The head alone was said, and its levels are those of no bus that keeps the rules.
pub record IsUnbegun (p : Plan) (version : Version) (skew : Option ℕ) (said : List Entry)
    (text : List ℕ) : Type 0 where
  pub waits : List SeenChange
  pub lines : List ℕ
  pub judged : Judged p version skew said None waits lines
  pub cannot : CannotBegin p version said
  pub is : text ≡ lines ++ no_beginning
