-- What is printed of a capture with `--skew`, beside all buses that keep the rules and show its
-- changes, those of each sample in some order of the sample. What was said is looked back at, so
-- lists of what was said, of samples, changes and sightings have the newest first. The changes of a
-- sample are in the order of the capture.
use Rattle.std.specs.Prelude.{◌≡◌, ◌⊎◌, ◌++◌, ◌∷◌, [], if◌then◌else◌, ℕ, zero, suc, List, None, Some, length, reverse, take}
use Rattle.std.specs.List.{slice_get}
use Rattle.std.specs.Option.{option_map_or}
use Rattle.vme_model.specs.declared.signals.Edge.{Edge}
use Rattle.vme_model.specs.declared.signals.Version.{Version}
use Rattle.vme_model.specs.Plan.{Plan}
use Rattle.vme_captures.specs.declared.signals.Change.{Change}
use Rattle.vme_captures.specs.declared.signals.Entry.{Entry}
use Rattle.vme_captures.specs.declared.signals.Entry.TheVariants as entry
use Rattle.vme_captures.specs.Possible.{Capture, Explains, IsPossible, sightings}
use Rattle.vme_captures.specs.Reading.{Reading, is_running, lows, pins}
use Rattle.vme_standings.specs.declared.standings.Drivers.{Drivers}
use Rattle.vme_samples.specs.declared.samples.SeenChange.{SeenChange}
use Rattle.vme_samples.specs.Orders.{AreNamed, AreOrdersOf, IsOrderOf}
use Rattle.vme_samples.specs.Samples.{joins}
use Rattle.vme_probe.specs.Knowing.{seen_at}
use Rattle.vme_probe.specs.Lines.{change_line}
use Rattle.vme_probe.specs.Naming.{Tells, Told, last_text}

-- a change more belongs to the newest sample, or begins one
abbrev pub with_change : ℕ → List (List SeenChange) → SeenChange → List (List SeenChange)
with_change skew [] s = (s ∷ []) ∷ []
with_change skew (sample ∷ earlier) s =
    if joins skew sample s.moment then (sample ++ s ∷ []) ∷ earlier else (s ∷ []) ∷ sample ∷ earlier

-- the samples of a capture that says this
abbrev pub samples : ℕ → List Entry → List (List SeenChange)
samples skew [] = []
samples skew (entry.Change c ∷ said) = with_change skew (samples skew said) (seen_at said c)
samples skew (entry.Pin q ∷ said) = samples skew said
samples skew (entry.Running ∷ said) = samples skew said
samples skew (entry.Low x ∷ said) = samples skew said
samples skew (entry.Moment m ∷ said) = samples skew said

-- a capture that begins so, with these changes
abbrev pub in_order : Version → List Entry → List Change → Capture
in_order version said changes = record {
  version = version;
  pins = pins said;
  is_running = is_running said;
  lows = lows said;
  changes = changes;
}

-- Whoever made the changes of a sample is named, each at its place: in every legal list that shows
-- those of the earlier samples in some order of each, and then those of this one in some order.
abbrev pub AreAllNamed :
    Plan → Version → List Entry → List SeenChange → List (List SeenChange) → (ℕ → Drivers) → Type 0
AreAllNamed p version said sample earlier by =
    (places : List ℕ) (here before : List Change) (g h : List Edge)
    → IsOrderOf sample places here → AreOrdersOf earlier before
    → Explains p (in_order version said (here ++ before)) g h
    → AreNamed by places (take (length here) (sightings p (pins said) g h))

-- a line for each of the first n changes
abbrev pub sample_lines : List SeenChange → (ℕ → Drivers) → ℕ → List ℕ
sample_lines sample by zero = []
sample_lines sample by (suc n) =
    sample_lines sample by n
    ++ option_map_or (λ s. change_line s.moment s.change (by n)) (slice_get sample n) []

-- the lines of these samples, which name all who may have made their changes
abbrev pub NamesSamples :
    Plan → Version → List Entry → List (List SeenChange) → List ℕ → Type 0
NamesSamples p version said [] text = text ≡ []
NamesSamples p version said (sample ∷ earlier) text =
    (before : List ℕ) × (by : ℕ → Drivers) × NamesSamples p version said earlier before
    × AreAllNamed p version said sample earlier by
    × (text ≡ before ++ sample_lines sample by (length sample))

-- The last lines leave out none of the buses that keep the rules and show all of these samples,
-- each in some order.
pub record TellsAllSamples (p : Plan) (version : Version) (said : List Entry)
    (all : List (List SeenChange)) (last : List ℕ) : Type 0 where
  pub told : Told
  pub is : last ≡ last_text p told
  pub tells : (changes : List Change) (g h : List Edge) → AreOrdersOf all changes
      → Explains p (in_order version said changes) g h
      → Tells p version (pins said) (h ++ g) told

-- no legal list shows the changes, whatever the order of those of each sample
abbrev pub IsNeverShown : Plan → Version → List Entry → List (List SeenChange) → Type 0
IsNeverShown p version said all =
    (changes : List Change) → AreOrdersOf all changes
    → IsPossible p (in_order version said changes) → ⊥

-- The text has the lines of all samples of a whole capture, and the last lines behind them.
pub record NamesAllSamples (p : Plan) (skew : ℕ) (r : Reading) (text : List ℕ) : Type 0 where
  pub version : Version
  pub named : r.version ≡ Some version
  pub whole : r.fault ≡ None
  pub said : List Entry
  pub are : r.entries ≡ reverse said
  pub lines : List ℕ
  pub names : NamesSamples p version said (samples skew said) lines
  pub last : List ℕ
  pub tells : TellsAllSamples p version said (samples skew said) last
  pub is : text ≡ lines ++ last

-- Of what was said first the text has the lines of the samples that were judged: all of them or all
-- but the newest. No bus that keeps the rules shows all of them.
pub record IsRefusedInOrders (p : Plan) (skew : ℕ) (r : Reading) (text : List ℕ) : Type 0 where
  pub version : Version
  pub named : r.version ≡ Some version
  pub said : List Entry
  pub others : List Entry
  pub are : r.entries ≡ reverse said ++ others
  pub judged : List (List SeenChange)
  pub up_to : (samples skew said ≡ judged)
      ⊎ ((refused : List SeenChange) × (samples skew said ≡ refused ∷ judged))
  pub lines : List ℕ
  pub names : NamesSamples p version said judged lines
  pub never : IsNeverShown p version said (samples skew said)
  pub last : List ℕ
  pub is : text ≡ lines ++ last
