-- What is true of a condition that is named with `--skew`. What is known before a change of a
-- sample is known behind the earlier samples, and behind some changes of this one. Lists of edges,
-- of changes and of samples have the newest first. The changes of a sample are in the order of the
-- capture.
use Rattle.std.specs.Prelude.{◌≡◌, ◌<◌, ◌++◌, ◌∷◌, [], ℕ, Bool, true, List, Some, length, reverse}
use Rattle.std.specs.List.{slice_get}
use Rattle.vme_model.specs.declared.signals.Driver.{Driver}
use Rattle.vme_model.specs.declared.signals.Edge.{Edge}
use Rattle.vme_model.specs.declared.signals.Version.{Version}
use Rattle.vme_model.specs.Plan.{Plan}
use Rattle.vme_captures.specs.declared.signals.Change.{Change}
use Rattle.vme_captures.specs.declared.signals.Entry.{Entry}
use Rattle.vme_captures.specs.Possible.{Explains}
use Rattle.vme_captures.specs.Reading.{Reading, pins}
use Rattle.vme_standings.specs.declared.standings.Standings.{Standings}
use Rattle.vme_standings.specs.Covers.{AreProbed}
use Rattle.vme_standings.specs.Following.{StartsAs}
use Rattle.vme_standings.specs.Hidden.{HasMoved}
use Rattle.vme_standings.specs.Moving.{moved_by}
use Rattle.vme_samples.specs.declared.makers.Makers.{Makers}
use Rattle.vme_samples.specs.declared.places.Places.{Places}
use Rattle.vme_samples.specs.declared.samples.SeenChange.{SeenChange}
use Rattle.vme_samples.specs.Orders.{AreInOrder, AreOrdersOf, set_of}
use Rattle.vme_samples.specs.Samples.{comes_next}
use Rattle.vme_samples.specs.Ways.{AreWays, Known as Ways, hidden_behind}
use Rattle.vme_probe.specs.declared.judging.Known.{Known}
use Rattle.vme_probe.specs.declared.obstacles.Obstacle.{Obstacle}
use Rattle.vme_probe.specs.Conditions.{obstacle}
use Rattle.vme_probe.specs.Holding.{NeverHoldsOn, has_it}
use Rattle.vme_probe.specs.Knowing.{TakesSample}
use Rattle.vme_probe.specs.Lines.{impossible_line}
use Rattle.vme_probe.specs.Sampled.{RefusesFirst, placed_lines}
use Rattle.vme_probe.specs.SampledNaming.{in_order, samples}

-- ---- what is known

-- sample by sample, what is known first leads to what is known last
abbrev pub LeadTo : Plan → Known → List (List SeenChange) → Known → Type 0
LeadTo p first [] last = last ≡ first
LeadTo p first (sample ∷ earlier) last =
    (before : Known) × (lines : List ℕ) × LeadTo p first earlier before × (0 < length sample)
    × TakesSample p before sample last lines

-- What is known behind those changes of a sample that are in the set, in whatever order, with the
-- edges that no probe sees. One change alone has no change of its sample before it.
abbrev pub IsKnownBehindSet : Plan → Known → List SeenChange → Places → Standings → Type 0
IsKnownBehindSet p old [] set last = ⊥
IsKnownBehindSet p old (s ∷ []) set last =
    (set ≡ set_of []) × HasMoved p old.probed old.standings last
IsKnownBehindSet p old (s ∷ t ∷ others) set last =
    (ways : Ways) × AreWays p old.probed old.standings (s ∷ t ∷ others) ways
    × (hidden_behind ways set ≡ Some last)

-- what is known behind a head that says this, these samples, and the changes of this sample that
-- are in the set
pub record IsKnownInSample
    (p : Plan) (version : Version) (said : List Entry) (earlier : List (List SeenChange))
    (sample : List SeenChange) (set : Places) (last : Standings)
    : Type 0 where
  pub first : Known
  pub version_is : version ≡ first.probed.version
  pub probes : AreProbed p (pins said) first.probed.segments
  pub starts : StartsAs p first.probed (in_order version said []) first.standings
  pub before : Known
  pub lead : LeadTo p first earlier before
  pub behind : IsKnownBehindSet p before sample set last

-- ---- what holds of no bus

-- A legal list of edges, those of g and then those of h, shows the earlier samples, each in some
-- order, and then the changes of this sample that are in the set, in some order.
pub record ShowsPart
    (p : Plan) (version : Version) (said : List Entry) (earlier : List (List SeenChange))
    (sample : List SeenChange) (set : Places) (g h : List Edge)
    : Type 0 where
  pub before : List Change
  pub orders : AreOrdersOf earlier before
  pub places : List ℕ
  pub here : List Change
  pub ordered : AreInOrder sample places here
  pub set_is : set_of places ≡ set
  pub explains : Explains p (in_order version said (here ++ before)) g h

-- together with those above it, the condition holds of the driver in no such list of edges
abbrev pub NeverHoldsInSample :
    Plan → Version → List Entry → List (List SeenChange) → List SeenChange → Places → Standings
    → Change → Driver → Obstacle → Type 0
NeverHoldsInSample p version said earlier sample set st v d o =
    NeverHoldsOn p version (ShowsPart p version said earlier sample set) st v d o

-- What was said first ends with a sample that is refused. Behind the lines of the earlier samples
-- the text has those of the changes of a set of its places, and then the lines of each change that
-- may come next behind the set, with those of its drivers. Each condition in them is such a
-- condition.
pub record TellsFailingInSample (p : Plan) (skew : ℕ) (r : Reading) (text : List ℕ) : Type 0 where
  pub version : Version
  pub named : r.version ≡ Some version
  pub said : List Entry
  pub others : List Entry
  pub are : r.entries ≡ reverse said ++ others
  pub sample : List SeenChange
  pub earlier : List (List SeenChange)
  pub samples_are : samples skew said ≡ sample ∷ earlier
  pub set : Places
  pub makers : Makers
  pub known : Standings
  pub refused : List ℕ
  pub ours : Bool
  pub refuses : RefusesFirst p version known sample set (length sample) refused ours
  pub lines : List ℕ
  pub moment : ℕ
  pub is : text ≡ lines ++ ((placed_lines sample set makers (length sample) ++ refused)
      ++ impossible_line moment ours)
  pub fail : (i : ℕ) (s : SeenChange) (d : Driver) (o : Obstacle)
      → slice_get sample i ≡ Some s → comes_next sample set i ≡ true
      → has_it p (moved_by p s.change.signal) d ≡ true
      → obstacle p version known s.change d ≡ Some o
      → NeverHoldsInSample p version said earlier sample set known s.change d o
