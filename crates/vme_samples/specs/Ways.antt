-- What is known of the bus behind each set of the changes of a sample, and who may have made each
-- change on a way to all of a set.
use Rattle.std.specs.Prelude.{◌≡◌, ◌≢◌, ◌⊎◌, ◌<◌, ◌≤◌, ◌&&◌, ◌^◌, ℕ, zero, suc, Bool, true, false, List, Option, Some, None, length, nat_le, slice_index_or, count_ones}
use Rattle.std.specs.List.{slice_get}
use Rattle.vme_model.specs.Plan.{Plan}
use Rattle.vme_bus.specs.Sets.{has}
use Rattle.vme_captures.specs.declared.signals.Change.{Change}
use Rattle.vme_standings.specs.declared.standings.Drivers.{Drivers}
use Rattle.vme_standings.specs.declared.standings.Probed.{Probed}
use Rattle.vme_standings.specs.declared.standings.Standings.{Standings}
use Rattle.vme_standings.specs.Behind.{IsBehind}
use Rattle.vme_standings.specs.Driving.{AreDrivers}
use Rattle.vme_standings.specs.Hidden.{HasMoved}
use Rattle.vme_standings.specs.Standings.{is_nobody}
use Rattle.vme_standings.specs.Unions.{Unites}
use Rattle.vme_samples.specs.declared.places.Places.{Places}
use Rattle.vme_samples.specs.declared.samples.SeenChange.{SeenChange}
use Rattle.vme_samples.specs.Places.{IsBefore, has_place, with, without}
use Rattle.vme_samples.specs.Samples.{comes_next}

-- ---- what is known behind a set

-- what is known behind each set, by its number, with the edges that no probe sees
abbrev pub Known : Type 0
Known = List (Option Standings)

abbrev pub hidden_behind : Known → Places → Option Standings
hidden_behind known set = slice_index_or known set.bits None

-- somebody may make the change, and that is known behind it
pub record Makes (p : Plan) (probed : Probed) (hidden : Standings) (c : Change)
    (new : Standings) : Type 0 where
  pub drivers : Drivers
  pub are : AreDrivers p probed hidden c drivers
  pub some : is_nobody drivers ≡ false
  pub behind : IsBehind p probed hidden c new

-- nobody may make it
pub record CannotMake (p : Plan) (probed : Probed) (hidden : Standings) (c : Change) : Type 0 where
  pub drivers : Drivers
  pub are : AreDrivers p probed hidden c drivers
  pub nobody : is_nobody drivers ≡ true

-- what is known behind a change, if something is known before it
abbrev pub Steps : Plan → Probed → Option Standings → Option SeenChange → Option Standings → Type 0
Steps p probed (Some hidden) (Some s) (Some new) = Makes p probed hidden s.change new
Steps p probed (Some hidden) (Some s) None = CannotMake p probed hidden s.change
Steps p probed _ _ new = new ≡ None

-- the change at the place may be the last one of the set
abbrev pub may_be_last : List SeenChange → Places → ℕ → Bool
may_be_last sample set i = has_place set i && comes_next sample (without set i) i

-- what is known behind the set if it is
pub record LedTo (p : Plan) (probed : Probed) (sample : List SeenChange) (known : Known)
    (set : Places) (i : ℕ) (new : Option Standings) : Type 0 where
  pub able : may_be_last sample set i ≡ true
      → Steps p probed (hidden_behind known (without set i)) (slice_get sample i) new
  pub unable : may_be_last sample set i ≡ false → new ≡ None

-- what is known if one of the two is, as far as there are
abbrev pub Joins : Option Standings → Option Standings → Option Standings → Type 0
Joins None b new = new ≡ b
Joins (Some a) None new = new ≡ Some a
Joins (Some a) (Some b) new = (u : Standings) × Unites a b u × (new ≡ Some u)

-- what is known behind the set if one of the first n changes is its last
abbrev pub Gathered :
    Plan → Probed → List SeenChange → Known → Places → ℕ → Option Standings → Type 0
Gathered p probed sample known set zero new = new ≡ None
Gathered p probed sample known set (suc n) new =
    (others one : Option Standings) × Gathered p probed sample known set n others
    × LedTo p probed sample known set n one × Joins others one new

-- with the edges that no probe sees
abbrev pub Hides : Plan → Probed → Option Standings → Option Standings → Type 0
Hides p probed None new = new ≡ None
Hides p probed (Some st) new = (hidden : Standings) × HasMoved p probed st hidden
    × (new ≡ Some hidden)

-- what is known behind a set that is not empty
pub record IsKnownBehind (p : Plan) (probed : Probed) (sample : List SeenChange) (known : Known)
    (set : Places) : Type 0 where
  pub at : Option Standings
  pub gathered : Gathered p probed sample known set (length sample) at
  pub hides : Hides p probed at (hidden_behind known set)

-- what is known behind each set of the changes of a sample, given what is known before it
pub record AreWays (p : Plan) (probed : Probed) (start : Standings) (sample : List SeenChange)
    (known : Known) : Type 0 where
  pub begins : Hides p probed (Some start) (hidden_behind known (record { bits = 0 }))
  pub others : (set : Places) → 0 < set.bits → set.bits < 2 ^ length sample
      → IsKnownBehind p probed sample known set

-- ---- how far a sample is possible

-- something is known behind the set
abbrev pub IsReached : Known → Places → Type 0
IsReached known set = (st : Standings) × (hidden_behind known set ≡ Some st)

-- something is known behind the set, and it has more places than the other, or as many and comes
-- before it
pub record IsFarther (known : Known) (set other : Places) : Type 0 where
  pub reached : IsReached known set
  pub more : (count_ones other.bits < count_ones set.bits)
      ⊎ ((count_ones other.bits ≡ count_ones set.bits) × IsBefore set other)

-- of the sets of so many places behind which something is known the one with the most places, and
-- of these the first
pub record IsFurthest (known : Known) (count : ℕ) (set : Places) : Type 0 where
  pub near : set.bits < 2 ^ count
  pub reached : 0 < set.bits → IsReached known set
  pub none : (other : Places) → other.bits < 2 ^ count → IsFarther known other set → ⊥

-- ---- who may have made a change

abbrev pub nobody : Drivers
nobody = record { controller = false; boards = record { bits = 0 } }

-- whether all of a set, the goal, is reached from each set, by its number
abbrev pub Reaching : Type 0
Reaching = List Bool

abbrev pub reaching_at : Reaching → Places → Bool
reaching_at reaching set = slice_index_or reaching set.bits false

-- all of the goal is reached from the set; it is from none of a greater number
abbrev pub is_reaching : Reaching → Places → Places → Bool
is_reaching reaching goal set = nat_le set.bits goal.bits && reaching_at reaching set

-- those who may make the change, if something is known before it
abbrev pub AreOf : Plan → Probed → Option Standings → Option SeenChange → Drivers → Type 0
AreOf p probed (Some hidden) (Some s) d = AreDrivers p probed hidden s.change d
AreOf p probed _ _ d = d ≡ nobody

-- those who may make the change at the place next behind the set, if all of the goal is reached
-- then
pub record MakeNext (p : Plan) (probed : Probed) (sample : List SeenChange) (known : Known)
    (goal : Places) (reaching : Reaching) (set : Places) (i : ℕ) (d : Drivers) : Type 0 where
  pub able : comes_next sample set i ≡ true → is_reaching reaching goal (with set i) ≡ true
      → AreOf p probed (hidden_behind known set) (slice_get sample i) d
  pub late : comes_next sample set i ≡ false → d ≡ nobody
  pub lost : is_reaching reaching goal (with set i) ≡ false → d ≡ nobody

-- they may make it, and there is somebody
pub record SomeMake (p : Plan) (probed : Probed) (sample : List SeenChange) (known : Known)
    (goal : Places) (reaching : Reaching) (set : Places) (i : ℕ) (d : Drivers) : Type 0 where
  pub next : MakeNext p probed sample known goal reaching set i d
  pub some : is_nobody d ≡ false

-- all of these are among those
pub record AreAmong (some all : Drivers) : Type 0 where
  pub controller : some.controller ≡ true → all.controller ≡ true
  pub boards : (s : ℕ) → has some.boards s ≡ true → has all.boards s ≡ true

-- Of each set: those who may make the change at the place next behind it are among all of them, and
-- if there is somebody, all of the goal is reached from it.
pub record HasAll (p : Plan) (probed : Probed) (sample : List SeenChange) (known : Known)
    (goal : Places) (reaching : Reaching) (set : Places) (i : ℕ) (all : Drivers) : Type 0 where
  pub drivers : Drivers
  pub next : MakeNext p probed sample known goal reaching set i drivers
  pub among : AreAmong drivers all
  pub reaches : is_nobody drivers ≡ false → reaching_at reaching set ≡ true

-- some of those who may make the change at the place next behind a set
pub record Source (p : Plan) (probed : Probed) (sample : List SeenChange) (known : Known)
    (goal : Places) (reaching : Reaching) (i : ℕ) : Type 0 where
  pub set : Places
  pub near : set.bits ≤ goal.bits
  pub drivers : Drivers
  pub next : MakeNext p probed sample known goal reaching set i drivers

-- exactly those who may make the change at the place on some way to all of the goal
pub record AreMakersOf (p : Plan) (probed : Probed) (sample : List SeenChange) (known : Known)
    (goal : Places) (reaching : Reaching) (i : ℕ) (d : Drivers) : Type 0 where
  pub controller : d.controller ≡ true
      → (x : Source p probed sample known goal reaching i) × (x.drivers.controller ≡ true)
  pub boards : (s : ℕ) → has d.boards s ≡ true
      → (x : Source p probed sample known goal reaching i) × (has x.drivers.boards s ≡ true)
  pub all : (set : Places) → set.bits ≤ goal.bits
      → HasAll p probed sample known goal reaching set i d

-- from the goal all of it is reached, and from another set by a change next behind it
abbrev pub ReachesOn :
    Plan → Probed → List SeenChange → Known → Places → Reaching → Places → Type 0
ReachesOn p probed sample known goal reaching set =
    (set ≡ goal)
    ⊎ ((i : ℕ) × (i < length sample) × (d : Drivers)
    × SomeMake p probed sample known goal reaching set i d)

-- who may have made each change of the sample on the ways to all of the goal
pub record AreMakers (p : Plan) (probed : Probed) (sample : List SeenChange) (known : Known)
    (goal : Places) (by : ℕ → Drivers) : Type 0 where
  pub reaching : Reaching
  pub at_goal : reaching_at reaching goal ≡ true
  pub reaches : (set : Places) → set.bits ≤ goal.bits → reaching_at reaching set ≡ true
      → ReachesOn p probed sample known goal reaching set
  pub each : (i : ℕ) → i < length sample
      → AreMakersOf p probed sample known goal reaching i (by i)

-- ---- words

-- that is known behind the set, and of the others what was known
pub record Keeps (p : Plan) (probed : Probed) (set : Places) (at : Option Standings)
    (old new : Known) : Type 0 where
  pub here : Hides p probed at (hidden_behind new set)
  pub others : (other : Places) → other.bits ≢ set.bits
      → hidden_behind new other ≡ hidden_behind old other
