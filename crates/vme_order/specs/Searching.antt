-- What a search for an order keeps of the beginnings that it has tried.
use Rattle.std.specs.Prelude.{◌≡◌, ◌⊎◌, ◌+◌, ◌*◌, ◌/◌, ◌<◌, ◌≤◌, ◌∷◌, ℕ, true, false, All, List, [], Some, length, reverse, slice_index_or, take}
use Rattle.std.specs.List.{slice_get}
use Rattle.vme_model.specs.declared.signals.Version.{Version}
use Rattle.vme_model.specs.Plan.{Plan}
use Rattle.vme_moments.specs.declared.Seen.{Seen}
use Rattle.vme_moments.specs.declared.slacks.Slacks.{Slacks}
use Rattle.vme_moments.specs.Orders.{IsFree, IsLegalBeginning, IsLesser, edges_at, has}
use Rattle.vme_bus.specs.declared.states.BusState.{BusState}
use Rattle.vme_bus.specs.Kinds.{kind_of}
use Rattle.vme_bus.specs.States.{IsStateOf}
use Rattle.vme_order.specs.declared.dead.Dead.{Dead}
use Rattle.vme_order.specs.declared.dead.Kind.{Kind}
use Rattle.vme_order.specs.declared.paths.Path.{Path}
use Rattle.vme_order.specs.declared.search.Search.{Search}
use Rattle.vme_order.specs.Places.{AreTaken, IsCounted}

-- what is searched in
pub record Task : Type 0 where
  pub version : Version
  pub plan : Plan
  pub slacks : Slacks
  pub seen : List Seen

abbrev pub IsLegalIn : Task → List ℕ → Type 0
IsLegalIn t places = IsLegalBeginning t.version t.plan t.slacks t.seen places

-- the edges at these places lead to this state
abbrev pub LeadsTo : Task → List ℕ → BusState → Type 0
LeadsTo t places b = IsStateOf t.version t.plan (edges_at t.seen places) b

-- two beginnings have the same places, as many, and lead to one state
pub record IsOneKind (t : Task) (q r : List ℕ) : Type 0 where
  pub count : length q ≡ length r
  pub places : (i : ℕ) → has q i ≡ has r i
  pub state : BusState
  pub first : LeadsTo t q state
  pub other : LeadsTo t r state

-- one list of places goes on from another
abbrev pub GoesOn : List ℕ → List ℕ → Type 0
GoesOn [] q = [] ≡ q
GoesOn (j ∷ places) q = ((j ∷ places) ≡ q) ⊎ GoesOn places q

-- no legal beginning that goes on from these places has more than that many
abbrev pub IsBarren : Task → ℕ → List ℕ → Type 0
IsBarren t n q = (places : List ℕ) → IsLegalIn t places → GoesOn places q → length places ≤ n

-- of each beginning of the kind of this one, all places below that one were tried
abbrev pub IsTried : Task → ℕ → ℕ → List ℕ → Type 0
IsTried t n next path =
    (q : List ℕ) (j : ℕ) → IsOneKind t q path → j < next → IsBarren t n (j ∷ q)

-- the same of the path and of each front of it, where the places below the one that it went on with
-- were tried
abbrev pub AreTried : Task → ℕ → ℕ → List ℕ → Type 0
AreTried t n next [] = IsTried t n next []
AreTried t n next (j ∷ path) = IsTried t n next (j ∷ path) × AreTried t n j path

-- each front of a path leads to a state, and so does whatever is of one kind with it, with the place
-- that the path went on with
abbrev pub AreLinked : Task → List ℕ → Type 0
AreLinked t [] = IsOneKind t [] []
AreLinked t (j ∷ path) = IsOneKind t (j ∷ path) (j ∷ path) × AreLinked t path
    × ((q : List ℕ) → IsOneKind t q path → IsOneKind t (j ∷ q) (j ∷ path))

-- ---- kinds

-- A beginning is of this kind: it has just its places, and leads to a state that has it.
pub record IsOfKind (t : Task) (q : List ℕ) (kind : Kind) : Type 0 where
  pub state : BusState
  pub leads : LeadsTo t q state
  pub bus : kind_of state ≡ kind.bus
  pub count : length q ≡ kind.count
  pub below : (i : ℕ) → i < kind.least → has q i ≡ true
  pub window : (k : ℕ) → k < 128 → slice_index_or kind.window k false ≡ has q (kind.least + k)
  pub beyond : (i : ℕ) → kind.least + 128 ≤ i → has q i ≡ false

-- a kind is remembered
abbrev pub Keeps : Dead → Kind → Type 0
Keeps d kind = (k : ℕ) × (slice_get d.kinds.items k ≡ Some (Some kind))

-- of no beginning of a kind that is remembered comes anything with more than that many
abbrev pub AreBarren : Task → ℕ → Dead → Type 0
AreBarren t n d =
    (kind : Kind) (q : List ℕ) → Keeps d kind → IsOfKind t q kind → IsBarren t n q

-- ---- a path

abbrev pub newest_first : Path → List ℕ
newest_first path = reverse path.places.items

-- A path of so many places at most, each below that number, keeps a state for each 64 of them.
pub record IsRoute (n : ℕ) (path : Path) : Type 0 where
  pub places : All (λ p. p < n) path.places.items
  pub count : length path.kept.items ≡ length path.places.items / 64 + 1

-- the state of a path is that of its places, and the states that it keeps are those of its first 0,
-- 64, 128 .. places
pub record IsPathIn (t : Task) (path : Path) : Type 0 where
  pub within : (i : ℕ) → has (newest_first path) i ≡ true → i < length t.seen
  pub leads : LeadsTo t (newest_first path) path.state
  pub kept : (c : ℕ) (b : BusState) → slice_get path.kept.items c ≡ Some b
      → LeadsTo t (reverse (take (64 * c) path.places.items)) b

-- ---- a search

-- The parts of a search in so many places fit together.
pub record IsFit (n : ℕ) (s : Search) : Type 0 where
  pub route : IsRoute n s.path
  pub counted : IsCounted s.taken
  pub room : length s.taken.flags.items ≡ n
  pub kinds : length s.dead.kinds.items ≡ 32768
  pub short : length s.path.places.items ≤ length s.longest.items
  pub within : All (λ p. p < n) s.longest.items
  pub shared_path : s.shared ≤ length s.path.places.items
  pub shared_longest : s.shared ≤ length s.longest.items

-- A search under way, where the places below that one were tried.
pub record IsUnderWay (t : Task) (from : ℕ) (s : Search) : Type 0 where
  pub path : IsPathIn t s.path
  pub legal : IsLegalIn t (newest_first s.path)
  pub taken : AreTaken t.seen (newest_first s.path) s.taken
  pub near : (i : ℕ) → has (newest_first s.path) i ≡ true → i < s.taken.least + 128
  pub barren : AreBarren t (length s.longest.items) s.dead
  pub tried : AreTried t (length s.longest.items) from (newest_first s.path)
  pub linked : AreLinked t (newest_first s.path)
  pub found : IsLegalIn t (reverse s.longest.items)
  pub least : (others : List ℕ) → IsLegalIn t others → length others ≡ length s.longest.items
      → ¬ IsLesser others (reverse s.longest.items)
  pub shared : take s.shared s.longest.items ≡ take s.shared s.path.places.items

-- a place comes next, and none between it and those that were tried does
pub record IsNextIn (t : Task) (from place : ℕ) (s : Search) : Type 0 where
  pub behind : from ≤ place
  pub free : IsFree t.slacks t.seen (newest_first s.path) place
  pub least : (j : ℕ) → from ≤ j → j < place → IsFree t.slacks t.seen (newest_first s.path) j → ⊥

-- no place is left to try
abbrev pub IsTriedOut : Task → ℕ → Search → Type 0
IsTriedOut t from s = (j : ℕ) → from ≤ j → IsFree t.slacks t.seen (newest_first s.path) j → ⊥
