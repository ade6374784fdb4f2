-- What a search keeps of the legal beginnings, length by length.
use Rattle.std.specs.Prelude.{◌≡◌, ◌⊎◌, ◌+◌, ◌<◌, ◌≤◌, ◌++◌, ◌∷◌, [], ℕ, Bool, true, false, All, List, Some, length, reverse}
use Rattle.std.specs.List.{slice_get}
use Rattle.vme_model.specs.declared.signals.Version.{Version}
use Rattle.vme_model.specs.Plan.{Plan}
use Rattle.vme_moments.specs.declared.Seen.{Seen}
use Rattle.vme_moments.specs.declared.slacks.Slacks.{Slacks}
use Rattle.vme_moments.specs.Orders.{AreNext, IsFree, IsLegalBeginning, IsLesser, IsLongest, edges_at}
use Rattle.vme_bus.specs.declared.kinds.BusKind.{BusKind}
use Rattle.vme_bus.specs.declared.states.BusState.{BusState}
use Rattle.vme_bus.specs.Kinds.{kind_of}
use Rattle.vme_bus.specs.States.{IsStateOf}
use Rattle.vme_order_search.specs.declared.layers.Beginning.{Beginning}
use Rattle.vme_order_search.specs.declared.layers.Layer.{Layer}
use Rattle.vme_order_search.specs.declared.search.Found.{Found}
use Rattle.vme_order_search.specs.declared.search.Room.{Room}
use Rattle.vme_order_search.specs.declared.search.Room.TheVariants.{Enough, Lacking}
use Rattle.vme_order_search.specs.declared.search.Search.{Search}
use Rattle.vme_order_search.specs.declared.taken.Taken.{Taken}
use Rattle.vme_order_search.specs.declared.trails.Trail.{Trail}
use Rattle.vme_order_search.specs.Layers.{IsTable}
use Rattle.vme_order_search.specs.Places.{AreTaken, IsNarrow}
use Rattle.vme_order_search.specs.TooMany.{AreApart, HasTooMany, most_sets}
use Rattle.vme_order_search.specs.Trails.{Ends, IsTrail}

-- what is searched in
pub record Task : Type 0 where
  pub version : Version
  pub plan : Plan
  pub slacks : Slacks
  pub seen : List Seen

abbrev pub IsLegalIn : Task → List ℕ → Type 0
IsLegalIn t places = IsLegalBeginning t.version t.plan t.slacks t.seen places

-- the edges at these places lead to this state
abbrev pub LeadsTo : Task → List ℕ → BusState → Type 0
LeadsTo t places b = IsStateOf t.version t.plan (edges_at t.seen places) b

-- they lead to a state of this kind
abbrev pub Leads : Task → List ℕ → BusKind → Type 0
Leads t places kind = (b : BusState) × LeadsTo t places b × (kind_of b ≡ kind)

-- the first is the second, or the lesser of both
abbrev pub IsAtMost : List ℕ → List ℕ → Type 0
IsAtMost r q = (r ≡ q) ⊎ IsLesser r q

-- what is kept of a legal beginning of so many places
pub record IsKeptAs
    (t : Task) (trail : Trail) (n : ℕ) (b : Beginning) (path : List ℕ)
    : Type 0 where
  pub legal : IsLegalIn t path
  pub count : length path ≡ n
  pub ends : Ends trail b.step path
  pub taken : AreTaken path b.taken
  pub leads : Leads t path b.bus

-- One that is kept stands for a list of places: it is of its kind, and no greater.
pub record StandsFor (t : Task) (b : Beginning) (path q : List ℕ) : Type 0 where
  pub leads : Leads t q b.bus
  pub taken : AreTaken q b.taken
  pub most : IsAtMost path q

-- beginnings that are kept, with the places of each, from the least to the greatest
pub record AreKept (t : Task) (trail : Trail) (n : ℕ) (bs : List Beginning) (paths : ℕ → List ℕ)
    : Type 0 where
  pub each : (i : ℕ) (b : Beginning) → slice_get bs i ≡ Some b → IsKeptAs t trail n b (paths i)
  pub ascending : (i j : ℕ) → i < j → j < length bs → IsLesser (paths i) (paths j)

-- one that is kept stands for the list
pub record IsStoodFor (t : Task) (bs : List Beginning) (paths : ℕ → List ℕ) (q : List ℕ)
    : Type 0 where
  pub place : ℕ
  pub by : Beginning
  pub is : slice_get bs place ≡ Some by
  pub stands : StandsFor t by (paths place) q

-- all that are kept are less than the list, and some greater ones were left out
pub record IsLeftOut (is_cut : Bool) (bs : List Beginning) (paths : ℕ → List ℕ) (q : List ℕ)
    : Type 0 where
  pub cut : is_cut ≡ true
  pub beyond : (i : ℕ) → i < length bs → IsLesser (paths i) q

-- of the legal beginnings of so many places, those that are kept stand for all but greater ones
pub record IsLayer (t : Task) (trail : Trail) (is_cut : Bool) (n : ℕ) (bs : List Beginning)
    (paths : ℕ → List ℕ) : Type 0 where
  pub kept : AreKept t trail n bs paths
  pub all : (q : List ℕ) → IsLegalIn t q → length q ≡ n
      → IsStoodFor t bs paths q ⊎ IsLeftOut is_cut bs paths q

-- ---- the beginnings with one place more, as far as they were made, of those below the m-th
-- with every place, and of the m-th with the places below `from`

-- it was made
pub record IsMade (count m from : ℕ) (paths : ℕ → List ℕ) (path : List ℕ) : Type 0 where
  pub front : ℕ
  pub place : ℕ
  pub is : path ≡ place ∷ paths front
  pub within : front < count
  pub before : (front < m) ⊎ ((front ≡ m) × (place < from))

-- it is still to be made
pub record IsDue (t : Task) (m from : ℕ) (bs : List Beginning) (paths : ℕ → List ℕ) (j : ℕ)
    (q : List ℕ) : Type 0 where
  pub place : ℕ
  pub by : Beginning
  pub is : slice_get bs place ≡ Some by
  pub stands : StandsFor t by (paths place) q
  pub behind : (m < place) ⊎ ((m ≡ place) × (from ≤ j))

pub record AreLonger (t : Task) (trail : Trail) (is_cut : Bool) (n m from : ℕ) (bs : List Beginning)
    (paths : ℕ → List ℕ) (cs : List Beginning) (longer : ℕ → List ℕ) : Type 0 where
  pub kept : AreKept t trail (n + 1) cs longer
  pub made : (i : ℕ) → i < length cs → IsMade (length bs) m from paths (longer i)
  pub all : (j : ℕ) (q : List ℕ) → IsLegalIn t (j ∷ q) → length q ≡ n
      → IsStoodFor t cs longer (j ∷ q) ⊎ IsDue t m from bs paths j q ⊎ IsLeftOut is_cut bs paths q

-- so many sets of places were counted among the legal beginnings that were made
pub record AreSets (count : ℕ) (cs : List Beginning) (longer : ℕ → List ℕ) : Type 0 where
  pub lists : List (List ℕ)
  pub counted : length lists ≡ count
  pub made : All (λ q. (i : ℕ) × (i < length cs) × (q ≡ longer i)) lists
  pub apart : AreApart lists

-- ---- a search

-- the parts of a search fit together
pub record IsFit (s : Search) : Type 0 where
  pub trail : IsTrail s.trail
  pub layer : IsTable s.layer
  pub longer : IsTable s.longer
  pub narrow : All (λ b. IsNarrow b.taken) s.layer.kept.items
  pub narrow_longer : All (λ b. IsNarrow b.taken) s.longer.kept.items

-- its state is one of the bus
abbrev pub IsBusOf : Task → BusState → Type 0
IsBusOf t b = (places : List ℕ) × LeadsTo t places b

-- something was left out, by a search of full width only if there are too many
abbrev pub LeavesOut : Task → Search → Type 0
LeavesOut t s = s.width ≡ most_sets → HasTooMany t.version t.plan t.slacks t.seen

-- greater beginnings were left out only so
abbrev pub IsCutRightly : Task → Search → Type 0
IsCutRightly t s = s.is_cut ≡ true → LeavesOut t s

-- a search has the legal beginnings of so many places
pub record HasLayer (t : Task) (n : ℕ) (s : Search) : Type 0 where
  pub bus : IsBusOf t s.state
  pub paths : ℕ → List ℕ
  pub layer : IsLayer t s.trail s.is_cut n s.layer.kept.items paths
  pub cut : IsCutRightly t s

-- a search makes those with one place more
pub record IsUnderWay (t : Task) (n m from : ℕ) (s : Search) : Type 0 where
  pub bus : IsBusOf t s.state
  pub paths : ℕ → List ℕ
  pub longer : ℕ → List ℕ
  pub layer : IsLayer t s.trail s.is_cut n s.layer.kept.items paths
  pub made : AreLonger t s.trail s.is_cut n m from s.layer.kept.items paths
      s.longer.kept.items longer
  pub sets : AreSets s.sets s.longer.kept.items longer
  pub cut : IsCutRightly t s

-- it does so, and the m-th of those from which it goes on is this one
pub record IsAt (t : Task) (n m from : ℕ) (front : Beginning) (s : Search) : Type 0 where
  pub there : slice_get s.layer.kept.items m ≡ Some front
  pub made : IsUnderWay t n m from s

-- a place was tried after the m-th
abbrev pub HasTried : Task → ℕ → ℕ → ℕ → Search → Room → Type 0
HasTried t n m place s Enough = IsUnderWay t n m (place + 1) s
HasTried t n m place s Lacking = IsUnderWay t n m place s × LeavesOut t s

-- all places were tried after the m-th, or those below some place
abbrev pub HasGoneOn : Task → ℕ → ℕ → Search → Room → Type 0
HasGoneOn t n m s Enough = IsUnderWay t n (m + 1) 0 s
HasGoneOn t n m s Lacking = ((from : ℕ) × IsUnderWay t n m from s) × LeavesOut t s

-- a search has made those with one place more
pub record HasLonger (t : Task) (n : ℕ) (s : Search) : Type 0 where
  pub longer : ℕ → List ℕ
  pub layer : IsLayer t s.trail s.is_cut (n + 1) s.longer.kept.items longer

-- no legal beginning has more than the so many places of those that a search has, if nothing was
-- left out
pub record HasEnded (t : Task) (n : ℕ) (s : Search) : Type 0 where
  pub layer : HasLayer t n s
  pub few : n ≤ length t.seen
  pub ended : (n < length t.seen) → s.is_cut ≡ false → (q : List ℕ) → IsLegalIn t q
      → length q ≡ n + 1 → ⊥

-- a search got one more beginning with one place more
pub record IsGrown (s new : Search) (step place : ℕ) (taken : Taken) (bus : BusKind) : Type 0 where
  pub trail : Trail
  pub longer : Layer
  pub last : Beginning
  pub is : new ≡ record s { trail = trail; longer = longer }
  pub taken_is : last.taken ≡ taken
  pub bus_is : last.bus ≡ bus
  pub items : longer.kept.items ≡ s.longer.kept.items ++ last ∷ []
  pub kept : (at : ℕ) (path : List ℕ) → Ends s.trail at path → Ends trail at path
  pub ends : (path : List ℕ) → Ends s.trail step path → Ends trail last.step (place ∷ path)

-- what a search keeps while it makes longer ones
abbrev pub IsSameSearch : Search → Search → Type 0
IsSameSearch s new =
    (new.layer ≡ s.layer) × (new.width ≡ s.width) × (new.is_cut ≡ s.is_cut)

-- The place can come next after all that have the places of a beginning.
abbrev pub IsNextOf : Task → Beginning → ℕ → Type 0
IsNextOf t front place = (q : List ℕ) → AreTaken q front.taken → IsFree t.slacks t.seen q place

-- With the place all that lead to where a beginning does are legal, and lead to the state.
abbrev pub GoesOn : Task → Beginning → ℕ → BusState → Type 0
GoesOn t front place state =
    (q : List ℕ) → Leads t q front.bus → AreTaken q front.taken
    → LeadsTo t (place ∷ q) state × (IsLegalIn t q → IsLegalIn t (place ∷ q))

-- what is answered: the longest legal beginning, of those of its length the least, and what can
-- come next after it
pub record IsAnswer (t : Task) (f : Found) : Type 0 where
  pub longest : IsLongest t.version t.plan t.slacks t.seen (reverse f.order.items)
  pub next : AreNext t.slacks t.seen (reverse f.order.items) f.next.items
  pub within : All (λ p. p < length t.seen) f.order.items
  pub next_within : All (λ p. p < length t.seen) f.next.items
