-- Orders of edges that were seen. Edges are named by their places in the list of what was seen,
-- from 0 on, and a list of places has the newest first.
use Rattle.std.specs.Prelude.{◌≡◌, ◌==◌, ◌||◌, ◌⊎◌, ◌+◌, ◌<◌, ◌≤◌, ◌∷◌, ℕ, Bool, true, false, List, [], Some, length}
use Rattle.std.specs.List.{slice_get}
use Rattle.std.specs.Option.{option_map_or}
use Rattle.vme_model.specs.declared.signals.Version.{Version}
use Rattle.vme_model.specs.declared.signals.Edge.{Edge}
use Rattle.vme_model.specs.Plan.{Plan}
use Rattle.vme_model.specs.Verdict.{IsLegal}
use Rattle.vme_moments.specs.declared.Seen.{Seen}
use Rattle.vme_moments.specs.declared.slacks.Slacks.{Slacks}
use Rattle.vme_moments.specs.Before.{before}

-- the place is one of these
abbrev pub has : List ℕ → ℕ → Bool
has [] j = false
has (i ∷ places) j = i == j || has places j

-- the edge at one place came before that at the other
abbrev pub came_before : Slacks → List Seen → ℕ → ℕ → Bool
came_before x ms i j =
    option_map_or (λ a. option_map_or (λ b. before x a b) (slice_get ms j) false)
    (slice_get ms i) false

-- A place can come next after others: it is a place, it is not one of them, and each that came
-- before it is.
pub record IsFree (x : Slacks) (ms : List Seen) (places : List ℕ) (j : ℕ) : Type 0 where
  pub within : j < length ms
  pub new : has places j ≡ false
  pub behind : (i : ℕ) → came_before x ms i j ≡ true → has places i ≡ true

-- each place could come next after those before it
abbrev pub IsBeginning : Slacks → List Seen → List ℕ → Type 0
IsBeginning x ms [] = Unit {0}
IsBeginning x ms (j ∷ places) = IsFree x ms places j × IsBeginning x ms places

-- the edges at these places
abbrev pub edges_at : List Seen → List ℕ → List Edge
edges_at ms [] = []
edges_at ms (j ∷ places) =
    option_map_or (λ s. s.edge ∷ edges_at ms places) (slice_get ms j) (edges_at ms places)

-- a beginning of which each edge is allowed when it is made
pub record IsLegalBeginning (version : Version) (p : Plan) (x : Slacks) (ms : List Seen)
    (places : List ℕ) : Type 0 where
  pub begins : IsBeginning x ms places
  pub legal : IsLegal version p (edges_at ms places)

-- Of two lists of one length the first is the lesser: at the first place in which they differ it
-- has the lesser number.
abbrev pub IsLesser : List ℕ → List ℕ → Type 0
IsLesser [] others = ⊥
IsLesser (i ∷ places) [] = ⊥
IsLesser (i ∷ places) (j ∷ others) = IsLesser places others ⊎ ((places ≡ others) × (i < j))

-- The longest legal beginning, and of those of its length the least. If it has all places, it is
-- the least legal order. Otherwise no order is legal.
pub record IsLongest (version : Version) (p : Plan) (x : Slacks) (ms : List Seen)
    (places : List ℕ) : Type 0 where
  pub legal : IsLegalBeginning version p x ms places
  pub longest : (others : List ℕ) → IsLegalBeginning version p x ms others
      → length others ≤ length places
  pub least : (others : List ℕ) → IsLegalBeginning version p x ms others
      → length others ≡ length places → ¬ IsLesser others places

-- each number is less than all that follow it in the list
abbrev pub IsAscending : List ℕ → Type 0
IsAscending [] = Unit {0}
IsAscending (n ∷ ns) = ((m : ℕ) → has ns m ≡ true → n < m) × IsAscending ns

-- these places can come next, in order, and no other
pub record AreNext (x : Slacks) (ms : List Seen) (places next : List ℕ) : Type 0 where
  pub ascending : IsAscending next
  pub free : (j : ℕ) → has next j ≡ true → IsFree x ms places j
  pub all : (j : ℕ) → IsFree x ms places j → has next j ≡ true

-- the moments do not fall
abbrev pub AreInOrder : List Seen → Type 0
AreInOrder ms = (i j : ℕ) (a b : Seen) → i < j → slice_get ms i ≡ Some a → slice_get ms j ≡ Some b
    → a.moment ≤ b.moment

-- A legal beginning goes on legally with a place that is greater by 128 or more than the least that
-- is not in it.
pub record HasFarPlace (version : Version) (p : Plan) (x : Slacks) (ms : List Seen) : Type 0 where
  pub places : List ℕ
  pub least : ℕ
  pub missing : has places least ≡ false
  pub below : (i : ℕ) → i < least → has places i ≡ true
  pub far : ℕ
  pub is_far : least + 128 ≤ far
  pub legal : IsLegalBeginning version p x ms (far ∷ places)
