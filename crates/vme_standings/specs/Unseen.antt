-- Which phases an edge of a grant chain leads to that no probe sees. A segment is named by the slot
-- of the board that drives it, and 0 names the controller's.
use Rattle.std.specs.Prelude.{◌≡◌, ◌==◌, ◌&&◌, ◌||◌, ◌<◌, not, ℕ, Bool, true, false, List, nat_le, nat_lt, slice_index_or}
use Rattle.std.specs.List.{list_all}
use Rattle.std.specs.Option.{option_map_or}
use Rattle.vme_model.specs.declared.sets.BusLevels.{BusLevels}
use Rattle.vme_model.specs.declared.signals.Version.{Version}
use Rattle.vme_model.specs.Signals.{is_two}
use Rattle.vme_model.specs.Plan.{Plan}
use Rattle.vme_model.specs.Rules.{bus_numbers}
use Rattle.vme_bus.specs.declared.sets.SlotSet.{SlotSet}
use Rattle.vme_bus.specs.Sets.{has}
use Rattle.vme_standings.specs.declared.phases.GrantPhase.{GrantPhase}
use Rattle.vme_standings.specs.declared.phases.GrantPhase.TheVariants.{Idle, Granting, Held, Expired}
use Rattle.vme_standings.specs.declared.phases.GrantPhases.{GrantPhases}
use Rattle.vme_standings.specs.GrantChains.{end_place, is_follower, is_of_level, place_before, requester_at}
use Rattle.vme_standings.specs.Phases.{expired_row, granting_row, has_phase, held_row, is_idle_at, no_slots}
use Rattle.vme_standings.specs.Grants.{are_alike, is_granted, is_picked}

-- no probe is on the segment of the level's chain
abbrev pub is_unseen : List SlotSet → ℕ → ℕ → Bool
is_unseen probed c place = not (has (slice_index_or probed c no_slots) place)

-- a set has a row for the phase: of four levels, and of 22 numbers of slots
abbrev pub has_row_for : GrantPhase → Bool
has_row_for (Idle c) = nat_lt c 4
has_row_for (Granting c last) = nat_lt c 4
has_row_for (Held b first) = nat_lt b 22
has_row_for (Expired c first) = nat_lt c 4

-- An edge of a segment without a probe leads from the one phase to the other: the controller
-- grants what the policy picks, a board passes the grant on, a segment of a grant that was taken
-- rises, or, in the second version, one of a grant that has passed the last board.
abbrev pub leads : Plan → Version → BusLevels → List SlotSet → GrantPhase → GrantPhase → Bool
leads p version requests probed (Idle last) (Granting c t) =
    is_unseen probed c 0 && (t == 0 && is_picked p requests last c)
leads p version requests probed (Granting c s) (Granting n t) =
    (n == c && is_follower p c s t)
    && ((is_two version || not (t == end_place p c)) && is_unseen probed c t)
leads p version requests probed (Granting c s) (Expired n t) =
    (n == c && is_follower p c 0 t)
    && (is_two version && (is_unseen probed c 0 && s == end_place p c))
leads p version requests probed (Held b s) (Held k t) =
    (k == b && nat_le t b)
    && option_map_or (λ q. is_follower p q.level s t && is_unseen probed q.level s)
    (requester_at p b) false
leads p version requests probed (Expired c s) (Expired n t) =
    (n == c && is_follower p c s t) && (is_two version && is_unseen probed c s)
leads p version requests probed (Expired c s) (Idle n) =
    n == c && (is_two version && (is_unseen probed c s && s == end_place p c))
leads p version requests probed _ _ = false

-- the phases to which such edges lead, one after the other
pub data IsReached (p : Plan) (version : Version) (requests : BusLevels) (probed : List SlotSet)
    (s : GrantPhases) : GrantPhase → Type 0 where
  Here : (q : GrantPhase) → has_phase s q ≡ true → IsReached p version requests probed s q
  Further : (q r : GrantPhase) → IsReached p version requests probed s q
      → leads p version requests probed q r ≡ true → IsReached p version requests probed s r

-- the segment may fall unseen behind the one before it
abbrev pub falls_unseen : Plan → Version → List SlotSet → ℕ → ℕ → Bool
falls_unseen p version probed c t =
    is_of_level p c t && ((is_two version || not (t == end_place p c)) && is_unseen probed c t)

-- the segment is the first low one once the one before it rose unseen
abbrev pub rises_unseen : Plan → List SlotSet → ℕ → ℕ → Bool
rises_unseen p probed c t = is_of_level p c t && is_unseen probed c (place_before p c t)

-- the segments to which steps lead from some of them, each from the one before it
abbrev pub Walks : Plan → ℕ → (ℕ → Bool) → (ℕ → Bool) → SlotSet → Type 0
Walks p c steps from reached =
    (t : ℕ) → has reached t ≡ (from t || (steps t && has reached (place_before p c t)))

-- the last low segments of a grant of the level, with that of a grant that begins unseen
abbrev pub is_last : Plan → BusLevels → List SlotSet → ℕ → GrantPhases → ℕ → Bool
is_last p requests probed c s t =
    has_phase s (Granting c t)
    || (t == 0 && (is_unseen probed c 0 && is_granted p requests c s))

-- The first low segments of a grant that nobody took, with that of a grant that the controller
-- takes back unseen. `lasts` has the last low segments of the grants under way.
abbrev pub is_first : Plan → Version → List SlotSet → ℕ → SlotSet → GrantPhases → ℕ → Bool
is_first p version probed c lasts s t =
    has_phase s (Expired c t)
    || ((is_two version && (is_unseen probed c 0 && has lasts (end_place p c)))
    && is_follower p c 0 t)

-- the last segment of a grant that nobody took may rise unseen
abbrev pub is_over : Plan → Version → List SlotSet → ℕ → SlotSet → Bool
is_over p version probed c firsts =
    is_two version && (is_unseen probed c (end_place p c) && has firsts (end_place p c))

-- the phases of a level in which nobody holds the bus, and those to which its chain leads from them
pub record ReachesLevel (p : Plan) (version : Version) (requests : BusLevels)
    (probed : List SlotSet) (c : ℕ) (from : GrantPhases) (is_idle : Bool)
    (lasts firsts : SlotSet) : Type 0 where
  pub falls : Walks p c (falls_unseen p version probed c) (is_last p requests probed c from) lasts
  pub rises : Walks p c (λ t. is_two version && rises_unseen p probed c t)
      (is_first p version probed c lasts from) firsts
  pub idle : is_idle ≡ (is_idle_at from c || is_over p version probed c firsts)

-- the same of each level
pub record IsRound (p : Plan) (version : Version) (requests : BusLevels) (probed : List SlotSet)
    (from new : GrantPhases) : Type 0 where
  pub level : (c : ℕ) → c < 4
      → ReachesLevel p version requests probed c from (is_idle_at new c) (granting_row new c)
      (expired_row new c)
  pub held : new.held ≡ from.held

-- the two have the same idle phases
abbrev pub is_idle_alike : GrantPhases → GrantPhases → Bool
is_idle_alike a b = list_all (λ c. are_alike (is_idle_at a c) (is_idle_at b c)) bus_numbers

-- the first low segments of a holder to which unseen rises lead, up to the board's own
abbrev pub RisesHeld : Plan → List SlotSet → ℕ → SlotSet → SlotSet → Type 0
RisesHeld p probed b firsts reached =
    (t : ℕ) → has reached t
    ≡ (has firsts t
    || option_map_or
    (λ q. (nat_le t b && rises_unseen p probed q.level t)
    && has reached (place_before p q.level t))
    (requester_at p b) false)

-- the same of each holder; all other phases are the old ones
pub record RisesAllHeld (p : Plan) (probed : List SlotSet) (old new : GrantPhases) : Type 0 where
  pub held : (b : ℕ) → b < 22 → RisesHeld p probed b (held_row old b) (held_row new b)
  pub idle : new.idle ≡ old.idle
  pub granting : new.granting ≡ old.granting
  pub expired : new.expired ≡ old.expired
