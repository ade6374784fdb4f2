-- The phases behind each change of the grants and BBSY*, and who may have made it.
use Rattle.std.specs.Prelude.{◌≡◌, ◌<◌, ◌==◌, ◌&&◌, ◌||◌, not, if◌then◌else◌, ℕ, Bool, true, false, nat_lt}
use Rattle.std.specs.List.{list_any}
use Rattle.std.specs.Option.{option_map_or}
use Rattle.vme_model.specs.declared.boards.Release.{Release}
use Rattle.vme_model.specs.declared.boards.Release.TheVariants.{Done, Request}
use Rattle.vme_model.specs.declared.sets.BusLevels.{BusLevels}
use Rattle.vme_model.specs.declared.signals.Version.{Version}
use Rattle.vme_model.specs.Signals.{is_two}
use Rattle.vme_model.specs.Sets.{has_bus_level}
use Rattle.vme_model.specs.Plan.{Plan, active, grant_chain}
use Rattle.vme_model.specs.Rules.{bus_numbers, pick, is_pri}
use Rattle.vme_bus.specs.declared.sets.SlotSet.{SlotSet}
use Rattle.vme_bus.specs.Sets.{has}
use Rattle.vme_standings.specs.declared.phases.GrantPhase.{GrantPhase}
use Rattle.vme_standings.specs.declared.phases.GrantPhase.TheVariants.{Idle, Granting, Held, Expired}
use Rattle.vme_standings.specs.declared.phases.GrantPhases.{GrantPhases}
use Rattle.vme_standings.specs.GrantChains.{end_place, is_follower, is_of_level, place_before, requester_at}
use Rattle.vme_standings.specs.Phases.{HasFree, has_phase}

-- the policy picks the level of these requests, with that level last granted
abbrev pub is_picked : Plan → BusLevels → ℕ → ℕ → Bool
is_picked p requests last c =
    option_map_or (λ n. n == c) (pick p.arbiter (has_bus_level requests) last) false

-- the level may be granted
abbrev pub is_granted : Plan → BusLevels → ℕ → GrantPhases → Bool
is_granted p requests c s =
    list_any (λ last. has_phase s (Idle last) && is_picked p requests last c) bus_numbers

abbrev pub behind_grant : Plan → BusLevels → ℕ → GrantPhases → GrantPhase → Bool
behind_grant p requests c s (Granting n t) = n == c && t == 0 && is_granted p requests c s
behind_grant p requests c s _ = false

-- the board of the slot may pass a grant of the level on
abbrev pub is_passed : Plan → Version → ℕ → ℕ → GrantPhases → Bool
is_passed p version c b s =
    (is_two version || not (b == end_place p c)) && is_of_level p c b
    && has_phase s (Granting c (place_before p c b))

abbrev pub behind_pass : Plan → Version → ℕ → ℕ → GrantPhases → GrantPhase → Bool
behind_pass p version c b s (Granting n t) = n == c && t == b && is_passed p version c b s
behind_pass p version c b s _ = false

-- the segment may rise because nobody took the grant
abbrev pub is_run_out : Plan → Version → ℕ → ℕ → GrantPhases → Bool
is_run_out p version c place s =
    is_two version
    && (if place == 0 then has_phase s (Granting c (end_place p c))
    else has_phase s (Expired c place))

-- the segment may rise because the board took the grant
abbrev pub is_let_go : Plan → ℕ → ℕ → GrantPhases → ℕ → Bool
is_let_go p c place s b = nat_lt place b && is_of_level p c b && has_phase s (Held b place)

abbrev pub held_behind_rise : Plan → ℕ → ℕ → SlotSet → GrantPhases → GrantPhase → Bool
held_behind_rise p c place next s (Held b t) = is_let_go p c place s b && has next t
held_behind_rise p c place next s _ = false

abbrev pub behind_rise : Plan → Version → ℕ → ℕ → GrantPhases → GrantPhase → Bool
behind_rise p version c place s (Held b t) =
    is_let_go p c place s b && is_follower p c place t
behind_rise p version c place s (Expired n t) =
    n == c && is_run_out p version c place s && is_follower p c place t
behind_rise p version c place s (Idle n) =
    n == c && is_run_out p version c place s && (place == end_place p c)
behind_rise p version c place s (Granting n t) = false

-- the board may take the bus
abbrev pub is_taken : Plan → BusLevels → GrantPhases → ℕ → Bool
is_taken p requests s b =
    option_map_or
    (λ q. has_bus_level requests q.level
    && has_phase s (Granting q.level (place_before p q.level b)))
    (requester_at p b) false

abbrev pub behind_take : Plan → BusLevels → GrantPhases → GrantPhase → Bool
behind_take p requests s (Held b t) = t == 0 && is_taken p requests s b
behind_take p requests s _ = false

-- some BR line is low
abbrev pub is_asked : BusLevels → Bool
is_asked requests = list_any (has_bus_level requests) bus_numbers

-- a requester of this kind may give the bus up
abbrev pub may_end : BusLevels → Release → Bool
may_end requests (Done burst) = true
may_end requests Request = is_asked requests

-- the board may give the bus up
abbrev pub can_release : Plan → BusLevels → GrantPhases → ℕ → Bool
can_release p requests s b =
    option_map_or (λ q. may_end requests q.release) (requester_at p b) false
    && has_phase s (Held b b)

abbrev pub behind_release : Plan → BusLevels → GrantPhases → GrantPhase → Bool
behind_release p requests s (Idle c) =
    nat_lt c 4 && list_any (can_release p requests s) (active p (grant_chain c))
behind_release p requests s _ = false

-- a level above this one is requested
abbrev pub is_asked_above : ℕ → BusLevels → Bool
is_asked_above own requests =
    list_any (λ m. nat_lt own m && has_bus_level requests m) bus_numbers

-- a level above that of the board is requested
abbrev pub is_outranked : Plan → BusLevels → ℕ → Bool
is_outranked p requests b =
    option_map_or (λ q. is_asked_above q.level requests) (requester_at p b) false

-- bus clear is due
abbrev pub is_clear_due : Plan → BusLevels → GrantPhase → Bool
is_clear_due p requests (Held b t) =
    (is_pri p.arbiter && is_outranked p requests b) && nat_lt 0 t
is_clear_due p requests _ = false

-- both are so, or neither is
abbrev pub are_alike : Bool → Bool → Bool
are_alike a b = if a then b else not b

-- The phases behind a fall of a BR line that one of these boards made: if there is one alone, it
-- does not hold the bus.
pub record IsBehindRequest (askers : SlotSet) (before behind : GrantPhases) : Type 0 where
  pub free : HasFree behind (has_phase before)
  pub kept : (b t : ℕ) → has_phase behind (Held b t) ≡ true → has_phase before (Held b t) ≡ true
  -- who alone may have asked does not hold the bus
  pub another : (b t : ℕ) → b < 22 → has_phase behind (Held b t) ≡ true → has askers b ≡ true
      → (s : ℕ) × (has askers s ≡ true) × ((s == b) ≡ false)
  -- who did not ask, or not alone, may hold it
  pub others : (b t : ℕ) → has_phase before (Held b t) ≡ true → has askers b ≡ false
      → has_phase behind (Held b t) ≡ true
  pub several : (b t s : ℕ) → has_phase before (Held b t) ≡ true → s < 32 → has askers s ≡ true
      → (s == b) ≡ false → has_phase behind (Held b t) ≡ true
