-- What the conditions of a change ask of the standings of a record, and which of them fails first.
-- (The phases of the grants, and how the acknowledge and the interrupt requests may stand, are
-- those of `vme_standings`. The words here are this project's.)
use Rattle.std.specs.Prelude.{◌==◌, ◌&&◌, ◌||◌, ◌∷◌, ◌++◌, if◌then◌else◌, [], ℕ, Bool, true, false, not, List, Option, Some, None, nat_le}
use Rattle.std.specs.List.{list_all, list_any}
use Rattle.std.specs.Option.{option_and_then, option_map_or}
use Rattle.vme_model.specs.declared.boards.InterrupterRow.{InterrupterRow}
use Rattle.vme_model.specs.declared.sets.BusLevels.{BusLevels}
use Rattle.vme_model.specs.Plan.{Plan, board, up_to}
use Rattle.vme_model.specs.Rules.{bus_numbers}
use Rattle.vme_bus.specs.Sets.{has}
use Rattle.vme_standings.specs.declared.fronts.Fronts.{Fronts}
use Rattle.vme_standings.specs.declared.interrupters.Interrupters.TheVariants.{OnLevel}
use Rattle.vme_standings.specs.declared.phases.GrantPhase.{GrantPhase}
use Rattle.vme_standings.specs.declared.phases.GrantPhase.TheVariants.{Idle, Granting, Held, Expired}
use Rattle.vme_standings.specs.declared.phases.GrantPhases.{GrantPhases}
use Rattle.vme_standings.specs.declared.requests.Request.{Request}
use Rattle.vme_standings.specs.declared.requests.Request.TheVariants as request
use Rattle.vme_standings.specs.declared.requests.Requests.{Requests}
use Rattle.vme_standings.specs.declared.standings.Standings.{Standings}
use Rattle.vme_standings.specs.declared.cuts.PhaseFact.{PhaseFact}
use Rattle.vme_standings.specs.Cuts.{is_so}
use Rattle.vme_standings.specs.Grants.{are_alike, is_clear_due}
use Rattle.vme_standings.specs.Interrupters.{is_meant_at, is_on_low_line}
use Rattle.vme_standings.specs.Phases.{has_phase}
use Rattle.vme_standings.specs.RequestSets.{may_be}
use Rattle.vme_probe.specs.declared.demands.Demand.{Demand}
use Rattle.vme_probe.specs.declared.demands.RequestTest.{RequestTest}
use Rattle.vme_probe.specs.declared.demands.RequestTest.TheVariants.{Pulls, Served, OthersHigh, Pending, NotPending}
use Rattle.vme_probe.specs.declared.demands.Test.{Test}
use Rattle.vme_probe.specs.declared.demands.Test.TheVariants.{Known, Grants, ClearNotDue, Chain, Requests as OfRequests}
use Rattle.vme_probe.specs.declared.obstacles.Obstacle.{Obstacle}

-- the conditions, by what they ask about
abbrev pub when_known : Obstacle → Bool → Demand
when_known o holds = record { obstacle = o; test = Known holds }

abbrev pub on_grants : Obstacle → PhaseFact → Demand
on_grants o fact = record { obstacle = o; test = Grants fact }

abbrev pub on_clear : Obstacle → BusLevels → Demand
on_clear o asked = record { obstacle = o; test = ClearNotDue asked }

abbrev pub on_chain : Obstacle → ℕ → Bool → Demand
on_chain o place low = record { obstacle = o; test = Chain place low }

abbrev pub on_requests : Obstacle → RequestTest → Demand
on_requests o t = record { obstacle = o; test = OfRequests t }

-- the places of segments: slots, and 0 for the controller's
abbrev pub places : List ℕ
places = 0 ∷ up_to 21

-- the condition leaves the phase of the grants and BBSY*
abbrev pub is_phase_allowed : Plan → GrantPhase → Test → Bool
is_phase_allowed p q (Grants fact) = is_so p fact q
is_phase_allowed p q (ClearNotDue asked) = not (is_clear_due p asked q)
is_phase_allowed p q _ = true

-- the phase is one of the set, and all these conditions leave it
abbrev pub is_phase_left : Plan → GrantPhases → List Demand → GrantPhase → Bool
is_phase_left p s ds q = has_phase s q && list_all (λ d. is_phase_allowed p q d.test) ds

-- some phase is left
abbrev pub is_idle_left : Plan → GrantPhases → List Demand → Bool
is_idle_left p s ds = list_any (λ c. is_phase_left p s ds (Idle c)) bus_numbers

abbrev pub is_granting_left : Plan → GrantPhases → List Demand → ℕ → Bool
is_granting_left p s ds c =
    list_any (λ last. is_phase_left p s ds (Granting c last)) places

abbrev pub is_held_left : Plan → GrantPhases → List Demand → ℕ → Bool
is_held_left p s ds b =
    list_any (λ first. is_phase_left p s ds (Held b first)) places

abbrev pub is_expired_left : Plan → GrantPhases → List Demand → ℕ → Bool
is_expired_left p s ds c =
    list_any (λ first. is_phase_left p s ds (Expired c first)) places

abbrev pub are_grants_left : Plan → GrantPhases → List Demand → Bool
are_grants_left p s ds =
    is_idle_left p s ds || list_any (is_granting_left p s ds) bus_numbers
    || list_any (is_held_left p s ds) places
    || list_any (is_expired_left p s ds) bus_numbers

-- the segment of the acknowledge chain is low, by where the low segments end, if there are any
abbrev pub is_chain_low : Option ℕ → ℕ → Bool
is_chain_low None place = false
is_chain_low (Some end) place = nat_le place end

abbrev pub is_front_allowed : Option ℕ → Test → Bool
is_front_allowed front (Chain place low) = are_alike (is_chain_low front place) low
is_front_allowed front _ = true

-- all these conditions leave this end of the low segments
abbrev pub is_front_left : List Demand → Option ℕ → Bool
is_front_left ds front = list_all (λ d. is_front_allowed front d.test) ds

-- it is left that they end at the place
abbrev pub is_end_left : Fronts → List Demand → ℕ → Bool
is_end_left f ds end = has f.ends end && is_front_left ds (Some end)

-- some end is left
abbrev pub are_fronts_left : Fronts → List Demand → Bool
are_fronts_left f ds =
    (f.waiting && is_front_left ds None) || list_any (is_end_left f ds) places

abbrev pub pulls : Request → Bool
pulls request.High = false
pulls _ = true

abbrev pub is_pending : Request → Bool
is_pending request.Pending = true
is_pending _ = false

abbrev pub is_served : Request → Bool
is_served request.Served = true
is_served _ = false

-- what a condition asks of the interrupt requests is so if that of a slot's board stands so; `own`
-- is the driver's slot
abbrev pub passes_requests : ℕ → RequestTest → ℕ → Request → Bool
passes_requests own Pulls s r = not (s == own) || pulls r
passes_requests own Served s r = not (s == own) || is_served r
passes_requests own OthersHigh s r = s == own || not (pulls r)
passes_requests own Pending s r = not (s == own) || is_pending r
passes_requests own NotPending s r = not (s == own) || not (is_pending r)

abbrev pub is_request_allowed : ℕ → ℕ → Request → Test → Bool
is_request_allowed own s r (OfRequests t) = passes_requests own t s r
is_request_allowed own s r _ = true

-- the request of the slot's board may stand so, and all these conditions leave it
abbrev pub is_request_left : ℕ → Requests → List Demand → ℕ → Request → Bool
is_request_left own d ds s r =
    may_be d s r && list_all (λ x. is_request_allowed own s r x.test) ds

-- some way is left in which the board pulls its line
abbrev pub is_pull_left : ℕ → Requests → List Demand → ℕ → Bool
is_pull_left own d ds s =
    is_request_left own d ds s request.Pending || is_request_left own d ds s request.Served

-- some way is left at all
abbrev pub is_any_left : ℕ → Requests → List Demand → ℕ → Bool
is_any_left own d ds s =
    is_request_left own d ds s request.High || is_pull_left own d ds s

abbrev pub interrupter_at : Plan → ℕ → Option InterrupterRow
interrupter_at p s = option_and_then (λ r. r.interrupter) (board p s)

-- some way is left for the slot's board, if it is of the level
abbrev pub can_stand : Plan → ℕ → Requests → List Demand → ℕ → ℕ → Bool
can_stand p own d ds n s = not (is_meant_at (OnLevel n) p s) || is_any_left own d ds s

-- it is of the level, and some way is left for it to pull its line
abbrev pub can_pull : Plan → ℕ → Requests → List Demand → ℕ → ℕ → Bool
can_pull p own d ds n s = is_meant_at (OnLevel n) p s && is_pull_left own d ds s

-- on the line of the level some way is left for each of its boards, and if the line is low, for one
-- of them to pull it
abbrev pub are_requests_left : Plan → ℕ → Bool → Requests → List Demand → ℕ → Bool
are_requests_left p own low d ds n =
    list_all (can_stand p own d ds n) places
    && (not low || list_any (can_pull p own d ds n) places)

-- The last of these conditions leaves something of the part that it asks about, in which those
-- before it hold.
abbrev pub is_left : Plan → Standings → ℕ → List Demand → Test → Bool
is_left p s own ds (Known holds) = holds
is_left p s own ds (Grants fact) = are_grants_left p s.phases ds
is_left p s own ds (ClearNotDue asked) = are_grants_left p s.phases ds
is_left p s own ds (Chain place low) = are_fronts_left s.fronts ds
is_left p s own ds (OfRequests t) =
    option_map_or
    (λ i. are_requests_left p own (is_on_low_line s.lines p own) s.requests ds i.level)
    (interrupter_at p own) false

-- the first condition that leaves nothing, behind others that do; `leaves` says whether the last of
-- several conditions, which asks that, leaves something
unfoldable pub first_failing :
    (List Demand → Test → Bool) → List Demand → List Demand → Option Obstacle
first_failing leaves before [] = None
first_failing leaves before (d ∷ ds) =
    if leaves (before ++ d ∷ []) d.test then first_failing leaves (before ++ d ∷ []) ds
    else Some d.obstacle
