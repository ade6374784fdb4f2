-- Whoever may not have pulled AS*, DS*, DTACK* or BERR* has a condition that is named: `laws`.
use Rattle.std.proofs.Common.{◌≡◌, ◌∙◌, ◌&&◌, ◌||◌, ◌/◌, ◌≤◌, ℕ, zero, suc, Bool, true, false, not, List, [], ◌∷◌, Option, Some, None, is_some, refl, sym, ap, subst, inl, inr, arith}
use Rattle.std.proofs.lemmas.Bool.{and_parts, cases_Bool}
use Rattle.std.proofs.lemmas.Bool.Decides.{nat_tests}
use Rattle.std.proofs.lemmas.Nat.Bits.{bit_at-lt, bit_at-suc, bit_at_lowest}
use Rattle.std.specs.Prelude.{nat_le, ◌==◌, ◌<◌, unwrap_or}
use Rattle.std.specs.Int.{bit_at}
use Rattle.std.specs.List.{list_all, list_any}
use Rattle.std.specs.Option.{option_and_then, option_map_or}
use Rattle.vme_model.specs.declared.boards.InterrupterRow.{InterrupterRow}
use Rattle.vme_model.specs.declared.boards.Row.{Row}
use Rattle.vme_model.specs.declared.sets.ChainId.TheVariants as chain
use Rattle.vme_model.specs.declared.signals.Cycle.TheVariants as cycle
use Rattle.vme_model.specs.declared.signals.Version.{Version}
use Rattle.vme_model.specs.Accepted.{IsAccepted}
use Rattle.vme_model.specs.Plan.{Plan, board, last_active}
use Rattle.vme_model.proofs.Bools.{same_number}
use Rattle.vme_bus.specs.declared.sets.SlotSet.{SlotSet}
use Rattle.vme_bus.specs.Sets.{has}
use Rattle.vme_captures.specs.declared.signals.Change.{Change}
use Rattle.vme_captures.specs.declared.signals.Line.{Line}
use Rattle.vme_captures.specs.declared.signals.Line.TheVariants as line
use Rattle.vme_captures.specs.declared.signals.Signal.{Signal}
use Rattle.vme_captures.specs.declared.signals.Signal.TheVariants as signal
use Rattle.vme_captures.specs.declared.signals.Value.{Value}
use Rattle.vme_captures.specs.declared.signals.Value.TheVariants as value
use Rattle.vme_captures.specs.Signals.{has_value, is_change, is_signal}
use Rattle.vme_standings.specs.declared.cuts.PhaseFact.TheVariants.{HeldBy}
use Rattle.vme_standings.specs.declared.interrupters.Interrupters.{Interrupters}
use Rattle.vme_standings.specs.declared.interrupters.Interrupters.TheVariants.{All, OnLevel, WithStatus}
use Rattle.vme_standings.specs.declared.requests.Request.{Request}
use Rattle.vme_standings.specs.declared.requests.Request.TheVariants as request
use Rattle.vme_standings.specs.declared.moving.Moved.TheVariants as moved
use Rattle.vme_standings.specs.declared.phases.GrantPhase.{GrantPhase}
use Rattle.vme_standings.specs.declared.phases.GrantPhase.TheVariants.{Idle, Granting, Held, Expired}
use Rattle.vme_standings.specs.declared.standings.Drivers.{Drivers}
use Rattle.vme_standings.specs.declared.standings.Probed.{Probed}
use Rattle.vme_standings.specs.declared.standings.Shown.{Shown}
use Rattle.vme_standings.specs.declared.standings.Shown.TheVariants as shown
use Rattle.vme_standings.specs.declared.standings.Standings.{Standings}
use Rattle.vme_standings.specs.Boards.{has_requester}
use Rattle.vme_standings.specs.Driving.{AnswersShown, AreDrivers, AreStarters, BoardsPull, ControllerMakes, is_left_low, is_no_slot, may_answer_with, may_show_value, nobody_answers}
use Rattle.vme_standings.specs.Fronts.{input_place, place_of}
use Rattle.vme_standings.specs.Grants.{are_alike}
use Rattle.vme_standings.specs.Interrupters.{is_meant, is_meant_at, is_on_low_line, is_such}
use Rattle.vme_standings.specs.RequestSets.{may_be}
use Rattle.vme_standings.specs.Phases.{has_phase, is_held_by}
use Rattle.vme_standings.specs.Standings.{controller_drives, drives}
use Rattle.vme_standings.proofs.Tests.{both, is_false, never}
use Rattle.vme_probe.specs.declared.demands.Demand.{Demand}
use Rattle.vme_probe.specs.declared.demands.RequestTest.TheVariants.{Pending}
use Rattle.vme_probe.specs.declared.demands.Test.TheVariants.{Requests as OfRequests}
use Rattle.vme_probe.specs.declared.obstacles.Obstacle.TheVariants.{Fails, NotPending}
use Rattle.vme_model.specs.declared.conditions.Condition.TheVariants.{AcknowledgeInLow, OwnBusyLow}
use Rattle.vme_model.specs.declared.sentences.Rule.TheVariants.{G7, G15, G25}
use Rattle.vme_probe.specs.Conditions.{access_answered, acknowledge_answered, address_falls, answer_falls, dtack_high, is_chain_high, line_falls, nobody_answers as silence, strobe_low}
use Rattle.vme_probe.specs.Demands.{first_failing, interrupter_at, is_left, is_pending, is_request_allowed, on_chain, on_grants, on_requests, places, when_known}
use Rattle.vme_probe.specs.Hindered.{AreOthersHindered, FitsTogether, is_of_a_cycle}
use Rattle.vme_probe.proofs.Leaving.{each_place, end_left, ends_at_input, ends_before, last_is_upstream, named_if, near_slot, one_left, phase_left, reaches, request_of_level}

-- ---- a set of no slot

-- a number without a bit is 0
pub no_bits : (most n : ℕ) → n ≤ most → ((i : ℕ) → bit_at n i ≡ 0) → n ≡ 0
no_bits zero n small h = omega arith
no_bits (suc most) n small h =
    let low = sym (bit_at_lowest n) ∙ h 0 in
    let half = no_bits most (n / 2) (omega arith) (λ i. sym (bit_at-suc n i) ∙ h (suc i)) in
    omega (arith, low, half)

pub no_bit : (set : SlotSet) (s : ℕ) → has set s ≡ false → bit_at set.bits s ≡ 0
no_bit set s lacks = let less = bit_at-lt set.bits s in grind (arith, nat_tests, less, lacks)

none_held : (xs : List ℕ) (t : ℕ → Bool) → not (list_any t xs) ≡ true → list_all (λ s. not (t s)) xs ≡ true
none_held [] t h = refl
none_held (x ∷ xs) t h =
    elim (cases_Bool (t x)) [
      | inl q ↦ absurd (never false (rw q at h) refl)
      | inr q ↦ rw q (none_held xs t (rw q at h))
    ]

none_some : (i : InterrupterRow) → (let o : Option InterrupterRow = None in o ≡ Some i) → ⊥
none_some i e = never false (ap is_some e) refl

at_place : (o : Option ℕ) → unwrap_or o 0 ≡ place_of o
at_place None = refl
at_place (Some t) = refl

denied : (b : Bool) → not b ≡ true → b ≡ false
denied true h = absurd (never false h refl)
denied false h = refl

-- the first condition of a fall of AS*
abbrev held_first : ℕ → List Demand
held_first s = on_grants (Fails G15 OwnBusyLow) (HeldBy s) ∷ []

-- the first conditions of an answer of an acknowledge, up to that on the requests
abbrev up_to_pending : Plan → Standings → ℕ → ℕ → InterrupterRow → List Demand
up_to_pending p st s n i =
    strobe_low G25 st ∷ on_chain (Fails G25 AcknowledgeInLow) (input_place p s) true ∷ when_known (NotPending n) (i.level == n)
    ∷ on_requests (NotPending n) Pending ∷ []

module _ (p : Plan) (ok : IsAccepted p) (version : Version) (st : Standings) (fits : FitsTogether p st) where
  -- all probed segments of the acknowledge chain are high
  chain_high : is_chain_high st ≡ true → is_no_slot st.low.acknowledge ≡ true
  chain_high h =
      let each = none_held places (λ s. has st.low.acknowledge s) h in
      let zeros : st.low.acknowledge.bits ≡ 0 = no_bits st.low.acknowledge.bits st.low.acknowledge.bits (omega arith)
      (λ i. no_bit st.low.acknowledge i (is_false (has st.low.acknowledge i) (λ low. never (has st.low.acknowledge i) low (at i (fits.segments i low) each)))) in
      grind (arith, nat_tests, zeros)
    where
      at : (i : ℕ) → i < 22 → list_all (λ s. not (has st.low.acknowledge s)) places ≡ true → has st.low.acknowledge i ≡ false
      at zero near each = denied _ (and_parts (not (has st.low.acknowledge 0)) _ each).0
      at (suc i) near each = denied _ (each_place (λ s. not (has st.low.acknowledge s)) each (suc i) (omega arith) near)

  -- ---- AS*

  -- a board that holds the bus in a phase, and may show what was seen
  shower : (boards : SlotSet) (x : Option Value) → AreStarters p st x boards → (s : ℕ) → s < 22 → is_no_slot st.low.acknowledge ≡ true → may_show_value p x s ≡ true
      → (q : GrantPhase) → has_phase st.phases q ≡ true → is_held_by (λ b. b == s) q ≡ true → has boards s ≡ true
  shower boards x who s near high may (Idle c) there held = absurd (never false held refl)
  shower boards x who s near high may (Granting c last) there held = absurd (never false held refl)
  shower boards x who s near high may (Held b first) there held =
      who.all s first high may near (subst (λ k. has_phase st.phases (Held k first) ≡ true) (same_number b s held) there)
  shower boards x who s near high may (Expired c first) there held = absurd (never false held refl)

  -- whether a board stands in the slot, in the words of `near_slot`
  there : (s : ℕ) → is_some (board p s) ≡ true → option_map_or (λ r. true) (board p s) false ≡ true
  there s on = of_board (board p s) refl
    where
      of_board : (o : Option Row) → board p s ≡ o → option_map_or (λ r. true) (board p s) false ≡ true
      of_board None e = absurd (never false (rw e at on) refl)
      of_board (Some r) e = rw e refl

  -- a board with a requester is a board
  stands_there : (s : ℕ) → has_requester p s ≡ true → option_map_or (λ r. true) (board p s) false ≡ true
  stands_there s on = of_board (board p s) refl
    where
      of_board : (o : Option Row) → board p s ≡ o → option_map_or (λ r. true) (board p s) false ≡ true
      of_board None e = absurd (never false (rw e at on) refl)
      of_board (Some r) e = rw e refl

  address_fall : (x : Option Value) → has_value (signal.Line line.AddressStrobe) true x ≡ true → (boards : SlotSet) → AreStarters p st x boards → (s : ℕ) → has_requester p s ≡ true
      → has boards s ≡ false
      → is_some (first_failing (is_left p st s) [] (address_falls p st s x)) ≡ true
  address_fall None seen boards who s has_it lacks = absurd (never false seen refl)
  address_fall (Some (value.Status b)) seen boards who s has_it lacks = absurd (never false seen refl)
  address_fall (Some (value.Shown (cycle.Acknowledge n))) seen boards who s has_it lacks = named_if _ (λ none.
      let a = one_left (is_left p st s) [] _ _ none in
      let b = one_left (is_left p st s) _ _ _ a.1 in
      let c = one_left (is_left p st s) _ _ _ b.1 in
      let f = phase_left p st.phases (held_first s) a.0 in
      never (has boards s) (shower boards _ who s (near_slot p ok s (λ r. true) (stands_there s has_it)).1 (chain_high c.0) b.0 f.phase f.has
      (and_parts (is_held_by (λ b. b == s) f.phase) true f.allowed).0) lacks)
  address_fall (Some (value.Shown (cycle.Access t))) seen boards who s has_it lacks = named_if _ (λ none.
      let a = one_left (is_left p st s) [] _ _ none in
      let b = one_left (is_left p st s) _ _ _ a.1 in
      let f = phase_left p st.phases (held_first s) a.0 in
      never (has boards s) (shower boards _ who s (near_slot p ok s (λ r. true) (stands_there s has_it)).1 (chain_high b.0) (stands_there s has_it) f.phase f.has
      (and_parts (is_held_by (λ b. b == s) f.phase) true f.allowed).0) lacks)
  address_fall (Some value.Access) seen boards who s has_it lacks = named_if _ (λ none.
      let a = one_left (is_left p st s) [] _ _ none in
      let b = one_left (is_left p st s) _ _ _ a.1 in
      let f = phase_left p st.phases (held_first s) a.0 in
      never (has boards s) (shower boards _ who s (near_slot p ok s (λ r. true) (stands_there s has_it)).1 (chain_high b.0) refl f.phase f.has
      (and_parts (is_held_by (λ b. b == s) f.phase) true f.allowed).0) lacks)

  -- ---- DS*

  data_fall : (boards : SlotSet) → BoardsPull p st line.DataStrobe None boards → (s : ℕ) → has boards s ≡ false
      → is_some (first_failing (is_left p st s) [] (line_falls p st s line.DataStrobe None)) ≡ true
  data_fall boards who s lacks = named_if _ (λ none.
      let a = one_left (is_left p st s) [] _ _ none in
      let b = one_left (is_left p st s) _ _ _ a.1 in
      let c = one_left (is_left p st s) _ _ _ b.1 in
      let d = one_left (is_left p st s) _ _ _ c.1 in
      let can = both _ _ (both _ _ (both _ _ (fits.addressed s a.0) b.0) c.0) d.0 in
      never (has boards s) (who s ∙ both _ (has st.addressers s) can a.0) lacks)

  -- ---- DTACK*

  -- a board that has an interrupter is meant by what that is
  meant : (which : Interrupters) (s : ℕ) (i : InterrupterRow) → interrupter_at p s ≡ Some i → is_such which i ≡ true → is_meant_at which p s ≡ true
  meant which s i found such = of_board (board p s) found
    where
      of_row : (o : Option InterrupterRow) → o ≡ Some i → option_map_or (is_such which) o false ≡ true
      of_row o e = ap (λ k. option_map_or (is_such which) k false) e ∙ such

      of_board : (o : Option Row) → option_and_then (λ r. r.interrupter) o ≡ Some i → option_map_or (is_meant which) o false ≡ true
      of_board None e = absurd (none_some i e)
      of_board (Some r) e = of_row r.interrupter e

  pending_alone : (here : Bool) (r : Request) → here ≡ true → ((not here || is_pending r) && true) ≡ true → r ≡ request.Pending
  pending_alone true request.High e h = absurd (never false h refl)
  pending_alone true request.Pending e h = refl
  pending_alone true request.Served e h = absurd (never false h refl)
  pending_alone false r e h = absurd (never false e refl)

  same_slot : (s : ℕ) → (s == s) ≡ true
  same_slot s = grind (arith, nat_tests)

  turned_slots : (t s : ℕ) → (t == s) ≡ true → (s == t) ≡ true
  turned_slots t s e = let same = same_number t s e in grind (arith, nat_tests)

  -- an answer with all its conditions: the board may have given it
  answers : (n s : ℕ) (x : Option Value) (i : InterrupterRow) (boards : SlotSet) → AnswersShown p st x (Some (shown.Acknowledge n)) boards → is_some (board p s) ≡ true → interrupter_at p s ≡ Some i
      → is_left_low st line.DataStrobe ≡ true → (i.level == n) ≡ true → has st.fronts.ends (input_place p s) ≡ true → may_be st.requests s request.Pending ≡ true → may_answer_with p n x s ≡ true
      → has boards s ≡ true
  answers n s x i boards who stands found low on reached pending may =
      who s ∙ both _ _ low (both _ _ pending (both _ _ (both _ _ (meant All s i found refl) reached) may))

  -- the requests, with the first conditions of an answer
  pending_of : (n s : ℕ) (i : InterrupterRow) (ds : List Demand) → is_some (board p s) ≡ true → interrupter_at p s ≡ Some i → (i.level == n) ≡ true
      → ((r : Request) → list_all (λ d. is_request_allowed s s r d.test) ds ≡ true → r ≡ request.Pending)
      → is_left p st s ds (OfRequests Pending) ≡ true → may_be st.requests s request.Pending ≡ true
  pending_of n s i ds stands found on only h =
      let near = near_slot p ok s (λ r. true) (there s stands) in
      let left = request_of_level p s (is_on_low_line st.lines p s) st.requests ds i.level (rw found at h) s near.0 near.1 (meant (OnLevel i.level) s i found (same_slot i.level)) in
      subst (λ r. may_be st.requests s r ≡ true) (only left.request left.allowed) left.may

  answer_with : (n s : ℕ) (x : Option Value) → has_value (signal.Line line.Dtack) true x ≡ true → (boards : SlotSet) → AnswersShown p st x (Some (shown.Acknowledge n)) boards
      → is_some (board p s) ≡ true → has boards s ≡ false
      → (o : Option InterrupterRow) → interrupter_at p s ≡ o → is_some (first_failing (is_left p st s) [] (acknowledge_answered p st s n x o)) ≡ true
  answer_with n s x seen boards who stands lacks None found = named_if _ (λ none.
      let a = one_left (is_left p st s) [] _ _ (without x none) in
      let b = one_left (is_left p st s) _ _ _ a.1 in
      never false b.0 refl)
    where
      without : (y : Option Value) → is_some (first_failing (is_left p st s) [] (acknowledge_answered p st s n y None)) ≡ false
          → is_some (first_failing (is_left p st s) [] (strobe_low G25 st ∷ when_known (Fails G25 AcknowledgeInLow) false ∷ [])) ≡ false
      without y h = h
  answer_with n s None seen boards who stands lacks (Some i) found = named_if _ (λ none.
      let a = one_left (is_left p st s) [] _ _ none in
      let b = one_left (is_left p st s) _ _ _ a.1 in
      let c = one_left (is_left p st s) _ _ _ b.1 in
      let d = one_left (is_left p st s) _ _ _ c.1 in
      let e = one_left (is_left p st s) _ _ _ d.1 in
      let f = end_left st.fronts (acknowledge_answered p st s n None (Some i)) refl e.0 in
      let k = and_parts (are_alike (nat_le (input_place p s) f.end) true) (are_alike (nat_le s f.end) false && true) f.allowed in
      let l = and_parts (are_alike (nat_le s f.end) false) true k.1 in
      never (has boards s) (answers n s None i boards who stands found a.0 c.0
      (ends_at_input p ok st.fronts fits.ends s f.end f.near (reaches (input_place p s) f.end k.0) (ends_before s f.end l.0) f.has)
      (pending_of n s i (up_to_pending p st s n i) stands found c.0 (λ r h. pending_alone (s == s) r (same_slot s) h) d.0)
      (meant (OnLevel n) s i found c.0)) lacks)
  answer_with n s (Some (value.Status b)) seen boards who stands lacks (Some i) found = named_if _ (λ none.
      let a = one_left (is_left p st s) [] _ _ none in
      let b' = one_left (is_left p st s) _ _ _ a.1 in
      let c = one_left (is_left p st s) _ _ _ b'.1 in
      let d = one_left (is_left p st s) _ _ _ c.1 in
      let y = one_left (is_left p st s) _ _ _ d.1 in
      let e = one_left (is_left p st s) _ _ _ y.1 in
      let f = end_left st.fronts (acknowledge_answered p st s n (Some (value.Status b)) (Some i)) refl e.0 in
      let k = and_parts (are_alike (nat_le (input_place p s) f.end) true) (are_alike (nat_le s f.end) false && true) f.allowed in
      let l = and_parts (are_alike (nat_le s f.end) false) true k.1 in
      never (has boards s) (answers n s (Some (value.Status b)) i boards who stands found a.0 c.0
      (ends_at_input p ok st.fronts fits.ends s f.end f.near (reaches (input_place p s) f.end k.0) (ends_before s f.end l.0) f.has)
      (pending_of n s i (up_to_pending p st s n i) stands found c.0 (λ r h. pending_alone (s == s) r (same_slot s) h) d.0)
      (both _ _ (meant (OnLevel n) s i found c.0) (meant (WithStatus b) s i found y.0))) lacks)
  answer_with n s (Some (value.Shown v)) seen boards who stands lacks (Some i) found = absurd (never false seen refl)
  answer_with n s (Some value.Access) seen boards who stands lacks (Some i) found = absurd (never false seen refl)

  answer_access : (t : Option ℕ) (s : ℕ) (x : Option Value) → has_value (signal.Line line.Dtack) true x ≡ true → (boards : SlotSet) → AnswersShown p st x (Some (shown.Access t)) boards
      → is_some (board p s) ≡ true → has boards s ≡ false
      → is_some (first_failing (is_left p st s) [] (access_answered st s t x)) ≡ true
  answer_access t s (Some (value.Shown v)) seen boards who stands lacks = absurd (never false seen refl)
  answer_access t s (Some value.Access) seen boards who stands lacks = absurd (never false seen refl)
  answer_access t s (Some (value.Status b)) seen boards who stands lacks = named_if _ (λ none.
      let a = one_left (is_left p st s) [] _ _ none in
      let c = one_left (is_left p st s) _ _ _ a.1 in
      let d = one_left (is_left p st s) _ _ _ c.1 in
      never false d.0 refl)
  answer_access None s None seen boards who stands lacks = named_if _ (λ none.
      let a = one_left (is_left p st s) [] _ _ none in
      let b = one_left (is_left p st s) _ _ _ a.1 in
      never (has boards s) (who s ∙ both _ _ (both _ _ a.0 refl) (both _ _ b.0 stands)) lacks)
  answer_access (Some t) s None seen boards who stands lacks = named_if _ (λ none.
      let a = one_left (is_left p st s) [] _ _ none in
      let b = one_left (is_left p st s) _ _ _ a.1 in
      never (has boards s) (who s ∙ both _ _ (both _ _ a.0 refl) (both _ _ (turned_slots t s b.0) stands)) lacks)

  answer_fall : (s : ℕ) (x : Option Value) → has_value (signal.Line line.Dtack) true x ≡ true → (boards : SlotSet) → (v : Option Shown) → st.shown ≡ v → AnswersShown p st x v boards
      → is_some (board p s) ≡ true → has boards s ≡ false
      → is_some (first_failing (is_left p st s) [] (answer_falls p st s x v)) ≡ true
  answer_fall s x seen boards None is who stands lacks = named_if _ (λ none.
      let a = one_left (is_left p st s) [] _ _ none in
      never false (ap is_some (sym is) ∙ fits.strobed a.0) refl)
  answer_fall s x seen boards (Some (shown.Access t)) is who stands lacks = answer_access t s x seen boards who stands lacks
  answer_fall s x seen boards (Some (shown.Acknowledge n)) is who stands lacks = answer_with n s x seen boards who stands lacks (interrupter_at p s) refl

  -- ---- BERR*

  error_fall : (may : Bool) (v : Option Shown) → may ≡ (is_left_low st line.DataStrobe && not (is_left_low st line.Dtack) && nobody_answers p st.fronts v) → may ≡ false
      → is_some (first_failing (is_left p st 0) [] (strobe_low G7 st ∷ dtack_high G7 st ∷ silence p v ∷ [])) ≡ true
  error_fall may v who lacks = named_if _ (λ none.
      let a = one_left (is_left p st 0) [] _ _ none in
      let b = one_left (is_left p st 0) _ _ _ a.1 in
      let c = one_left (is_left p st 0) _ _ _ b.1 in
      never may (who ∙ both _ _ (both _ _ a.0 b.0) (nobody v c.0)) lacks)
    where
      nobody : (v : Option Shown) → is_left p st 0 (strobe_low G7 st ∷ dtack_high G7 st ∷ silence p v ∷ []) (silence p v).test ≡ true → nobody_answers p st.fronts v ≡ true
      nobody None h = h
      nobody (Some (shown.Access None)) h = h
      nobody (Some (shown.Access (Some t))) h = h
      nobody (Some (shown.Acknowledge n)) h =
          let f = end_left st.fronts (strobe_low G7 st ∷ dtack_high G7 st ∷ silence p (Some (shown.Acknowledge n)) ∷ []) refl h in
          let k = and_parts (are_alike (nat_le (unwrap_or (last_active p chain.Iack) 0) f.end) true) true f.allowed in
          ends_at_input p ok st.fronts fits.ends 22 f.end f.near
          (subst (λ q. q ≤ f.end) (at_place (last_active p chain.Iack) ∙ ap place_of (last_is_upstream p ok chain.Iack)) (reaches (unwrap_or (last_active p chain.Iack) 0) f.end k.0))
          f.near f.has

  -- ---- all of them

  board_fall : (l : Line) (x : Option Value) → is_of_a_cycle (signal.Line l) ≡ true → has_value (signal.Line l) true x ≡ true → (boards : SlotSet) → BoardsPull p st l x boards → (s : ℕ)
      → drives p (moved.Line l) s ≡ true → has boards s ≡ false
      → is_some (first_failing (is_left p st s) [] (line_falls p st s l x)) ≡ true
  board_fall line.AddressStrobe x in_cycle seen boards who s has_it lacks = address_fall x seen boards who s has_it lacks
  board_fall line.DataStrobe x in_cycle seen boards who s has_it lacks = data_fall boards who s lacks
  board_fall line.Dtack x in_cycle seen boards who s has_it lacks = answer_fall s x seen boards st.shown refl who has_it lacks
  board_fall line.Berr x in_cycle seen boards who s has_it lacks = absurd (never false has_it refl)
  board_fall _ x in_cycle seen boards who s has_it lacks = absurd (never false in_cycle refl)

  controller_fall : (l : Line) (x : Option Value) → is_of_a_cycle (signal.Line l) ≡ true → (may : Bool) → ControllerMakes p version st (moved.Line l) true may → controller_drives (moved.Line l) ≡ true
      → may ≡ false
      → is_some (first_failing (is_left p st 0) [] (line_falls p st 0 l x)) ≡ true
  controller_fall line.Berr x in_cycle may who has_it lacks = error_fall may st.shown who lacks
  controller_fall line.Bclr x in_cycle may who has_it lacks = absurd (never false in_cycle refl)
  controller_fall _ x in_cycle may who has_it lacks = absurd (never false has_it refl)

line_fall : (p : Plan) (probed : Probed) (st : Standings) (c : Change) (may : Drivers) (l : Line) → IsAccepted p → AreDrivers p probed st c may → FitsTogether p st
    → is_change c ≡ true → c.fall ≡ true → c.signal ≡ signal.Line l → is_of_a_cycle (signal.Line l) ≡ true → AreOthersHindered p probed.version st c may
line_fall p probed st c may l ok who fits seen fall on in_cycle =
    let value = (and_parts (is_signal c.signal) (has_value c.signal c.fall c.value) seen).1 in
    record {
      controller = λ has_it lacks. rw (on, fall) (controller_fall p ok probed.version st fits l c.value in_cycle may.controller (rw (on, fall) at who.controller) (rw on at has_it) lacks);
      boards = λ s has_it lacks. rw (on, fall) (board_fall p ok probed.version st fits l c.value in_cycle (rw (on, fall) at value) may.boards (rw (on, fall) at who.boards) s (rw on at has_it) lacks);
    }

pub cycles_hindered : (p : Plan) (probed : Probed) (st : Standings) (c : Change) (may : Drivers) → IsAccepted p → AreDrivers p probed st c may → FitsTogether p st
    → is_change c ≡ true → c.fall ≡ true → is_of_a_cycle c.signal ≡ true → AreOthersHindered p probed.version st c may
cycles_hindered p probed st c may ok who fits seen fall in_cycle = by_signal c.signal refl in_cycle
  where
    by_signal : (x : Signal) → c.signal ≡ x → is_of_a_cycle x ≡ true → AreOthersHindered p probed.version st c may
    by_signal (signal.Pin q) on is = absurd (never false is refl)
    by_signal (signal.Line l) on is = line_fall p probed st c may l ok who fits seen fall on is
