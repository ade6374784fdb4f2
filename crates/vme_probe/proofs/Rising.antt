-- Whoever may not have let a shared line rise, other than BBSY*, has a condition that is named: `laws`.
use Rattle.std.proofs.Common.{◌≡◌, ◌≢◌, ◌∙◌, ◌&&◌, ◌||◌, ℕ, Bool, true, false, not, [], ◌∷◌, Some, is_some, refl, sym, ap, subst, inl, inr, arith}
use Rattle.std.proofs.lemmas.Bool.Decides.{nat_tests}
use Rattle.std.proofs.lemmas.Bool.{and_parts, cases_Bool}
use Rattle.std.specs.Prelude.{◌==◌, ◌<◌}
use Rattle.vme_model.specs.declared.boards.InterrupterRow.{InterrupterRow}
use Rattle.vme_model.specs.declared.conditions.Condition.TheVariants.{OwnBusyLow}
use Rattle.vme_model.specs.declared.sentences.Rule.TheVariants.{G10}
use Rattle.vme_model.specs.declared.signals.Version.{Version}
use Rattle.vme_model.specs.Accepted.{IsAccepted}
use Rattle.vme_model.specs.Plan.{Plan, interrupts_on, requests_on}
use Rattle.vme_model.specs.Signals.{is_two}
use Rattle.vme_model.proofs.Bools.{same_number}
use Rattle.vme_bus.specs.declared.sets.SlotSet.{SlotSet}
use Rattle.vme_bus.specs.Sets.{has}
use Rattle.vme_captures.specs.declared.signals.Change.{Change}
use Rattle.vme_captures.specs.declared.signals.Line.{Line}
use Rattle.vme_captures.specs.declared.signals.Line.TheVariants as line
use Rattle.vme_captures.specs.declared.signals.Signal.{Signal}
use Rattle.vme_captures.specs.declared.signals.Signal.TheVariants as signal
use Rattle.vme_standings.specs.declared.cuts.PhaseFact.TheVariants.{HeldBy}
use Rattle.vme_standings.specs.declared.moving.Moved.TheVariants as moved
use Rattle.vme_standings.specs.declared.phases.GrantPhase.{GrantPhase}
use Rattle.vme_standings.specs.declared.phases.GrantPhase.TheVariants.{Idle, Granting, Held, Expired}
use Rattle.vme_standings.specs.declared.requests.Request.{Request}
use Rattle.vme_standings.specs.declared.requests.Request.TheVariants as request
use Rattle.vme_standings.specs.declared.standings.Drivers.{Drivers}
use Rattle.vme_standings.specs.declared.standings.Probed.{Probed}
use Rattle.vme_standings.specs.declared.standings.Standings.{Standings}
use Rattle.vme_standings.specs.Driving.{AreDrivers, AreRisers, AreWithdrawers, BoardsLetGo, CanClear, ControllerMakes, can_end, is_answered, is_left_low}
use Rattle.vme_standings.specs.GrantChains.{is_of_level}
use Rattle.vme_standings.specs.Grants.{are_alike, is_clear_due}
use Rattle.vme_standings.specs.Interrupters.{is_on_low_line}
use Rattle.vme_standings.specs.Moving.{asked}
use Rattle.vme_standings.specs.Phases.{has_phase, is_held_by}
use Rattle.vme_standings.specs.RequestSets.{MayRise, may_be}
use Rattle.vme_standings.specs.Requests.{AreOnLevel, is_on_level}
use Rattle.vme_standings.specs.Standings.{controller_drives, drives}
use Rattle.vme_standings.proofs.Tests.{both, is_false, never}
use Rattle.vme_probe.specs.declared.obstacles.Obstacle.TheVariants.{Fails}
use Rattle.vme_probe.specs.Conditions.{clear_rises, interrupt_rises, line_rises, request_rises}
use Rattle.vme_probe.specs.Demands.{are_requests_left, first_failing, interrupter_at, is_left, is_served, on_grants, pulls}
use Rattle.vme_probe.specs.Hindered.{AreOthersHindered, is_line_but_busy}
use Rattle.vme_probe.proofs.Leaving.{interrupter_of, named_if, near_slot, one_left, phase_left, request_of_level}

module _ (p : Plan) (ok : IsAccepted p) (version : Version) (st : Standings) where
  -- ---- BRn*

  held_at : (boards : SlotSet) (n s : ℕ) → AreWithdrawers p version n st.phases boards → is_two version ≡ false → s < 22 → is_of_level p n s ≡ true
      → (q : GrantPhase) → has_phase st.phases q ≡ true → is_held_by (λ b. b == s) q ≡ true → has boards s ≡ true
  held_at boards n s who one near on (Idle c) there held = absurd (never false held refl)
  held_at boards n s who one near on (Granting c last) there held = absurd (never false held refl)
  held_at boards n s who one near on (Held b first) there held =
      who.all one s first near on (subst (λ k. has_phase st.phases (Held k first) ≡ true) (same_number b s held) there)
  held_at boards n s who one near on (Expired c first) there held = absurd (never false held refl)

  request_rise : (n : ℕ) (boards : SlotSet) → AreWithdrawers p version n st.phases boards → (s : ℕ) → is_of_level p n s ≡ true → has boards s ≡ false
      → is_some (first_failing (is_left p st s) [] (request_rises version s)) ≡ true
  request_rise n boards who s on lacks =
      elim (cases_Bool (is_two version)) [
        | inl two ↦ absurd (never (has boards s) (who.two two s ∙ on) lacks)
        | inr one ↦ named_if _ (λ none.
            let k = one_left (is_left p st s) [] _ _ (rw one at none) in
            let f = phase_left p st.phases (on_grants (Fails G10 OwnBusyLow) (HeldBy s) ∷ []) k.0 in
            never (has boards s) (held_at boards n s who one (near_slot p ok s (requests_on n) on).1 on f.phase f.has (and_parts (is_held_by (λ b. b == s) f.phase) true f.allowed).0) lacks)
      ]

  -- ---- AS*, DS*, DTACK*

  address_rise : (boards : SlotSet) → BoardsLetGo p version st line.AddressStrobe boards → (s : ℕ) → has boards s ≡ false
      → is_some (first_failing (is_left p st s) [] (line_rises p version st s line.AddressStrobe)) ≡ true
  address_rise boards who s lacks = named_if _ (λ none.
      let a = one_left (is_left p st s) [] _ _ none in
      let b = one_left (is_left p st s) _ _ _ a.1 in
      let c = one_left (is_left p st s) _ _ _ b.1 in
      never (has boards s) (who s ∙ both (can_end st) (has st.addressers s) (both st.strobed (not (is_left_low st line.DataStrobe)) c.0 b.0) a.0) lacks)

  data_rise : (boards : SlotSet) → BoardsLetGo p version st line.DataStrobe boards → (s : ℕ) → has boards s ≡ false
      → is_some (first_failing (is_left p st s) [] (line_rises p version st s line.DataStrobe)) ≡ true
  data_rise boards who s lacks = named_if _ (λ none.
      let a = one_left (is_left p st s) [] _ _ none in
      let b = one_left (is_left p st s) _ _ _ a.1 in
      never (has boards s) (who s ∙ both (is_answered st) (has st.addressers s) b.0 a.0) lacks)

  answer_rise : (boards : SlotSet) → BoardsLetGo p version st line.Dtack boards → (s : ℕ) → has boards s ≡ false
      → is_some (first_failing (is_left p st s) [] (line_rises p version st s line.Dtack)) ≡ true
  answer_rise boards who s lacks = named_if _ (λ none.
      let a = one_left (is_left p st s) [] _ _ none in
      let b = one_left (is_left p st s) _ _ _ a.1 in
      never (has boards s) (who s ∙ both (not (is_left_low st line.DataStrobe)) (has st.answerers s) b.0 a.0) lacks)

  -- ---- BERR*, BCLR*

  error_rise : (may : Bool) → ControllerMakes p version st (moved.Line line.Berr) false may → may ≡ false
      → is_some (first_failing (is_left p st 0) [] (line_rises p version st 0 line.Berr)) ≡ true
  error_rise may who lacks = named_if _ (λ none.
      let a = one_left (is_left p st 0) [] _ _ none in
      never may (who ∙ a.0) lacks)

  not_due : (a : Bool) → not a ≡ true → are_alike a false ≡ true
  not_due true h = h
  not_due false h = refl

  clear_rise : (may : Bool) → CanClear p (asked st.lines) false st.phases may → may ≡ false
      → is_some (first_failing (is_left p st 0) [] (line_rises p version st 0 line.Bclr)) ≡ true
  clear_rise may who lacks = named_if _ (λ none.
      let a = one_left (is_left p st 0) [] _ _ none in
      let f = phase_left p st.phases (clear_rises st) a.0 in
      never may (who.all f.phase f.near f.has (not_due (is_clear_due p (asked st.lines) f.phase) (and_parts (not (is_clear_due p (asked st.lines) f.phase)) true f.allowed).0)) lacks)

  -- ---- IRQn*

  -- what leaves a board's request with the three conditions of a rise: `here` tells whether the board is the driver's
  served_alone : (here : Bool) (r : Request) → here ≡ true → ((not here || pulls r) && ((not here || is_served r) && ((here || not (pulls r)) && true))) ≡ true → r ≡ request.Served
  served_alone true request.High e h = absurd (never false h refl)
  served_alone true request.Pending e h = absurd (never false h refl)
  served_alone true request.Served e h = refl
  served_alone false r e h = absurd (never false e refl)

  high_alone : (here : Bool) (r : Request) → here ≡ false → ((not here || pulls r) && ((not here || is_served r) && ((here || not (pulls r)) && true))) ≡ true → r ≡ request.High
  high_alone false request.High e h = refl
  high_alone false request.Pending e h = absurd (never false h refl)
  high_alone false request.Served e h = absurd (never false h refl)
  high_alone true r e h = absurd (never true refl e)

  same_slot : (s : ℕ) → (s == s) ≡ true
  same_slot s = grind (arith, nat_tests)

  other_slot : (t s : ℕ) → t ≢ s → (t == s) ≡ false
  other_slot t s differ = is_false (t == s) (λ e. differ (same_number t s e))

  may_rise : (n s : ℕ) (low : Bool) (i : InterrupterRow) (line : SlotSet) → AreOnLevel p n line → is_on_level p n s ≡ true
      → are_requests_left p s low st.requests (interrupt_rises (Some i)) n ≡ true → MayRise line st.requests s
  may_rise n s low i line level on h =
      let near = near_slot p ok s (interrupts_on n) on in
      let own = request_of_level p s low st.requests (interrupt_rises (Some i)) n h s near.0 near.1 on in
      record {
        board = level s ∙ on;
        served = subst (λ r. may_be st.requests s r ≡ true) (served_alone (s == s) own.request (same_slot s) own.allowed) own.may;
        others = λ t from to held differ.
            let left = request_of_level p s low st.requests (interrupt_rises (Some i)) n h t from to (sym (level t) ∙ held) in
            subst (λ r. may_be st.requests t r ≡ true) (high_alone (t == s) left.request (other_slot t s differ) left.allowed) left.may;
      }

  interrupt_rise : (n : ℕ) (boards : SlotSet) → AreRisers p n st.requests boards → (s : ℕ) → is_on_level p n s ≡ true → has boards s ≡ false
      → is_some (first_failing (is_left p st s) [] (interrupt_rises (interrupter_at p s))) ≡ true
  interrupt_rise n boards who s on lacks =
      let i = interrupter_of p n s on in
      let near = near_slot p ok s (interrupts_on n) on in
      named_if _ (λ none.
      let a = one_left (is_left p st s) [] _ _ (rw i.found at none) in
      let b = one_left (is_left p st s) _ _ _ a.1 in
      let c = one_left (is_left p st s) _ _ _ b.1 in
      let left : are_requests_left p s (is_on_low_line st.lines p s) st.requests (interrupt_rises (Some i.row)) n ≡ true =
      ap (λ k. are_requests_left p s (is_on_low_line st.lines p s) st.requests (interrupt_rises (Some i.row)) k) (sym i.level)
      ∙ (rw i.found at c.0) in
      never (has boards s) ((who.able s near.0 near.1).1 (may_rise n s (is_on_low_line st.lines p s) i.row who.line who.level on left)) lacks)

  -- ---- all of them

  board_rise : (l : Line) → l ≢ line.Bbsy → (boards : SlotSet) → BoardsLetGo p version st l boards → (s : ℕ) → drives p (moved.Line l) s ≡ true → has boards s ≡ false
      → is_some (first_failing (is_left p st s) [] (line_rises p version st s l)) ≡ true
  board_rise (line.Br n) other boards who s has_it lacks = request_rise n boards who s has_it lacks
  board_rise (line.Irq n) other boards who s has_it lacks = interrupt_rise n boards who s has_it lacks
  board_rise line.Bbsy other boards who s has_it lacks = absurd (other refl)
  board_rise line.AddressStrobe other boards who s has_it lacks = address_rise boards who s lacks
  board_rise line.DataStrobe other boards who s has_it lacks = data_rise boards who s lacks
  board_rise line.Dtack other boards who s has_it lacks = answer_rise boards who s lacks
  board_rise line.Berr other boards who s has_it lacks = absurd (never false has_it refl)
  board_rise line.Bclr other boards who s has_it lacks = absurd (never false has_it refl)

  controller_rise : (l : Line) (may : Bool) → ControllerMakes p version st (moved.Line l) false may → controller_drives (moved.Line l) ≡ true → may ≡ false
      → is_some (first_failing (is_left p st 0) [] (line_rises p version st 0 l)) ≡ true
  controller_rise line.Berr may who has_it lacks = error_rise may who lacks
  controller_rise line.Bclr may who has_it lacks = clear_rise may who lacks
  controller_rise _ may who has_it lacks = absurd (never false has_it refl)

-- the line of the change
line_rise : (p : Plan) (probed : Probed) (st : Standings) (c : Change) (may : Drivers) (l : Line) → IsAccepted p → AreDrivers p probed st c may
    → c.signal ≡ signal.Line l → c.fall ≡ false → l ≢ line.Bbsy → AreOthersHindered p probed.version st c may
line_rise p probed st c may l ok who on rise other = record {
  controller = λ has_it lacks. rw (on, rise) (controller_rise p ok probed.version st l may.controller (rw (on, rise) at who.controller) (rw on at has_it) lacks);
  boards = λ s has_it lacks. rw (on, rise) (board_rise p ok probed.version st l other may.boards (rw (on, rise) at who.boards) s (rw on at has_it) lacks);
}

pub rises_hindered : (p : Plan) (probed : Probed) (st : Standings) (c : Change) (may : Drivers) → IsAccepted p → AreDrivers p probed st c may
    → c.fall ≡ false → is_line_but_busy c.signal ≡ true → AreOthersHindered p probed.version st c may
rises_hindered p probed st c may ok who rise is_line = by_signal c.signal refl is_line
  where
    by_signal : (x : Signal) → c.signal ≡ x → is_line_but_busy x ≡ true → AreOthersHindered p probed.version st c may
    by_signal (signal.Pin q) on is = absurd (never false is refl)
    by_signal (signal.Line l) on is = line_rise p probed st c may l ok who on rise (λ e. never false (subst (λ k. is_line_but_busy (signal.Line k) ≡ true) e is) refl)
