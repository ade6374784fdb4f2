-- Whoever may not have moved BBSY*, BCLR* or a bus grant has a condition that is named: `hindered_laws`.
use Rattle.std.proofs.Common.{◌≡◌, ◌∙◌, ◌&&◌, ◌||◌, ◌⊎◌, ◌<◌, ℕ, Bool, true, false, not, [], ◌∷◌, Option, Some, None, is_some, refl, sym, ap, subst, inl, inr, arith}
use Rattle.std.proofs.lemmas.Bool.{and_parts, cases_Bool}
use Rattle.std.proofs.lemmas.Bool.Decides.{nat_tests}
use Rattle.std.specs.Prelude.{nat_lt, nat_le, ◌==◌, if◌then◌else◌, option_map, slice_index_or, unwrap_or}
use Rattle.std.specs.List.{list_all, list_any}
use Rattle.std.specs.Option.{option_map_or}
use Rattle.vme_model.specs.declared.boards.RequesterRow.{RequesterRow}
use Rattle.vme_model.specs.declared.conditions.Condition.TheVariants.{BusyHigh, OwnBusyHigh, GrantInLow, GrantInHigh, OwnGrantOutHigh, Asked, HigherAsked, GrantsHigh, GrantsThrough, PassedTheLastBoard}
use Rattle.vme_model.specs.declared.sentences.Rule.TheVariants.{G1, G3, G11, G12, G13, G14, S3, S4}
use Rattle.vme_model.specs.declared.sets.BusLevels.{BusLevels}
use Rattle.vme_model.specs.declared.sets.ChainId.{ChainId}
use Rattle.vme_model.specs.declared.sets.ChainId.TheVariants.{Bg0, Bg1, Bg2, Bg3, Iack}
use Rattle.vme_model.specs.declared.signals.Version.{Version}
use Rattle.vme_model.specs.declared.signals.Wire.TheVariants as wire
use Rattle.vme_model.specs.Accepted.{IsAccepted}
use Rattle.vme_model.specs.Plan.{Plan, active, grant_chain}
use Rattle.vme_model.specs.Rules.{bus_numbers, is_pri}
use Rattle.vme_model.specs.Sets.{has_bus_level}
use Rattle.vme_model.specs.Signals.{is_two}
use Rattle.vme_model.proofs.Bools.{same_number}
use Rattle.vme_model.proofs.Members.{is_member}
use Rattle.vme_model.proofs.Ranges.{in_range}
use Rattle.vme_bus.specs.declared.sets.SlotSet.{SlotSet}
use Rattle.vme_bus.specs.Sets.{has}
use Rattle.vme_captures.specs.declared.signals.Change.{Change}
use Rattle.vme_captures.specs.declared.signals.Line.TheVariants as line
use Rattle.vme_captures.specs.declared.signals.Pin.{Pin}
use Rattle.vme_captures.specs.declared.signals.Side.{Side}
use Rattle.vme_captures.specs.declared.signals.Signal.{Signal}
use Rattle.vme_captures.specs.declared.signals.Signal.TheVariants as signal
use Rattle.vme_captures.specs.declared.signals.Value.{Value}
use Rattle.vme_captures.specs.Wires.{wire_of, wire_on}
use Rattle.vme_standings.specs.declared.cuts.PhaseFact.TheVariants.{SegmentLow, SegmentHigh, HeldBy, NotHeldBy, Picked, AskedAbove, GrantsHigh as AreGrantsHigh, AllHigh, PastAll}
use Rattle.vme_standings.specs.declared.moving.Moved.{Moved}
use Rattle.vme_standings.specs.declared.moving.Moved.TheVariants as moved
use Rattle.vme_standings.specs.declared.phases.GrantPhase.{GrantPhase}
use Rattle.vme_standings.specs.declared.phases.GrantPhase.TheVariants.{Idle, Granting, Held, Expired}
use Rattle.vme_standings.specs.declared.standings.Drivers.{Drivers}
use Rattle.vme_standings.specs.declared.standings.Probed.{Probed}
use Rattle.vme_standings.specs.declared.standings.Standings.{Standings}
use Rattle.vme_standings.specs.Boards.{has_requester}
use Rattle.vme_standings.specs.Cuts.{are_all_high, are_grants_high, is_past_all, last_level}
use Rattle.vme_standings.specs.Driving.{AreDrivers, BoardsMake, CanClear, ControllerMakes, can_rise, is_board_at, is_left_low}
use Rattle.vme_standings.specs.GrantChains.{end_place, is_of_level, place_before, requester_at}
use Rattle.vme_standings.specs.Grants.{are_alike, can_release, is_asked_above, is_clear_due, is_granted, is_let_go, is_outranked, is_passed, is_picked, is_run_out, is_taken, may_end}
use Rattle.vme_standings.specs.LowSegments.{is_low_in, is_segment}
use Rattle.vme_standings.specs.Moving.{asked, moved_by, segment_moved}
use Rattle.vme_standings.specs.Phases.{has_phase, is_held, is_held_by, is_in_table, no_slots}
use Rattle.vme_standings.specs.Segments.{has_segment}
use Rattle.vme_standings.specs.Standings.{controller_drives, drives}
use Rattle.vme_standings.proofs.GrantEdges.{any_of}
use Rattle.vme_standings.proofs.GrantPlaces.{above_zero, before, board_segment, segment_near}
use Rattle.vme_standings.proofs.Tests.{both, is_false, never, or_left, or_true}
use Rattle.vme_standings.proofs.UnseenPhases.{some_level}
use Rattle.vme_probe.specs.declared.obstacles.Obstacle.TheVariants.{Fails, NotLow, NotPicked}
use Rattle.vme_probe.specs.ChainsFit.{AgreesWithProbes, GrantsFit, IsSeen, is_expired, is_grant_chain, is_of_grants}
use Rattle.vme_probe.specs.Conditions.{busy_falls, busy_rises, clear_falls, grant_falls, grant_rises, low, moves, pass_falls, pass_rises}
use Rattle.vme_probe.specs.Demands.{first_failing, is_left, on_grants, when_known}
use Rattle.vme_probe.specs.Hindered.{AreOthersHindered}
use Rattle.vme_probe.proofs.Leaving.{PhaseLeft, named_if, one_left, phase_left}
use Rattle.vme_probe.proofs.PhaseLemmas.{begins_over, gives_up, goes_out, no_run, of_requester, run, second_fails, waits_here, wire_segment}

pub denied : (b : Bool) → not b ≡ true → b ≡ false
denied true h = absurd (never false h refl)
denied false h = refl

-- nobody holds the bus, so no board does
free_of : (s : ℕ) (q : GrantPhase) → is_held q ≡ false → is_held_by (λ b. b == s) q ≡ false
free_of s (Idle n) h = refl
free_of s (Granting n last) h = refl
free_of s (Held b first) h = absurd (never true refl h)
free_of s (Expired n first) h = refl

module _ (p : Plan) (ok : IsAccepted p) (probed : Probed) (st : Standings) (fits : GrantsFit p probed st) where
  abbrev version : Version
  version = probed.version

  -- ---- BBSY* falls

  take : (boards : SlotSet) → ((s : ℕ) → has boards s ≡ is_taken p (asked st.lines) st.phases s) → is_left_low st line.Bbsy ≡ false → (s : ℕ) → has_requester p s ≡ true → has boards s ≡ false
      → is_some (first_failing (is_left p st s) [] (busy_falls p (asked st.lines) s (requester_at p s))) ≡ true
  take boards who busy s has_it lacks = by_row (requester_at p s) refl
    where
      by_row : (o : Option RequesterRow) → requester_at p s ≡ o → is_some (first_failing (is_left p st s) [] (busy_falls p (asked st.lines) s o)) ≡ true
      by_row None e = absurd (never false (ap is_some (sym e) ∙ has_it) refl)
      by_row (Some r) e = named_if _ (λ none.
          let a = one_left (is_left p st s) [] _ _ none in
          let b = one_left (is_left p st s) _ _ _ a.1 in
          let k = one_left (is_left p st s) _ _ _ b.1 in
          let of = of_requester p ok s r e in
          let f = phase_left p st.phases (on_grants (Fails G13 GrantInLow) (SegmentLow r.level (place_before p r.level s)) ∷ on_grants (Fails G13 OwnGrantOutHigh) (SegmentHigh r.level s) ∷ []) b.0 in
          let fit = fits.each f.phase f.has in
          let l = and_parts (is_low_in p r.level (place_before p r.level s) f.phase) (not (is_low_in p r.level s f.phase) && true) f.allowed in
          let m = denied (is_low_in p r.level s f.phase) (and_parts (not (is_low_in p r.level s f.phase)) true l.1).0 in
          let is = waits_here p ok r.level of.few s of.on f.phase fit.named (free_of s f.phase (fit.bbsy ∙ busy)) (run p r.level (place_before p r.level s) f.phase l.0)
          (no_run p r.level s f.phase (board_segment p r.level s of.on) m) in
          let there = subst (λ q. has_phase st.phases q ≡ true) is f.has in
          let may : is_taken p (asked st.lines) st.phases s ≡ true =
          subst (λ o. option_map_or (λ q. has_bus_level (asked st.lines) q.level && has_phase st.phases (Granting q.level (place_before p q.level s))) o false ≡ true) (sym e) (both _ _ k.0 there) in
          never (has boards s) (who s ∙ may) lacks)

  -- ---- BBSY* rises

  release : (boards : SlotSet) → ((s : ℕ) → has boards s ≡ can_release p (asked st.lines) st.phases s) → (s : ℕ) → has_requester p s ≡ true → has boards s ≡ false
      → is_some (first_failing (is_left p st s) [] (busy_rises p (asked st.lines) s (requester_at p s))) ≡ true
  release boards who s has_it lacks = by_row (requester_at p s) refl
    where
      by_row : (o : Option RequesterRow) → requester_at p s ≡ o → is_some (first_failing (is_left p st s) [] (busy_rises p (asked st.lines) s o)) ≡ true
      by_row None e = absurd (never false (ap is_some (sym e) ∙ has_it) refl)
      by_row (Some r) e = named_if _ (λ none.
          let a = one_left (is_left p st s) [] _ _ none in
          let b = one_left (is_left p st s) _ _ _ a.1 in
          let k = one_left (is_left p st s) _ _ _ b.1 in
          let of = of_requester p ok s r e in
          let f = phase_left p st.phases
          (on_grants (NotLow wire.Bbsy) (HeldBy s) ∷ when_known (Fails G14 Asked) (may_end (asked st.lines) r.release)
          ∷ on_grants (Fails G14 GrantInHigh) (SegmentHigh r.level (place_before p r.level s)) ∷ []) k.0 in
          let fit = fits.each f.phase f.has in
          let l = and_parts (is_held_by (λ b. b == s) f.phase) (not (is_low_in p r.level (place_before p r.level s) f.phase) && true) f.allowed in
          let m = denied (is_low_in p r.level (place_before p r.level s) f.phase) (and_parts (not (is_low_in p r.level (place_before p r.level s) f.phase)) true l.1).0 in
          let is = gives_up p ok r.level of.few s of.on f.phase fit.named l.0 (no_run p r.level (place_before p r.level s) f.phase (before p ok r.level of.few s of.on).seg m) in
          let there = subst (λ q. has_phase st.phases q ≡ true) is f.has in
          let may : can_release p (asked st.lines) st.phases s ≡ true =
          both _ _ (subst (λ o. option_map_or (λ q. may_end (asked st.lines) q.release) o false ≡ true) (sym e) b.0) there in
          never (has boards s) (who s ∙ may) lacks)

  -- ---- BCLR* falls

  is_due : (x : Bool) → x ≡ true → are_alike x true ≡ true
  is_due true e = refl
  is_due false e = e

  clear_due : (q : GrantPhase) → is_held q ≡ true → option_map_or (λ last. is_asked_above last (asked st.lines)) (last_level p q) false ≡ true → is_pri p.arbiter ≡ true → are_grants_high q ≡ true
      → is_clear_due p (asked st.lines) q ≡ true
  clear_due (Idle n) held above pri high = absurd (never false held refl)
  clear_due (Granting n last) held above pri high = absurd (never false held refl)
  clear_due (Expired n first) held above pri high = absurd (never false held refl)
  clear_due (Held b first) held above pri high = both _ _ (both _ _ pri (by_row (requester_at p b) above)) high
    where
      by_row : (o : Option RequesterRow) → option_map_or (λ last. is_asked_above last (asked st.lines)) (option_map (λ q. q.level) o) false ≡ true
          → option_map_or (λ q. is_asked_above q.level (asked st.lines)) o false ≡ true
      by_row None h = h
      by_row (Some r) h = h

  clear : (may : Bool) → CanClear p (asked st.lines) true st.phases may → may ≡ false → is_some (first_failing (is_left p st 0) [] (clear_falls p st)) ≡ true
  clear may who lacks = named_if _ (λ none.
      let a = one_left (is_left p st 0) [] _ _ none in
      let b = one_left (is_left p st 0) _ _ _ a.1 in
      let k = one_left (is_left p st 0) _ _ _ b.1 in
      let d = one_left (is_left p st 0) _ _ _ k.1 in
      let f = phase_left p st.phases (clear_falls p st) d.0 in
      let fit = fits.each f.phase f.has in
      let l = and_parts (option_map_or (λ last. is_asked_above last (asked st.lines)) (last_level p f.phase) false) (are_grants_high f.phase && true) f.allowed in
      let m = and_parts (are_grants_high f.phase) true l.1 in
      never may (who.all f.phase f.near f.has (is_due (is_clear_due p (asked st.lines) f.phase) (clear_due f.phase (fit.bbsy ∙ a.0) l.0 k.0 m.0))) lacks)

  -- ---- a bus grant falls

  few_of : (n : ℕ) → nat_lt n 4 ≡ true → n < 4
  few_of n h = grind (arith, nat_tests)

  -- the phase in which the controller may grant
  grant_due : (c : ℕ) (q : GrantPhase) → is_in_table q ≡ true → AgreesWithProbes p probed st q → has_phase st.phases q ≡ true → is_held q ≡ false
      → option_map_or (λ last. is_picked p (asked st.lines) last c) (last_level p q) false ≡ true → are_grants_high q ≡ true → (is_two version ≡ true → are_all_high q ≡ true)
      → is_granted p (asked st.lines) c st.phases ≡ true
  grant_due c (Idle n) near fit there free picks high all = some_level (λ last. has_phase st.phases (Idle last) && is_picked p (asked st.lines) last c) n (few_of n near) (both _ _ there picks)
  grant_due c (Granting n last) near fit there free picks high all = absurd (never false high refl)
  grant_due c (Held b first) near fit there free picks high all = absurd (never true refl free)
  grant_due c (Expired n first) near fit there free picks high all = absurd (never false (all (fit.two refl)) refl)

  grant : (c : ℕ) (may : Bool) → may ≡ is_granted p (asked st.lines) c st.phases → may ≡ false → is_some (first_failing (is_left p st 0) [] (grant_falls version st c)) ≡ true
  grant c may who lacks = elim (cases_Bool (is_two version)) [
    | inl two ↦ named_if _ (λ none.
        let a = one_left (is_left p st 0) [] _ _ (rw two at none) in
        let b = one_left (is_left p st 0) _ _ _ a.1 in
        let k = one_left (is_left p st 0) _ _ _ b.1 in
        let d = one_left (is_left p st 0) _ _ _ k.1 in
        let f = phase_left p st.phases
        (when_known (Fails G1 BusyHigh) (not (low st line.Bbsy)) ∷ on_grants (NotPicked c) (Picked (asked st.lines) c) ∷ on_grants (Fails G1 GrantsHigh) AreGrantsHigh
        ∷ on_grants (Fails S4 GrantsThrough) AllHigh ∷ []) d.0 in
        let fit = fits.each f.phase f.has in
        let l = and_parts (option_map_or (λ last. is_picked p (asked st.lines) last c) (last_level p f.phase) false) (are_grants_high f.phase && (are_all_high f.phase && true)) f.allowed in
        let m = and_parts (are_grants_high f.phase) (are_all_high f.phase && true) l.1 in
        let n = and_parts (are_all_high f.phase) true m.1 in
        never may (who ∙ grant_due c f.phase f.near fit f.has (fit.bbsy ∙ denied (is_left_low st line.Bbsy) a.0) l.0 m.0 (λ _. n.0)) lacks)
    | inr one ↦ named_if _ (λ none.
        let a = one_left (is_left p st 0) [] _ _ (rw one at none) in
        let b = one_left (is_left p st 0) _ _ _ a.1 in
        let k = one_left (is_left p st 0) _ _ _ b.1 in
        let f = phase_left p st.phases
        (when_known (Fails G1 BusyHigh) (not (low st line.Bbsy)) ∷ on_grants (NotPicked c) (Picked (asked st.lines) c) ∷ on_grants (Fails G1 GrantsHigh) AreGrantsHigh ∷ []) k.0 in
        let fit = fits.each f.phase f.has in
        let l = and_parts (option_map_or (λ last. is_picked p (asked st.lines) last c) (last_level p f.phase) false) (are_grants_high f.phase && true) f.allowed in
        let m = and_parts (are_grants_high f.phase) true l.1 in
        never may (who ∙ grant_due c f.phase f.near fit f.has (fit.bbsy ∙ denied (is_left_low st line.Bbsy) a.0) l.0 m.0 (λ two. absurd (never (is_two version) two one))) lacks)
  ]

  module _ (c : ℕ) (few : c < 4) (place : ℕ) (seg : is_segment p c place ≡ true) (probed_is : has (slice_index_or probed.segments.grants c no_slots) place ≡ true) where
    -- the segment is as the probe sees it
    sees : (low : Bool) → has (slice_index_or st.low.grants c no_slots) place ≡ low → (q : GrantPhase) → AgreesWithProbes p probed st q → is_low_in p c place q ≡ low
    sees low was q fit = fit.shown c few place (segment_near p ok c place seg) probed_is ∙ was

    own_place : 0 < place → is_board_at place place ≡ true
    own_place from = grind (arith, nat_tests)

    pass : (boards : SlotSet) → has (slice_index_or st.low.grants c no_slots) place ≡ false → 0 < place → has boards place ≡ (is_passed p version c place st.phases && is_board_at place place)
        → has boards place ≡ false
        → is_some (first_failing (is_left p st place) [] (pass_falls p version c place)) ≡ true
    pass boards was from who lacks = named_if _ (λ none.
        let a = one_left (is_left p st place) [] _ _ none in
        let b = one_left (is_left p st place) _ _ _ a.1 in
        let k = one_left (is_left p st place) _ _ _ b.1 in
        let on = above_zero p c place seg from in
        let f = phase_left p st.phases (on_grants (Fails G11 GrantInLow) (SegmentLow c (place_before p c place)) ∷ on_grants (Fails G11 OwnBusyHigh) (NotHeldBy place) ∷ []) b.0 in
        let fit = fits.each f.phase f.has in
        let l = and_parts (is_low_in p c (place_before p c place) f.phase) (not (is_held_by (λ b. b == place) f.phase) && true) f.allowed in
        let free = denied (is_held_by (λ b. b == place) f.phase) (and_parts (not (is_held_by (λ b. b == place) f.phase)) true l.1).0 in
        let is = waits_here p ok c few place on f.phase fit.named free (run p c (place_before p c place) f.phase l.0) (no_run p c place f.phase seg (sees false was f.phase fit)) in
        let there = subst (λ q. has_phase st.phases q ≡ true) is f.has in
        never (has boards place) (who ∙ both _ _ (both _ _ (both _ _ k.0 on) there) (own_place from)) lacks)

    -- ---- it rises

    let_go : (b : ℕ) → is_of_level p c b ≡ true → place < b → has_phase st.phases (Held b place) ≡ true → can_rise p version c place st.phases ≡ true
    let_go b on less there =
        let behind : nat_lt place b ≡ true = grind (arith, nat_tests) in
        or_true (is_run_out p version c place st.phases) _ (any_of (is_let_go p c place st.phases) (active p (grant_chain c)) b (is_member p (in_range p ok) c b few on)
        (both _ _ (both _ _ behind on) there))

    drop : (boards : SlotSet) → has (slice_index_or st.low.grants c no_slots) place ≡ true → 0 < place → has boards place ≡ (can_rise p version c place st.phases && is_board_at place place)
        → has boards place ≡ false
        → is_some (first_failing (is_left p st place) [] (pass_rises p c place)) ≡ true
    drop boards was from who lacks = named_if _ (λ none.
        let a = one_left (is_left p st place) [] _ _ none in
        let on = above_zero p c place seg from in
        let f = phase_left p st.phases (pass_rises p c place) a.0 in
        let fit = fits.each f.phase f.has in
        let high = denied (is_low_in p c (place_before p c place) f.phase) (and_parts (not (is_low_in p c (place_before p c place) f.phase)) true f.allowed).0 in
        let may = by_case f.phase fit f.has
        (goes_out p ok c few place on f.phase fit.named (run p c place f.phase (sees true was f.phase fit)) (no_run p c (place_before p c place) f.phase (before p ok c few place on).seg high)) in
        never (has boards place) (who ∙ both _ _ may (own_place from)) lacks)
      where
        over : is_two version ≡ true → has_phase st.phases (Expired c place) ≡ true → is_run_out p version c place st.phases ≡ true
        over two there =
            let board : (place == 0) ≡ false = grind (arith, nat_tests) in
            both _ _ two (subst (λ b. (if b then has_phase st.phases (Granting c (end_place p c)) else has_phase st.phases (Expired c place)) ≡ true) (sym board) there)

        by_case : (q : GrantPhase) → AgreesWithProbes p probed st q → has_phase st.phases q ≡ true → ((b : ℕ) × (q ≡ Held b place) × (is_of_level p c b ≡ true) × (place < b)) ⊎ (q ≡ Expired c place)
            → can_rise p version c place st.phases ≡ true
        by_case q fit there (inl h) = let_go h.0 h.2 h.3 (subst (λ k. has_phase st.phases k ≡ true) h.1 there)
        by_case q fit there (inr is) = or_left (is_run_out p version c place st.phases) _ (over (fit.two (ap is_expired is)) (subst (λ k. has_phase st.phases k ≡ true) is there))

  module _ (c : ℕ) (few : c < 4) (probed_is : has (slice_index_or probed.segments.grants c no_slots) 0 ≡ true) (was : has (slice_index_or st.low.grants c no_slots) 0 ≡ true) where
    -- a board took the grant, or it has passed the last one
    may_rise : (q : GrantPhase) → AgreesWithProbes p probed st q → has_phase st.phases q ≡ true → is_past_all p c q ≡ true → (is_held q ≡ false → is_two version ≡ true)
        → can_rise p version c 0 st.phases ≡ true
    may_rise q fit there past two = by_case (begins_over p ok c few q fit.named (run p c 0 q (sees c few 0 refl probed_is true was q fit)) past)
      where
        by_case : ((b : ℕ) × (q ≡ Held b 0) × (is_of_level p c b ≡ true) × (0 < b)) ⊎ (q ≡ Granting c (end_place p c)) → can_rise p version c 0 st.phases ≡ true
        by_case (inl h) = let_go c few 0 refl probed_is h.0 h.2 h.3 (subst (λ k. has_phase st.phases k ≡ true) h.1 there)
        by_case (inr is) = or_left (is_run_out p version c 0 st.phases) _ (both _ _ (two (ap is_held is)) (subst (λ k. has_phase st.phases k ≡ true) is there))

    take_back : (may : Bool) → may ≡ can_rise p version c 0 st.phases → may ≡ false → is_some (first_failing (is_left p st 0) [] (grant_rises version st c)) ≡ true
    take_back may who lacks = elim (cases_Bool (is_two version)) [
      | inl two ↦ named_if _ (λ none.
          let a = one_left (is_left p st 0) [] _ _ (rw two at none) in
          let f = phase_left p st.phases (on_grants (Fails S3 PassedTheLastBoard) (PastAll c) ∷ []) a.0 in
          let fit = fits.each f.phase f.has in
          never may (who ∙ may_rise f.phase fit f.has (and_parts (is_past_all p c f.phase) true f.allowed).0 (λ _. two)) lacks)
      | inr one ↦ named_if _ (λ none.
          let a = one_left (is_left p st 0) [] _ _ (rw one at none) in
          let q = fits.some in
          let fit = fits.each q.0 q.1 in
          let held : is_held q.0 ≡ true = fit.bbsy ∙ a.0 in
          never may (who ∙ may_rise q.0 fit q.1 (or_left (is_held q.0) _ held) (λ free. absurd (never (is_held q.0) held free))) lacks)
    ]

-- ---- each change of a segment

-- who may not have made the change of what is moved has a condition that is named
pub record AreHindered (p : Plan) (version : Version) (st : Standings) (m : Moved) (fall : Bool) (v : Option Value) (may : Drivers) : Type 0 where
  pub controller : controller_drives m ≡ true → may.controller ≡ false → is_some (first_failing (is_left p st 0) [] (moves p version st 0 m fall v)) ≡ true
  pub boards : (s : ℕ) → drives p m s ≡ true → has may.boards s ≡ false → is_some (first_failing (is_left p st s) [] (moves p version st s m fall v)) ≡ true

pub from_zero : (place : ℕ) → nat_lt 0 place ≡ true → 0 < place
from_zero place h = grind (arith, nat_tests)

pub board_place : (place : ℕ) → nat_lt 0 place ≡ true → (place == 0) ≡ false
board_place place h = grind (arith, nat_tests)

module _ (p : Plan) (ok : IsAccepted p) (probed : Probed) (st : Standings) (fits : GrantsFit p probed st) (c : ℕ) (few : c < 4) where
  -- a change of the controller's segment
  by_controller : (place : ℕ) → place ≡ 0 → (fall : Bool) → has (slice_index_or probed.segments.grants c no_slots) place ≡ true → has (slice_index_or st.low.grants c no_slots) place ≡ not fall
      → (may : Bool)
      → ControllerMakes p probed.version st (moved.Grant c place) fall may → may ≡ false → (v : Option Value)
      → is_some (first_failing (is_left p st 0) [] (moves p probed.version st 0 (moved.Grant c place) fall v)) ≡ true
  by_controller place at true probed_is was may who lacks v =
      let head : (place == 0) ≡ true = ap (λ n. n == 0) at in
      subst (λ b. is_some (first_failing (is_left p st 0) [] (if b then grant_falls probed.version st c else pass_falls p probed.version c 0)) ≡ true) (sym head)
      (grant p ok probed st fits c may (subst (λ b. may ≡ (b && is_granted p (asked st.lines) c st.phases)) head who) lacks)
  by_controller place at false probed_is was may who lacks v =
      let head : (place == 0) ≡ true = ap (λ n. n == 0) at in
      subst (λ b. is_some (first_failing (is_left p st 0) [] (if b then grant_rises probed.version st c else pass_rises p c 0)) ≡ true) (sym head)
      (take_back p ok probed st fits c few (subst (λ n. has (slice_index_or probed.segments.grants c no_slots) n ≡ true) at probed_is)
      (subst (λ n. has (slice_index_or st.low.grants c no_slots) n ≡ true) at was) may
      (subst (λ n. may ≡ can_rise p probed.version c n st.phases) at (subst (λ b. may ≡ (b && can_rise p probed.version c place st.phases)) head who)) lacks)

  -- one of a board's
  by_board : (place : ℕ) → is_segment p c place ≡ true → nat_lt 0 place ≡ true → (fall : Bool) → has (slice_index_or probed.segments.grants c no_slots) place ≡ true
      → has (slice_index_or st.low.grants c no_slots) place ≡ not fall → (boards : SlotSet) (v : Option Value) → BoardsMake p probed.version st (moved.Grant c place) fall v boards
      → has boards place ≡ false
      → is_some (first_failing (is_left p st place) [] (moves p probed.version st place (moved.Grant c place) fall v)) ≡ true
  by_board place seg from true probed_is was boards v who lacks =
      subst (λ b. is_some (first_failing (is_left p st place) [] (if b then grant_falls probed.version st c else pass_falls p probed.version c place)) ≡ true) (sym (board_place place from))
      (pass p ok probed st fits c few place seg probed_is boards was (from_zero place from) (who place) lacks)
  by_board place seg from false probed_is was boards v who lacks =
      subst (λ b. is_some (first_failing (is_left p st place) [] (if b then grant_rises probed.version st c else pass_rises p c place)) ≡ true) (sym (board_place place from))
      (drop p ok probed st fits c few place seg probed_is boards was (from_zero place from) (who place) lacks)

  on_grant : (place : ℕ) → is_segment p c place ≡ true → (fall : Bool) → has (slice_index_or probed.segments.grants c no_slots) place ≡ true
      → has (slice_index_or st.low.grants c no_slots) place ≡ not fall
      → (v : Option Value) (may : Drivers) → ControllerMakes p probed.version st (moved.Grant c place) fall may.controller → BoardsMake p probed.version st (moved.Grant c place) fall v may.boards
      → AreHindered p probed.version st (moved.Grant c place) fall v may
  on_grant place seg fall probed_is was v may controller boards = record {
    controller = λ has_it lacks. by_controller place (same_number place 0 has_it) fall probed_is was may.controller controller lacks v;
    boards = λ s has_it lacks.
        let h = and_parts (nat_lt 0 place) (s == place) has_it in
        let same : s ≡ place = same_number s place h.1 in
        subst (λ k. is_some (first_failing (is_left p st k) [] (moves p probed.version st k (moved.Grant c place) fall v)) ≡ true) (sym same)
        (by_board place seg h.0 fall probed_is was may.boards v boards (subst (λ k. has may.boards k ≡ false) same lacks));
  }

on_pin : (p : Plan) → IsAccepted p → (probed : Probed) (st : Standings) → GrantsFit p probed st → (s : ℕ) (c : ChainId) (side : Side) → is_grant_chain c ≡ true → (fall : Bool)
    → has_segment probed.segments c (unwrap_or (wire_on p c s side).place 0) ≡ true → has_segment st.low c (unwrap_or (wire_on p c s side).place 0) ≡ not fall → (v : Option Value) (may : Drivers)
    → ControllerMakes p probed.version st (segment_moved c (unwrap_or (wire_on p c s side).place 0)) fall may.controller
    → BoardsMake p probed.version st (segment_moved c (unwrap_or (wire_on p c s side).place 0)) fall v may.boards
    → AreHindered p probed.version st (segment_moved c (unwrap_or (wire_on p c s side).place 0)) fall v may
on_pin p ok probed st fits s Bg0 side is fall probed_is was v may controller boards = on_grant p ok probed st fits 0 (omega arith) _
    (wire_segment p ok 0 s side (omega arith)) fall probed_is was v may controller boards
on_pin p ok probed st fits s Bg1 side is fall probed_is was v may controller boards = on_grant p ok probed st fits 1 (omega arith) _
    (wire_segment p ok 1 s side (omega arith)) fall probed_is was v may controller boards
on_pin p ok probed st fits s Bg2 side is fall probed_is was v may controller boards = on_grant p ok probed st fits 2 (omega arith) _
    (wire_segment p ok 2 s side (omega arith)) fall probed_is was v may controller boards
on_pin p ok probed st fits s Bg3 side is fall probed_is was v may controller boards = on_grant p ok probed st fits 3 (omega arith) _
    (wire_segment p ok 3 s side (omega arith)) fall probed_is was v may controller boards
on_pin p ok probed st fits s Iack side is fall probed_is was v may controller boards = absurd (never false is refl)

pub grants_hindered : (p : Plan) (probed : Probed) (st : Standings) (c : Change) (may : Drivers) → IsAccepted p → AreDrivers p probed st c may → GrantsFit p probed st
    → IsSeen p probed st c → is_of_grants c.signal ≡ true → AreOthersHindered p probed.version st c may
grants_hindered p probed st c may ok who fits seen is = by_signal c.signal refl is
  where
    by_signal : (x : Signal) → c.signal ≡ x → is_of_grants x ≡ true → AreOthersHindered p probed.version st c may
    by_signal (signal.Line l) on is = absurd (never false is refl)
    by_signal (signal.Pin q) on is =
        let h = on_pin p ok probed st fits q.slot q.chain q.side is c.fall (rw on at seen.probed_is) (rw on at seen.differs) c.value may (rw on at who.controller) (rw on at who.boards) in
        record {
          controller = λ has_it lacks. rw on (h.controller (rw on at has_it) lacks);
          boards = λ s has_it lacks. rw on (h.boards s (rw on at has_it) lacks);
        }

-- ---- BBSY* and BCLR*

pub busy_hindered : (p : Plan) (probed : Probed) (st : Standings) (c : Change) (may : Drivers) → IsAccepted p → AreDrivers p probed st c may → GrantsFit p probed st
    → IsSeen p probed st c → c.signal ≡ signal.Line line.Bbsy → AreOthersHindered p probed.version st c may
busy_hindered p probed st c may ok who fits seen on = by_way c.fall refl
  where
    by_way : (fall : Bool) → c.fall ≡ fall → AreOthersHindered p probed.version st c may
    by_way true fall = record {
      controller = λ has_it lacks. absurd (never false (rw on at has_it) refl);
      boards = λ s has_it lacks. rw (on, fall) (take p ok probed st fits may.boards (rw (on, fall) at who.boards) (rw (on, fall) at seen.differs) s (rw on at has_it) lacks);
    }
    by_way false fall = record {
      controller = λ has_it lacks. absurd (never false (rw on at has_it) refl);
      boards = λ s has_it lacks. rw (on, fall) (release p ok probed st fits may.boards (rw (on, fall) at who.boards) s (rw on at has_it) lacks);
    }

pub clear_hindered : (p : Plan) (probed : Probed) (st : Standings) (c : Change) (may : Drivers) → IsAccepted p → AreDrivers p probed st c may → GrantsFit p probed st
    → c.fall ≡ true → c.signal ≡ signal.Line line.Bclr → AreOthersHindered p probed.version st c may
clear_hindered p probed st c may ok who fits fall on = record {
  controller = λ has_it lacks. rw (on, fall) (clear p ok probed st fits may.controller (rw (on, fall) at who.controller) lacks);
  boards = λ s has_it lacks. absurd (never false (rw on at has_it) refl);
}
