-- Whoever may not have moved a pin of the acknowledge chain has a condition that is named: `hindered_laws`.
use Rattle.std.proofs.Common.{◌≡◌, ◌∙◌, ◌&&◌, ◌||◌, ◌⊎◌, ◌<◌, ◌≤◌, ℕ, Bool, true, false, not, List, [], ◌∷◌, Option, Some, None, is_some, refl, sym, ap, subst, inl, inr, arith}
use Rattle.std.proofs.lemmas.Bool.{and_parts, cases_Bool}
use Rattle.std.proofs.lemmas.Bool.Decides.{nat_tests}
use Rattle.std.specs.Prelude.{nat_lt, nat_le, ◌==◌, if◌then◌else◌, unwrap_or}
use Rattle.std.specs.List.{list_all, list_any}
use Rattle.std.specs.Option.{option_map_or}
use Rattle.vme_model.specs.declared.boards.InterrupterRow.{InterrupterRow}
use Rattle.vme_model.specs.declared.conditions.Condition.TheVariants.{AcknowledgeInLow, AcknowledgeShown, OwnDtackHigh}
use Rattle.vme_model.specs.declared.sentences.Rule.{Rule}
use Rattle.vme_model.specs.declared.sentences.Rule.TheVariants.{G5, G6, G23, G24}
use Rattle.vme_model.specs.declared.sets.ChainId.{ChainId}
use Rattle.vme_model.specs.declared.sets.ChainId.TheVariants.{Bg0, Bg1, Bg2, Bg3, Iack}
use Rattle.vme_model.specs.declared.signals.Version.{Version}
use Rattle.vme_model.specs.Accepted.{IsAccepted}
use Rattle.vme_model.specs.Plan.{Plan, interrupts_on}
use Rattle.vme_model.proofs.Bools.{same_number}
use Rattle.vme_bus.specs.declared.sets.SlotSet.{SlotSet}
use Rattle.vme_bus.specs.Sets.{has}
use Rattle.vme_captures.specs.declared.signals.Change.{Change}
use Rattle.vme_captures.specs.declared.signals.Line.TheVariants as line
use Rattle.vme_captures.specs.declared.signals.Side.{Side}
use Rattle.vme_captures.specs.declared.signals.Signal.{Signal}
use Rattle.vme_captures.specs.declared.signals.Signal.TheVariants as signal
use Rattle.vme_captures.specs.declared.signals.Value.{Value}
use Rattle.vme_captures.specs.Wires.{wire_on}
use Rattle.vme_standings.specs.declared.moving.Moved.TheVariants as moved
use Rattle.vme_standings.specs.declared.requests.Request.{Request}
use Rattle.vme_standings.specs.declared.requests.Request.TheVariants as request
use Rattle.vme_standings.specs.declared.requests.Requests.{Requests}
use Rattle.vme_standings.specs.declared.standings.Drivers.{Drivers}
use Rattle.vme_standings.specs.declared.standings.Probed.{Probed}
use Rattle.vme_standings.specs.declared.standings.Shown.{Shown}
use Rattle.vme_standings.specs.declared.standings.Shown.TheVariants as shown
use Rattle.vme_standings.specs.declared.standings.Standings.{Standings}
use Rattle.vme_standings.specs.Driving.{AreDrivers, BoardsMake, ControllerMakes, MayPass, MayPassAt, PassesShown, is_acknowledged, is_board_at, is_left_low, is_under_way}
use Rattle.vme_standings.specs.Fronts.{input_place}
use Rattle.vme_standings.specs.Grants.{are_alike}
use Rattle.vme_standings.specs.Interrupters.{is_on_low_line}
use Rattle.vme_standings.specs.Moving.{segment_moved}
use Rattle.vme_standings.specs.Requests.{is_interrupter, is_on_level}
use Rattle.vme_standings.specs.RequestSets.{CannotPass, may_be, pulls_without}
use Rattle.vme_standings.specs.Segments.{has_segment}
use Rattle.vme_standings.proofs.Tests.{both, is_false, never, or_left, or_true}
use Rattle.vme_probe.specs.declared.demands.Demand.{Demand}
use Rattle.vme_probe.specs.declared.demands.RequestTest.TheVariants.{NotPending as IsNotPending}
use Rattle.vme_probe.specs.declared.obstacles.Obstacle.TheVariants.{Fails, IsPending}
use Rattle.vme_probe.specs.ChainsFit.{AcknowledgeFits, IsSeen, is_grant_chain, is_of_acknowledge, may_end_at}
use Rattle.vme_probe.specs.Conditions.{chain_rises, is_acknowledge_shown, is_on_level as is_row_on_level, low, moves, passed_on, start_falls, strobe_low}
use Rattle.vme_probe.specs.Demands.{are_requests_left, can_pull, can_stand, first_failing, interrupter_at, is_chain_low, is_left, is_pending, is_request_left, on_chain, on_requests, passes_requests, places, when_known}
use Rattle.vme_probe.specs.Hindered.{AreOthersHindered, FitsTogether}
use Rattle.vme_probe.proofs.Fitting.{wire_is}
use Rattle.vme_probe.proofs.Granting.{AreHindered, board_place, denied, from_zero}
use Rattle.vme_probe.proofs.Leaving.{end_left, ends_at_input, implied, interrupter_of, named_if, near_slot, one_left, or_cases, reaches, request_of_level, some_place}

record IsAcknowledge (x : Option Shown) : Type 0 where
  pub some : is_some x ≡ true
  pub acknowledged : is_acknowledged x ≡ true

acknowledge_is : (x : Option Shown) → is_acknowledge_shown x ≡ true → IsAcknowledge x
acknowledge_is None h = absurd (never false h refl)
acknowledge_is (Some (shown.Access t)) h = absurd (never false h refl)
acknowledge_is (Some (shown.Acknowledge n)) h = record { some = refl; acknowledged = refl }

own_place : (place : ℕ) → 0 < place → is_board_at place place ≡ true
own_place place from = grind (arith, nat_tests)

-- the first conditions of a board that passes the acknowledge on
abbrev up_to_input : Plan → Standings → ℕ → List Demand
up_to_input p st s = strobe_low G23 st ∷ when_known (Fails G23 AcknowledgeShown) true ∷ on_chain (Fails G23 AcknowledgeInLow) (input_place p s) true ∷ []

-- all of them, if the board is of the level
abbrev up_to_level : Plan → Standings → ℕ → ℕ → List Demand
up_to_level p st s n =
    strobe_low G23 st ∷ when_known (Fails G23 AcknowledgeShown) true ∷ on_chain (Fails G23 AcknowledgeInLow) (input_place p s) true
    ∷ when_known (Fails G23 OwnDtackHigh) (not (low st line.Dtack)) ∷ on_requests (IsPending n) IsNotPending ∷ []

module _ (p : Plan) (ok : IsAccepted p) (probed : Probed) (st : Standings) (fits : FitsTogether p st) (chain : AcknowledgeFits p probed st) where
  -- ---- the controller's segment falls

  start : has probed.segments.acknowledge 0 ≡ true → has st.low.acknowledge 0 ≡ false → (may : Bool) → may ≡ (is_under_way st && st.fronts.waiting) → may ≡ false
      → is_some (first_failing (is_left p st 0) [] (start_falls st)) ≡ true
  start probed_is was may who lacks = named_if _ (λ none.
      let a = one_left (is_left p st 0) [] _ _ none in
      let b = one_left (is_left p st 0) _ _ _ a.1 in
      let k = one_left (is_left p st 0) _ _ _ b.1 in
      let is = acknowledge_is st.shown k.0 in
      let front = chain.some is.some in
      never may (who ∙ both _ _ (both _ _ is.acknowledged b.0) (waits front.0 front.1 (chain.each is.some front.0 front.1 0 (omega arith) probed_is ∙ was))) lacks)
    where
      waits : (front : Option ℕ) → may_end_at st.fronts front ≡ true → is_chain_low front 0 ≡ false → st.fronts.waiting ≡ true
      waits None h high = h
      waits (Some end) h high = absurd (let first : nat_le 0 end ≡ true = grind (arith, nat_tests) in never (nat_le 0 end) first high)

  -- ---- a segment rises

  ended : not (is_left_low st line.AddressStrobe) ≡ true → not (is_some st.shown) ≡ true
  ended high = ap not (is_false (is_some st.shown) (λ some. never (is_left_low st line.AddressStrobe) (chain.cycle some) (denied (is_left_low st line.AddressStrobe) high)))

  -- ---- a board's segment falls

  module _ (n place : ℕ) (on : is_on_level p n place ≡ true) (left : are_requests_left p place (is_on_low_line st.lines p place) st.requests (up_to_level p st place n) n ≡ true) where
    same_slot : (s : ℕ) → (s == s) ≡ true
    same_slot s = grind (arith, nat_tests)

    not_pending : (here : Bool) (r : Request) → here ≡ true → ((not here || not (is_pending r)) && true) ≡ true → may_be st.requests place r ≡ true
        → (may_be st.requests place request.High || may_be st.requests place request.Served) ≡ true
    not_pending true request.High e h may = or_left _ _ may
    not_pending true request.Pending e h may = absurd (never false h refl)
    not_pending true request.Served e h may = or_true _ _ may
    not_pending false r e h may = absurd (never false e refl)

    -- its own request need not be pending
    stands_so : (may_be st.requests place request.High || may_be st.requests place request.Served) ≡ true
    stands_so =
        let near = near_slot p ok place (interrupts_on n) on in
        let own = request_of_level p place (is_on_low_line st.lines p place) st.requests (up_to_level p st place n) n left place near.0 near.1 on in
        not_pending (place == place) own.request (same_slot place) own.allowed own.may

    -- and if the line is low, some request of it is
    another : (boards : SlotSet) → has boards place ≡ is_on_level p n place → ((t : ℕ) → has boards t ≡ is_on_level p n t) → is_on_low_line st.lines p place ≡ true
        → ((t : ℕ) → t < 22 → pulls_without place st.requests boards t ≡ false) → ⊥
    another boards own level low none =
        let pulled = (and_parts (list_all (can_stand p place st.requests (up_to_level p st place n) n) places)
        (not (is_on_low_line st.lines p place) || list_any (can_pull p place st.requests (up_to_level p st place n) n) places) left).1 in
        let t = some_place (can_pull p place st.requests (up_to_level p st place n) n) (implied (is_on_low_line st.lines p place) _ pulled low) in
        let k = and_parts (is_on_level p n t.0) _ t.2 in
        never (pulls_without place st.requests boards t.0) (both _ _ (level t.0 ∙ k.0) (by_case t.0
        (or_cases (is_request_left place st.requests (up_to_level p st place n) t.0 request.Pending) _ k.1))) (none t.0 (near t.0 t.1))
      where
        near : (t : ℕ) → nat_lt t 22 ≡ true → t < 22
        near t h = grind (arith, nat_tests)

        elsewhere : (here : Bool) → ((not here || false) && true) ≡ true → not here ≡ true
        elsewhere true h = absurd (never false h refl)
        elsewhere false h = refl

        by_case : (t : ℕ) → (is_request_left place st.requests (up_to_level p st place n) t request.Pending ≡ true)
            ⊎ (is_request_left place st.requests (up_to_level p st place n) t request.Served ≡ true)
            → ((may_be st.requests t request.Pending && not (t == place)) || may_be st.requests t request.Served) ≡ true
        by_case t (inl h) =
            let k = and_parts (may_be st.requests t request.Pending) ((not (t == place) || false) && true) h in
            or_left (may_be st.requests t request.Pending && not (t == place)) _ (both _ _ k.0 (elsewhere (t == place) k.1))
        by_case t (inr h) =
            let k = and_parts (may_be st.requests t request.Served) ((not (t == place) || true) && true) h in
            or_true (may_be st.requests t request.Pending && not (t == place)) _ k.0

    -- so it may pass the acknowledge on
    may_pass : (may : Bool) → MayPassAt p st.lines n st.requests place may → may ≡ true
    may_pass true h = refl
    may_pass false h = absurd (by_case (h.passes.unable (h.level place ∙ on) refl))
      where
        by_case : CannotPass place h.boards (has h.low place) st.requests → ⊥
        by_case (inl e) = never (may_be st.requests place request.High || may_be st.requests place request.Served) stands_so e
        by_case (inr k) = another h.boards (h.level place) h.level (sym (h.lines_are place) ∙ k.0) k.1

  module _ (place : ℕ) (from : 0 < place) (near : place < 22) (probed_is : has probed.segments.acknowledge place ≡ true) (was : has st.low.acknowledge place ≡ false) where
    -- the acknowledge is at the board
    at_board : is_some st.shown ≡ true → is_left p st place (up_to_input p st place) (on_chain (Fails G23 AcknowledgeInLow) (input_place p place) true).test ≡ true
        → has st.fronts.ends (input_place p place) ≡ true
    at_board some h =
        let f = end_left st.fronts (up_to_input p st place) refl h in
        let k = and_parts (are_alike (nat_le (input_place p place) f.end) true) true f.allowed in
        let high = chain.each some (Some f.end) (both _ _ (is_near f.end f.near) f.has) place near probed_is ∙ was in
        ends_at_input p ok st.fronts fits.ends place f.end f.near (reaches (input_place p place) f.end k.0) (before f.end high) f.has
      where
        is_near : (end : ℕ) → end < 22 → nat_lt end 22 ≡ true
        is_near end h = grind (arith, nat_tests)

        before : (end : ℕ) → nat_le place end ≡ false → end < place
        before end h = grind (arith, nat_tests)

    pass_on : (boards : SlotSet) (x : Option Shown) → st.shown ≡ x → PassesShown p st place x boards → has boards place ≡ false
        → is_some (first_failing (is_left p st place) [] (passed_on p st place x)) ≡ true
    pass_on boards None is who lacks = named_if _ (λ none.
        let a = one_left (is_left p st place) [] _ _ none in
        let b = one_left (is_left p st place) _ _ _ a.1 in
        never false b.0 refl)
    pass_on boards (Some (shown.Access t)) is who lacks = named_if _ (λ none.
        let a = one_left (is_left p st place) [] _ _ none in
        let b = one_left (is_left p st place) _ _ _ a.1 in
        never false b.0 refl)
    pass_on boards (Some (shown.Acknowledge n)) is who lacks = elim (cases_Bool (is_on_level p n place)) [
      | inl on ↦ named_if _ (λ none.
          let i = interrupter_of p n place on in
          let level : is_row_on_level n (interrupter_at p place) ≡ true = subst (λ o. is_row_on_level n o ≡ true) (sym i.found) (same_level i.row.level n i.level) in
          let a = one_left (is_left p st place) [] _ _ (rw level at none) in
          let b = one_left (is_left p st place) _ _ _ a.1 in
          let c = one_left (is_left p st place) _ _ _ b.1 in
          let d = one_left (is_left p st place) _ _ _ c.1 in
          let e = one_left (is_left p st place) _ _ _ d.1 in
          let left : are_requests_left p place (is_on_low_line st.lines p place) st.requests (up_to_level p st place n) n ≡ true =
          ap (λ k. are_requests_left p place (is_on_low_line st.lines p place) st.requests (up_to_level p st place n) k) (sym i.level) ∙ (rw i.found at e.0) in
          never (has boards place) (who.2 place ∙ all a.0 d.0 (at_board (ap is_some is) c.0) (may_pass n place on left who.0 who.1)) lacks)
      | inr off ↦ named_if _ (λ none.
          let a = one_left (is_left p st place) [] _ _ none in
          let b = one_left (is_left p st place) _ _ _ a.1 in
          let c = one_left (is_left p st place) _ _ _ b.1 in
          let d = one_left (is_left p st place) _ _ _ c.1 in
          never (has boards place) (who.2 place ∙ all a.0 d.0 (at_board (ap is_some is) c.0) (who.1.passes.other (who.1.level place ∙ off))) lacks)
    ]
      where
        same_level : (m n : ℕ) → m ≡ n → (m == n) ≡ true
        same_level m n e = grind (arith, nat_tests)

        all : is_left_low st line.DataStrobe ≡ true → not (is_left_low st line.Dtack) ≡ true → has st.fronts.ends (input_place p place) ≡ true → who.0 ≡ true
            → (((is_left_low st line.DataStrobe && not (is_left_low st line.Dtack)) && (has st.fronts.ends (input_place p place) && who.0)) && is_board_at place place) ≡ true
        all a b c d = both _ _ (both _ _ (both _ _ a b) (both _ _ c d)) (own_place place from)

-- ---- each change of a segment

module _ (p : Plan) (ok : IsAccepted p) (probed : Probed) (st : Standings) (fits : FitsTogether p st) (chain : AcknowledgeFits p probed st) where
  by_controller : (place : ℕ) → place ≡ 0 → (fall : Bool) → has probed.segments.acknowledge place ≡ true → has st.low.acknowledge place ≡ not fall → (may : Bool)
      → ControllerMakes p probed.version st (moved.Acknowledge place) fall may → may ≡ false → (v : Option Value)
      → is_some (first_failing (is_left p st 0) [] (moves p probed.version st 0 (moved.Acknowledge place) fall v)) ≡ true
  by_controller place at true probed_is was may who lacks v =
      let head : (place == 0) ≡ true = ap (λ n. n == 0) at in
      subst (λ b. is_some (first_failing (is_left p st 0) [] (if b then start_falls st else passed_on p st 0 st.shown)) ≡ true) (sym head)
      (start p ok probed st fits chain (subst (λ n. has probed.segments.acknowledge n ≡ true) at probed_is) (subst (λ n. has st.low.acknowledge n ≡ false) at was) may
      (subst (λ b. may ≡ (b && (is_under_way st && st.fronts.waiting))) head who) lacks)
  by_controller place at false probed_is was may who lacks v =
      let head : (place == 0) ≡ true = ap (λ n. n == 0) at in
      subst (λ b. is_some (first_failing (is_left p st 0) [] (if b then chain_rises G6 st else chain_rises G24 st)) ≡ true) (sym head)
      (named_if _ (λ none.
      let a = one_left (is_left p st 0) [] _ _ none in
      never may (subst (λ b. may ≡ (b && not (is_some st.shown))) head who ∙ ended p ok probed st fits chain a.0) lacks))

  by_board : (place : ℕ) → nat_lt 0 place ≡ true → place < 22 → (fall : Bool) → has probed.segments.acknowledge place ≡ true → has st.low.acknowledge place ≡ not fall
      → (boards : SlotSet) (v : Option Value) → BoardsMake p probed.version st (moved.Acknowledge place) fall v boards → has boards place ≡ false
      → is_some (first_failing (is_left p st place) [] (moves p probed.version st place (moved.Acknowledge place) fall v)) ≡ true
  by_board place from near true probed_is was boards v who lacks =
      subst (λ b. is_some (first_failing (is_left p st place) [] (if b then start_falls st else passed_on p st place st.shown)) ≡ true) (sym (board_place place from))
      (pass_on p ok probed st fits chain place (from_zero place from) near probed_is was boards st.shown refl who lacks)
  by_board place from near false probed_is was boards v who lacks =
      subst (λ b. is_some (first_failing (is_left p st place) [] (if b then chain_rises G6 st else chain_rises G24 st)) ≡ true) (sym (board_place place from))
      (named_if _ (λ none.
      let a = one_left (is_left p st place) [] _ _ none in
      never (has boards place) (who place ∙ both _ _ (ended p ok probed st fits chain a.0) (own_place place (from_zero place from))) lacks))

  on_acknowledge : (place : ℕ) → (0 < place → place < 22) → (fall : Bool) → has probed.segments.acknowledge place ≡ true → has st.low.acknowledge place ≡ not fall
      → (v : Option Value) (may : Drivers) → ControllerMakes p probed.version st (moved.Acknowledge place) fall may.controller
      → BoardsMake p probed.version st (moved.Acknowledge place) fall v may.boards
      → AreHindered p probed.version st (moved.Acknowledge place) fall v may
  on_acknowledge place near fall probed_is was v may controller boards = record {
    controller = λ has_it lacks. by_controller place (same_number place 0 has_it) fall probed_is was may.controller controller lacks v;
    boards = λ s has_it lacks.
        let h = and_parts (nat_lt 0 place) (s == place) has_it in
        let same : s ≡ place = same_number s place h.1 in
        subst (λ k. is_some (first_failing (is_left p st k) [] (moves p probed.version st k (moved.Acknowledge place) fall v)) ≡ true) (sym same)
        (by_board place h.0 (near (from_zero place h.0)) fall probed_is was may.boards v boards (subst (λ k. has may.boards k ≡ false) same lacks));
  }

on_pin : (p : Plan) → IsAccepted p → (probed : Probed) (st : Standings) → FitsTogether p st → AcknowledgeFits p probed st → (s : ℕ) (c : ChainId) (side : Side) → not (is_grant_chain c) ≡ true
    → (fall : Bool)
    → has_segment probed.segments c (unwrap_or (wire_on p c s side).place 0) ≡ true → has_segment st.low c (unwrap_or (wire_on p c s side).place 0) ≡ not fall → (v : Option Value) (may : Drivers)
    → ControllerMakes p probed.version st (segment_moved c (unwrap_or (wire_on p c s side).place 0)) fall may.controller
    → BoardsMake p probed.version st (segment_moved c (unwrap_or (wire_on p c s side).place 0)) fall v may.boards
    → AreHindered p probed.version st (segment_moved c (unwrap_or (wire_on p c s side).place 0)) fall v may
on_pin p ok probed st fits chain s Iack side is fall probed_is was v may controller boards =
    on_acknowledge p ok probed st fits chain (unwrap_or (wire_on p Iack s side).place 0) (λ from.
    (near_slot p ok (unwrap_or (wire_on p Iack s side).place 0) (λ r. is_some r.interrupter) (wire_is p ok s side from)).1) fall probed_is was v may
    controller boards
on_pin p ok probed st fits chain s _ side is fall probed_is was v may controller boards = absurd (never false is refl)

pub acknowledges_hindered : (p : Plan) (probed : Probed) (st : Standings) (c : Change) (may : Drivers) → IsAccepted p → AreDrivers p probed st c may → FitsTogether p st → AcknowledgeFits p probed st
    → IsSeen p probed st c → is_of_acknowledge c.signal ≡ true → AreOthersHindered p probed.version st c may
acknowledges_hindered p probed st c may ok who fits chain seen is = by_signal c.signal refl is
  where
    by_signal : (x : Signal) → c.signal ≡ x → is_of_acknowledge x ≡ true → AreOthersHindered p probed.version st c may
    by_signal (signal.Line l) on is = absurd (never false is refl)
    by_signal (signal.Pin q) on is =
        let h = on_pin p ok probed st fits chain q.slot q.chain q.side is c.fall (rw on at seen.probed_is) (rw on at seen.differs) c.value may (rw on at who.controller) (rw on at who.boards) in
        record {
          controller = λ has_it lacks. rw on (h.controller (rw on at has_it) lacks);
          boards = λ s has_it lacks. rw on (h.boards s (rw on at has_it) lacks);
        }
