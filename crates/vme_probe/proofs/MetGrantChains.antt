-- The conditions of the pins of the grant chains that hold of a bus are met by what covers it: `condition_laws`.
use Rattle.std.proofs.Common.{◌≡◌, ◌⊎◌, ◌∙◌, ◌&&◌, ◌||◌, ◌<◌, ◌≤◌, ℕ, suc, Bool, true, false, not, List, [], ◌∷◌, Option, None, refl, sym, ap, subst, inl, inr, ⊎_elim, arith}
use Rattle.std.proofs.lemmas.Bool.{cases_Bool}
use Rattle.std.proofs.lemmas.Bool.Decides.{nat_tests}
use Rattle.std.specs.Prelude.{◌==◌, nat_le, nat_lt}
use Rattle.std.specs.List.{list_all, list_any}
use Rattle.std.specs.Option.{option_map_or}
use Rattle.vme_model.specs.declared.boards.Row.{Row}
use Rattle.vme_model.specs.declared.conditions.Condition.TheVariants.{BusyHigh, BusyLow, GrantInHigh, GrantInLow, GrantsHigh, GrantsThrough, OwnBusyHigh, OwnRequestHigh, PassedTheLastBoard}
use Rattle.vme_model.specs.declared.sentences.Rule.TheVariants.{G1, G2, G11, G12, S3, S4}
use Rattle.vme_model.specs.declared.signals.Driver.TheVariants.{Controller, Slot}
use Rattle.vme_model.specs.declared.signals.Edge.{Edge}
use Rattle.vme_model.specs.declared.signals.Version.{Version}
use Rattle.vme_model.specs.declared.signals.Wire.TheVariants as wire
use Rattle.vme_model.specs.Accepted.{IsAccepted}
use Rattle.vme_model.specs.GrantSafety.{IsAwaited, was_withdrawn}
use Rattle.vme_model.specs.History.{drive, is_past_end, last_level as last_granted, line as line_of, request_line}
use Rattle.vme_model.specs.Plan.{Plan, grant_chain, last_active, upstream}
use Rattle.vme_model.specs.Readings.{grant_in}
use Rattle.vme_model.specs.Rules.{bus_numbers, is_pick}
use Rattle.vme_model.specs.Settling.{are_grants_through}
use Rattle.vme_model.specs.Sets.{has_bus_level}
use Rattle.vme_model.specs.Signals.{is_two}
use Rattle.vme_model.specs.Verdict.{IsLegal}
use Rattle.vme_model.proofs.Bools.{and_left, and_right, is_false, not_true, same_number}
use Rattle.vme_model.proofs.Grants.{as_segment, grants_high, holder}
use Rattle.vme_model.proofs.Members.{found_row, has_board, member_of}
use Rattle.vme_model.proofs.Picks.{laws_of, one_pick}
use Rattle.vme_model.proofs.Ranges.{IsRowInRange, in_range}
use Rattle.vme_captures.specs.declared.signals.Line.TheVariants as line
use Rattle.vme_captures.specs.declared.signals.Pin.{Pin}
use Rattle.vme_captures.specs.declared.signals.Value.{Value}
use Rattle.vme_standings.specs.declared.moving.Moved.TheVariants as moved
use Rattle.vme_standings.specs.declared.phases.GrantPhase.{GrantPhase}
use Rattle.vme_standings.specs.declared.phases.GrantPhase.TheVariants.{Idle, Granting, Held, Expired}
use Rattle.vme_standings.specs.declared.standings.Standings.{Standings}
use Rattle.vme_standings.specs.Covers.{Covers}
use Rattle.vme_standings.specs.Cuts.{are_all_high, is_past_all}
use Rattle.vme_standings.specs.GrantChains.{end_place, is_of_level, place_before}
use Rattle.vme_standings.specs.Grants.{is_picked}
use Rattle.vme_standings.specs.InPhase.{InPhase}
use Rattle.vme_standings.specs.LowSegments.{is_low_in, is_segment}
use Rattle.vme_standings.specs.Moving.{asked}
use Rattle.vme_standings.specs.Phases.{is_held}
use Rattle.vme_standings.proofs.GrantEdges.{board_low}
use Rattle.vme_standings.proofs.GrantOthers.{held_from}
use Rattle.vme_standings.proofs.GrantPlaces.{IsBefore, before, board_segment, end_last, end_low, end_segment, from_one, place_low}
use Rattle.vme_standings.proofs.GrantTurns.{expired_two, wanted}
use Rattle.vme_standings.proofs.PhaseSteps.{equal, idle_in, last_few, stands_at, under, upto}
use Rattle.vme_standings.proofs.Tests.{never, or_left, or_true}
use Rattle.vme_standings.proofs.WhoDrives.{silent_on}
use Rattle.vme_probe.specs.Conditions.{grant_moves, grant_falls, grant_rises, pass_falls, pass_rises}
use Rattle.vme_probe.specs.Holding.{edge, fails, holds}
use Rattle.vme_probe.proofs.LeftBy.{Tells}
use Rattle.vme_probe.proofs.MetGrants.{asked_now, grants_met, input_in}
use Rattle.vme_probe.proofs.MetGuards.{one_met, one_settles}

-- one that passes, though none does
any_all : (f : Row → Bool) (rows : List Row) → list_any f rows ≡ true → list_all (λ r. not (f r)) rows ≡ true → ⊥
any_all f [] a b = cc
any_all f (row ∷ rows) a b = by_test (f row) a (and_left _ _ b) (λ e. any_all f rows e (and_right (not (f row)) _ b))
  where
    by_test : (x : Bool) → (x || list_any f rows) ≡ true → not x ≡ true → (list_any f rows ≡ true → ⊥) → ⊥
    by_test true e off further = never false off refl
    by_test false e off further = further e

with_two : (a b : Bool) → (not a || b) ≡ true → a ≡ true → b ≡ true
with_two a b e f = grind arith

with_one : (a b : Bool) → (a || b) ≡ true → a ≡ false → b ≡ true
with_one a b e f = grind arith

not_zero : (t : ℕ) → (suc t == 0) ≡ false
not_zero t = grind (arith, nat_tests)

module _ (p : Plan) (ok : IsAccepted p) (version : Version) (pins : List Pin) (h : List Edge) (legal : IsLegal version p h) (st : Standings) (covers : Covers p pins h st) where
  abbrev now : GrantPhase
  now = covers.phases.phase

  abbrev stands : InPhase p h covers.phases.phase
  stands = covers.phases.is_in

  -- ---- the controller's segment

  module _ (c : ℕ) (few : c < 4) where
    picked : is_pick p.arbiter (request_line p h) (last_granted h) c ≡ true → is_picked p (asked st.lines) (last_granted h) c ≡ true
    picked a =
        let same = asked_now p ok version pins h legal st covers in
        sym (one_pick p.arbiter (has_bus_level (asked st.lines)) (last_granted h) c few)
        ∙ ((laws_of p.arbiter).by_lines (has_bus_level (asked st.lines)) (request_line p h) (last_granted h) c
        (same 0 (omega arith)) (same 1 (omega arith)) (same 2 (omega arith)) (same 3 (omega arith)) (same c few) ∙ a)

    -- all outputs are high
    outputs_high : are_grants_through p h ≡ true → (m t : ℕ) → is_of_level p m t ≡ true → drive h (Slot t) wire.BgOut ≡ false
    outputs_high all m t on = is_false (drive h (Slot t) wire.BgOut) (λ low.
        let b = has_board p m t on in
        let f = found_row (IsRowInRange p) p.rows t b.row (in_range p ok).rows b.is_board in
        any_all (λ r. drive h (Slot r.slot) wire.BgOut) p.rows (f.passes (λ r. drive h (Slot r.slot) wire.BgOut) (subst (λ y. drive h (Slot y) wire.BgOut ≡ true) (sym f.slot) low)) all)

    idle_high : line_of p h wire.Bbsy ≡ false → list_all (λ n. not (drive h Controller (wire.Bg n))) bus_numbers ≡ true → are_grants_through p h ≡ true → are_all_high now ≡ true
    idle_high quiet heads all =
        ap are_all_high (idle_in p ok h now stands (last_few version p h legal) (grants_high (λ m. drive h Controller (wire.Bg m)) heads) (λ s. silent_on version p ok h legal s wire.Bbsy quiet)
        (λ m t less on. board_low h m t (from_one p ok m t on) ∙ outputs_high all m t on))

    grant_fall : (x : Option Value) → Tells p ok version pins h legal st covers (holds version p h Controller (moved.Grant c 0) true x) 0 (grant_falls version st c)
    grant_fall x a = (
      ap not (covers.levels.shared line.Bbsy refl) ∙ high,
      λ b. (
        ap (λ (o : Option ℕ). option_map_or (λ last. is_picked p (asked st.lines) last c) o false) stands.granted ∙ picked b,
        λ d. (
          grants_met p ok version pins h legal st covers (heads d),
          elim (cases_Bool (is_two version)) [
            | inl two ↦ rw two (λ g. (
              idle_high (not_true (line_of p h wire.Bbsy) high) (heads d)
                  (with_two (is_two version) (are_grants_through p h) (one_settles version p h S4 GrantsThrough (edge Controller (wire.Bg c) true None) g refl) two),
              tt,
            ))
            | inr one ↦ rw one tt
          ],
        ),
      ),
    )
      where
        high : not (line_of p h wire.Bbsy) ≡ true
        high = and_left (not (line_of p h wire.Bbsy)) true (one_met version p h G1 BusyHigh (edge Controller (wire.Bg c) true None) a refl)

        heads : not (list_any (fails version p h G1 GrantsHigh) (edge Controller (wire.Bg c) true None ∷ [])) ≡ true → list_all (λ n. not (drive h Controller (wire.Bg n))) bus_numbers ≡ true
        heads d = and_left _ true (and_left _ true (one_met version p h G1 GrantsHigh (edge Controller (wire.Bg c) true None) d refl))

    -- somebody took the grant, or it has passed the last board
    past_met : (line_of p h wire.Bbsy || is_past_end p h (grant_chain c)) ≡ true → is_past_all p c now ≡ true
    past_met is = by_busy (line_of p h wire.Bbsy) refl is
      where
        held : (s : ℕ) → drive h (Slot s) wire.Bbsy ≡ true → is_held now ≡ true
        held s on = ap is_held (held_from p h s on now stands).1

        by_busy : (b : Bool) → line_of p h wire.Bbsy ≡ b → (b || is_past_end p h (grant_chain c)) ≡ true → is_past_all p c now ≡ true
        by_busy true low y = let b = holder p (in_range p ok) h low in or_left (is_held now) _ (held b.0 b.1)
        by_busy false high y =
            or_true (is_held now) _
            (sym (stands.low c (end_place p c) few (end_segment p ok c few)) ∙ (sym (end_low p ok c few h) ∙ (sym (as_segment p h c (last_active p (grant_chain c)) few) ∙ y)))

    grant_rise : (x : Option Value) → Tells p ok version pins h legal st covers (holds version p h Controller (moved.Grant c 0) false x) 0 (grant_rises version st c)
    grant_rise x = elim (cases_Bool (is_two version)) [
      | inl two ↦ rw two (λ a. (past_met (two_past (is_two version) _ _ (one_settles version p h S3 PassedTheLastBoard (edge Controller (wire.Bg c) false None) a refl) two), tt))
      | inr one ↦ rw one (λ a. (
        covers.levels.shared line.Bbsy refl ∙ with_one (is_two version) (line_of p h wire.Bbsy) (one_met version p h G2 BusyLow (edge Controller (wire.Bg c) false None) a refl) one,
        tt,
      ))
    ]
      where
        two_past : (a b d : Bool) → ((not a || b) || d) ≡ true → a ≡ true → (b || d) ≡ true
        two_past a b d y f = grind arith

  -- ---- a board's segment

  module _ (c s : ℕ) (few : c < 4) (on : is_of_level p c s ≡ true) where
    abbrev x : ℕ
    x = place_before p c s

    abbrev next : IsBefore p c s (place_before p c s)
    next = before p ok c few s on

    input : grant_in p h (Slot s) ≡ is_low_in p c (place_before p c s) now
    input = input_in p ok version pins h legal st covers c s on

    -- In the first version the last board of the chain asked for a grant that stands at it, or takes
    -- it.
    asks_at_end : is_two version ≡ false → drive h (Slot s) wire.Br ≡ false → drive h (Slot s) wire.Bbsy ≡ false → s ≡ end_place p c → (q : GrantPhase) → InPhase p h q → is_low_in p c x q ≡ true → ⊥
    asks_at_end one high free last (Idle n) i low = never false (and_right (is_segment p c x) false low) refl
    asks_at_end one high free last (Granting n t) i low =
        let inside = and_right (is_segment p c x) (n == c && nat_le x t) low in
        let same : n ≡ c = same_number n c (and_left (n == c) (nat_le x t) inside) in
        let from : x ≤ t = upto x t (and_right (n == c) (nat_le x t) inside) in
        granting t (subst (λ k. InPhase p h (Granting k t)) same i) from
      where
        granting : (t : ℕ) → InPhase p h (Granting c t) → x ≤ t → ⊥
        granting t i from = ⊎_elim
            (λ (w : IsAwaited p h c). awaited w)
            (λ (w : (is_two version ≡ true) × (was_withdrawn p h c ≡ true)). never (is_two version) w.0 one)
            (wanted version p ok h legal c t few i)
          where
            same_last : (a b : ℕ) → Granting c a ≡ Granting c b → a ≡ b
            same_last a b e = cc

            awaited : IsAwaited p h c → ⊥
            awaited w =
                let u = w.slot in
                let on_u : is_of_level p c u ≡ true = member_of p c u few w.travels.member in
                let at_u : Granting c t ≡ Granting c (place_before p c u) =
                stands_at p ok h c u few on_u (Granting c t) i
                (sym (place_low p ok c few h u on_u) ∙ (sym (as_segment p h c (upstream p (grant_chain c) u) few) ∙ w.travels.granted))
                (board_low h c u (from_one p ok c u on_u) ∙ w.travels.unpassed) w.travels.untaken in
                let place : t ≡ place_before p c u = same_last t (place_before p c u) at_u in
                let above_t : place_before p c u < u = (before p ok c few u on_u).below in
                let on_w : is_of_level p c w.waiter ≡ true = member_of p c w.waiter few w.member in
                let top = end_last p ok c few w.waiter (board_segment p c w.waiter on_w) in
                let back : s ≤ u = reaches u on_u (omega (arith, place, above_t, from)) in
                let above = w.above in
                let own : w.waiter ≡ s = omega (arith, top, back, above, last) in
                never (drive h (Slot s) wire.Br) (subst (λ y. drive h (Slot y) wire.Br ≡ true) own w.waits) high
              where
                reaches : (u : ℕ) → is_of_level p c u ≡ true → x < u → s ≤ u
                reaches u on_u past = ⊎_elim (λ (l : u < s). let back = next.greatest u (board_segment p c u on_u) l in absurd (omega (arith, back, past))) (λ (l : s ≤ u). l) (by_order u s)
                  where
                    by_order : (a b : ℕ) → (a < b) ⊎ (b ≤ a)
                    by_order a b = grind arith
    asks_at_end one high free last (Held k first) i low =
        let inside = and_right (is_segment p c x) (is_of_level p c k && (nat_le first x && nat_lt x k)) low in
        let member : is_of_level p c k ≡ true = and_left (is_of_level p c k) _ inside in
        let past : x < k = under x k (and_right (nat_le first x) (nat_lt x k) (and_right (is_of_level p c k) _ inside)) in
        let top = end_last p ok c few k (board_segment p c k member) in
        ⊎_elim
        (λ (l : k < s). let back = next.greatest k (board_segment p c k member) l in omega (arith, back, past))
        (λ (l : s ≤ k). never (k == s) (equal k s (omega (arith, l, top, last))) (sym (i.held s) ∙ free))
        (by_order k s)
      where
        by_order : (a b : ℕ) → (a < b) ⊎ (b ≤ a)
        by_order a b = grind arith
    asks_at_end one high free last (Expired n first) i low = never (is_two version) (expired_two version p ok h legal n first i) one

    last_asks : is_low_in p c x now ≡ true → drive h (Slot s) wire.Bbsy ≡ false → drive h (Slot s) wire.Br ≡ false → (is_two version || not (s == end_place p c)) ≡ true
    last_asks low free high = by_version (is_two version) refl (s == end_place p c) refl
      where
        by_version : (two : Bool) → is_two version ≡ two → (last : Bool) → (s == end_place p c) ≡ last → (two || not last) ≡ true
        by_version true is last e = refl
        by_version false is false e = refl
        by_version false is true e = absurd (asks_at_end is high free (same_number s (end_place p c) e) now stands low)

    pass_fall : (t : ℕ) → s ≡ suc t → (v : Option Value) → Tells p ok version pins h legal st covers (holds version p h (Slot s) (moved.Grant c (suc t)) true v) s (pass_falls p version c s)
    pass_fall t same v a = (
      low,
      λ b. (
        ap not (sym (stands.held s)) ∙ free b,
        λ d. (
          last_asks low (not_true (drive h (Slot s) wire.Bbsy) (free b))
              (not_true (drive h (Slot s) wire.Br) (and_left (not (drive h (Slot s) wire.Br)) true (one_met version p h G11 OwnRequestHigh (edge (Slot s) wire.BgOut true None) d refl))),
          tt,
        ),
      ),
    )
      where
        low : is_low_in p c x now ≡ true
        low = sym input ∙ and_left (grant_in p h (Slot s)) true (and_left _ true (one_met version p h G11 GrantInLow (edge (Slot s) wire.BgOut true None) a refl))

        free : not (list_any (fails version p h G11 OwnBusyHigh) (edge (Slot s) wire.BgOut true None ∷ [])) ≡ true → not (drive h (Slot s) wire.Bbsy) ≡ true
        free b = one_met version p h G11 OwnBusyHigh (edge (Slot s) wire.BgOut true None) b refl

    pass_rise : (t : ℕ) → s ≡ suc t → (v : Option Value) → Tells p ok version pins h legal st covers (holds version p h (Slot s) (moved.Grant c (suc t)) false v) s (pass_rises p c s)
    pass_rise t same v a = (ap not (sym input) ∙ one_met version p h G12 GrantInHigh (edge (Slot s) wire.BgOut false None) a refl, tt)

  -- ---- by the driver

  pub heads_fall : (c : ℕ) → c < 4 → (v : Option Value) → Tells p ok version pins h legal st covers (holds version p h Controller (moved.Grant c 0) true v) 0 (grant_moves p version st 0 c 0 true)
  heads_fall c few v = grant_fall c few v

  pub heads_rise : (c : ℕ) → c < 4 → (v : Option Value) → Tells p ok version pins h legal st covers (holds version p h Controller (moved.Grant c 0) false v) 0 (grant_moves p version st 0 c 0 false)
  heads_rise c few v = grant_rise c few v

  pub boards_fall : (c t : ℕ) → c < 4 → is_of_level p c (suc t) ≡ true → (v : Option Value)
      → Tells p ok version pins h legal st covers (holds version p h (Slot (suc t)) (moved.Grant c (suc t)) true v) (suc t) (grant_moves p version st (suc t) c (suc t) true)
  boards_fall c t few on v = rw (not_zero t) (pass_fall c (suc t) few on t refl v)

  pub boards_rise : (c t : ℕ) → c < 4 → is_of_level p c (suc t) ≡ true → (v : Option Value)
      → Tells p ok version pins h legal st covers (holds version p h (Slot (suc t)) (moved.Grant c (suc t)) false v) (suc t) (grant_moves p version st (suc t) c (suc t) false)
  boards_rise c t few on v = rw (not_zero t) (pass_rise c (suc t) few on t refl v)
