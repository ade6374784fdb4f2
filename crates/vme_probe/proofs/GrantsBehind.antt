-- What is known of the grants stays fitting together behind a change that somebody may have made: `hindered_laws`.
use Rattle.std.proofs.Common.{◌≡◌, ◌≢◌, ◌∙◌, ◌&&◌, ◌||◌, ◌<◌, ◌≤◌, ◌⊎◌, ℕ, zero, suc, Bool, true, false, not, List, [], ◌∷◌, Option, Some, None, is_some, refl, sym, ap, subst, inl, inr, arith}
use Rattle.std.proofs.lemmas.Bool.{and_parts, cases_Bool}
use Rattle.std.proofs.lemmas.Bool.Decides.{nat_tests}
use Rattle.std.specs.Prelude.{nat_lt, nat_le, ◌==◌, if◌then◌else◌, slice_index_or, unwrap_or}
use Rattle.std.specs.List.{list_any}
use Rattle.std.specs.Option.{option_map_or}
use Rattle.vme_model.specs.declared.boards.RequesterRow.{RequesterRow}
use Rattle.vme_model.specs.declared.sets.BusLevels.{BusLevels}
use Rattle.vme_model.specs.declared.sets.ChainId.{ChainId}
use Rattle.vme_model.specs.declared.sets.ChainId.TheVariants.{Bg0, Bg1, Bg2, Bg3, Iack}
use Rattle.vme_model.specs.declared.signals.Version.{Version}
use Rattle.vme_model.specs.Accepted.{IsAccepted}
use Rattle.vme_model.specs.Plan.{Plan, active, grant_chain}
use Rattle.vme_model.specs.Sets.{has_bus_level}
use Rattle.vme_model.specs.Signals.{is_two}
use Rattle.vme_model.proofs.Bools.{same_number}
use Rattle.vme_model.proofs.Members.{is_member, one_chain}
use Rattle.vme_model.proofs.Ranges.{in_range}
use Rattle.vme_bus.specs.declared.sets.SlotSet.{SlotSet}
use Rattle.vme_bus.specs.Sets.{has}
use Rattle.vme_captures.specs.declared.signals.Change.{Change}
use Rattle.vme_captures.specs.declared.signals.Line.{Line}
use Rattle.vme_captures.specs.declared.signals.Line.TheVariants as line
use Rattle.vme_captures.specs.declared.signals.Side.{Side}
use Rattle.vme_captures.specs.declared.signals.Signal.{Signal}
use Rattle.vme_captures.specs.declared.signals.Signal.TheVariants as signal
use Rattle.vme_captures.specs.declared.signals.Value.{Value}
use Rattle.vme_captures.specs.Levels.{is_line_left_low}
use Rattle.vme_captures.specs.Signals.{is_same_chain}
use Rattle.vme_captures.specs.Wires.{wire_of, wire_on}
use Rattle.vme_standings.specs.declared.moving.Moved.TheVariants as moved
use Rattle.vme_standings.specs.declared.phases.GrantPhase.{GrantPhase}
use Rattle.vme_standings.specs.declared.phases.GrantPhase.TheVariants.{Idle, Granting, Held, Expired}
use Rattle.vme_standings.specs.declared.phases.GrantPhases.{GrantPhases}
use Rattle.vme_standings.specs.declared.segments.Segments.{Segments}
use Rattle.vme_standings.specs.declared.standings.Drivers.{Drivers}
use Rattle.vme_standings.specs.declared.standings.Probed.{Probed}
use Rattle.vme_standings.specs.declared.standings.Standings.{Standings}
use Rattle.vme_standings.specs.Behind.{GrantFalls, IsBehind, LinesBehind, PhasesBehind, SetsLine}
use Rattle.vme_standings.specs.Driving.{AreAskers, AreDrivers, AreStarters, AreWithdrawers, BoardsMake, CanClear, ControllerMakes, can_rise, is_board_at, is_left_low}
use Rattle.vme_standings.specs.GrantChains.{end_place, is_follower, is_of_level, place_before, requester_at}
use Rattle.vme_standings.specs.Grants.{IsBehindRequest, are_alike, behind_grant, behind_pass, behind_release, behind_rise, behind_take, can_release, is_clear_due, is_granted, is_let_go, is_passed, is_picked, is_run_out, is_taken, may_end}
use Rattle.vme_standings.specs.InPhase.{is_named}
use Rattle.vme_standings.specs.LowSegments.{is_in_run, is_low_in, is_segment}
use Rattle.vme_standings.specs.Moving.{asked, segment_moved}
use Rattle.vme_standings.specs.Phases.{HasExactly, HoldsBits, has_bit, has_phase, is_held, is_held_by, is_in_table, no_slots}
use Rattle.vme_standings.specs.Segments.{has_segment}
use Rattle.vme_standings.specs.Standings.{is_nobody}
use Rattle.vme_standings.proofs.GrantEdges.{any_of}
use Rattle.vme_standings.proofs.GrantPlaces.{IsBefore, above_zero, before, board_segment, end_last, end_segment, follower_before, follower_on, has_requester, near, next, segment_near}
use Rattle.vme_standings.proofs.Tests.{both, is_false, never, or_left, or_true}
use Rattle.vme_probe.specs.ChainsFit.{AgreesWithProbes, GrantsFit, is_expired}
use Rattle.vme_probe.proofs.ChainBehind.{made}
use Rattle.vme_probe.proofs.GrantsHidden.{and_same, few_of, from_next, is_few, is_near, up_to_next}
use Rattle.vme_probe.proofs.Leaving.{or_cases, some_level}
use Rattle.vme_probe.proofs.PhaseLemmas.{OfLevel, of_requester, wire_segment}

-- ---- sets of phases

any_gives : (f : ℕ → Bool) (xs : List ℕ) → list_any f xs ≡ true → (x : ℕ) × (f x ≡ true)
any_gives f [] e = absurd (never false e refl)
any_gives f (x ∷ xs) e = by_test (f x) refl e (any_gives f xs)
  where
    by_test : (b : Bool) → f x ≡ b → (b || list_any f xs) ≡ true → (list_any f xs ≡ true → (y : ℕ) × (f y ≡ true)) → (y : ℕ) × (f y ≡ true)
    by_test true is e later = (x, is)
    by_test false is e later = later e

in_row : (t : ℕ) → nat_lt t 32 ≡ true → t < 32
in_row t h = grind (arith, nat_tests)

in_slots : (t : ℕ) → nat_lt t 22 ≡ true → t < 22
in_slots t h = grind (arith, nat_tests)

wider : (t : ℕ) → nat_lt t 22 ≡ true → nat_lt t 32 ≡ true
wider t h = grind (arith, nat_tests)

equal : (n : ℕ) → (n == n) ≡ true
equal n = grind (arith, nat_tests)

-- a phase that has a bit is in the set exactly if it passes the test
exactly : (s : GrantPhases) (test : GrantPhase → Bool) → HasExactly s test → (q : GrantPhase) → has_bit q ≡ true → has_phase s q ≡ test q
exactly s test h (Idle c) bit = h.idle c (few_of c bit)
exactly s test h (Granting c t) bit = let k = and_parts (nat_lt c 4) (nat_lt t 32) bit in h.granting c t (few_of c k.0) (in_row t k.1)
exactly s test h (Held b t) bit = let k = and_parts (nat_lt b 22) (nat_lt t 32) bit in h.held b t (in_slots b k.0) (in_row t k.1)
exactly s test h (Expired c t) bit = let k = and_parts (nat_lt c 4) (nat_lt t 32) bit in h.expired c t (few_of c k.0) (in_row t k.1)

bit_of : (q : GrantPhase) → is_in_table q ≡ true → has_bit q ≡ true
bit_of (Idle c) h = h
bit_of (Granting c t) h = let k = and_parts (nat_lt c 4) (nat_lt t 22) h in both _ _ k.0 (wider t k.1)
bit_of (Held b t) h = let k = and_parts (nat_lt b 22) (nat_lt t 22) h in both _ _ k.0 (wider t k.1)
bit_of (Expired c t) h = let k = and_parts (nat_lt c 4) (nat_lt t 22) h in both _ _ k.0 (wider t k.1)

-- ---- somebody made the change

module _ (may : Drivers) (by : (may.controller ≡ true) ⊎ ((s : ℕ) × (has may.boards s ≡ true))) where
  board_made : may.controller ≡ false → (s : ℕ) × (has may.boards s ≡ true)
  board_made none = by_maker by
    where
      by_maker : (may.controller ≡ true) ⊎ ((s : ℕ) × (has may.boards s ≡ true)) → (s : ℕ) × (has may.boards s ≡ true)
      by_maker (inl c) = absurd (never may.controller c none)
      by_maker (inr s) = s

  controller_made : ((s : ℕ) → has may.boards s ≡ false) → may.controller ≡ true
  controller_made none = by_maker by
    where
      by_maker : (may.controller ≡ true) ⊎ ((s : ℕ) × (has may.boards s ≡ true)) → may.controller ≡ true
      by_maker (inl c) = c
      by_maker (inr s) = absurd (never (has may.boards s.0) s.1 (none s.0))

module _ (p : Plan) (ok : IsAccepted p) (probed : Probed) (old new : Standings) (may : Drivers) (by : (may.controller ≡ true) ⊎ ((s : ℕ) × (has may.boards s ≡ true)))
    (bits : HoldsBits new.phases) (fits : GrantsFit p probed old) where
  abbrev requests : BusLevels
  requests = asked old.lines

  -- the new phases are those that pass the test
  made_of : (test : GrantPhase → Bool) → HasExactly new.phases test → ((q : GrantPhase) → test q ≡ true → AgreesWithProbes p probed new q) → (q : GrantPhase) → test q ≡ true
      → GrantsFit p probed new
  made_of test h each q passes = record {
    some = (q, exactly new.phases test h q (bit_of q (each q passes).near) ∙ passes);
    each = λ r there. each r (sym (exactly new.phases test h r (bits r there)) ∙ there);
  }

  same_phases : new.phases ≡ old.phases → ((q : GrantPhase) → AgreesWithProbes p probed old q → AgreesWithProbes p probed new q) → GrantsFit p probed new
  same_phases is step = record {
    some = (fits.some.0, ap (λ s. has_phase s fits.some.0) is ∙ fits.some.1);
    each = λ q there. step q (fits.each q (ap (λ s. has_phase s q) (sym is) ∙ there));
  }

  not_expired : (b : Bool) → false ≡ true → b ≡ true
  not_expired b h = absurd (never false h refl)

  -- ---- behind a change of a line

  module _ (low : new.low ≡ old.low) where
    low_as : (c s : ℕ) → has (slice_index_or old.low.grants c no_slots) s ≡ has (slice_index_or new.low.grants c no_slots) s
    low_as c s = ap (λ l. has (slice_index_or l.grants c no_slots) s) (sym low)

    stays : is_left_low new line.Bbsy ≡ is_left_low old line.Bbsy → (q : GrantPhase) → AgreesWithProbes p probed old q → AgreesWithProbes p probed new q
    stays busy q fit = record {
      near = fit.near;
      named = fit.named;
      two = fit.two;
      bbsy = fit.bbsy ∙ sym busy;
      shown = λ c few s to seen. fit.shown c few s to seen ∙ low_as c s;
    }

    -- BRn* falls
    request_falls : (n : ℕ) (boards : SlotSet) → is_left_low new line.Bbsy ≡ is_left_low old line.Bbsy → may.controller ≡ false → AreAskers p n old.phases may.boards → AreAskers p n old.phases boards
        → IsBehindRequest boards old.phases new.phases → GrantsFit p probed new
    request_falls n boards busy controller who are h = record {
      some = (asks.1.0, after asks.1.0 (fits.each asks.1.0 asks.1.1) asks.1.1 asks.1.2);
      each = λ q there. stays busy q (fits.each q (was q (bits q there) there));
    }
      where
        asker : (s : ℕ) × (has may.boards s ≡ true)
        asker = board_made may by controller

        asks : (is_of_level p n asker.0 ≡ true) × ((q : GrantPhase) × (has_phase old.phases q ≡ true) × (is_held_by (λ b. b == asker.0) q ≡ false))
        asks = who.some asker.0 asker.1

        among : has boards asker.0 ≡ true
        among = are.all asker.0 asks.1.0 (near p ok n asker.0 asks.0) (fits.each asks.1.0 asks.1.1).near asks.0 asks.1.1 asks.1.2

        within : asker.0 < 32
        within = let less = near p ok n asker.0 asks.0 in omega (arith, less)

        other : (b : ℕ) → (b == asker.0) ≡ false → (asker.0 == b) ≡ false
        other b e = grind (arith, nat_tests)

        after : (q : GrantPhase) → AgreesWithProbes p probed old q → has_phase old.phases q ≡ true → is_held_by (λ b. b == asker.0) q ≡ false → has_phase new.phases q ≡ true
        after (Idle c) fit there free = h.free.idle c (few_of c fit.near) ∙ there
        after (Granting c t) fit there free =
            let k = and_parts (nat_lt c 4) (nat_lt t 32) (bit_of (Granting c t) fit.near) in
            h.free.granting c t (few_of c k.0) (in_row t k.1) ∙ there
        after (Held b t) fit there free = h.several b t asker.0 there within among (other b free)
        after (Expired c t) fit there free =
            let k = and_parts (nat_lt c 4) (nat_lt t 32) (bit_of (Expired c t) fit.near) in
            h.free.expired c t (few_of c k.0) (in_row t k.1) ∙ there

        was : (q : GrantPhase) → has_bit q ≡ true → has_phase new.phases q ≡ true → has_phase old.phases q ≡ true
        was (Idle c) bit there = sym (h.free.idle c (few_of c bit)) ∙ there
        was (Granting c t) bit there =
            let k = and_parts (nat_lt c 4) (nat_lt t 32) bit in
            sym (h.free.granting c t (few_of c k.0) (in_row t k.1)) ∙ there
        was (Held b t) bit there = h.kept b t there
        was (Expired c t) bit there =
            let k = and_parts (nat_lt c 4) (nat_lt t 32) bit in
            sym (h.free.expired c t (few_of c k.0) (in_row t k.1)) ∙ there

    -- it rises
    request_rises : (n : ℕ) → is_left_low new line.Bbsy ≡ is_left_low old line.Bbsy → may.controller ≡ false → AreWithdrawers p probed.version n old.phases may.boards
        → HasExactly new.phases (λ q. (is_two probed.version || is_held_by (is_of_level p n) q) && has_phase old.phases q) → GrantsFit p probed new
    request_rises n busy controller who h = elim (cases_Bool (is_two probed.version)) [
      | inl two ↦ at fits.some.0 (both _ _ (or_left (is_two probed.version) _ two) fits.some.1)
      | inr one ↦ (let s = board_made may by controller in let r = who.some one s.0 s.1 in at (Held s.0 r.1.0) (both _ _ (or_true (is_two probed.version) _ r.0) r.1.1))
    ]
      where
        at : (q : GrantPhase) → ((is_two probed.version || is_held_by (is_of_level p n) q) && has_phase old.phases q) ≡ true → GrantsFit p probed new
        at q passes = made_of _ h (λ r is. stays busy r (fits.each r (and_parts (is_two probed.version || is_held_by (is_of_level p n) r) (has_phase old.phases r) is).1)) q passes

    -- AS* falls
    strobe_falls : (v : Option Value) (boards : SlotSet) → is_left_low new line.Bbsy ≡ is_left_low old line.Bbsy → may.controller ≡ false → AreStarters p old v may.boards → AreStarters p old v boards
        → HasExactly new.phases (λ q. is_held_by (has boards) q && has_phase old.phases q) → GrantsFit p probed new
    strobe_falls v boards busy controller who are h =
        let s = board_made may by controller in
        let r = who.some s.0 s.1 in
        made_of _ h (λ q is. stays busy q (fits.each q (and_parts (is_held_by (has boards) q) (has_phase old.phases q) is).1)) (Held s.0 r.3.0) (both _ _ (are.all s.0 r.3.0 r.0 r.1 r.2 r.3.1) r.3.1)

    -- BCLR* falls or rises
    clear_moves : (fall : Bool) → is_left_low new line.Bbsy ≡ is_left_low old line.Bbsy → CanClear p requests fall old.phases may.controller → ((s : ℕ) → has may.boards s ≡ false)
        → HasExactly new.phases (λ q. has_phase old.phases q && are_alike (is_clear_due p requests q) fall) → GrantsFit p probed new
    clear_moves fall busy who none h =
        let r = who.some (controller_made may by none) in
        made_of _ h (λ q is. stays busy q (fits.each q (and_parts (has_phase old.phases q) (are_alike (is_clear_due p requests q) fall) is).0)) r.0 (both _ _ r.1 r.2)

    -- BBSY* falls
    taken : is_left_low new line.Bbsy ≡ true → (b : ℕ) → is_taken p requests old.phases b ≡ true → AgreesWithProbes p probed new (Held b 0)
    taken busy b may_take = by_row (requester_at p b) refl may_take
      where
        by_row : (o : Option RequesterRow) → requester_at p b ≡ o
            → option_map_or (λ q. has_bus_level requests q.level && has_phase old.phases (Granting q.level (place_before p q.level b))) o false ≡ true → AgreesWithProbes p probed new (Held b 0)
        by_row None e is = absurd (never false is refl)
        by_row (Some r) e is = record {
          near = both _ _ (is_near b (near p ok r.level b of.on)) refl;
          named = subst (λ o. (option_map_or (λ q. is_segment p q.level 0) o false && nat_le 0 b) ≡ true) (sym e) (both _ _ refl (from_zero b));
          two = not_expired (is_two probed.version);
          bbsy = sym busy;
          shown = λ c few s to seen.
              and_same (is_segment p c s) (is_in_run p c s (Held b 0)) (is_in_run p c s (Granting r.level (place_before p r.level b))) (λ seg. alike c s seg) ∙ fit.shown c few s to seen ∙ low_as c s;
        }
          where
            from_zero : (n : ℕ) → nat_le 0 n ≡ true
            from_zero n = grind (arith, nat_tests)

            of : OfLevel p b r
            of = of_requester p ok b r e

            input : IsBefore p r.level b (place_before p r.level b)
            input = before p ok r.level of.few b of.on

            fit : AgreesWithProbes p probed old (Granting r.level (place_before p r.level b))
            fit = fits.each (Granting r.level (place_before p r.level b)) (and_parts (has_bus_level requests r.level) (has_phase old.phases (Granting r.level (place_before p r.level b))) is).1

            up_to : (x s : ℕ) → x < b → (s < b → s ≤ x) → (nat_le 0 s && nat_lt s b) ≡ nat_le s x
            up_to x s less most = elim (cases_Bool (nat_lt s b)) [
              | inl below ↦ (let l : s < b = grind (arith, nat_tests) in let m : s ≤ x = most l in grind (arith, nat_tests))
              | inr above ↦ (let l : b ≤ s = grind (arith, nat_tests) in grind (arith, nat_tests))
            ]

            alike : (c s : ℕ) → is_segment p c s ≡ true → (is_of_level p c b && (nat_le 0 s && nat_lt s b)) ≡ (r.level == c && nat_le s (place_before p r.level b))
            alike c s seg = elim (cases_Bool (is_of_level p c b)) [
              | inl on ↦ (let same : r.level ≡ c = one_chain p r.level c b of.on on in
                  ap (λ z. z && (nat_le 0 s && nat_lt s b)) on
                  ∙ (up_to (place_before p r.level b) s input.below (λ less. input.greatest s (subst (λ k. is_segment p k s ≡ true) (sym same) seg) less)
                  ∙ sym (ap (λ z. z && nat_le s (place_before p r.level b)) (subst (λ k. (r.level == k) ≡ true) same (equal r.level)))))
              | inr off ↦ (ap (λ z. z && (nat_le 0 s && nat_lt s b)) off
                  ∙ sym (is_false (r.level == c && nat_le s (place_before p r.level b)) (λ k.
                  never (is_of_level p c b) (subst (λ n. is_of_level p n b ≡ true) (same_number r.level c (and_parts (r.level == c) (nat_le s (place_before p r.level b)) k).0) of.on) off)))
            ]

    busy_falls : is_left_low new line.Bbsy ≡ true → may.controller ≡ false → ((s : ℕ) → has may.boards s ≡ is_taken p requests old.phases s) → HasExactly new.phases (behind_take p requests old.phases)
        → GrantsFit p probed new
    busy_falls busy controller who h =
        let s = board_made may by controller in
        made_of (behind_take p requests old.phases) h at (Held s.0 0) (both _ _ refl (sym (who s.0) ∙ s.1))
      where
        at : (q : GrantPhase) → behind_take p requests old.phases q ≡ true → AgreesWithProbes p probed new q
        at (Held b t) is =
            let k = and_parts (t == 0) (is_taken p requests old.phases b) is in
            subst (λ x. AgreesWithProbes p probed new (Held b x)) (sym (same_number t 0 k.0)) (taken busy b k.1)
        at (Idle c) is = absurd (never false is refl)
        at (Granting c t) is = absurd (never false is refl)
        at (Expired c t) is = absurd (never false is refl)

    -- it rises
    busy_rises : is_left_low new line.Bbsy ≡ false → may.controller ≡ false → ((s : ℕ) → has may.boards s ≡ can_release p requests old.phases s)
        → HasExactly new.phases (behind_release p requests old.phases) → GrantsFit p probed new
    busy_rises busy controller who h = let s = board_made may by controller in released s.0 (sym (who s.0) ∙ s.1)
      where
        at : (q : GrantPhase) → behind_release p requests old.phases q ≡ true → AgreesWithProbes p probed new q
        at (Idle c) is =
            let k = and_parts (nat_lt c 4) (list_any (can_release p requests old.phases) (active p (grant_chain c))) is in
            let b = any_gives (can_release p requests old.phases) (active p (grant_chain c)) k.1 in
            let fit = fits.each (Held b.0 b.0) (and_parts (option_map_or (λ q. may_end requests q.release) (requester_at p b.0) false) (has_phase old.phases (Held b.0 b.0)) b.1).1 in
            record {
              near = k.0;
              named = refl;
              two = not_expired (is_two probed.version);
              bbsy = sym busy;
              shown = λ c few s to seen. and_same (is_segment p c s) false (is_in_run p c s (Held b.0 b.0)) (λ seg. sym (none_low (is_of_level p c b.0) b.0 s))
                  ∙ fit.shown c few s to seen ∙ low_as c s;
            }
          where
            none_low : (on : Bool) (b s : ℕ) → (on && (nat_le b s && nat_lt s b)) ≡ false
            none_low on b s = grind (arith, nat_tests)
        at (Held b t) is = absurd (never false is refl)
        at (Granting c t) is = absurd (never false is refl)
        at (Expired c t) is = absurd (never false is refl)

        released : (s : ℕ) → can_release p requests old.phases s ≡ true → GrantsFit p probed new
        released s can = by_row (requester_at p s) refl (and_parts (option_map_or (λ q. may_end requests q.release) (requester_at p s) false) (has_phase old.phases (Held s s)) can).0
          where
            by_row : (o : Option RequesterRow) → requester_at p s ≡ o → option_map_or (λ q. may_end requests q.release) o false ≡ true → GrantsFit p probed new
            by_row None e is = absurd (never false is refl)
            by_row (Some r) e is =
                let of = of_requester p ok s r e in
                made_of (behind_release p requests old.phases) h at (Idle r.level)
                (both _ _ (is_few r.level of.few) (any_of (can_release p requests old.phases) (active p (grant_chain r.level)) s (is_member p (in_range p ok) r.level s of.few of.on) can))

    -- a line other than BBSY*
    abbrev is_busy : Line → Bool
    is_busy line.Bbsy = true
    is_busy _ = false

    not_busy : (l : Line) → is_busy l ≡ false → line.Bbsy ≢ l
    not_busy l other e = never (is_busy l) (ap is_busy (sym e)) other

    on_line : (l : Line) (fall : Bool) (v : Option Value) → SetsLine l fall old.lines new.lines → ControllerMakes p probed.version old (moved.Line l) fall may.controller
        → BoardsMake p probed.version old (moved.Line l) fall v may.boards → PhasesBehind p probed.version old (moved.Line l) fall v new.phases → GrantsFit p probed new
    on_line (line.Br n) true v lines controller boards h = request_falls n h.0 (lines.others line.Bbsy (not_busy (line.Br n) refl)) controller boards h.1 h.2
    on_line (line.Br n) false v lines controller boards h = request_rises n (lines.others line.Bbsy (not_busy (line.Br n) refl)) controller boards h
    on_line line.Bbsy true v lines controller boards h = busy_falls lines.set controller boards h
    on_line line.Bbsy false v lines controller boards h = busy_rises lines.set controller boards h
    on_line line.AddressStrobe true v lines controller boards h = strobe_falls v h.0 (lines.others line.Bbsy (not_busy line.AddressStrobe refl)) controller boards h.1 h.2
    on_line line.Bclr true v lines controller boards h = clear_moves true (lines.others line.Bbsy (not_busy line.Bclr refl)) controller boards h
    on_line line.Bclr false v lines controller boards h = clear_moves false (lines.others line.Bbsy (not_busy line.Bclr refl)) controller boards h
    on_line l fall v lines controller boards h = same_phases h (stays (lines.others line.Bbsy (not_busy l refl)))

  -- ---- behind a change of a pin of a grant chain

  module _ (busy : is_left_low new line.Bbsy ≡ is_left_low old line.Bbsy) (c0 : ℕ) (few : c0 < 4) (x : ℕ) (seg : is_segment p c0 x ≡ true) (fall : Bool)
      (lows : (c s : ℕ) → c < 4 → has (slice_index_or new.low.grants c no_slots) s ≡ (if c == c0 && (s == x) then fall else has (slice_index_or old.low.grants c no_slots) s)) where
    abbrev version : Version
    version = probed.version

    near_x : x < 22
    near_x = segment_near p ok c0 x seg

    -- the segment is as it is behind the change, and all others are as before
    step : (q r : GrantPhase) → AgreesWithProbes p probed old q → is_in_table r ≡ true → is_named p r ≡ true → (is_expired r ≡ true → is_two version ≡ true) → is_held r ≡ is_held q
        → is_in_run p c0 x r ≡ fall → ((c s : ℕ) → (c ≡ c0 → s ≢ x) → is_segment p c s ≡ true → is_in_run p c s r ≡ is_in_run p c s q) → AgreesWithProbes p probed new r
    step q r fit near named two held here alike = record {
      near = near;
      named = named;
      two = two;
      bbsy = held ∙ fit.bbsy ∙ sym busy;
      shown = λ c few_c s to seen. elim (cases_Bool (c == c0 && (s == x))) [
        | inl same ↦ (let k = and_parts (c == c0) (s == x) same in at_x c s (same_number c c0 k.0) (same_number s x k.1)
            ∙ sym (lows c s few_c ∙ ap (λ b. if b then fall else has (slice_index_or old.low.grants c no_slots) s) same))
        | inr other ↦ (and_same (is_segment p c s) (is_in_run p c s r) (is_in_run p c s q) (λ is. alike c s (apart c s other) is) ∙ fit.shown c few_c s to seen
            ∙ sym (lows c s few_c ∙ ap (λ b. if b then fall else has (slice_index_or old.low.grants c no_slots) s) other))
      ];
    }
      where
        low_at : is_low_in p c0 x r ≡ fall
        low_at = ap (λ b. b && is_in_run p c0 x r) seg ∙ here

        at_x : (c s : ℕ) → c ≡ c0 → s ≡ x → is_low_in p c s r ≡ fall
        at_x c s e f = subst (λ k. is_low_in p k s r ≡ fall) (sym e) (subst (λ k. is_low_in p c0 k r ≡ fall) (sym f) low_at)

        apart : (c s : ℕ) → (c == c0 && (s == x)) ≡ false → c ≡ c0 → s ≢ x
        apart c s other e f = never (c == c0 && (s == x)) (both _ _ (subst (λ k. (c == k) ≡ true) e (equal c)) (subst (λ k. (s == k) ≡ true) f (equal s))) other

    -- a segment of another board of the chain
    own : (c s : ℕ) → c ≡ c0 → is_segment p c s ≡ true → is_segment p c0 s ≡ true
    own c s e is = subst (λ k. is_segment p k s ≡ true) e is

    -- ---- it falls

    module _ (falls : fall ≡ true) where
      grant_falls : x ≡ 0 → may.controller ≡ (x == 0 && is_granted p requests c0 old.phases) → ((s : ℕ) → has may.boards s ≡ (is_passed p version c0 x old.phases && is_board_at x s))
          → HasExactly new.phases (behind_grant p requests c0 old.phases) → GrantsFit p probed new
      grant_falls zero_is controller boards h = made_of (behind_grant p requests c0 old.phases) h at (Granting c0 0) (both _ _ (both _ _ (equal c0) refl) granted)
        where
          granted : is_granted p requests c0 old.phases ≡ true
          granted = (and_parts (x == 0) (is_granted p requests c0 old.phases) (sym controller ∙ controller_made may by none)).1
            where
              none : (s : ℕ) → has may.boards s ≡ false
              none s = boards s ∙ is_false (is_passed p version c0 x old.phases && is_board_at x s) (λ k.
                  never (nat_lt 0 x) (and_parts (nat_lt 0 x) (s == x) (and_parts (is_passed p version c0 x old.phases) (is_board_at x s) k).1).0 (ap (λ n. nat_lt 0 n) zero_is))

          run_0 : (c s : ℕ) → (c ≡ c0 → s ≢ x) → (c0 == c && nat_le s 0) ≡ false
          run_0 c s other = is_false (c0 == c && nat_le s 0) (λ k.
              let l = and_parts (c0 == c) (nat_le s 0) k in
              other (sym (same_number c0 c l.0)) (none s l.1 ∙ sym zero_is))
            where
              none : (s : ℕ) → nat_le s 0 ≡ true → s ≡ 0
              none s h = let l : s ≤ 0 = grind (arith, nat_tests) in omega (arith, l)

          fit_0 : AgreesWithProbes p probed new (Granting c0 0)
          fit_0 =
              let last = some_level (λ n. has_phase old.phases (Idle n) && is_picked p requests n c0) granted in
              let fit = fits.each (Idle last.0) (and_parts (has_phase old.phases (Idle last.0)) (is_picked p requests last.0 c0) last.2).0 in
              step (Idle last.0) (Granting c0 0) fit (both _ _ (is_few c0 few) refl) refl (not_expired (is_two version)) refl
              (both _ _ (equal c0) (subst (λ n. nat_le n 0 ≡ true) (sym zero_is) refl) ∙ sym falls) (λ c s other is. run_0 c s other)

          at : (q : GrantPhase) → behind_grant p requests c0 old.phases q ≡ true → AgreesWithProbes p probed new q
          at (Granting n t) is =
              let k = and_parts (n == c0) (t == 0) (and_parts (n == c0 && t == 0) (is_granted p requests c0 old.phases) is).0 in
              subst (λ m. AgreesWithProbes p probed new (Granting m t)) (sym (same_number n c0 k.0)) (subst (λ m. AgreesWithProbes p probed new (Granting c0 m)) (sym (same_number t 0 k.1)) fit_0)
          at (Idle n) is = absurd (never false is refl)
          at (Held b t) is = absurd (never false is refl)
          at (Expired n t) is = absurd (never false is refl)

      pass_falls : 0 < x → may.controller ≡ (x == 0 && is_granted p requests c0 old.phases) → ((s : ℕ) → has may.boards s ≡ (is_passed p version c0 x old.phases && is_board_at x s))
          → HasExactly new.phases (behind_pass p version c0 x old.phases) → GrantsFit p probed new
      pass_falls from controller boards h = made_of (behind_pass p version c0 x old.phases) h at (Granting c0 x) (both _ _ (both _ _ (equal c0) (equal x)) passes)
        where
          passes : is_passed p version c0 x old.phases ≡ true
          passes =
              let none = is_false (x == 0 && is_granted p requests c0 old.phases)
              (λ k. absurd (let z : x ≡ 0 = same_number x 0 (and_parts (x == 0) (is_granted p requests c0 old.phases) k).0 in omega (arith, z, from))) in
              let s = board_made may by (controller ∙ none) in
              (and_parts (is_passed p version c0 x old.phases) (is_board_at x s.0) (sym (boards s.0) ∙ s.1)).0

          on : is_of_level p c0 x ≡ true
          on = above_zero p c0 x seg from

          input : IsBefore p c0 x (place_before p c0 x)
          input = before p ok c0 few x on

          fit_x : AgreesWithProbes p probed new (Granting c0 x)
          fit_x =
              let there = (and_parts ((is_two version || not (x == end_place p c0)) && is_of_level p c0 x) (has_phase old.phases (Granting c0 (place_before p c0 x))) passes).1 in
              step (Granting c0 (place_before p c0 x)) (Granting c0 x) (fits.each (Granting c0 (place_before p c0 x)) there) (both _ _ (is_few c0 few) (is_near x near_x)) seg
              (not_expired (is_two version)) refl
              (both _ _ (equal c0) (least x) ∙ sym falls)
              (λ c s other is. and_same (c0 == c) (nat_le s x) (nat_le s (place_before p c0 x)) (λ e.
              let same : c ≡ c0 = sym (same_number c0 c e) in
              up_to_next (place_before p c0 x) x s input.below (other same) (λ less. input.greatest s (own c s same is) less)))
            where
              least : (n : ℕ) → nat_le n n ≡ true
              least n = grind (arith, nat_tests)

          at : (q : GrantPhase) → behind_pass p version c0 x old.phases q ≡ true → AgreesWithProbes p probed new q
          at (Granting n t) is =
              let k = and_parts (n == c0) (t == x) (and_parts (n == c0 && t == x) (is_passed p version c0 x old.phases) is).0 in
              subst (λ m. AgreesWithProbes p probed new (Granting m t)) (sym (same_number n c0 k.0)) (subst (λ m. AgreesWithProbes p probed new (Granting c0 m)) (sym (same_number t x k.1)) fit_x)
          at (Idle n) is = absurd (never false is refl)
          at (Held b t) is = absurd (never false is refl)
          at (Expired n t) is = absurd (never false is refl)

    -- ---- it rises

    module _ (rises : fall ≡ false) where
      beyond : (t s : ℕ) → s < t → nat_le t s ≡ false
      beyond t s less = grind (arith, nat_tests)

      not_at : (n t : ℕ) → x < t → (n == c0) ≡ true → (n == c0 && nat_le t x) ≡ false
      not_at n t less e = is_false (n == c0 && nat_le t x) (λ k. never (nat_le t x) (and_parts (n == c0) (nat_le t x) k).1 (beyond t x less))

      -- a board took the grant
      held_on : (b t : ℕ) → is_let_go p c0 x old.phases b ≡ true → is_follower p c0 x t ≡ true → AgreesWithProbes p probed new (Held b t)
      held_on b t goes follows =
          let k = and_parts (nat_lt x b && is_of_level p c0 b) (has_phase old.phases (Held b x)) goes in
          let l = and_parts (nat_lt x b) (is_of_level p c0 b) k.0 in
          let fit = fits.each (Held b x) k.1 in
          let on = follower_on p ok c0 few x t follows in
          let input = follower_before p ok c0 few x t follows in
          step (Held b x) (Held b t) fit (both _ _ (is_near b (near p ok c0 b l.1)) (is_near t (near p ok c0 t on))) (named b t on l.1 (most b t l.0 l.1 input)) (not_expired (is_two version)) refl
          (is_false (is_of_level p c0 b && (nat_le t x && nat_lt x b)) (λ m.
          never (nat_le t x) (and_parts (nat_le t x) (nat_lt x b) (and_parts (is_of_level p c0 b) (nat_le t x && nat_lt x b) m).1).0 (beyond t x input.below)) ∙ sym rises)
          (λ c s other is. and_same (is_of_level p c b) (nat_le t s && nat_lt s b) (nat_le x s && nat_lt s b) (λ e.
          let same : c ≡ c0 = sym (one_chain p c0 c b l.1 e) in
          ap (λ z. z && nat_lt s b) (from_next x t s input.below (other same) (λ less. input.greatest s (own c s same is) less))))
        where
          named : (b t : ℕ) → is_of_level p c0 t ≡ true → is_of_level p c0 b ≡ true → t ≤ b → is_named p (Held b t) ≡ true
          named b t on member to =
              let r = has_requester p c0 b member in
              both _ _
              (subst (λ o. option_map_or (λ q. is_segment p q.level t) o false ≡ true) (sym r.found) (subst (λ k. is_segment p k t ≡ true) (sym r.level) (board_segment p c0 t on))) (at_most t b to)
            where
              at_most : (t b : ℕ) → t ≤ b → nat_le t b ≡ true
              at_most t b h = grind (arith, nat_tests)

          most : (b t : ℕ) → nat_lt x b ≡ true → is_of_level p c0 b ≡ true → IsBefore p c0 t x → t ≤ b
          most b t less member input = elim (cases_Bool (nat_lt b t)) [
            | inl below ↦ absurd (let m : b ≤ x = input.greatest b (board_segment p c0 b member) (lt b t below) in let l : x < b = lt x b less in omega (arith, m, l))
            | inr above ↦ (grind (arith, nat_tests))
          ]
            where
              lt : (m n : ℕ) → nat_lt m n ≡ true → m < n
              lt m n h = grind (arith, nat_tests)

      abbrev over : Bool
      over = is_run_out p version c0 x old.phases

      -- the phase before, if nobody took it
      ran : over ≡ true → (is_two version ≡ true) × (((x ≡ 0) × (has_phase old.phases (Granting c0 (end_place p c0)) ≡ true)) ⊎ ((0 < x) × (has_phase old.phases (Expired c0 x) ≡ true)))
      ran is =
          let k = and_parts (is_two version) (if x == 0 then has_phase old.phases (Granting c0 (end_place p c0)) else has_phase old.phases (Expired c0 x)) is in
          (k.0, by_place (x == 0) refl k.1)
        where
          by_place : (b : Bool) → (x == 0) ≡ b → (if b then has_phase old.phases (Granting c0 (end_place p c0)) else has_phase old.phases (Expired c0 x)) ≡ true
              → ((x ≡ 0) × (has_phase old.phases (Granting c0 (end_place p c0)) ≡ true)) ⊎ ((0 < x) × (has_phase old.phases (Expired c0 x) ≡ true))
          by_place true e h = inl (same_number x 0 e, h)
          by_place false e h = inr ((let from : 0 < x = grind (arith, nat_tests) in from), h)

      -- a segment further on is the first low one
      expired_on : (t : ℕ) → over ≡ true → is_follower p c0 x t ≡ true → AgreesWithProbes p probed new (Expired c0 t)
      expired_on t is follows = by_case (ran is).0 (ran is).1
        where
          on : is_of_level p c0 t ≡ true
          on = follower_on p ok c0 few x t follows

          input : IsBefore p c0 t x
          input = follower_before p ok c0 few x t follows

          by_case : is_two version ≡ true → ((x ≡ 0) × (has_phase old.phases (Granting c0 (end_place p c0)) ≡ true)) ⊎ ((0 < x) × (has_phase old.phases (Expired c0 x) ≡ true))
              → AgreesWithProbes p probed new (Expired c0 t)
          by_case two (inr h) =
              step (Expired c0 x) (Expired c0 t) (fits.each (Expired c0 x) h.1) (both _ _ (is_few c0 few) (is_near t (near p ok c0 t on))) on (λ _. two) refl
              (not_at c0 t input.below (equal c0) ∙ sym rises)
              (λ c s other seg_s. and_same (c0 == c) (nat_le t s) (nat_le x s) (λ e.
              let same : c ≡ c0 = sym (same_number c0 c e) in
              from_next x t s input.below (other same) (λ less. input.greatest s (own c s same seg_s) less)))
          by_case two (inl h) =
              step (Granting c0 (end_place p c0)) (Expired c0 t) (fits.each (Granting c0 (end_place p c0)) h.1) (both _ _ (is_few c0 few) (is_near t (near p ok c0 t on))) on (λ _. two) refl
              (not_at c0 t input.below (equal c0) ∙ sym rises)
              (λ c s other seg_s. and_same (c0 == c) (nat_le t s) (nat_le s (end_place p c0)) (λ e.
              let same : c ≡ c0 = sym (same_number c0 c e) in
              behind t s (other same) (λ less. input.greatest s (own c s same seg_s) less) h.0 ∙ sym (inside s (end_last p ok c0 few s (own c s same seg_s)))))
            where
              behind : (t s : ℕ) → s ≢ x → (s < t → s ≤ x) → x ≡ 0 → nat_le t s ≡ true
              behind t s other next zero_is = elim (cases_Bool (nat_lt s t)) [
                | inl below ↦ absurd (let b : s < t = grind (arith, nat_tests) in let c = next b in other (omega (arith, c, zero_is)))
                | inr above ↦ (grind (arith, nat_tests))
              ]

              inside : (s : ℕ) → s ≤ end_place p c0 → nat_le s (end_place p c0) ≡ true
              inside s h = grind (arith, nat_tests)

      -- there is none
      idle_on : over ≡ true → x ≡ end_place p c0 → AgreesWithProbes p probed new (Idle c0)
      idle_on is last = by_case (ran is).1
        where
          past : (s : ℕ) → s ≢ x → s ≤ end_place p c0 → nat_le x s ≡ false
          past s other most = is_false (nat_le x s) (λ k. other (let l : x ≤ s = grind (arith, nat_tests) in omega (arith, l, most, last)))

          at_zero : (s : ℕ) → s ≢ x → x ≡ 0 → nat_le s (end_place p c0) ≡ false
          at_zero s other zero_is = is_false (nat_le s (end_place p c0)) (λ k. other (let l : s ≤ end_place p c0 = grind (arith, nat_tests) in omega (arith, l, last, zero_is)))

          by_case : ((x ≡ 0) × (has_phase old.phases (Granting c0 (end_place p c0)) ≡ true)) ⊎ ((0 < x) × (has_phase old.phases (Expired c0 x) ≡ true)) → AgreesWithProbes p probed new (Idle c0)
          by_case (inr h) =
              step (Expired c0 x) (Idle c0) (fits.each (Expired c0 x) h.1) (is_few c0 few) refl (not_expired (is_two version)) refl (sym rises)
              (λ c s other seg_s. sym (is_false (c0 == c && nat_le x s) (λ k.
              let l = and_parts (c0 == c) (nat_le x s) k in
              let same : c ≡ c0 = sym (same_number c0 c l.0) in
              never (nat_le x s) l.1 (past s (other same) (end_last p ok c0 few s (own c s same seg_s))))))
          by_case (inl h) =
              step (Granting c0 (end_place p c0)) (Idle c0) (fits.each (Granting c0 (end_place p c0)) h.1) (is_few c0 few) refl (not_expired (is_two version)) refl (sym rises)
              (λ c s other seg_s. sym (is_false (c0 == c && nat_le s (end_place p c0)) (λ k.
              let l = and_parts (c0 == c) (nat_le s (end_place p c0)) k in
              let same : c ≡ c0 = sym (same_number c0 c l.0) in
              never (nat_le s (end_place p c0)) l.1 (at_zero s (other same) h.0))))

      at_rise : (q : GrantPhase) → behind_rise p version c0 x old.phases q ≡ true → AgreesWithProbes p probed new q
      at_rise (Held b t) is = let k = and_parts (is_let_go p c0 x old.phases b) (is_follower p c0 x t) is in held_on b t k.0 k.1
      at_rise (Expired n t) is =
          let k = and_parts (n == c0 && over) (is_follower p c0 x t) is in
          let l = and_parts (n == c0) over k.0 in
          subst (λ m. AgreesWithProbes p probed new (Expired m t)) (sym (same_number n c0 l.0)) (expired_on t l.1 k.1)
      at_rise (Idle n) is =
          let k = and_parts (n == c0 && over) (x == end_place p c0) is in
          let l = and_parts (n == c0) over k.0 in
          subst (λ m. AgreesWithProbes p probed new (Idle m)) (sym (same_number n c0 l.0)) (idle_on l.1 (same_number x (end_place p c0) k.1))
      at_rise (Granting n t) is = absurd (never false is refl)

      segment_rises : may.controller ≡ (x == 0 && can_rise p version c0 x old.phases) → ((s : ℕ) → has may.boards s ≡ (can_rise p version c0 x old.phases && is_board_at x s))
          → HasExactly new.phases (behind_rise p version c0 x old.phases) → GrantsFit p probed new
      segment_rises controller boards h = by_case (or_cases over (list_any (is_let_go p c0 x old.phases) (active p (grant_chain c0))) (rises_by by))
        where
          rises_by : (may.controller ≡ true) ⊎ ((s : ℕ) × (has may.boards s ≡ true)) → can_rise p version c0 x old.phases ≡ true
          rises_by (inl c) = (and_parts (x == 0) (can_rise p version c0 x old.phases) (sym controller ∙ c)).1
          rises_by (inr s) = (and_parts (can_rise p version c0 x old.phases) (is_board_at x s.0) (sym (boards s.0) ∙ s.1)).0

          by_case : (over ≡ true) ⊎ (list_any (is_let_go p c0 x old.phases) (active p (grant_chain c0)) ≡ true) → GrantsFit p probed new
          by_case (inr any) =
              let b = any_gives (is_let_go p c0 x old.phases) (active p (grant_chain c0)) any in
              let l = and_parts (nat_lt x b.0) (is_of_level p c0 b.0) (and_parts (nat_lt x b.0 && is_of_level p c0 b.0) (has_phase old.phases (Held b.0 x)) b.1).0 in
              let n = next p ok c0 few x b.0 seg l.1 (lt x b.0 l.0) in
              made_of (behind_rise p version c0 x old.phases) h at_rise (Held b.0 n.slot) (both _ _ b.1 n.follows)
            where
              lt : (m n : ℕ) → nat_lt m n ≡ true → m < n
              lt m n h = grind (arith, nat_tests)
          by_case (inl is) = elim (cases_Bool (x == end_place p c0)) [
            | inl last ↦ (made_of (behind_rise p version c0 x old.phases) h at_rise (Idle c0) (both _ _ (both _ _ (equal c0) is) last))
            | inr further ↦ (
                let less = below x (end_place p c0) (end_last p ok c0 few x seg) further in
                let n = next p ok c0 few x (end_place p c0) seg (above_zero p c0 (end_place p c0) (end_segment p ok c0 few) (omega (arith, less))) less in
                made_of (behind_rise p version c0 x old.phases) h at_rise (Expired c0 n.slot) (both _ _ (both _ _ (equal c0) is) n.follows))
          ]
            where
              below : (m n : ℕ) → m ≤ n → (m == n) ≡ false → m < n
              below m n h e = grind (arith, nat_tests)

    on_grant : (v : Option Value) (way : Bool) → fall ≡ way → ControllerMakes p version old (moved.Grant c0 x) way may.controller → BoardsMake p version old (moved.Grant c0 x) way v may.boards
        → PhasesBehind p version old (moved.Grant c0 x) way v new.phases → GrantsFit p probed new
    on_grant v true falls controller boards h = elim (cases_Bool (x == 0)) [
      | inl head ↦ (let zero_is : x ≡ 0 = same_number x 0 head in grant_falls falls zero_is controller boards (h.granted zero_is))
      | inr board ↦ (let from : 0 < x = grind (arith, nat_tests) in pass_falls falls from controller boards (h.passed from))
    ]
    on_grant v false rises controller boards h = segment_rises rises controller boards h

-- ---- each change

-- the wire of the pin is as it is behind the change, and all others are as before
abbrev index : ChainId → ℕ
index Bg0 = 0
index Bg1 = 1
index Bg2 = 2
index Bg3 = 3
index Iack = 4

pin_lows : (c : ChainId) (x : ℕ) (fall : Bool) (old new : Segments)
    → ((k : ChainId) (s : ℕ) → has_segment new k s ≡ (if is_same_chain k c && (s == x) then fall else has_segment old k s))
    → (n s : ℕ) → n < 4 → has (slice_index_or new.grants n no_slots) s ≡ (if n == index c && (s == x) then fall else has (slice_index_or old.grants n no_slots) s)
pin_lows Bg0 x fall old new h zero s few = h Bg0 s
pin_lows Bg0 x fall old new h (suc zero) s few = h Bg1 s
pin_lows Bg0 x fall old new h (suc (suc zero)) s few = h Bg2 s
pin_lows Bg0 x fall old new h (suc (suc (suc zero))) s few = h Bg3 s
pin_lows Bg1 x fall old new h zero s few = h Bg0 s
pin_lows Bg1 x fall old new h (suc zero) s few = h Bg1 s
pin_lows Bg1 x fall old new h (suc (suc zero)) s few = h Bg2 s
pin_lows Bg1 x fall old new h (suc (suc (suc zero))) s few = h Bg3 s
pin_lows Bg2 x fall old new h zero s few = h Bg0 s
pin_lows Bg2 x fall old new h (suc zero) s few = h Bg1 s
pin_lows Bg2 x fall old new h (suc (suc zero)) s few = h Bg2 s
pin_lows Bg2 x fall old new h (suc (suc (suc zero))) s few = h Bg3 s
pin_lows Bg3 x fall old new h zero s few = h Bg0 s
pin_lows Bg3 x fall old new h (suc zero) s few = h Bg1 s
pin_lows Bg3 x fall old new h (suc (suc zero)) s few = h Bg2 s
pin_lows Bg3 x fall old new h (suc (suc (suc zero))) s few = h Bg3 s
pin_lows Iack x fall old new h zero s few = h Bg0 s
pin_lows Iack x fall old new h (suc zero) s few = h Bg1 s
pin_lows Iack x fall old new h (suc (suc zero)) s few = h Bg2 s
pin_lows Iack x fall old new h (suc (suc (suc zero))) s few = h Bg3 s
pin_lows c x fall old new h (suc (suc (suc (suc n)))) s few = absurd (omega arith)

module _ (p : Plan) (ok : IsAccepted p) (probed : Probed) (old new : Standings) (may : Drivers) (by : (may.controller ≡ true) ⊎ ((s : ℕ) × (has may.boards s ≡ true)))
    (bits : HoldsBits new.phases) (fits : GrantsFit p probed old) (lines : new.lines ≡ old.lines) where
  busy : is_left_low new line.Bbsy ≡ is_left_low old line.Bbsy
  busy = ap (λ l. is_line_left_low l line.Bbsy) lines

  on_pin : (s : ℕ) (c : ChainId) (side : Side) (fall : Bool) (v : Option Value)
      → ((k : ChainId) (t : ℕ) → has_segment new.low k t ≡ (if is_same_chain k c && (t == unwrap_or (wire_on p c s side).place 0) then fall else has_segment old.low k t))
      → ControllerMakes p probed.version old (segment_moved c (unwrap_or (wire_on p c s side).place 0)) fall may.controller
      → BoardsMake p probed.version old (segment_moved c (unwrap_or (wire_on p c s side).place 0)) fall v may.boards
      → PhasesBehind p probed.version old (segment_moved c (unwrap_or (wire_on p c s side).place 0)) fall v new.phases
      → GrantsFit p probed new
  on_pin s Bg0 side fall v low controller boards h =
      on_grant p ok probed old new may by bits fits busy 0 (omega arith) _ (wire_segment p ok 0 s side (omega arith)) fall (pin_lows Bg0 _ fall old.low new.low low) v fall refl controller boards h
  on_pin s Bg1 side fall v low controller boards h =
      on_grant p ok probed old new may by bits fits busy 1 (omega arith) _ (wire_segment p ok 1 s side (omega arith)) fall (pin_lows Bg1 _ fall old.low new.low low) v fall refl controller boards h
  on_pin s Bg2 side fall v low controller boards h =
      on_grant p ok probed old new may by bits fits busy 2 (omega arith) _ (wire_segment p ok 2 s side (omega arith)) fall (pin_lows Bg2 _ fall old.low new.low low) v fall refl controller boards h
  on_pin s Bg3 side fall v low controller boards h =
      on_grant p ok probed old new may by bits fits busy 3 (omega arith) _ (wire_segment p ok 3 s side (omega arith)) fall (pin_lows Bg3 _ fall old.low new.low low) v fall refl controller boards h
  on_pin s Iack side fall v low controller boards h = same_phases p ok probed old new may by bits fits h (λ q fit. record {
    near = fit.near;
    named = fit.named;
    two = fit.two;
    bbsy = fit.bbsy ∙ sym busy;
    shown = λ c few t to seen. fit.shown c few t to seen ∙ sym (lows c t few);
  })
    where
      not_four : (b : Bool) (c t x : ℕ) → c < 4 → (if c == 4 && (t == x) then fall else b) ≡ b
      not_four b c t x few = ap (λ k. if k then fall else b) (is_false (c == 4 && (t == x)) (λ k. absurd (let e : c ≡ 4 = same_number c 4 (and_parts (c == 4) (t == x) k).0 in omega (arith, e, few))))

      lows : (c t : ℕ) → c < 4 → has (slice_index_or new.low.grants c no_slots) t ≡ has (slice_index_or old.low.grants c no_slots) t
      lows c t few =
          pin_lows Iack (unwrap_or (wire_on p Iack s side).place 0) fall old.low new.low low c t few
          ∙ not_four (has (slice_index_or old.low.grants c no_slots) t) c t (unwrap_or (wire_on p Iack s side).place 0) few

pub behind : (p : Plan) (probed : Probed) (old new : Standings) (c : Change) (may : Drivers) → IsAccepted p → AreDrivers p probed old c may → is_nobody may ≡ false
    → IsBehind p probed old c new → GrantsFit p probed old → GrantsFit p probed new
behind p probed old new c may ok who some h fits = by_signal c.signal refl
  where
    by_signal : (x : Signal) → c.signal ≡ x → GrantsFit p probed new
    by_signal (signal.Line l) is =
        on_line p ok probed old new may (made may some) h.bits fits (rw is at h.low) l c.fall c.value (rw is at h.lines) (rw is at who.controller) (rw is at who.boards) (rw is at h.phases)
    by_signal (signal.Pin q) is =
        on_pin p ok probed old new may (made may some) h.bits fits (rw is at h.lines) q.slot q.chain q.side c.fall c.value (rw is at h.low)
        (rw is at who.controller) (rw is at who.boards) (rw is at h.phases)
