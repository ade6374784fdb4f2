-- What is known of the grants and BBSY* fits together, and stays so: `hindered_laws`.
use Rattle.std.proofs.Common.{◌≡◌, ◌≢◌, ◌∙◌, ◌&&◌, ◌||◌, ◌<◌, ◌≤◌, ◌⊎◌, ℕ, zero, suc, Bool, true, false, not, Option, Some, None, is_some, refl, sym, ap, subst, inl, inr, arith}
use Rattle.std.proofs.lemmas.Bool.{and_parts, cases_Bool}
use Rattle.std.proofs.lemmas.Bool.Decides.{nat_tests}
use Rattle.std.specs.Prelude.{nat_lt, nat_le, ◌==◌, if◌then◌else◌, slice_index_or}
use Rattle.std.specs.Option.{option_map_or}
use Rattle.vme_model.specs.declared.boards.RequesterRow.{RequesterRow}
use Rattle.vme_model.specs.declared.sets.BusLevels.{BusLevels}
use Rattle.vme_model.specs.declared.sets.ChainId.TheVariants.{Bg0, Bg1, Bg2, Bg3, Iack}
use Rattle.vme_model.specs.declared.signals.Version.{Version}
use Rattle.vme_model.specs.Accepted.{IsAccepted}
use Rattle.vme_model.specs.Plan.{Plan}
use Rattle.vme_model.specs.Rules.{is_pick}
use Rattle.vme_model.specs.Sets.{has_bus_level}
use Rattle.vme_model.specs.Signals.{is_two}
use Rattle.vme_model.proofs.Bools.{same_number}
use Rattle.vme_bus.specs.Sets.{has}
use Rattle.vme_captures.specs.declared.levels.Levels.{Levels}
use Rattle.vme_captures.specs.declared.signals.Line.TheVariants as line
use Rattle.vme_captures.specs.Levels.{is_line_left_low}
use Rattle.vme_standings.specs.declared.phases.GrantPhase.{GrantPhase}
use Rattle.vme_standings.specs.declared.phases.GrantPhase.TheVariants.{Idle, Granting, Held, Expired}
use Rattle.vme_standings.specs.declared.phases.GrantPhases.{GrantPhases}
use Rattle.vme_standings.specs.declared.segments.Segments.{Segments}
use Rattle.vme_standings.specs.declared.standings.Probed.{Probed}
use Rattle.vme_standings.specs.declared.standings.Standings.{Standings}
use Rattle.vme_standings.specs.Cuts.{is_possible}
use Rattle.vme_standings.specs.Driving.{is_left_low}
use Rattle.vme_standings.specs.GrantChains.{end_place, is_follower, is_of_level, place_before, requester_at}
use Rattle.vme_standings.specs.Grants.{is_picked}
use Rattle.vme_standings.specs.Hidden.{HasMoved}
use Rattle.vme_standings.specs.InPhase.{is_named}
use Rattle.vme_standings.specs.LowSegments.{is_in_run, is_low_in, is_segment}
use Rattle.vme_standings.specs.Moving.{asked}
use Rattle.vme_standings.specs.Phases.{has_bit, has_phase, is_held, is_in_table, no_slots}
use Rattle.vme_standings.specs.Running.{IsPowerUp, Runs, is_first}
use Rattle.vme_standings.specs.Unseen.{IsReached, has_row_for, is_unseen, leads}
use Rattle.vme_standings.proofs.GrantPlaces.{IsBefore, above_zero, board_segment, end_last, follower_before, follower_on, near, one_level, segment_is, segment_near}
use Rattle.vme_standings.proofs.Tests.{both, is_false, never}
use Rattle.vme_probe.specs.ChainsFit.{AgreesWithProbes, GrantsFit, is_expired}
use Rattle.vme_probe.proofs.PhaseLemmas.{of_requester}

few_of : (n : ℕ) → nat_lt n 4 ≡ true → n < 4
few_of n h = grind (arith, nat_tests)

-- ---- at the beginning

-- at power-up level 0 counts as granted last
pub power_up : (p : Plan) (probed : Probed) (st : Standings) → IsPowerUp p st → GrantsFit p probed st
power_up p probed st is = record {
  some = (Idle 0, is.phases.idle 0 (omega arith));
  each = at;
}
  where
    low_is : (c s : ℕ) → c < 4 → has (slice_index_or st.low.grants c no_slots) s ≡ false
    low_is zero s few = is.low Bg0 s
    low_is (suc zero) s few = is.low Bg1 s
    low_is (suc (suc zero)) s few = is.low Bg2 s
    low_is (suc (suc (suc zero))) s few = is.low Bg3 s
    low_is (suc (suc (suc (suc n)))) s few = absurd (omega arith)

    none_low : (c s n : ℕ) → is_low_in p c s (Idle n) ≡ false
    none_low c s n = is_false (is_segment p c s && false) (λ h. never false (and_parts (is_segment p c s) false h).1 refl)

    at : (q : GrantPhase) → has_phase st.phases q ≡ true → AgreesWithProbes p probed st q
    at (Idle n) there = record {
      near = is.bits (Idle n) there;
      named = refl;
      two = λ h. absurd (never false h refl);
      bbsy = sym (is.lines line.Bbsy);
      shown = λ c few s to seen. none_low c s n ∙ sym (low_is c s few);
    }
    at (Granting c t) there =
        let k = and_parts (nat_lt c 4) (nat_lt t 32) (is.bits (Granting c t) there) in
        absurd (never (has_phase st.phases (Granting c t)) there (is.phases.granting c t (few_of c k.0) (in_row t k.1)))
      where
        in_row : (t : ℕ) → nat_lt t 32 ≡ true → t < 32
        in_row t h = grind (arith, nat_tests)
    at (Held b t) there =
        let k = and_parts (nat_lt b 22) (nat_lt t 32) (is.bits (Held b t) there) in
        absurd (never (has_phase st.phases (Held b t)) there (is.phases.held b t (in_slots b k.0) (in_row t k.1)))
      where
        in_row : (t : ℕ) → nat_lt t 32 ≡ true → t < 32
        in_row t h = grind (arith, nat_tests)

        in_slots : (t : ℕ) → nat_lt t 22 ≡ true → t < 22
        in_slots t h = grind (arith, nat_tests)
    at (Expired c t) there =
        let k = and_parts (nat_lt c 4) (nat_lt t 32) (is.bits (Expired c t) there) in
        absurd (never (has_phase st.phases (Expired c t)) there (is.phases.expired c t (few_of c k.0) (in_row t k.1)))
      where
        in_row : (t : ℕ) → nat_lt t 32 ≡ true → t < 32
        in_row t h = grind (arith, nat_tests)

-- a phase in which a bus can be is one of the backplane
possible_named : (p : Plan) (version : Version) (requests : BusLevels) (q : GrantPhase) → is_possible p version requests q ≡ true → is_named p q ≡ true
possible_named p version requests (Idle c) h = refl
possible_named p version requests (Granting c last) h =
    (and_parts (is_segment p c last) (not (end_place p c == 0)) (and_parts (is_segment p c last && not (end_place p c == 0)) _ h).0).0
possible_named p version requests (Held b first) h = h
possible_named p version requests (Expired c first) h = (and_parts (is_two version) (is_of_level p c first) h).1

possible_two : (p : Plan) (version : Version) (requests : BusLevels) (q : GrantPhase) → is_possible p version requests q ≡ true → is_expired q ≡ true → is_two version ≡ true
possible_two p version requests (Expired c first) h e = (and_parts (is_two version) (is_of_level p c first) h).0
possible_two p version requests (Idle c) h e = absurd (never false e refl)
possible_two p version requests (Granting c last) h e = absurd (never false e refl)
possible_two p version requests (Held b first) h e = absurd (never false e refl)

-- so it is one of the slots of a backplane
possible_near : (p : Plan) → IsAccepted p → (version : Version) (requests : BusLevels) (q : GrantPhase) → has_bit q ≡ true → is_possible p version requests q ≡ true → is_in_table q ≡ true
possible_near p ok version requests (Idle c) bit h = bit
possible_near p ok version requests (Granting c last) bit h =
    both _ _ (and_parts (nat_lt c 4) (nat_lt last 32) bit).0 (below last (segment_near p ok c last (possible_named p version requests (Granting c last) h)))
  where
    below : (t : ℕ) → t < 22 → nat_lt t 22 ≡ true
    below t less = grind (arith, nat_tests)
possible_near p ok version requests (Held b first) bit h =
    let near = (and_parts (nat_lt b 22) (nat_lt first 32) bit).0 in
    both _ _ near (up_to b first near (and_parts (option_map_or (λ q. is_segment p q.level first) (requester_at p b) false) (nat_le first b) h).1)
  where
    up_to : (b t : ℕ) → nat_lt b 22 ≡ true → nat_le t b ≡ true → nat_lt t 22 ≡ true
    up_to b t near most = grind (arith, nat_tests)
possible_near p ok version requests (Expired c first) bit h =
    both _ _ (and_parts (nat_lt c 4) (nat_lt first 32) bit).0 (below first (near p ok c first (possible_named p version requests (Expired c first) h)))
  where
    below : (t : ℕ) → t < 22 → nat_lt t 22 ≡ true
    below t less = grind (arith, nat_tests)

pub running : (p : Plan) (probed : Probed) (lines : Levels) (low : Segments) (st : Standings) → IsAccepted p → Runs p probed lines low st → GrantsFit p probed st
running p probed lines low st ok is = record {
  some = is.some_phase;
  each = λ q there.
      let can = is.phases.only q (is.bits_are q there) there in
      record {
        near = possible_near p ok probed.version (asked lines) q (is.bits_are q there) can.possible;
        named = possible_named p probed.version (asked lines) q can.possible;
        two = possible_two p probed.version (asked lines) q can.possible;
        bbsy = can.bbsy ∙ ap (λ l. is_line_left_low l line.Bbsy) (sym is.lines_are);
        shown = λ c few s to seen. can.shown c few s to seen ∙ ap (λ l. has (slice_index_or l.grants c no_slots) s) (sym is.low_are);
      };
}
