-- Every bus that keeps the rules is in a phase of the grants and BBSY*, one in which a bus can be
-- that is running.
use Rattle.std.proofs.Common.{◌≡◌, ◌∙◌, refl, sym, ℕ, Bool, true, false, List, [], ◌∷◌, ◌<◌, ◌≤◌, arith, ⊎_elim}
use Rattle.std.specs.Prelude.{◌==◌, ◌&&◌, ◌||◌, not, Option}
use Rattle.std.proofs.lemmas.Bool.Decides.{nat_tests}
use Rattle.vme_model.specs.declared.sets.BusLevels.{BusLevels}
use Rattle.vme_model.specs.declared.signals.Version.{Version}
use Rattle.vme_model.specs.declared.signals.Cycle.{Cycle}
use Rattle.vme_model.specs.declared.signals.Driver.{Driver}
use Rattle.vme_model.specs.declared.signals.Driver.TheVariants.{Controller, Slot}
use Rattle.vme_model.specs.declared.signals.Wire.{Wire}
use Rattle.vme_model.specs.declared.signals.Wire.TheVariants.{Bg, BgOut, Bbsy}
use Rattle.vme_model.specs.declared.signals.Edge.{Edge}
use Rattle.vme_model.specs.Signals.{is_two}
use Rattle.vme_model.specs.Sets.{has_bus_level}
use Rattle.vme_model.specs.Plan.{Plan}
use Rattle.vme_model.specs.Accepted.{IsAccepted}
use Rattle.vme_model.specs.GrantSafety.{IsAwaited, was_withdrawn}
use Rattle.vme_model.specs.History.{last_level as last_granted, line}
use Rattle.vme_model.specs.Verdict.{IsLegal}
use Rattle.vme_model.proofs.AllowedEdges.{all_passed}
use Rattle.vme_model.proofs.Members.{member_of}
use Rattle.vme_histories.proofs.AllowedBoards.{at, at_head}
use Rattle.vme_bus.specs.declared.sets.SlotSet.{SlotSet}
use Rattle.vme_standings.specs.declared.phases.GrantPhase.{GrantPhase}
use Rattle.vme_standings.specs.declared.phases.GrantPhase.TheVariants.{Idle, Granting, Held, Expired}
use Rattle.vme_standings.specs.declared.phases.GrantPhases.{GrantPhases}
use Rattle.vme_standings.specs.Beginnings.{CanBegin}
use Rattle.vme_standings.specs.Cuts.{is_possible}
use Rattle.vme_standings.specs.GrantChains.{end_place, is_of_level}
use Rattle.vme_standings.specs.LowSegments.{is_segment}
use Rattle.vme_standings.specs.Phases.{has_phase, is_held, is_in_table}
use Rattle.vme_standings.specs.InPhase.{AreAsked, AreShown, CoversGrants, InPhase, is_place_low}
use Rattle.vme_standings.proofs.Tests.{both}
use Rattle.vme_standings.proofs.WhoDrives.{line_shows}
use Rattle.vme_standings.proofs.GrantPlaces.{board_segment, end_last, from_one}
use Rattle.vme_standings.proofs.PhaseSteps.{begins_idle, equal, few_some, last_few, other_in, past_granting, run}
use Rattle.vme_standings.proofs.GrantEdges.{asks_on, board_low, give_level, give_to, take_to}
use Rattle.vme_standings.proofs.GrantTurns.{AllRun, GoneBack, KeptBy, RunOn, Turns, back_turns, expired_two, free_high, grant_to, has_board_of, pass_level, pass_to, rise_level, rise_turns, wanted}
use Rattle.vme_standings.proofs.GrantOthers.{in_table}

abbrev Phased : Plan → List Edge → Type 0
Phased p h = (q : GrantPhase) × InPhase p h q

module _ (version : Version) (p : Plan) (ok : IsAccepted p) where
  turned : (h : List Edge) (e : Edge) (m x : ℕ) (q : GrantPhase) → Turns version p h e m x q → Phased p (e ∷ h)
  turned h e m x q (KeptBy k f member l to follows same i) = (Held k f, i)
  turned h e m x q (RunOn f two from follows same i) = (Expired m f, i)
  turned h e m x q (AllRun two from end same i) = (Idle m, i)
  turned h e m x q (GoneBack f two none follows same i) = (Expired m f, i)

  step : (h : List Edge) (d : Driver) (w : Wire) (fall : Bool) (v : Option Cycle) → IsLegal version p (record { driver = d; wire = w; fall = fall; value = v } ∷ h) → Phased p h
      → Phased p (record { driver = d; wire = w; fall = fall; value = v } ∷ h)
  step h Controller (Bg n) true v legal (q, i) = (Granting n 0, grant_to version p ok h n v legal q i)
  step h Controller (Bg n) false v legal (q, i) = turned h (at_head (Bg n) false v) n 0 q (back_turns version p ok h n v legal q i)
  step h (Slot s) (Bg n) fall v legal now = absurd (cc (all_passed version p h (Slot s) (Bg n) fall v legal.0).wire)
  step h (Slot s) BgOut true v legal (q, i) = (Granting (pass_level version p ok h s v legal).level s, pass_to version p ok h s v legal q i)
  step h (Slot s) BgOut false v legal (q, i) = turned h (at s BgOut false v) (rise_level version p ok h s v legal).level s q (rise_turns version p ok h s v legal q i)
  step h Controller BgOut fall v legal now = absurd (cc (all_passed version p h Controller BgOut fall v legal.0).wire)
  step h (Slot s) Bbsy true v legal (q, i) = (Held s 0, take_to version p ok h s v legal q i)
  step h (Slot s) Bbsy false v legal (q, i) = (Idle (give_level version p ok h s v legal).level, give_to version p ok h s v legal q i)
  step h Controller Bbsy fall v legal now = absurd (cc (all_passed version p h Controller Bbsy fall v legal.0).wire)
  step h d w fall v legal (q, i) = (q, other_in p h q d w fall v (λ n is. absurd (cc)) (λ is. absurd (cc)) (λ is. absurd (cc)) i)

  pub phase_of : (h : List Edge) → IsLegal version p h → Phased p h
  phase_of [] legal = (Idle 0, begins_idle p)
  phase_of (e ∷ h) legal = step h e.driver e.wire e.fall e.value legal (phase_of h legal.1)

  module _ (h : List Edge) (legal : IsLegal version p h) (requests : BusLevels) (asked : AreAsked p h requests) where
    not_last : (a b : ℕ) → a < b → not (a == b) ≡ true
    not_last a b l = grind (arith, nat_tests)

    above_zero : (a b : ℕ) → a ≤ b → 0 < a → not (b == 0) ≡ true
    above_zero a b l k = grind (arith, nat_tests)

    or_left : (a b : Bool) → a ≡ true → (a || b) ≡ true
    or_left a b e = grind arith

    or_right : (a b : Bool) → b ≡ true → (a || b) ≡ true
    or_right a b e = grind arith

    pub possible : (q : GrantPhase) → InPhase p h q → is_possible p version requests q ≡ true
    possible (Idle c) i = refl
    possible (Granting c last) i =
        both (is_segment p c last && not (end_place p c == 0)) _
        (both (is_segment p c last) (not (end_place p c == 0)) i.named (above_zero board.0 (end_place p c) (end_last p ok c few board.0 (board_segment p c board.0 board.1))
        (from_one p ok c board.0 board.1)))
        (⊎_elim (λ (a : IsAwaited p h c). or_right (is_two version) _ (both (has_bus_level requests c) (not (last == end_place p c)) (requested a) (before_end a)))
        (λ (w : (is_two version ≡ true) × (was_withdrawn p h c ≡ true)). or_left (is_two version) _ w.0)
        (wanted version p ok h legal c last few i))
      where
        few : c < 4
        few = few_some c (last_granted h) i.granted (last_few version p h legal)

        board : (s : ℕ) × (is_of_level p c s ≡ true)
        board = has_board_of version p ok h legal c last few i

        requested : IsAwaited p h c → has_bus_level requests c ≡ true
        requested a = asked c few ∙ asks_on p ok h c a.waiter (member_of p c a.waiter few a.member) a.waits

        before_end : IsAwaited p h c → not (last == end_place p c) ≡ true
        before_end a =
            let on = member_of p c a.slot few a.travels.member in
            let own = board_segment p c a.slot on in
            let high : is_place_low h c a.slot ≡ false = board_low h c a.slot (from_one p ok c a.slot on) ∙ a.travels.unpassed in
            let past = past_granting c c a.slot last (sym (run p ok h (Granting c last) i c a.slot few own) ∙ high) refl in
            let to = end_last p ok c few a.slot own in
            not_last last (end_place p c) (omega (arith, past, to))
    possible (Held k first) i = i.named
    possible (Expired c first) i = both (is_two version) (is_of_level p c first) (expired_two version p ok h legal c first i) i.named

    busy : (q : GrantPhase) → InPhase p h q → is_held q ≡ line p h Bbsy
    busy (Idle c) i = sym (free_high version p ok h legal (λ s. i.held s))
    busy (Granting c last) i = sym (free_high version p ok h legal (λ s. i.held s))
    busy (Held k first) i = sym (line_shows version p ok h legal k Bbsy (i.held k ∙ equal k k refl))
    busy (Expired c first) i = sym (free_high version p ok h legal (λ s. i.held s))

    module _ (probed low : List SlotSet) (show : AreShown p h probed low) where
      pub can_begin : (q : GrantPhase) → InPhase p h q → CanBegin p version requests (line p h Bbsy) probed low q
      can_begin q i = record {
        possible = possible q i;
        bbsy = busy q i;
        shown = λ c few s near on. let f = show c s few near on in sym (i.low c s few f.0) ∙ sym f.1;
      }

      pub running_covers : (new : GrantPhases) → ((q : GrantPhase) → is_in_table q ≡ true → CanBegin p version requests (line p h Bbsy) probed low q → has_phase new q ≡ true) → CoversGrants p h new
      running_covers new all =
          let now = phase_of h legal in
          record { phase = now.0; is_in = now.1; member = all now.0 (in_table version p ok h legal now.0 now.1) (can_begin now.0 now.1) }
