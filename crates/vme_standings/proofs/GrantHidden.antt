-- The law of the grants and BBSY* behind an edge that no probe sees.
use Rattle.std.proofs.Common.{◌≡◌, ◌∙◌, refl, sym, ap, subst, ℕ, zero, suc, Bool, true, false, List, ◌∷◌, ◌<◌, arith}
use Rattle.std.specs.Prelude.{◌==◌, ◌&&◌, ◌||◌, if◌then◌else◌, nat_le, nat_lt, not, Option, Some, None, option_map}
use Rattle.std.specs.Option.{option_and_then, option_map_or}
use Rattle.std.proofs.lemmas.Bool.Decides.{nat_tests}
use Rattle.vme_model.specs.declared.boards.Row.{Row}
use Rattle.vme_model.specs.declared.boards.RequesterRow.{RequesterRow}
use Rattle.vme_model.specs.declared.sets.BusLevels.{BusLevels}
use Rattle.vme_model.specs.declared.signals.Version.{Version}
use Rattle.vme_model.specs.declared.signals.Cycle.{Cycle}
use Rattle.vme_model.specs.declared.signals.Driver.{Driver}
use Rattle.vme_model.specs.declared.signals.Driver.TheVariants.{Controller, Slot}
use Rattle.vme_model.specs.declared.signals.Wire.{Wire}
use Rattle.vme_model.specs.declared.signals.Wire.TheVariants.{Bg, BgOut, Bbsy}
use Rattle.vme_model.specs.declared.signals.Edge.{Edge}
use Rattle.vme_model.specs.Signals.{is_two}
use Rattle.vme_model.specs.Plan.{Plan, board, board_of}
use Rattle.vme_model.specs.Accepted.{IsAccepted}
use Rattle.vme_model.specs.History.{drive, last_level as last_granted, line, segment}
use Rattle.vme_model.specs.Verdict.{IsLegal}
use Rattle.vme_model.proofs.AllowedEdges.{all_passed}
use Rattle.vme_model.proofs.Ranges.{in_range}
use Rattle.vme_model.proofs.Members.{line_low}
use Rattle.vme_histories.proofs.AllowedBoards.{at, at_head, own_after, stands}
use Rattle.vme_bus.specs.declared.sets.SlotSet.{SlotSet}
use Rattle.vme_captures.specs.declared.signals.Line.TheVariants as on_line
use Rattle.vme_captures.specs.declared.signals.Pin.{Pin}
use Rattle.vme_captures.specs.Changes.{line_of, seen, segment_of}
use Rattle.vme_standings.specs.declared.phases.GrantPhase.{GrantPhase}
use Rattle.vme_standings.specs.declared.phases.GrantPhase.TheVariants.{Idle, Granting, Held, Expired}
use Rattle.vme_standings.specs.declared.phases.GrantPhases.{GrantPhases}
use Rattle.vme_standings.specs.Cuts.{last_level}
use Rattle.vme_standings.specs.GrantChains.{end_place, is_follower, is_of_level, place_before, requester_at}
use Rattle.vme_standings.specs.Grants.{is_picked}
use Rattle.vme_standings.specs.LowSegments.{is_segment}
use Rattle.vme_standings.specs.Phases.{has_phase}
use Rattle.vme_standings.specs.Unseen.{has_row_for, is_unseen, leads}
use Rattle.vme_standings.specs.InPhase.{AreAsked, CoversGrants, HasProbes, HasUnseen, InPhase, grant_segment, is_place_low}
use Rattle.vme_standings.proofs.Tests.{both, never}
use Rattle.vme_standings.proofs.SeenLines.{line_stays}
use Rattle.vme_standings.proofs.SeenEdges.{unprobed_moved}
use Rattle.vme_standings.proofs.GrantPlaces.{board_segment, from_one, has_requester, near}
use Rattle.vme_standings.proofs.GrantSegments.{output_is, place_segment}
use Rattle.vme_standings.proofs.PhaseSteps.{Moves, board_moves, equal, few_some, head_moves, is_upto, last_few, other_in}
use Rattle.vme_standings.proofs.GrantEdges.{give_level, give_to, is_few, take_from, take_level}
use Rattle.vme_standings.proofs.GrantTurns.{AllRun, GoneBack, KeptBy, RunOn, Turns, back_few, back_turns, free_high, grant_few, grant_from, grant_picked, grant_to, pass_before_end, pass_from, pass_level, pass_to, rise_level, rise_turns}

pub near_row : (a : ℕ) → a < 22 → nat_lt a 22 ≡ true
near_row a l = grind (arith, nat_tests)

-- a holder is in a slot of a backplane
pub holder_near : (p : Plan) → IsAccepted p → (h : List Edge) (k first : ℕ) → last_level p (Held k first) ≡ Some (last_granted h) → k < 22
holder_near p ok h k first e = by_board (board p k) refl e
  where
    by_board : (o : Option Row) → board p k ≡ o → option_map (λ (q : RequesterRow). q.level) (option_and_then (λ (r : Row). r.requester) o) ≡ Some (last_granted h) → k < 22
    by_board None at x = absurd (cc)
    by_board (Some r) at x = (stands p k r ok at).near

-- a set has a row for the phase in which a bus is
row_of : (version : Version) (p : Plan) → IsAccepted p → (h : List Edge) → IsLegal version p h → (q : GrantPhase) → InPhase p h q → has_row_for q ≡ true
row_of version p ok h legal (Idle c) i = is_few c (few_some c (last_granted h) i.granted (last_few version p h legal))
row_of version p ok h legal (Granting c last) i = is_few c (few_some c (last_granted h) i.granted (last_few version p h legal))
row_of version p ok h legal (Held k first) i = near_row k (holder_near p ok h k first i.granted)
row_of version p ok h legal (Expired c first) i = is_few c (few_some c (last_granted h) i.granted (last_few version p h legal))

pub moves_cover : (version : Version) (p : Plan) → IsAccepted p → (h : List Edge) → IsLegal version p h → (old new : GrantPhases)
    → ((q : GrantPhase) → has_row_for q ≡ true → has_phase old q ≡ true → has_phase new q ≡ true) → CoversGrants p h old → CoversGrants p h new
moves_cover version p ok h legal old new kept covers = record {
  phase = covers.phase;
  is_in = covers.is_in;
  member = kept covers.phase (row_of version p ok h legal covers.phase covers.is_in) covers.member;
}

module _ (version : Version) (p : Plan) (ok : IsAccepted p) (pins : List Pin) (h : List Edge) (requests : BusLevels) (probed : List SlotSet) (set : GrantPhases)
    (asked : AreAsked p h requests) (probes : HasProbes p pins probed) (closed : HasUnseen version p requests probed set) (covers : CoversGrants p h set) where
  -- a segment that moves unseen has no probe
  module _ (e : Edge) (m x : ℕ) (few : m < 4) (seg : is_segment p m x ≡ true) (fall : Bool) (moves : Moves p h e m x fall) (was : is_place_low h m x ≡ not fall)
      (no_line : line_of e.wire (board_of p e.driver) ≡ None) (moved : segment_of e.wire (board_of p e.driver) ≡ Some (grant_segment m x)) (none : seen p pins h e ≡ None) where
    is_free : is_unseen probed m x ≡ true
    is_free = probes m x few seg (unprobed_moved p pins h e (grant_segment m x) no_line moved other none)
      where
        turned : (a b : ℕ) (fall l l' : Bool) → l ≡ not fall → l' ≡ (if (a == a && b == b) then fall else l) → l ≡ l' → ⊥
        turned a b fall l l' e f same = by_way fall l l' e (f ∙ own a b fall l) same
          where
            own : (a b : ℕ) (fall l : Bool) → (if (a == a && b == b) then fall else l) ≡ fall
            own a b fall l = grind (arith, nat_tests)

            by_way : (fall l l' : Bool) → l ≡ not fall → l' ≡ fall → l ≡ l' → ⊥
            by_way true l l' e f same = cc
            by_way false l l' e f same = cc

        other : segment h (grant_segment m x).chain (grant_segment m x).place ≡ segment (e ∷ h) (grant_segment m x).chain (grant_segment m x).place → ⊥
        other same =
            turned m x fall (is_place_low h m x) (is_place_low (e ∷ h) m x) was (moves.low m x seg)
            (sym (place_segment p h m x few) ∙ (same ∙ place_segment p (e ∷ h) m x few))

  -- what a phase leads to is in the set
  leads_on : (q r : GrantPhase) → has_row_for q ≡ true → leads p version requests probed q r ≡ true → covers.phase ≡ q → has_phase set r ≡ true
  leads_on q r row l same = closed q r row l (subst (λ x. has_phase set x ≡ true) same covers.member)

  turn_covers : (e : Edge) (m x : ℕ) → m < 4 → is_unseen probed m x ≡ true → Turns version p h e m x covers.phase → CoversGrants p (e ∷ h) set
  turn_covers e m x few free (KeptBy k f member l to follows same i) = record {
    phase = Held k f;
    is_in = i;
    member = leads_on (Held k x) (Held k f) (near_row k (near p ok m k member)) (both (k == k && nat_le f k) _ (both (k == k) (nat_le f k) (equal k k refl) (is_upto f k to)) on_chain) same;
  }
    where
      on_chain : option_map_or (λ (q : RequesterRow). is_follower p q.level x f && is_unseen probed q.level x) (requester_at p k) false ≡ true
      on_chain =
          let r = has_requester p m k member in
          ap (λ (o : Option RequesterRow). option_map_or (λ (q : RequesterRow). is_follower p q.level x f && is_unseen probed q.level x) o false) r.found
          ∙ subst (λ n. (is_follower p n x f && is_unseen probed n x) ≡ true) (sym r.level) (both (is_follower p m x f) (is_unseen probed m x) follows free)
  turn_covers e m x few free (RunOn f two from follows same i) = record {
    phase = Expired m f;
    is_in = i;
    member =
        leads_on (Expired m x) (Expired m f) (is_few m few)
        (both (m == m && is_follower p m x f) (is_two version && is_unseen probed m x) (both (m == m) (is_follower p m x f) (equal m m refl) follows)
        (both (is_two version) (is_unseen probed m x) two free)) same;
  }
  turn_covers e m x few free (AllRun two from end same i) = record {
    phase = Idle m;
    is_in = i;
    member =
        leads_on (Expired m x) (Idle m) (is_few m few)
        (both (m == m) _ (equal m m refl) (both (is_two version) _ two (both (is_unseen probed m x) (x == end_place p m) free (equal x (end_place p m) end)))) same;
  }
  turn_covers e m x few free (GoneBack f two first follows same i) = record {
    phase = Expired m f;
    is_in = i;
    member =
        leads_on (Granting m (end_place p m)) (Expired m f) (is_few m few)
        (both (m == m && is_follower p m 0 f) _ (both (m == m) (is_follower p m 0 f) (equal m m refl) follows)
        (both (is_two version) _ two (both (is_unseen probed m 0) (end_place p m == end_place p m) (subst (λ y. is_unseen probed m y ≡ true) first free)
        (equal (end_place p m) (end_place p m) refl)))) same;
  }

  abbrev Unseen : Edge → Type 0
  Unseen e = IsLegal version p (e ∷ h) → seen p pins h e ≡ None → CoversGrants p (e ∷ h) set

  unseen_grant : (n : ℕ) (v : Option Cycle) → Unseen (at_head (Bg n) true v)
  unseen_grant n v legal none =
      let few = grant_few version p ok h n v legal in
      let same = grant_from version p ok h n v legal covers.phase covers.is_in in
      let passed = all_passed version p h Controller (Bg n) true v legal.0 in
      let free = is_free (at_head (Bg n) true v) n 0 few refl true (head_moves p h n true v) passed.before refl refl none in
      record {
        phase = Granting n 0;
        is_in = grant_to version p ok h n v legal covers.phase covers.is_in;
        member =
            leads_on (Idle (last_granted h)) (Granting n 0) (is_few (last_granted h) (last_few version p h legal.1))
            (both (is_unseen probed n 0) (0 == 0 && is_picked p requests (last_granted h) n) free (grant_picked version p ok h n v legal requests asked)) same;
      }

  unseen_back : (n : ℕ) (v : Option Cycle) → Unseen (at_head (Bg n) false v)
  unseen_back n v legal none =
      let few = back_few version p ok h n v legal in
      let passed = all_passed version p h Controller (Bg n) false v legal.0 in
      turn_covers (at_head (Bg n) false v) n 0 few
      (is_free (at_head (Bg n) false v) n 0 few refl false (head_moves p h n false v) passed.before refl refl none)
      (back_turns version p ok h n v legal covers.phase covers.is_in)

  -- the segment of a board before an edge of it
  own_low : (s : ℕ) → 0 < s → (m : ℕ) → is_place_low h m s ≡ drive h (Slot s) BgOut
  own_low zero from m = absurd (omega arith)
  own_low (suc s) from m = refl

  unseen_pass : (s : ℕ) (v : Option Cycle) → Unseen (at s BgOut true v)
  unseen_pass s v legal none =
      let l = pass_level version p ok h s v legal in
      let passed = all_passed version p h (Slot s) BgOut true v legal.0 in
      let from = from_one p ok l.level s l.member in
      let own = board_segment p l.level s l.member in
      let free = is_free (at s BgOut true v) l.level s l.in_range own true (board_moves p ok h l.level s true v l.member) (own_low s from l.level ∙ passed.before) refl
      (output_is p ok l.level s l.member) none in
      record {
        phase = Granting l.level s;
        is_in = pass_to version p ok h s v legal covers.phase covers.is_in;
        member =
            leads_on (Granting l.level (place_before p l.level s)) (Granting l.level s) (is_few l.level l.in_range)
            (both (l.level == l.level && is_follower p l.level (place_before p l.level s) s) _
            (both (l.level == l.level) (is_follower p l.level (place_before p l.level s) s) (equal l.level l.level refl)
            (both (is_of_level p l.level s) (place_before p l.level s == place_before p l.level s) l.member (equal (place_before p l.level s) (place_before p l.level s) refl)))
            (both (is_two version || not (s == end_place p l.level)) (is_unseen probed l.level s) (pass_before_end version p ok h s v legal covers.phase covers.is_in) free))
            (pass_from version p ok h s v legal covers.phase covers.is_in);
      }

  unseen_rise : (s : ℕ) (v : Option Cycle) → Unseen (at s BgOut false v)
  unseen_rise s v legal none =
      let l = rise_level version p ok h s v legal in
      let passed = all_passed version p h (Slot s) BgOut false v legal.0 in
      let from = from_one p ok l.level s l.member in
      turn_covers (at s BgOut false v) l.level s l.in_range
      (is_free (at s BgOut false v) l.level s l.in_range (board_segment p l.level s l.member) false (board_moves p ok h l.level s false v l.member) (own_low s from l.level ∙ passed.before) refl
      (output_is p ok l.level s l.member) none)
      (rise_turns version p ok h s v legal covers.phase covers.is_in)

  -- BBSY* is never moved unseen
  unseen_take : (s : ℕ) (v : Option Cycle) → Unseen (at s Bbsy true v)
  unseen_take s v legal none =
      let l = take_level version p ok h s v legal in
      let was = subst (InPhase p h) (take_from version p ok h s v legal covers.phase covers.is_in) covers.is_in in
      let high = free_high version p ok h legal.1 (λ t. was.held t) in
      let low = line_low p (in_range p ok) (at s Bbsy true v ∷ h) l.level s l.member (own_after h s s Bbsy true v refl) in
      absurd (never (line p h Bbsy) (sym (line_stays p pins h (at s Bbsy true v) on_line.Bbsy refl none) ∙ low) high)

  unseen_give : (s : ℕ) (v : Option Cycle) → Unseen (at s Bbsy false v)
  unseen_give s v legal none =
      let l = give_level version p ok h s v legal in
      let now = give_to version p ok h s v legal covers.phase covers.is_in in
      let high = free_high version p ok (at s Bbsy false v ∷ h) legal (λ t. now.held t) in
      let passed = all_passed version p h (Slot s) Bbsy false v legal.0 in
      let low = line_low p (in_range p ok) h l.level s l.member passed.before in
      absurd (never (line p h Bbsy) low (sym (line_stays p pins h (at s Bbsy false v) on_line.Bbsy refl none) ∙ high))

  by_edge : (d : Driver) (w : Wire) (fall : Bool) (v : Option Cycle) → Unseen (record { driver = d; wire = w; fall = fall; value = v })
  by_edge Controller (Bg n) true v legal none = unseen_grant n v legal none
  by_edge Controller (Bg n) false v legal none = unseen_back n v legal none
  by_edge (Slot s) (Bg n) fall v legal none = absurd (cc (all_passed version p h (Slot s) (Bg n) fall v legal.0).wire)
  by_edge (Slot s) BgOut true v legal none = unseen_pass s v legal none
  by_edge (Slot s) BgOut false v legal none = unseen_rise s v legal none
  by_edge Controller BgOut fall v legal none = absurd (cc (all_passed version p h Controller BgOut fall v legal.0).wire)
  by_edge (Slot s) Bbsy true v legal none = unseen_take s v legal none
  by_edge (Slot s) Bbsy false v legal none = unseen_give s v legal none
  by_edge Controller Bbsy fall v legal none = absurd (cc (all_passed version p h Controller Bbsy fall v legal.0).wire)
  by_edge d w fall v legal none = record {
    phase = covers.phase;
    is_in = other_in p h covers.phase d w fall v (λ n is. absurd (cc)) (λ is. absurd (cc)) (λ is. absurd (cc)) covers.is_in;
    member = covers.member;
  }

  pub unseen_covers : (e : Edge) → Unseen e
  unseen_covers e = by_edge e.driver e.wire e.fall e.value
