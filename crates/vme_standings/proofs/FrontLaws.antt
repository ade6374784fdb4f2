-- The laws of how far an acknowledge has come on its chain.
use Rattle.std.proofs.Common.{◌≡◌, ◌⊎◌, ◌∙◌, refl, sym, ap, subst, ℕ, Bool, true, false, List, [], ◌∷◌, ◌<◌, ◌≤◌, arith, inl, inr, ⊎_elim}
use Rattle.std.specs.Prelude.{◌==◌, ◌&&◌, not, is_some, option_map, Option, Some, None}
use Rattle.std.specs.Option.{option_map_or}
use Rattle.std.proofs.lemmas.Bool.{cases_lt}
use Rattle.std.proofs.lemmas.Bool.Decides.{nat_tests}
use Rattle.vme_model.specs.declared.boards.Row.{Row}
use Rattle.vme_model.specs.declared.boards.InterrupterRow.{InterrupterRow}
use Rattle.vme_model.specs.declared.sets.ChainId.TheVariants as chain
use Rattle.vme_model.specs.declared.signals.Version.{Version}
use Rattle.vme_model.specs.declared.signals.Cycle.{Cycle}
use Rattle.vme_model.specs.declared.signals.Cycle.TheVariants.{Acknowledge, Access}
use Rattle.vme_model.specs.declared.signals.Driver.{Driver}
use Rattle.vme_model.specs.declared.signals.Driver.TheVariants.{Controller, Slot}
use Rattle.vme_model.specs.declared.signals.Wire.{Wire}
use Rattle.vme_model.specs.declared.signals.Wire.TheVariants.{Iack, Berr, AddressStrobe, DataStrobe, IackOut, Dtack}
use Rattle.vme_model.specs.declared.signals.Edge.{Edge}
use Rattle.vme_model.specs.Signals.{is_acknowledge}
use Rattle.vme_model.specs.Plan.{Plan, board, upstream}
use Rattle.vme_model.specs.Accepted.{IsAccepted}
use Rattle.vme_model.specs.History.{drive, input, line, segment, shown, is_past_end}
use Rattle.vme_model.specs.Guards.{holds}
use Rattle.vme_model.specs.Readings.{readings, iack_in, is_pending}
use Rattle.vme_model.specs.Rules.{answer_guard, pass_guard}
use Rattle.vme_model.specs.Settling.{is_chain_clear, is_unanswerable}
use Rattle.vme_model.specs.Verdict.{IsLegal}
use Rattle.vme_model.proofs.Bools.{and_left, and_right, is_false, not_true}
use Rattle.vme_model.proofs.AllowedEdges.{Passed, all_passed}
use Rattle.vme_model.proofs.Ranges.{in_range}
use Rattle.vme_model.proofs.Cycles.{Going, going_of, line_from, chain_asks, chain_member, cycle_wires, interrupts, masters, has_board}
use Rattle.vme_model.proofs.CyclePhases.{Quiet, Fresh, Asking, Done, CanAnswer, Justified, iack_before}
use Rattle.vme_histories.proofs.AllowedBoards.{at, at_head, own_after, stands}
use Rattle.vme_bus.specs.declared.sets.SlotSet.{SlotSet}
use Rattle.vme_bus.specs.Sets.{has}
use Rattle.vme_captures.specs.declared.signals.Line.TheVariants as on_line
use Rattle.vme_captures.specs.declared.signals.Pin.{Pin}
use Rattle.vme_captures.specs.declared.signals.Segment.{Segment}
use Rattle.vme_captures.specs.Changes.{seen}
use Rattle.vme_standings.specs.declared.fronts.Fronts.{Fronts}
use Rattle.vme_standings.specs.declared.interrupters.Interrupters.TheVariants.{All}
use Rattle.vme_standings.specs.declared.requests.Requests.{Requests}
use Rattle.vme_standings.specs.Interrupters.{is_meant, is_meant_at, is_such}
use Rattle.vme_standings.specs.RequestSets.{may_be}
use Rattle.vme_standings.specs.Requests.{is_interrupter, CoversRequests}
use Rattle.vme_standings.specs.Fronts.{input_place, is_reached, MovesFronts}
use Rattle.vme_standings.specs.FrontCovers.{HasComeTo, CoversFronts, IsUnderWay, PassesOn, IsUnprobed, HasHiddenFronts, HasUnprobed, HasPassing, last_place}
use Rattle.vme_standings.proofs.Tests.{never, both, or_left, or_true}
use Rattle.vme_standings.proofs.WhoDrives.{line_shows}
use Rattle.vme_standings.proofs.RequestLaws.{interrupter_in}
use Rattle.vme_standings.proofs.RequestSteps.{interrupts as interrupts_of}
use Rattle.vme_standings.proofs.RequestPasses.{can_pass}
use Rattle.vme_standings.proofs.SeenLines.{line_stays}
use Rattle.vme_standings.proofs.SeenEdges.{unprobed}
use Rattle.vme_standings.proofs.FrontSteps.{StandsBehind, input_high, end_high, begins, stands_behind, comes_on, at_end}

-- the acknowledge has not begun, and may not have; or it has come to a place at which it may end
abbrev Waits : Plan → List Edge → Fronts → Type 0
Waits p h f = (is_chain_clear p h chain.Iack ≡ true) × (f.waiting ≡ true)

abbrev HasCome : Plan → List Edge → Fronts → Type 0
HasCome p h f = (place : ℕ) × HasComeTo p h place × (has f.ends place ≡ true)

-- the hidden moves keep what was covered, and are in the set then
module _ (p : Plan) (ok : IsAccepted p) (h : List Edge) (unseen passing : SlotSet) (old new : Fronts) (m : MovesFronts p unseen passing old new) where
  kept : (place : ℕ) → (place ≡ 0) ⊎ (is_interrupter p place ≡ true) → has old.ends place ≡ true → has new.ends place ≡ true
  kept place (inl zero) on =
      subst (λ x. has new.ends x ≡ true) (sym zero) (m.head ∙ or_left (has old.ends 0) _ (subst (λ x. has old.ends x ≡ true) zero on))
  kept place (inr some) on = let i = interrupter_in p ok place some in m.others place i.from i.near ∙ or_left (has old.ends place) _ on

  pub hidden_covers : CoversFronts p h old → CoversFronts p h new
  hidden_covers covers low = ⊎_elim
      (λ (w : Waits p h old). inl (w.0, m.waiting ∙ w.1))
      (λ (c : HasCome p h old). inr (c.0, c.1, kept c.0 c.1.exists c.2))
      (covers low)

  pub hidden_has : (pins : List Pin) (n : ℕ) (d : Requests) → shown p h ≡ Some (Acknowledge n) → HasUnprobed p pins unseen → HasPassing p h n d passing → HasHiddenFronts p pins h d new
  hidden_has pins n d shows free pass = record {
    begins = λ k u none waits. m.head ∙ or_true (has old.ends 0) _ (both _ _ (sym m.waiting ∙ waits) (free.controller none));
    passes = λ k s u some none may reached.
        let i = interrupter_in p ok s some in
        let same : k ≡ n = same_level k n (sym u.shows ∙ shows) in
        m.others s i.from i.near
        ∙ or_true (has old.ends s) _ (both _ _ (both _ _ (free.boards s some none) (pass s some (subst (λ x. PassesOn p h x d s) same may))) reached);
  }
    where
      same_level : (a b : ℕ) → Some (Acknowledge a) ≡ Some (Acknowledge b) → a ≡ b
      same_level a b e = cc

-- while AS* is high nothing is said
pub high_covers : (p : Plan) (h : List Edge) (new : Fronts) → line p h AddressStrobe ≡ false → CoversFronts p h new
high_covers p h new high low = absurd (never (line p h AddressStrobe) low high)

pub beginning_covers : (p : Plan) (new : Fronts) → IsAccepted p → CoversFronts p [] new
beginning_covers p new ok low = absurd (never false (line_from p (in_range p ok) [] AddressStrobe low).1 refl)

-- a board with an interrupter has one of any
pub any_meant : (p : Plan) (s : ℕ) → is_interrupter p s ≡ true → is_meant_at All p s ≡ true
any_meant p s on = by_board (board p s) on
  where
    by_interrupter : (o : Option InterrupterRow) → is_some o ≡ true → option_map_or (is_such All) o false ≡ true
    by_interrupter None e = absurd (cc)
    by_interrupter (Some i) e = refl

    by_board : (o : Option Row) → option_map_or (λ (r : Row). is_some r.interrupter) o false ≡ true → option_map_or (is_meant All) o false ≡ true
    by_board None e = absurd (cc)
    by_board (Some r) e = by_interrupter r.interrupter e

-- an acknowledge is shown
level_of : (v : Option Cycle) → is_acknowledge v ≡ true → (n : ℕ) × (v ≡ Some (Acknowledge n))
level_of None e = absurd (cc)
level_of (Some (Acknowledge n)) e = (n, refl)
level_of (Some (Access s)) e = absurd (cc)

module _ (version : Version) (p : Plan) (ok : IsAccepted p) where
  going : (h : List Edge) → IsLegal version p h → Going p h
  going h legal = going_of version p (in_range p ok) h legal

  -- a low DS* is low by some board
  no_strobe : (h : List Edge) → line p h DataStrobe ≡ true → ((s : ℕ) → drive h (Slot s) DataStrobe ≡ false) → ⊥
  no_strobe h low high = let w = line_from p (in_range p ok) h DataStrobe low in never (drive h (Slot w.0) DataStrobe) w.1 (high w.0)

  -- while DS* is low AS* is
  pub strobe_low : (h : List Edge) → IsLegal version p h → line p h DataStrobe ≡ true → line p h AddressStrobe ≡ true
  strobe_low h legal low = by_phase (going h legal)
    where
      by_phase : Going p h → line p h AddressStrobe ≡ true
      by_phase (Quiet, i) = absurd (no_strobe h low i.dstrobe_high)
      by_phase (Fresh s, i) = absurd (no_strobe h low i.dstrobe_high)
      by_phase (Done s, i) = absurd (no_strobe h low i.dstrobe_high)
      by_phase (Asking s g hi, i) = line_shows version p ok h legal s AddressStrobe i.opened.strobe_low

  -- the input of a board that reads it low
  low_input : (h : List Edge) (s : ℕ) → iack_in p h (Slot s) ≡ true → input p h chain.Iack s ≡ true
  low_input h s low = by_upstream (upstream p chain.Iack s) (chain_asks p (in_range p ok) h s low)
    where
      by_upstream : (o : Option ℕ) → iack_before (cycle_wires p h) o ≡ true → segment h chain.Iack o ≡ true
      by_upstream None e = e
      by_upstream (Some t) e = e

  module _ (h : List Edge) (f : Fronts) (covers : CoversFronts p h f) (low : line p h AddressStrobe ≡ true) where
    -- the controller's segment is high only if it may be waiting
    waits : drive h Controller Iack ≡ false → Waits p h f
    waits high = by_cover (covers low)
      where
        by_cover : Waits p h f ⊎ HasCome p h f → Waits p h f
        by_cover (inl w) = w
        by_cover (inr c) = absurd (never (drive h Controller Iack) c.1.begun high)

    -- a low input is at a place at which it may end
    pub record Reaches (s : ℕ) : Type 0 where
      pub place : ℕ
      pub come : HasComeTo p h place
      pub behind : StandsBehind p place s
      pub ends : has f.ends (input_place p s) ≡ true

    reaches : (s : ℕ) → is_interrupter p s ≡ true → drive h (Slot s) IackOut ≡ false → input p h chain.Iack s ≡ true → Reaches s
    reaches s on high reads = by_cover (covers low)
      where
        by_cover : Waits p h f ⊎ HasCome p h f → Reaches s
        by_cover (inl w) = absurd (input_high p ok h w.0 s reads)
        by_cover (inr c) =
            let b = stands_behind p ok h c.0 c.1 s on high reads in
            record { place = c.0; come = c.1; behind = b; ends = subst (λ x. has f.ends x ≡ true) (sym b.input) c.2 }

    -- past the last board it may end there
    pub ends_there : is_past_end p h chain.Iack ≡ true → has f.ends (last_place p) ≡ true
    ends_there past = by_cover (covers low)
      where
        by_cover : Waits p h f ⊎ HasCome p h f → has f.ends (last_place p) ≡ true
        by_cover (inl w) = absurd (end_high p ok h w.0 past)
        by_cover (inr c) = subst (λ x. has f.ends x ≡ true) (sym (at_end p ok h c.0 c.1 past)) c.2

  -- the controller begins
  module _ (h : List Edge) (v : Option Cycle) (legal : IsLegal version p (at_head Iack true v ∷ h)) where
    abbrev head_passed : Passed version p h Controller Iack true v
    head_passed = all_passed version p h Controller Iack true v legal.0

    abbrev strobes : (line p h AddressStrobe && line p h DataStrobe) ≡ true
    strobes = and_left (line p h AddressStrobe && line p h DataStrobe) (is_acknowledge (shown p h)) head_passed.rule

    abbrev head_strobed : line p h DataStrobe ≡ true
    head_strobed = and_right (line p h AddressStrobe) (line p h DataStrobe) strobes

    pub head_asked : (n : ℕ) × IsUnderWay p h n
    head_asked =
        let l = level_of (shown p h) (and_right (line p h AddressStrobe && line p h DataStrobe) (is_acknowledge (shown p h)) head_passed.rule) in
        (l.0, record { shows = l.1; strobed = head_strobed; unanswered = is_false (line p h Dtack) (nobody l.0 l.1 (going h legal.1)) })
      where
        -- who answers an acknowledge has a low segment of the controller's before it
        cannot : (g : Bool) (hi n t : ℕ) (sh : Option Cycle) → sh ≡ Some (Acknowledge n) → g ≡ false → CanAnswer (interrupts p) (masters p) (has_board p) p.slots sh g hi t → ⊥
        cannot g hi n t None e off c = c
        cannot g hi n t (Some (Acknowledge k)) e off c = never g c.1 off
        cannot g hi n t (Some (Access x)) e off c = absurd (cc)

        nobody : (n : ℕ) → shown p h ≡ Some (Acknowledge n) → Going p h → line p h Dtack ≡ true → ⊥
        nobody n sh (Quiet, i) low = no_strobe h head_strobed i.dstrobe_high
        nobody n sh (Fresh s, i) low = no_strobe h head_strobed i.dstrobe_high
        nobody n sh (Done s, i) low = no_strobe h head_strobed i.dstrobe_high
        nobody n sh (Asking s g hi, i) low =
            let w = line_from p (in_range p ok) h Dtack low in
            cannot g hi n w.0 (shown p h) sh (sym i.iack_is ∙ head_passed.before)
            (subst (Justified (interrupts p) (masters p) (has_board p) p.slots (shown p h) g hi) (i.answers.dtack_by w.0 w.1) i.justified)

    module _ (old : Fronts) (covers : CoversFronts p h old) where
      abbrev was : Waits p h old
      was = waits h old covers (and_left (line p h AddressStrobe) (line p h DataStrobe) strobes) head_passed.before

      pub head_waits : old.waiting ≡ true
      head_waits = was.1

      pub head_covers : (new : Fronts) → has new.ends 0 ≡ true → CoversFronts p (at_head Iack true v ∷ h) new
      head_covers new ends low = inr (0, begins p ok h was.0 v, ends)

  -- a board passes the acknowledge on
  module _ (h : List Edge) (s : ℕ) (v : Option Cycle) (legal : IsLegal version p (at s IackOut true v ∷ h)) where
    abbrev pass_passed : Passed version p h (Slot s) IackOut true v
    pass_passed = all_passed version p h (Slot s) IackOut true v legal.0

    abbrev passing : Bool
    passing = holds (pass_guard (readings p h (Slot s)) (shown p h))

    abbrev tests : ((iack_in p h (Slot s) && not (drive h (Slot s) Dtack)) && line p h DataStrobe) ≡ true
    tests = and_left ((iack_in p h (Slot s) && not (drive h (Slot s) Dtack)) && line p h DataStrobe) passing pass_passed.rule

    abbrev reads_low : iack_in p h (Slot s) ≡ true
    reads_low = and_left (iack_in p h (Slot s)) (not (drive h (Slot s) Dtack)) (and_left (iack_in p h (Slot s) && not (drive h (Slot s) Dtack)) (line p h DataStrobe) tests)

    abbrev strobed : line p h DataStrobe ≡ true
    strobed = and_right (iack_in p h (Slot s) && not (drive h (Slot s) Dtack)) (line p h DataStrobe) tests

    pub pass_on : is_interrupter p s ≡ true
    pass_on = chain_member p (in_range p ok) h s reads_low

    pub pass_asked : (n : ℕ) × IsUnderWay p h n
    pass_asked =
        let l = level (shown p h) (and_right ((iack_in p h (Slot s) && not (drive h (Slot s) Dtack)) && line p h DataStrobe) passing pass_passed.rule) in
        (l.0, record { shows = l.1; strobed = strobed; unanswered = is_false (line p h Dtack) (nobody l.0 l.1 (going h legal.1) (going (at s IackOut true v ∷ h) legal)) })
      where
        level : (sh : Option Cycle) → holds (pass_guard (readings p h (Slot s)) sh) ≡ true → (n : ℕ) × (sh ≡ Some (Acknowledge n))
        level None e = absurd (cc)
        level (Some (Acknowledge n)) e = (n, refl)
        level (Some (Access x)) e = absurd (cc)

        -- who answers stands at the end of the low segments, before and behind the edge
        cannot : (g g' : Bool) (hi hi' n t : ℕ) (sh : Option Cycle) → sh ≡ Some (Acknowledge n) → hi ≤ s → s < hi'
            → CanAnswer (interrupts p) (masters p) (has_board p) p.slots sh g hi t → CanAnswer (interrupts p) (masters p) (has_board p) p.slots sh g' hi' t → ⊥
        cannot g g' hi hi' n t None e above below a b = a
        cannot g g' hi hi' n t (Some (Acknowledge k)) e above below a b =
            let up : hi' ≤ t = b.2 in
            let less : s < t = omega arith in
            let near : s < hi = a.3 s pass_on less in
            omega arith
        cannot g g' hi hi' n t (Some (Access x)) e above below a b = absurd (cc)

        above_it : (hi : ℕ) → ((t : ℕ) → interrupts p t ≡ true → t < hi → drive h (Slot t) IackOut ≡ true) → hi ≤ s
        above_it hi each = ⊎_elim (λ (l : s < hi). absurd (never (drive h (Slot s) IackOut) (each s pass_on l) pass_passed.before)) (λ (l : hi ≤ s). l) (cases_lt s hi)

        own_low : drive (at s IackOut true v ∷ h) (Slot s) IackOut ≡ true
        own_low = own_after h s s IackOut true v refl

        nobody : (n : ℕ) → shown p h ≡ Some (Acknowledge n) → Going p h → Going p (at s IackOut true v ∷ h) → line p h Dtack ≡ true → ⊥
        nobody n sh (Quiet, i) j low = no_strobe h strobed i.dstrobe_high
        nobody n sh (Fresh t, i) j low = no_strobe h strobed i.dstrobe_high
        nobody n sh (Done t, i) j low = no_strobe h strobed i.dstrobe_high
        nobody n sh (Asking t g hi, i) (Quiet, j) low = no_strobe h strobed j.dstrobe_high
        nobody n sh (Asking t g hi, i) (Fresh u, j) low = no_strobe h strobed j.dstrobe_high
        nobody n sh (Asking t g hi, i) (Done u, j) low = no_strobe h strobed j.dstrobe_high
        nobody n sh (Asking t g hi, i) (Asking u g' hi', j) low =
            let w = line_from p (in_range p ok) h Dtack low in
            cannot g g' hi hi' n w.0 (shown p h) sh (above_it hi i.iout_each) (j.iout_below s pass_on own_low)
            (subst (Justified (interrupts p) (masters p) (has_board p) p.slots (shown p h) g hi) (i.answers.dtack_by w.0 w.1) i.justified)
            (subst (Justified (interrupts p) (masters p) (has_board p) p.slots (shown p h) g' hi') (j.answers.dtack_by w.0 w.1) j.justified)

    module _ (old : Fronts) (covers : CoversFronts p h old) where
      pub pass_reaches : Reaches h old covers (strobe_low h legal.1 strobed) s
      pass_reaches = reaches h old covers (strobe_low h legal.1 strobed) s pass_on pass_passed.before (low_input h s reads_low)

      pub pass_covers : (new : Fronts) → has new.ends s ≡ true → CoversFronts p (at s IackOut true v ∷ h) new
      pass_covers new ends low = inr (s, comes_on p ok h pass_reaches.place pass_reaches.come s v pass_on pass_reaches.behind, ends)

  -- an edge of no other wire than these moves the chain or AS*
  pub other_covers : (h : List Edge) (f : Fronts) → CoversFronts p h f → (d : Driver) (w : Wire) (fall : Bool) (v : Option Cycle)
      → (w ≡ AddressStrobe → ⊥) → (w ≡ Iack → ⊥) → (w ≡ IackOut → ⊥) → CoversFronts p (record { driver = d; wire = w; fall = fall; value = v } ∷ h) f
  other_covers h f covers d AddressStrobe fall v a b c = absurd (a refl)
  other_covers h f covers d Iack fall v a b c = absurd (b refl)
  other_covers h f covers d IackOut fall v a b c = absurd (c refl)
  other_covers h f covers d w fall v a b c = λ low. ⊎_elim
      (λ (x : Waits p h f). inl x)
      (λ (x : HasCome p h f). inr (x.0, record { exists = x.1.exists; begun = x.1.begun; passed = x.1.passed }, x.2))
      (covers low)

  -- a board answers an acknowledge
  module _ (h : List Edge) (s : ℕ) (v : Option Cycle) (legal : IsLegal version p (at s Dtack true v ∷ h)) (n : ℕ) (shows : shown p h ≡ Some (Acknowledge n)) (old : Fronts)
      (covers : CoversFronts p h old) where
    abbrev answer_passed : Passed version p h (Slot s) Dtack true v
    answer_passed = all_passed version p h (Slot s) Dtack true v legal.0

    abbrev answering : ((iack_in p h (Slot s) && not (drive h (Slot s) IackOut)) && is_pending (readings p h (Slot s)) n) ≡ true
    answering =
        subst (λ c. holds (answer_guard (readings p h (Slot s)) c) ≡ true) shows
        (and_right (line p h DataStrobe && line p h AddressStrobe) (holds (answer_guard (readings p h (Slot s)) (shown p h))) answer_passed.rule)

    abbrev chain_tests : (iack_in p h (Slot s) && not (drive h (Slot s) IackOut)) ≡ true
    chain_tests = and_left (iack_in p h (Slot s) && not (drive h (Slot s) IackOut)) (is_pending (readings p h (Slot s)) n) answering

    abbrev answer_reads : iack_in p h (Slot s) ≡ true
    answer_reads = and_left (iack_in p h (Slot s)) (not (drive h (Slot s) IackOut)) chain_tests

    abbrev answer_low : line p h AddressStrobe ≡ true
    answer_low = and_right (line p h DataStrobe) (line p h AddressStrobe) (and_left (line p h DataStrobe && line p h AddressStrobe)
        (holds (answer_guard (readings p h (Slot s)) (shown p h))) answer_passed.rule)

    answer_on : is_interrupter p s ≡ true
    answer_on = chain_member p (in_range p ok) h s answer_reads

    answer_reaches : Reaches h old covers answer_low s
    answer_reaches =
        reaches h old covers answer_low s answer_on (not_true (drive h (Slot s) IackOut) (and_right (iack_in p h (Slot s)) (not (drive h (Slot s) IackOut)) chain_tests))
        (low_input h s answer_reads)

    pub answer_reached : is_reached old p s ≡ true
    answer_reached = both (is_meant_at All p s) (has old.ends (input_place p s)) (any_meant p s answer_on) answer_reaches.ends

    pub answer_covers : (new : Fronts) → has new.ends (input_place p s) ≡ true → CoversFronts p (at s Dtack true v ∷ h) new
    answer_covers new ends low =
        let r = answer_reaches in
        inr (r.place, record { exists = r.come.exists; begun = r.come.begun; passed = r.come.passed }, subst (λ x. has new.ends x ≡ true) r.behind.input ends)

  -- nobody answers one
  module _ (h : List Edge) (v : Option Cycle) (legal : IsLegal version p (at_head Berr true v ∷ h)) (n : ℕ) (shows : shown p h ≡ Some (Acknowledge n)) (old : Fronts)
      (covers : CoversFronts p h old) where
    abbrev error_passed : Passed version p h Controller Berr true v
    error_passed = all_passed version p h Controller Berr true v legal.0

    past : is_past_end p h chain.Iack ≡ true
    past = subst (λ c. is_unanswerable p h c ≡ true) shows error_passed.settles

    error_low : line p h AddressStrobe ≡ true
    error_low = strobe_low h legal.1 (and_left (line p h DataStrobe) (not (line p h Dtack)) error_passed.rule)

    pub error_ends : has old.ends (last_place p) ≡ true
    error_ends = ends_there h old covers error_low past

    pub error_covers : (new : Fronts) → has new.ends (last_place p) ≡ true → CoversFronts p (at_head Berr true v ∷ h) new
    error_covers new ends low = ⊎_elim
        (λ (w : Waits p h old). absurd (end_high p ok h w.0 past))
        (λ (c : HasCome p h old).
        inr (c.0, record { exists = c.1.exists; begun = c.1.begun; passed = c.1.passed }, subst (λ x. has new.ends x ≡ true) (at_end p ok h c.0 c.1 past) ends))
        (covers error_low)

  -- an edge that no probe sees
  module _ (pins : List Pin) (h : List Edge) (d : Requests) (f : Fronts) (requests : CoversRequests p h (may_be d)) (hidden : HasHiddenFronts p pins h d f) (covers : CoversFronts p h f) where
    abbrev Unseen : Edge → Type 0
    Unseen e = IsLegal version p (e ∷ h) → seen p pins h e ≡ None → CoversFronts p (e ∷ h) f

    unseen_head : (v : Option Cycle) → Unseen (at_head Iack true v)
    unseen_head v legal none =
        let asked = head_asked h v legal in
        let free : IsUnprobed p pins None =
        unprobed p pins h (at_head Iack true v) (record { chain = chain.Iack; place = None }) refl refl (head_passed h v legal).before refl none in
        head_covers h v legal f covers f (hidden.begins asked.0 asked.1 free (head_waits h v legal f covers))

    unseen_pass : (s : ℕ) (v : Option Cycle) → Unseen (at s IackOut true v)
    unseen_pass s v legal none =
        let asked = pass_asked h s v legal in
        let on = pass_on h s v legal in
        let free : IsUnprobed p pins (Some s) =
        unprobed p pins h (at s IackOut true v) (record { chain = chain.Iack; place = Some s }) refl (output_of s on)
        (pass_passed h s v legal).before (own_after h s s IackOut true v refl) none in
        pass_covers h s v legal f covers f
        (hidden.passes asked.0 s asked.1 on free
        (λ boards there held cannot. can_pass version p h (at s IackOut true v) s asked.0 d ok legal (same_slot s) refl refl asked.1.shows there requests boards held cannot)
        (pass_reaches h s v legal f covers).ends)
      where
        same_slot : (t : ℕ) → (t == t) ≡ true
        same_slot t = grind (arith, nat_tests)

        output_of : (t : ℕ) → is_interrupter p t ≡ true → option_map {U = Segment} (λ (b : Row). record { chain = chain.Iack; place = Some b.slot }) (board p t)
            ≡ Some (record { chain = chain.Iack; place = Some t })
        output_of t on =
            let i = interrupts_of p t on in
            ap (λ (o : Option Row). option_map {U = Segment} (λ (b : Row). record { chain = chain.Iack; place = Some b.slot }) o) i.found
            ∙ ap (λ x. Some (record { chain = chain.Iack; place = Some x })) (stands p t i.row ok i.found).slot

    by_edge : (e : Driver) (w : Wire) (fall : Bool) (v : Option Cycle) → Unseen (record { driver = e; wire = w; fall = fall; value = v })
    by_edge Controller Iack true v legal none = unseen_head v legal none
    by_edge (Slot s) Iack true v legal none = absurd (cc (all_passed version p h (Slot s) Iack true v legal.0).wire)
    by_edge (Slot s) IackOut true v legal none = unseen_pass s v legal none
    by_edge Controller IackOut true v legal none = absurd (cc (all_passed version p h Controller IackOut true v legal.0).wire)
    by_edge e Iack false v legal none = λ low. absurd (never (line p h AddressStrobe) low (not_true (line p h AddressStrobe) (all_passed version p h e Iack false v legal.0).rule))
    by_edge e IackOut false v legal none = λ low. absurd (never (line p h AddressStrobe) low (not_true (line p h AddressStrobe) (all_passed version p h e IackOut false v legal.0).rule))
    by_edge e AddressStrobe fall v legal none = λ low.
        ⊎_elim
        (λ (x : Waits p h f). inl x)
        (λ (x : HasCome p h f). inr (x.0, record { exists = x.1.exists; begun = x.1.begun; passed = x.1.passed }, x.2))
        (covers (sym (line_stays p pins h (record { driver = e; wire = AddressStrobe; fall = fall; value = v }) on_line.AddressStrobe refl none) ∙ low))
    by_edge e w fall v legal none =
        other_covers h f covers e w fall v (λ is. absurd (cc)) (λ is. absurd (cc)) (λ is. absurd (cc))

    pub unseen_covers : (e : Edge) → Unseen e
    unseen_covers e = by_edge e.driver e.wire e.fall e.value
