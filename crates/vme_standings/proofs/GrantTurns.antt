-- What the rules say of an edge of a grant chain, by the phase before it.
use Rattle.std.proofs.Common.{◌≡◌, ◌⊎◌, ◌∙◌, refl, sym, ap, subst, ℕ, Bool, true, false, List, [], ◌∷◌, ◌<◌, ◌≤◌, arith, inl, inr, ⊎_elim}
use Rattle.std.specs.Prelude.{◌==◌, ◌&&◌, ◌||◌, if◌then◌else◌, nat_le, not, Option, Some, None}
use Rattle.std.specs.List.{list_all, list_any}
use Rattle.std.specs.Option.{option_map_or}
use Rattle.std.proofs.lemmas.Bool.Decides.{nat_tests}
use Rattle.vme_model.specs.declared.boards.Row.{Row}
use Rattle.vme_model.specs.declared.sets.BusLevels.{BusLevels}
use Rattle.vme_model.specs.declared.signals.Version.{Version}
use Rattle.vme_model.specs.declared.signals.Cycle.{Cycle}
use Rattle.vme_model.specs.declared.signals.Driver.{Driver}
use Rattle.vme_model.specs.declared.signals.Driver.TheVariants.{Controller, Slot}
use Rattle.vme_model.specs.declared.signals.Wire.TheVariants.{Bg, BgOut, Bbsy, Br}
use Rattle.vme_model.specs.declared.signals.Edge.{Edge}
use Rattle.vme_model.specs.Signals.{is_grant, is_same_wire, is_two}
use Rattle.vme_model.specs.Sets.{has_bus_level}
use Rattle.vme_model.specs.Plan.{Plan, board_of, grant_chain, last_active, requests_on}
use Rattle.vme_model.specs.Accepted.{IsAccepted}
use Rattle.vme_model.specs.GrantSafety.{IsAwaited, IsLow, Travels, was_withdrawn, withdraws}
use Rattle.vme_model.specs.History.{drive, is_past_end, last_level as last_granted, line, request_line}
use Rattle.vme_model.specs.Readings.{grant_in, readings}
use Rattle.vme_model.specs.Rules.{are_grants_high, is_pick}
use Rattle.vme_model.specs.Settling.{are_grants_through}
use Rattle.vme_model.specs.Verdict.{IsLegal}
use Rattle.vme_model.proofs.Bools.{and_left, and_right, is_false, not_true}
use Rattle.vme_model.proofs.AllowedEdges.{Passed, all_passed}
use Rattle.vme_model.proofs.Picks.{laws_of, one_pick}
use Rattle.vme_model.proofs.Ranges.{IsInRange, IsRowInRange, in_range}
use Rattle.vme_model.proofs.Members.{HasLevel, found_row, has_board, is_member, level_of, member_of}
use Rattle.vme_model.proofs.Grants.{Now, all_free, as_segment, grant_is, grant_wires, grants_high, holder, now_of}
use Rattle.vme_model.proofs.GrantClaims.{begins_at_controller, none_lost, one_travels}
use Rattle.vme_model.proofs.GrantPhases.{clear_before}
use Rattle.vme_histories.proofs.AllowedBoards.{at, at_head}
use Rattle.vme_standings.specs.declared.phases.GrantPhase.{GrantPhase}
use Rattle.vme_standings.specs.declared.phases.GrantPhase.TheVariants.{Idle, Granting, Held, Expired}
use Rattle.vme_standings.specs.GrantChains.{end_place, is_follower, is_of_level, place_before}
use Rattle.vme_standings.specs.Grants.{is_picked}
use Rattle.vme_standings.specs.LowSegments.{is_segment}
use Rattle.vme_standings.specs.InPhase.{AreAsked, InPhase, is_place_low}
use Rattle.vme_standings.proofs.Tests.{both, never}
use Rattle.vme_standings.proofs.WhoDrives.{silent_on}
use Rattle.vme_standings.proofs.GrantPlaces.{above_zero, board_segment, end_last, end_low, end_segment, from_one, next, place_low}
use Rattle.vme_standings.proofs.PhaseSteps.{Back, Freed, Moves, Risen, RunOut, Taken, Waits, back_at, board_moves, equal, expired_last, expired_on, few_some, goes_back, granted, head_moves, held_on, idle_in, in_expired, is_upto, last_few, passed, past_all, rises_at, run, stands_at, under}
use Rattle.vme_standings.proofs.GrantEdges.{board_low}

-- a board of the level withdrew its request: there is one
pub board_withdrew : (p : Plan) (n : ℕ) (h : List Edge) → was_withdrawn p h n ≡ true → (s : ℕ) × (is_of_level p n s ≡ true)
board_withdrew p n [] e = absurd (cc)
board_withdrew p n (x ∷ h) e = by_edge (is_grant x) (withdraws p h n x) refl e (board_withdrew p n h)
  where
    by_driver : (d : Driver) → option_map_or (requests_on n) (board_of p d) false ≡ true → (s : ℕ) × (is_of_level p n s ≡ true)
    by_driver Controller on = absurd (cc)
    by_driver (Slot s) on = (s, on)

    by_edge : (a b : Bool) → withdraws p h n x ≡ b → (if a then false else (b || was_withdrawn p h n)) ≡ true → (was_withdrawn p h n ≡ true → (s : ℕ) × (is_of_level p n s ≡ true)) → (s : ℕ)
        × (is_of_level p n s ≡ true)
    by_edge true b is on further = absurd (cc)
    by_edge false true is on further = by_driver x.driver (and_right (not x.fall && is_same_wire x.wire Br && not (drive h x.driver Bbsy)) _ is)
    by_edge false false is on further = further on

-- all outputs are high if each board's is
any_all : (f : Row → Bool) (rows : List Row) → list_any f rows ≡ true → list_all (λ r. not (f r)) rows ≡ true → ⊥
any_all f [] a b = cc
any_all f (row ∷ rows) a b = by_test (f row) refl a (not_true (f row) (and_left _ _ b)) (λ e. any_all f rows e (and_right (not (f row)) _ b))
  where
    by_test : (x : Bool) → f row ≡ x → (x || list_any f rows) ≡ true → f row ≡ false → (list_any f rows ≡ true → ⊥) → ⊥
    by_test true is e off further = never (f row) is off
    by_test false is e off further = further e

module _ (version : Version) (p : Plan) (ok : IsAccepted p) (h : List Edge) (legal : IsLegal version p h) where
  abbrev range : IsInRange p
  range = in_range p ok

  abbrev now : Now version p h
  now = now_of version p range h legal

  -- if nobody drives BBSY* it is high
  pub free_high : ((s : ℕ) → drive h (Slot s) Bbsy ≡ false) → line p h Bbsy ≡ false
  free_high free = is_false (line p h Bbsy) (λ low. let b = holder p range h low in never (drive h (Slot b.0) Bbsy) b.1 (free b.0))

  -- nobody took the grant: the second version alone
  pub expired_two : (c first : ℕ) → InPhase p h (Expired c first) → is_two version ≡ true
  expired_two c first i =
      let few = few_some c (last_granted h) i.granted (last_few version p h legal) in
      let own : is_place_low h c first ≡ true =
      run p ok h (Expired c first) i c first few (board_segment p c first i.named) ∙ both (c == c) (nat_le first first) (equal c c refl) (is_upto first first (omega arith)) in
      let low : drive h (Slot first) BgOut ≡ true = sym (board_low h c first (from_one p ok c first i.named)) ∙ own in
      ⊎_elim
      (λ (head : IsLow p h c None).
      let inside = in_expired c c 0 first (sym (run p ok h (Expired c first) i c 0 few refl) ∙ (sym (as_segment p h c None few) ∙ head.low)) in
      absurd (omega (arith, inside.1, from_one p ok c first i.named)))
      (λ (t : (is_two version ≡ true) × (is_past_end p h (grant_chain c) ≡ true)). t.0)
      (begins_at_controller version p range h now c (Some first) (free_high (λ s. i.held s))
      (record { part = (few, is_member p range c first few i.named); low = as_segment p h c (Some first) few ∙ low }))

  -- a grant that stands was asked for by a board of its level
  abbrev Wanted : ℕ → Type 0
  Wanted m = IsAwaited p h m ⊎ ((is_two version ≡ true) × (was_withdrawn p h m ≡ true))

  pub wanted : (m last : ℕ) → m < 4 → InPhase p h (Granting m last) → Wanted m
  wanted m last few i =
      none_lost version p range h now m (free_high (λ s. i.held s))
      (record {
        part = few;
        low = as_segment p h m None few ∙ (run p ok h (Granting m last) i m 0 few refl ∙ both (m == m) (nat_le 0 last) (equal m m refl) (is_upto 0 last (omega arith)));
      })

  pub has_board_of : (m last : ℕ) → m < 4 → InPhase p h (Granting m last) → (s : ℕ) × (is_of_level p m s ≡ true)
  has_board_of m last few i = ⊎_elim
      (λ (a : IsAwaited p h m). (a.waiter, member_of p m a.waiter few a.member))
      (λ (w : (is_two version ≡ true) × (was_withdrawn p h m ≡ true)). board_withdrew p m h w.1)
      (wanted m last few i)

-- the controller grants
module _ (version : Version) (p : Plan) (ok : IsAccepted p) (h : List Edge) (n : ℕ) (v : Option Cycle) (legal : IsLegal version p (at_head (Bg n) true v ∷ h)) where
  abbrev grant_passed : Passed version p h Controller (Bg n) true v
  grant_passed = all_passed version p h Controller (Bg n) true v legal.0

  pub grant_few : n < 4
  grant_few = under n 4 grant_passed.wire

  abbrev grant_tests : (are_grants_high (readings p h Controller) && not (line p h Bbsy)) ≡ true
  grant_tests = and_left (are_grants_high (readings p h Controller) && not (line p h Bbsy)) (is_pick p.arbiter (request_line p h) (last_granted h) n) grant_passed.rule

  grant_high : (m : ℕ) → m < 4 → drive h Controller (Bg m) ≡ false
  grant_high m few = grants_high (λ k. drive h Controller (Bg k)) (and_left (are_grants_high (readings p h Controller)) (not (line p h Bbsy)) grant_tests) m few

  grant_quiet : line p h Bbsy ≡ false
  grant_quiet = not_true (line p h Bbsy) (and_right (are_grants_high (readings p h Controller)) (not (line p h Bbsy)) grant_tests)

  -- no output is low
  grant_clear : (m t : ℕ) → is_of_level p m t ≡ true → drive h (Slot t) BgOut ≡ false
  grant_clear m t on = by_version (is_two version) refl
    where
      low_one : list_all (λ (r : Row). not (drive h (Slot r.slot) BgOut)) p.rows ≡ true → drive h (Slot t) BgOut ≡ true → ⊥
      low_one all low =
          let b = has_board p m t on in
          let f = found_row (IsRowInRange p) p.rows t b.row (in_range p ok).rows b.is_board in
          any_all (λ r. drive h (Slot r.slot) BgOut) p.rows (f.passes (λ r. drive h (Slot r.slot) BgOut) (subst (λ x. drive h (Slot x) BgOut ≡ true) (sym f.slot) low)) all

      through : (two all : Bool) → two ≡ true → (not two || all) ≡ true → all ≡ true
      through two all e f = grind arith

      by_version : (two : Bool) → is_two version ≡ two → drive h (Slot t) BgOut ≡ false
      by_version true is = is_false (drive h (Slot t) BgOut) (low_one (through (is_two version) (are_grants_through p h) is grant_passed.settles))
      by_version false is =
          clear_before (is_of_level p) p.slots (is_two version) is (grant_wires p h) grant_high (all_free p (in_range p ok) h grant_quiet) (now_of version p (in_range p ok) h legal.1) t

  pub grant_from : (q : GrantPhase) → InPhase p h q → q ≡ Idle (last_granted h)
  grant_from q i =
      idle_in p ok h q i (last_few version p h legal.1) grant_high (λ s. silent_on version p ok h legal.1 s Bbsy grant_quiet)
      (λ m t few on. board_low h m t (from_one p ok m t on) ∙ grant_clear m t on)

  pub grant_to : (q : GrantPhase) → InPhase p h q → InPhase p (at_head (Bg n) true v ∷ h) (Granting n 0)
  grant_to q i = granted p ok h n v (last_granted h) (subst (InPhase p h) (grant_from q i) i)

  pub grant_picked : (requests : BusLevels) → AreAsked p h requests → is_picked p requests (last_granted h) n ≡ true
  grant_picked requests asked =
      sym (one_pick p.arbiter (has_bus_level requests) (last_granted h) n grant_few)
      ∙ ((laws_of p.arbiter).by_lines (has_bus_level requests) (request_line p h) (last_granted h) n
      (asked 0 (omega arith)) (asked 1 (omega arith)) (asked 2 (omega arith)) (asked 3 (omega arith)) (asked n grant_few)
      ∙ and_right (are_grants_high (readings p h Controller) && not (line p h Bbsy)) (is_pick p.arbiter (request_line p h) (last_granted h) n) grant_passed.rule)

-- a board passes the grant on
module _ (version : Version) (p : Plan) (ok : IsAccepted p) (h : List Edge) (s : ℕ) (v : Option Cycle) (legal : IsLegal version p (at s BgOut true v ∷ h)) where
  abbrev pass_passed : Passed version p h (Slot s) BgOut true v
  pass_passed = all_passed version p h (Slot s) BgOut true v legal.0

  pub pass_level : HasLevel p h s
  pass_level = level_of p (in_range p ok) h s pass_passed.exists

  abbrev pass_tests : (grant_in p h (Slot s) && not (drive h (Slot s) Br)) ≡ true
  pass_tests = and_left (grant_in p h (Slot s) && not (drive h (Slot s) Br)) (not (drive h (Slot s) Bbsy)) pass_passed.rule

  abbrev pass_reads : grant_in p h (Slot s) ≡ true
  pass_reads = and_left (grant_in p h (Slot s)) (not (drive h (Slot s) Br)) pass_tests

  abbrev pass_free : drive h (Slot s) Bbsy ≡ false
  pass_free = not_true (drive h (Slot s) Bbsy) (and_right (grant_in p h (Slot s) && not (drive h (Slot s) Br)) (not (drive h (Slot s) Bbsy)) pass_passed.rule)

  pub pass_from : (q : GrantPhase) → InPhase p h q → q ≡ Granting pass_level.level (place_before p pass_level.level s)
  pass_from q i =
      stands_at p ok h pass_level.level s pass_level.in_range pass_level.member q i
      (sym (place_low p ok pass_level.level pass_level.in_range h s pass_level.member) ∙ grant_is p h s pass_level true pass_reads)
      (board_low h pass_level.level s (from_one p ok pass_level.level s pass_level.member) ∙ pass_passed.before)
      pass_free

  pub pass_to : (q : GrantPhase) → InPhase p h q → InPhase p (at s BgOut true v ∷ h) (Granting pass_level.level s)
  pass_to q i = passed p ok h pass_level.level s pass_level.in_range pass_level.member v (subst (InPhase p h) (pass_from q i) i)

  -- in the first version a board behind it waits
  pub pass_before_end : (q : GrantPhase) → InPhase p h q → (is_two version || not (s == end_place p pass_level.level)) ≡ true
  pass_before_end q i = ⊎_elim
      (λ (a : IsAwaited p h pass_level.level). or_not (is_two version) s (end_place p pass_level.level) (beyond a))
      (λ (w : (is_two version ≡ true) × (was_withdrawn p h pass_level.level ≡ true)). or_two (is_two version) _ w.0)
      (wanted version p ok h legal.1 pass_level.level (place_before p pass_level.level s) pass_level.in_range (subst (InPhase p h) (pass_from q i) i))
    where
      or_two : (a b : Bool) → a ≡ true → (a || b) ≡ true
      or_two a b e = grind arith

      or_not : (two : Bool) (a b : ℕ) → a < b → (two || not (a == b)) ≡ true
      or_not two a b l = grind (arith, nat_tests)

      travels : Travels p h pass_level.level s
      travels = record {
        level = pass_level.in_range;
        member = is_member p (in_range p ok) pass_level.level s pass_level.in_range pass_level.member;
        granted = sym pass_level.grant ∙ pass_reads;
        unpassed = pass_passed.before;
        untaken = pass_free;
      }

      beyond : IsAwaited p h pass_level.level → s < end_place p pass_level.level
      beyond a =
          let same = (one_travels version p (in_range p ok) h (now_of version p (in_range p ok) h legal.1) pass_level.level pass_level.level s a.slot travels a.travels).1 in
          let on = member_of p pass_level.level a.waiter pass_level.in_range a.member in
          let to = end_last p ok pass_level.level pass_level.in_range a.waiter (board_segment p pass_level.level a.waiter on) in
          let from = a.above in
          ⊎_elim (λ (l : s < a.waiter). omega (arith, l, to))
          (λ (l : a.waiter ≤ s).
          let own : a.waiter ≡ s = omega (arith, l, from, same) in
          absurd (never (drive h (Slot s) Br) (subst (λ t. drive h (Slot t) Br ≡ true) own a.waits)
          (not_true (drive h (Slot s) Br) (and_right (grant_in p h (Slot s)) (not (drive h (Slot s) Br)) pass_tests))))
          (by_order s a.waiter)
        where
          by_order : (a b : ℕ) → (a < b) ⊎ (b ≤ a)
          by_order a b = grind arith

-- a segment of a chain rises: the phase before and behind it
pub data Turns (version : Version) (p : Plan) (h : List Edge) (e : Edge) (m x : ℕ) (q : GrantPhase) : Type 0 where
  -- somebody took the grant
  KeptBy : (k f : ℕ) → is_of_level p m k ≡ true → x < k → f ≤ k → is_follower p m x f ≡ true → q ≡ Held k x → InPhase p (e ∷ h) (Held k f) → Turns version p h e m x q
  -- nobody did: a segment further on is the first low one, or there is none
  RunOn : (f : ℕ) → is_two version ≡ true → 0 < x → is_follower p m x f ≡ true → q ≡ Expired m x → InPhase p (e ∷ h) (Expired m f) → Turns version p h e m x q
  AllRun : is_two version ≡ true → 0 < x → x ≡ end_place p m → q ≡ Expired m x → InPhase p (e ∷ h) (Idle m) → Turns version p h e m x q
  -- the controller takes the grant back
  GoneBack : (f : ℕ) → is_two version ≡ true → x ≡ 0 → is_follower p m 0 f ≡ true → q ≡ Granting m (end_place p m) → InPhase p (e ∷ h) (Expired m f) → Turns version p h e m x q

-- the segment of a board rises
module _ (version : Version) (p : Plan) (ok : IsAccepted p) (h : List Edge) (s : ℕ) (v : Option Cycle) (legal : IsLegal version p (at s BgOut false v ∷ h)) where
  abbrev rise_passed : Passed version p h (Slot s) BgOut false v
  rise_passed = all_passed version p h (Slot s) BgOut false v legal.0

  pub rise_level : HasLevel p h s
  rise_level = level_of p (in_range p ok) h s rise_passed.exists

  abbrev m : ℕ
  m = rise_level.level

  abbrev few : m < 4
  few = rise_level.in_range

  abbrev on : is_of_level p m s ≡ true
  on = rise_level.member

  abbrev own : is_segment p m s ≡ true
  own = board_segment p m s on

  abbrev moves : Moves p h (at s BgOut false v) m s false
  moves = board_moves p ok h m s false v on

  pub rise_turns : (q : GrantPhase) → InPhase p h q → Turns version p h (at s BgOut false v) m s q
  rise_turns q i =
      by_phase (rises_at p ok h m s few on q i
      (sym (place_low p ok m few h s on) ∙ grant_is p h s rise_level false (not_true (grant_in p h (Slot s)) rise_passed.rule))
      (board_low h m s (from_one p ok m s on) ∙ rise_passed.before))
    where
      by_end : q ≡ Expired m s → (s < end_place p m) ⊎ (end_place p m ≤ s) → Turns version p h (at s BgOut false v) m s q
      by_end same (inl l) =
          let was = subst (InPhase p h) same i in
          let n = next p ok m few s (end_place p m) own (end_on l) l in
          RunOn n.slot (expired_two version p ok h legal.1 m s was) (from_one p ok m s on) n.follows same
          (expired_on p ok h (at s BgOut false v) m s few moves refl (λ t. refl) n.slot n.follows was)
        where
          end_on : s < end_place p m → is_of_level p m (end_place p m) ≡ true
          end_on l = above (end_place p m) (end_segment p ok m few) (omega (arith, l))
            where
              above : (t : ℕ) → is_segment p m t ≡ true → 0 < t → is_of_level p m t ≡ true
              above t seg from = above_zero p m t seg from
      by_end same (inr l) =
          let was = subst (InPhase p h) same i in
          let to = end_last p ok m few s own in
          let end : s ≡ end_place p m = omega (arith, l, to) in
          AllRun (expired_two version p ok h legal.1 m s was) (from_one p ok m s on) end same
          (expired_last p ok h (at s BgOut false v) m s few moves refl (λ t. refl) end was)

      by_order : (a b : ℕ) → (a < b) ⊎ (b ≤ a)
      by_order a b = grind arith

      by_phase : Risen p ok h m s few on q → Turns version p h (at s BgOut false v) m s q
      by_phase (Taken k member less same) =
          let n = next p ok m few s k own member less in
          KeptBy k n.slot member less n.to n.follows same
          (held_on p ok h (at s BgOut false v) m s few moves refl (λ t. refl) k n.slot member less n.follows (subst (InPhase p h) same i))
      by_phase (RunOut same) = by_end same (by_order s (end_place p m))

-- the segment of the controller rises
module _ (version : Version) (p : Plan) (ok : IsAccepted p) (h : List Edge) (n : ℕ) (v : Option Cycle) (legal : IsLegal version p (at_head (Bg n) false v ∷ h)) where
  abbrev back_passed : Passed version p h Controller (Bg n) false v
  back_passed = all_passed version p h Controller (Bg n) false v legal.0

  pub back_few : n < 4
  back_few = under n 4 back_passed.wire

  pub back_turns : (q : GrantPhase) → InPhase p h q → Turns version p h (at_head (Bg n) false v) n 0 q
  back_turns q i = by_phase (back_at p ok h n back_few q i back_passed.before)
    where
      head : Moves p h (at_head (Bg n) false v) n 0 false
      head = head_moves p h n false v

      -- while nobody holds the bus, the second version lets it rise once the last segment is low
      at_last : (two busy past : Bool) → busy ≡ false → (two || busy) ≡ true → ((not two || busy) || past) ≡ true → (two ≡ true) × (past ≡ true)
      at_last true false past e a b = (refl, b)
      at_last false false past e a b = absurd (cc)
      at_last two true past e a b = absurd (cc)

      by_phase : Back p ok h n q → Turns version p h (at_head (Bg n) false v) n 0 q
      by_phase (Freed k member same) =
          let next_one = next p ok n back_few 0 k refl member (from_one p ok n k member) in
          KeptBy k next_one.slot member (from_one p ok n k member) next_one.to next_one.follows same
          (held_on p ok h (at_head (Bg n) false v) n 0 back_few head refl (λ t. refl) k next_one.slot member (from_one p ok n k member) next_one.follows (subst (InPhase p h) same i))
      by_phase (Waits last same) =
          let was = subst (InPhase p h) same i in
          let high = free_high version p ok h legal.1 (λ s. was.held s) in
          let passed_all = at_last (is_two version) (line p h Bbsy) (is_past_end p h (grant_chain n)) high back_passed.rule back_passed.settles in
          let low : is_place_low h n (end_place p n) ≡ true =
          sym (end_low p ok n back_few h) ∙ (sym (as_segment p h n (last_active p (grant_chain n)) back_few) ∙ passed_all.1) in
          let end = past_all p ok h n last back_few was low in
          let board = has_board_of version p ok h legal.1 n last back_few was in
          let next_one = next p ok n back_few 0 board.0 refl board.1 (from_one p ok n board.0 board.1) in
          GoneBack next_one.slot passed_all.0 refl next_one.follows (same ∙ ap (λ t. Granting n t) end)
          (goes_back p ok h (at_head (Bg n) false v) n 0 back_few head refl (λ t. refl) next_one.slot refl next_one.follows (subst (λ t. InPhase p h (Granting n t)) end was))
