-- The conditions of BBSY*, BCLR* and the grant chains that hold of a bus are met by what covers it: `condition_laws`.
use Rattle.std.proofs.Common.{◌≡◌, ◌∙◌, ◌&&◌, ◌<◌, ℕ, Bool, true, false, not, List, Option, Some, None, is_some, refl, sym, ap, subst, arith}
use Rattle.std.proofs.lemmas.Bool.{and_parts}
use Rattle.std.proofs.lemmas.Bool.Decides.{nat_tests}
use Rattle.std.specs.Prelude.{◌==◌, nat_le, nat_lt, option_map}
use Rattle.std.specs.List.{list_all, list_any}
use Rattle.std.specs.Option.{option_and_then, option_map_or}
use Rattle.vme_model.specs.declared.boards.Release.{Release}
use Rattle.vme_model.specs.declared.boards.Release.TheVariants.{Done, Request}
use Rattle.vme_model.specs.declared.boards.RequesterRow.{RequesterRow}
use Rattle.vme_model.specs.declared.boards.Row.{Row}
use Rattle.vme_model.specs.declared.conditions.Condition.TheVariants.{ArbiterIsPri, Asked, BusyLow, ClearNotDue, GrantInHigh, GrantInLow, GrantsHigh, HigherAsked, OwnGrantOutHigh, OwnRequestLow}
use Rattle.vme_model.specs.declared.sentences.Rule.TheVariants.{G3, G4, G13, G14}
use Rattle.vme_model.specs.declared.signals.Driver.TheVariants.{Controller, Slot}
use Rattle.vme_model.specs.declared.signals.Edge.{Edge}
use Rattle.vme_model.specs.declared.signals.Version.{Version}
use Rattle.vme_model.specs.declared.signals.Wire.TheVariants as wire
use Rattle.vme_model.specs.Accepted.{IsAccepted}
use Rattle.vme_model.specs.Guards.{free}
use Rattle.vme_model.specs.History.{drive, last_level as last_granted, line as line_of, request_line}
use Rattle.vme_model.specs.Plan.{Plan, board, requests_on}
use Rattle.vme_model.specs.Readings.{grant_in, readings}
use Rattle.vme_model.specs.Rules.{bus_numbers, is_bus_clear_due, is_pri, released}
use Rattle.vme_model.specs.Sets.{has_bus_level}
use Rattle.vme_model.specs.Verdict.{IsLegal}
use Rattle.vme_model.proofs.Bools.{and_left, is_false, not_true}
use Rattle.vme_model.proofs.Grants.{grant_is, grants_high}
use Rattle.vme_model.proofs.Members.{HasLevel, level_of, one_chain}
use Rattle.vme_model.proofs.PinSets.{has_bus}
use Rattle.vme_model.proofs.Ranges.{in_range}
use Rattle.vme_captures.specs.declared.signals.Line.TheVariants as line
use Rattle.vme_captures.specs.declared.signals.Pin.{Pin}
use Rattle.vme_captures.specs.declared.signals.Value.{Value}
use Rattle.vme_captures.specs.Levels.{is_line_left_low}
use Rattle.vme_standings.specs.declared.moving.Moved.TheVariants as moved
use Rattle.vme_standings.specs.declared.phases.GrantPhase.{GrantPhase}
use Rattle.vme_standings.specs.declared.phases.GrantPhase.TheVariants.{Idle, Granting, Held, Expired}
use Rattle.vme_standings.specs.declared.standings.Standings.{Standings}
use Rattle.vme_standings.specs.Covers.{Covers}
use Rattle.vme_standings.specs.Cuts.{are_grants_high, last_level}
use Rattle.vme_standings.specs.GrantChains.{is_of_level, place_before, requester_at}
use Rattle.vme_standings.specs.Grants.{is_asked_above, is_clear_due, may_end}
use Rattle.vme_standings.specs.InPhase.{AreAsked, InPhase, is_place_low}
use Rattle.vme_standings.specs.LowSegments.{is_low_in}
use Rattle.vme_standings.specs.Moving.{asked}
use Rattle.vme_standings.proofs.GrantEdges.{asks_on, board_low, four_same}
use Rattle.vme_standings.proofs.GrantPlaces.{before, board_segment, from_one, place_low}
use Rattle.vme_standings.proofs.PhaseSteps.{equal, is_upto, last_few, run}
use Rattle.vme_standings.proofs.Tests.{both, never}
use Rattle.vme_standings.proofs.WhoDrives.{line_shows}
use Rattle.vme_probe.specs.Conditions.{busy_falls, busy_rises, clear_falls, clear_rises, line_falls, line_rises}
use Rattle.vme_probe.specs.Holding.{edge, holds}
use Rattle.vme_probe.proofs.LeftBy.{Tells}
use Rattle.vme_probe.proofs.MetGuards.{met, one_met}

some_same : (a b : ℕ) → Some a ≡ Some b → a ≡ b
some_same a b e = cc

-- the board whose requester is found
of_found : (p : Plan) (s : ℕ) (q : RequesterRow) → requester_at p s ≡ Some q → is_of_level p q.level s ≡ true
of_found p s q found = by_board (board p s) found
  where
    by_row : (o : Option RequesterRow) → o ≡ Some q → option_map_or (λ y. y.level == q.level) o false ≡ true
    by_row o e = ap (λ (x : Option RequesterRow). option_map_or (λ y. y.level == q.level) x false) e ∙ equal q.level q.level refl

    by_board : (o : Option Row) → option_and_then (λ r. r.requester) o ≡ Some q → option_map_or (requests_on q.level) o false ≡ true
    by_board None e = absurd (cc)
    by_board (Some r) e = by_row r.requester e

-- the board has a requester
there_is : (p : Plan) (c s : ℕ) → is_of_level p c s ≡ true → option_map_or (λ r. is_some r.requester) (board p s) false ≡ true
there_is p c s on = by_board (board p s) on
  where
    by_row : (o : Option RequesterRow) → option_map_or (λ y. y.level == c) o false ≡ true → is_some o ≡ true
    by_row None e = e
    by_row (Some q) e = refl

    by_board : (o : Option Row) → option_map_or (requests_on c) o false ≡ true → option_map_or (λ r. is_some r.requester) o false ≡ true
    by_board None e = e
    by_board (Some r) e = by_row r.requester e

module _ (p : Plan) (ok : IsAccepted p) (version : Version) (pins : List Pin) (h : List Edge) (legal : IsLegal version p h) (st : Standings) (covers : Covers p pins h st) where
  abbrev now : GrantPhase
  now = covers.phases.phase

  abbrev stands : InPhase p h covers.phases.phase
  stands = covers.phases.is_in

  -- ---- what the bus is known to be

  pub asked_now : AreAsked p h (asked st.lines)
  asked_now n few = has_bus (λ m. is_line_left_low st.lines (line.Br m)) n few ∙ covers.levels.shared (line.Br n) (is_few n few)
    where
      is_few : (n : ℕ) → n < 4 → nat_lt n 4 ≡ true
      is_few n l = grind (arith, nat_tests)

  -- the input of a board of the level
  module _ (c s : ℕ) (on : is_of_level p c s ≡ true) where
    abbrev its : HasLevel p h s
    its = level_of p (in_range p ok) h s (there_is p c s on)

    its_level : its.level ≡ c
    its_level = one_chain p its.level c s its.member on

    few_level : c < 4
    few_level = let same = its_level in let l = its.in_range in omega (arith, same, l)

    input_is : grant_in p h (Slot s) ≡ is_place_low h c (place_before p c s)
    input_is =
        subst (λ n. grant_in p h (Slot s) ≡ is_place_low h n (place_before p n s)) its_level
        (sym (grant_is p h s its (grant_in p h (Slot s)) refl) ∙ place_low p ok its.level its.in_range h s its.member)

    pub input_in : grant_in p h (Slot s) ≡ is_low_in p c (place_before p c s) now
    input_in = input_is ∙ stands.low c (place_before p c s) few_level (before p ok c few_level s on).seg

    output_in : drive h (Slot s) wire.BgOut ≡ is_low_in p c s now
    output_in = sym (board_low h c s (from_one p ok c s on)) ∙ stands.low c s few_level (board_segment p c s on)

  -- ---- BBSY*

  busy_fall : (s : ℕ) (x : Option Value) (o : Option RequesterRow) → requester_at p s ≡ o
      → Tells p ok version pins h legal st covers (holds version p h (Slot s) (moved.Line line.Bbsy) true x) s (busy_falls p (asked st.lines) s o)
  busy_fall s x None found = tt
  busy_fall s x (Some q) found = λ a. (
    sym (input_in q.level s on) ∙ and_left (grant_in p h (Slot s)) true (and_left _ true (one_met version p h G13 GrantInLow (edge (Slot s) wire.Bbsy true None) a refl)),
    λ b. (
      ap not (sym (output_in q.level s on)) ∙ and_left (not (drive h (Slot s) wire.BgOut)) true (one_met version p h G13 OwnGrantOutHigh (edge (Slot s) wire.Bbsy true None) b refl),
      λ c. (
        asked_now q.level (few_level q.level s on) ∙ asks_on p ok h q.level s on (one_met version p h G13 OwnRequestLow (edge (Slot s) wire.Bbsy true None) c refl),
        tt,
      ),
    ),
  )
    where
      on : is_of_level p q.level s ≡ true
      on = of_found p s q found

  busy_rise : (s : ℕ) (x : Option Value) (o : Option RequesterRow) → requester_at p s ≡ o
      → Tells p ok version pins h legal st covers (holds version p h (Slot s) (moved.Line line.Bbsy) false x) s (busy_rises p (asked st.lines) s o)
  busy_rise s x None found = tt
  busy_rise s x (Some q) found = λ a. (
    sym (stands.held s) ∙ a,
    λ b. (
      ends q.release (subst (λ (o : Option RequesterRow). met Asked (option_map_or (λ y. released (list_any (request_line p h) bus_numbers) y.release) o free) ≡ true) found
          (one_met version p h G14 Asked (edge (Slot s) wire.Bbsy false None) b refl)),
      λ c. (
        ap not (sym (input_in q.level s on))
            ∙ and_left (not (grant_in p h (Slot s))) true (and_left _ _ (one_met version p h G14 GrantInHigh (edge (Slot s) wire.Bbsy false None) c refl)),
        tt,
      ),
    ),
  )
    where
      on : is_of_level p q.level s ≡ true
      on = of_found p s q found

      ends : (r : Release) → met Asked (released (list_any (request_line p h) bus_numbers) r) ≡ true → may_end (asked st.lines) r ≡ true
      ends (Done burst) y = refl
      ends Request y = four_same (has_bus_level (asked st.lines)) (request_line p h) asked_now ∙ y

  -- ---- BCLR*

  -- the level last granted is that of a holder
  pub holder_level : (k first n : ℕ) → last_level p (Held k first) ≡ Some n → is_of_level p n k ≡ true
  holder_level k first n e = by_row (requester_at p k) refl e
    where
      by_row : (o : Option RequesterRow) → requester_at p k ≡ o → option_map (λ (q : RequesterRow). q.level) o ≡ Some n → is_of_level p n k ≡ true
      by_row None found y = absurd (cc)
      by_row (Some q) found y = subst (λ m. is_of_level p m k ≡ true) (some_same q.level n y) (of_found p k q found)

  -- if all grants of the controller are high, none is low in the phase
  heads_high : ((m : ℕ) → m < 4 → drive h Controller (wire.Bg m) ≡ false) → (q : GrantPhase) → InPhase p h q → are_grants_high q ≡ true
  heads_high high (Idle c) i = refl
  heads_high high (Granting c last) i =
      let few = last_few version p h legal in
      let same = some_same c (last_granted h) i.granted in
      let l : c < 4 = omega (arith, same, few) in
      absurd (never (drive h Controller (wire.Bg c)) (run p ok h (Granting c last) i c 0 l refl ∙ both (c == c) (nat_le 0 last) (equal c c refl) (is_upto 0 last (omega arith))) (high c l))
  heads_high high (Held k first) i = by_first (nat_lt 0 first) refl
    where
      inside : (on : Bool) (x k : ℕ) → nat_lt 0 x ≡ false → 0 < k → on ≡ true → (on && (nat_le x 0 && nat_lt 0 k)) ≡ true
      inside on x k off from member = grind (arith, nat_tests)

      by_first : (b : Bool) → nat_lt 0 first ≡ b → b ≡ true
      by_first true e = refl
      by_first false e =
          let few = last_few version p h legal in
          let member = holder_level k first (last_granted h) i.granted in
          absurd (never (drive h Controller (wire.Bg (last_granted h)))
          (run p ok h (Held k first) i (last_granted h) 0 few refl ∙ inside (is_of_level p (last_granted h) k) first k e (from_one p ok (last_granted h) k member) member)
          (high (last_granted h) few))
  heads_high high (Expired c first) i = refl

  pub grants_met : list_all (λ n. not (drive h Controller (wire.Bg n))) bus_numbers ≡ true → are_grants_high now ≡ true
  grants_met all = heads_high (grants_high (λ m. drive h Controller (wire.Bg m)) all) now stands

  pub clear_fall : (x : Option Value) → Tells p ok version pins h legal st covers (holds version p h Controller (moved.Line line.Bclr) true x) 0 (clear_falls p st)
  clear_fall x a = (
    covers.levels.shared line.Bbsy refl ∙ and_left (line_of p h wire.Bbsy) true (and_left _ true (one_met version p h G3 BusyLow (edge Controller wire.Bclr true None) a refl)),
    λ b. (
      ap (λ (o : Option ℕ). option_map_or (λ last. is_asked_above last (asked st.lines)) o false) stands.granted
          ∙ four_same (λ m. nat_lt (last_granted h) m && has_bus_level (asked st.lines) m) (λ m. nat_lt (last_granted h) m && request_line p h m)
          (λ m few. ap (λ y. nat_lt (last_granted h) m && y) (asked_now m few))
          ∙ one_met version p h G3 HigherAsked (edge Controller wire.Bclr true None) b refl,
      λ c. (
        and_left (is_pri p.arbiter) true (and_left _ true (and_left _ true (one_met version p h G3 ArbiterIsPri (edge Controller wire.Bclr true None) c refl))),
        λ d. (grants_met (and_left _ true (one_met version p h G3 GrantsHigh (edge Controller wire.Bclr true None) d refl)), tt),
      ),
    ),
  )

  -- bus clear that is due in the phase is due on the bus
  due_now : (q : GrantPhase) → InPhase p h q → is_clear_due p (asked st.lines) q ≡ true → is_bus_clear_due (readings p h Controller) ≡ true
  due_now (Idle c) i due = absurd (never false due refl)
  due_now (Granting c last) i due = absurd (never false due refl)
  due_now (Expired c first) i due = absurd (never false due refl)
  due_now (Held k first) i due =
      let a = and_parts (is_pri p.arbiter && option_map_or (λ q. is_asked_above q.level (asked st.lines)) (requester_at p k) false) (nat_lt 0 first) due in
      let b = and_parts (is_pri p.arbiter) (option_map_or (λ q. is_asked_above q.level (asked st.lines)) (requester_at p k) false) a.0 in
      both _ _ (both _ _ (both _ _ b.0 (line_shows version p ok h legal k wire.Bbsy (i.held k ∙ equal k k refl))) (all_high (head_high (above first a.1))))
      (above_asked (requester_at p k) i.granted b.1)
    where
      above : (x : ℕ) → nat_lt 0 x ≡ true → 0 < x
      above x e = grind (arith, nat_tests)

      beyond : (on : Bool) (x k : ℕ) → 0 < x → (on && (nat_le x 0 && nat_lt 0 k)) ≡ false
      beyond on x k from = grind (arith, nat_tests)

      head_high : 0 < first → (m : ℕ) → m < 4 → drive h Controller (wire.Bg m) ≡ false
      head_high from m few = run p ok h (Held k first) i m 0 few refl ∙ beyond (is_of_level p m k) first k from

      all_high : ((m : ℕ) → m < 4 → drive h Controller (wire.Bg m) ≡ false) → list_all (λ m. not (drive h Controller (wire.Bg m))) bus_numbers ≡ true
      all_high off = cc (off 0 (omega arith), off 1 (omega arith), off 2 (omega arith), off 3 (omega arith))

      above_asked : (o : Option RequesterRow) → option_map (λ (q : RequesterRow). q.level) o ≡ Some (last_granted h) → option_map_or (λ q. is_asked_above q.level (asked st.lines)) o false ≡ true
          → list_any (λ m. nat_lt (last_granted h) m && request_line p h m) bus_numbers ≡ true
      above_asked None y z = absurd (never false z refl)
      above_asked (Some q) y z =
          sym (ap (λ l. is_asked_above l (asked st.lines)) (some_same q.level (last_granted h) y)
          ∙ four_same (λ m. nat_lt (last_granted h) m && has_bus_level (asked st.lines) m) (λ m. nat_lt (last_granted h) m && request_line p h m)
          (λ m few. ap (λ w. nat_lt (last_granted h) m && w) (asked_now m few)))
          ∙ z

  pub clear_rise : (x : Option Value) → Tells p ok version pins h legal st covers (holds version p h Controller (moved.Line line.Bclr) false x) 0 (clear_rises st)
  clear_rise x a = (
    not_on (is_clear_due p (asked st.lines) now) (is_false (is_clear_due p (asked st.lines) now) (λ due.
        never (is_bus_clear_due (readings p h Controller)) (due_now now stands due)
        (not_true (is_bus_clear_due (readings p h Controller)) (one_met version p h G4 ClearNotDue (edge Controller wire.Bclr false None) a refl)))),
    tt,
  )
    where
      not_on : (b : Bool) → b ≡ false → not b ≡ true
      not_on b y = grind arith

  -- ---- all of these

  pub busies_fall : (s : ℕ) (x : Option Value) → Tells p ok version pins h legal st covers (holds version p h (Slot s) (moved.Line line.Bbsy) true x) s (line_falls p st s line.Bbsy x)
  busies_fall s x = busy_fall s x (requester_at p s) refl

  pub busies_rise : (s : ℕ) (x : Option Value) → Tells p ok version pins h legal st covers (holds version p h (Slot s) (moved.Line line.Bbsy) false x) s (line_rises p version st s line.Bbsy)
  busies_rise s x = busy_rise s x (requester_at p s) refl
