-- The conditions of the falls of DTACK* and BERR* that hold of a bus are met by what covers it: `condition_laws`.
use Rattle.std.proofs.Common.{◌≡◌, ◌∙◌, ◌||◌, ℕ, suc, Bool, true, false, not, List, Option, Some, None, is_some, refl, sym, ap, subst, arith}
use Rattle.std.specs.Prelude.{◌==◌, is_none, unwrap_or}
use Rattle.std.specs.Option.{option_and_then, option_map_or}
use Rattle.vme_model.specs.declared.boards.InterrupterRow.{InterrupterRow}
use Rattle.vme_model.specs.declared.boards.Row.{Row}
use Rattle.vme_model.specs.declared.conditions.Condition.{Condition}
use Rattle.vme_model.specs.declared.conditions.Condition.TheVariants.{AcknowledgeInLow, DataStrobeLow, DtackHigh, NobodyCanAnswer, OwnAcknowledgeOutHigh, OwnSlotShown}
use Rattle.vme_model.specs.declared.sentences.Rule.TheVariants.{G7, G25, S2}
use Rattle.vme_model.specs.declared.sets.ChainId.TheVariants as chain
use Rattle.vme_model.specs.declared.signals.Cycle.{Cycle}
use Rattle.vme_model.specs.declared.signals.Cycle.TheVariants as cycle
use Rattle.vme_model.specs.declared.signals.Driver.TheVariants.{Controller, Slot}
use Rattle.vme_model.specs.declared.signals.Edge.{Edge}
use Rattle.vme_model.specs.declared.signals.Version.{Version}
use Rattle.vme_model.specs.declared.signals.Wire.TheVariants as wire
use Rattle.vme_model.specs.Accepted.{IsAccepted}
use Rattle.vme_model.specs.History.{drive, line as line_of, segment, shown as shown_on}
use Rattle.vme_model.specs.Plan.{Plan, board, last_active, upstream}
use Rattle.vme_model.specs.Readings.{iack_in, readings}
use Rattle.vme_model.specs.Rules.{answer_guard}
use Rattle.vme_model.specs.Settling.{is_unanswerable}
use Rattle.vme_model.specs.Signals.{is_acknowledge, is_in_range}
use Rattle.vme_model.specs.Verdict.{IsLegal}
use Rattle.vme_model.proofs.Below.{IsBelow, is_below, last_of}
use Rattle.vme_model.proofs.Bools.{and_left, is_false, not_true, same_number}
use Rattle.vme_model.proofs.CyclePhases.{Answer, Asking, Done, Error, Fresh, Justified, Quiet, iack_before}
use Rattle.vme_model.proofs.Cycles.{Going, chain_asks, chain_below, chain_member, cycle_wires, has_board, interrupts, masters, within as chain_within}
use Rattle.vme_model.proofs.Members.{found_row}
use Rattle.vme_model.proofs.Ranges.{IsRowInRange, in_range}
use Rattle.vme_captures.specs.declared.signals.Line.TheVariants as line
use Rattle.vme_captures.specs.declared.signals.Pin.{Pin}
use Rattle.vme_captures.specs.declared.signals.Value.{Value}
use Rattle.vme_captures.specs.declared.signals.Value.TheVariants as value
use Rattle.vme_standings.specs.declared.moving.Moved.TheVariants as moved
use Rattle.vme_standings.specs.declared.standings.Shown.{Shown}
use Rattle.vme_standings.specs.declared.standings.Shown.TheVariants as known
use Rattle.vme_standings.specs.declared.standings.Standings.{Standings}
use Rattle.vme_standings.specs.Covers.{Covers, says}
use Rattle.vme_standings.specs.Fronts.{input_place, place_of}
use Rattle.vme_standings.specs.Grants.{are_alike}
use Rattle.vme_standings.specs.Requests.{is_interrupter, request_of}
use Rattle.vme_standings.proofs.JoinedCycle.{data_within, driven_by, goes}
use Rattle.vme_standings.proofs.JoinedErrors.{one_empty}
use Rattle.vme_standings.proofs.JoinedShows.{Shows, shows_at}
use Rattle.vme_standings.proofs.RequestRows.{interrupts_there, pending_is}
use Rattle.vme_standings.proofs.Tests.{never}
use Rattle.vme_standings.proofs.WhoDrives.{line_shows}
use Rattle.vme_probe.specs.declared.obstacles.Obstacle.{Obstacle}
use Rattle.vme_probe.specs.declared.obstacles.Obstacle.TheVariants.{Fails, NotPending, OtherByte}
use Rattle.vme_probe.specs.Conditions.{acknowledge_answered, answer_falls, is_slot_shown, line_falls, low, nobody_answers}
use Rattle.vme_probe.specs.Demands.{interrupter_at, is_chain_low, is_pending}
use Rattle.vme_probe.specs.Holding.{edge, holds}
use Rattle.vme_probe.proofs.LeftBy.{Meets, Tells, front, is_segment_of, on_level_of}
use Rattle.vme_probe.proofs.MetGuards.{met, one_met, one_settles}

at_place : (o : Option ℕ) → unwrap_or o 0 ≡ place_of o
at_place None = refl
at_place (Some t) = refl

alike_low : (a : Bool) → a ≡ true → are_alike a true ≡ true
alike_low a e = subst (λ b. are_alike b true ≡ true) (sym e) refl

alike_high : (a : Bool) → a ≡ false → are_alike a false ≡ true
alike_high a e = subst (λ b. are_alike b false ≡ true) (sym e) refl

no_board : (o : Option Row) → is_none o ≡ true → o ≡ None
no_board None x = refl
no_board (Some r) x = absurd (cc)

some_none : (r : Row) → Some r ≡ None → ⊥
some_none r e = cc

module _ (p : Plan) (ok : IsAccepted p) (version : Version) (pins : List Pin) (h : List Edge) (legal : IsLegal version p h) (st : Standings) (covers : Covers p pins h st) where
  abbrev end : Option ℕ
  end = (front p ok version pins h legal st covers).end

  -- ---- while DS* is low

  module _ (strobed : line_of p h wire.DataStrobe ≡ true) where
    abbrev master : (t : ℕ) × (drive h (Slot t) wire.DataStrobe ≡ true)
    master = driven_by version p ok h wire.DataStrobe strobed

    within : (drive h (Slot master.0) wire.AddressStrobe ≡ true) × (drive h (Slot master.0) wire.Addr ≡ true)
    within = data_within p h (goes version p ok h legal) master.0 master.1

    pub strobe : line_of p h wire.AddressStrobe ≡ true
    strobe = line_shows version p ok h legal master.0 wire.AddressStrobe within.0

    pub shows : Shows p h master.0
    shows = shows_at version p ok h legal master.0 within.1

    pub told : option_map_or (says shows.cycle) st.shown false ≡ true
    told = covers.shown.shown shows.cycle strobe shows.shows

    -- a segment of the chain is low exactly if the low segments reach it
    pub reads : (o : Option ℕ) → is_segment_of p ok version pins h legal st covers o ≡ true → segment h chain.Iack o ≡ is_chain_low end (place_of o)
    reads o is = (front p ok version pins h legal st covers).stands strobe o is

    before_is : (s : ℕ) → is_segment_of p ok version pins h legal st covers (upstream p chain.Iack s) ≡ true
    before_is s = by_place (upstream p chain.Iack s) (chain_below p (in_range p ok) s)
      where
        by_place : (o : Option ℕ) → IsBelow (interrupts p) s o → is_segment_of p ok version pins h legal st covers o ≡ true
        by_place None b = refl
        by_place (Some t) b = b.passes

    pub input_low : (s : ℕ) → iack_in p h (Slot s) ≡ true → segment h chain.Iack (upstream p chain.Iack s) ≡ true
    input_low s low = by_place (upstream p chain.Iack s) (chain_asks p (in_range p ok) h s low)
      where
        by_place : (o : Option ℕ) → iack_before (cycle_wires p h) o ≡ true → segment h chain.Iack o ≡ true
        by_place None e = e
        by_place (Some t) e = e

    -- the acknowledge has come to the board's input
    pub comes : (s : ℕ) → iack_in p h (Slot s) ≡ true → are_alike (is_chain_low end (input_place p s)) true ≡ true
    comes s low = alike_low (is_chain_low end (input_place p s)) (sym (reads (upstream p chain.Iack s) (before_is s)) ∙ input_low s low)

    -- BERR* is high while a slot is accessed that has a board
    error_high : (y : ℕ) → shown_on p h ≡ Some (cycle.Access y) → is_some (board p y) ≡ true → drive h Controller wire.Berr ≡ false
    error_high y is stands = is_false (drive h Controller wire.Berr) (λ low. by_phase (goes version p ok h legal) low)
      where
        by_answer : (g : Bool) (hi : ℕ) (a : Answer) → a ≡ Error → Justified (interrupts p) (masters p) (has_board p) p.slots (shown_on p h) g hi a → ⊥
        by_answer g hi a e j =
            never (is_some (board p y)) stands
            (subst (λ v. Justified (interrupts p) (masters p) (has_board p) p.slots v g hi Error) is (subst (Justified (interrupts p) (masters p) (has_board p) p.slots (shown_on p h) g hi) e j))

        by_phase : Going p h → drive h Controller wire.Berr ≡ true → ⊥
        by_phase (Quiet, i) low = never (drive h (Slot master.0) wire.DataStrobe) master.1 (i.dstrobe_high master.0)
        by_phase (Fresh m, i) low = never (drive h (Slot master.0) wire.DataStrobe) master.1 (i.dstrobe_high master.0)
        by_phase (Done m, i) low = never (drive h (Slot master.0) wire.DataStrobe) master.1 (i.dstrobe_high master.0)
        by_phase (Asking m g hi, i) low = by_answer g hi i.answer (i.answers.berr_by low) i.justified

  -- ---- DTACK*

  module _ (s : ℕ) (x : Option Value) where
    abbrev hold : Obstacle → Bool
    hold = holds version p h (Slot s) (moved.Line line.Dtack) true x

    abbrev answer : Edge
    answer = edge (Slot s) wire.Dtack true None

    strobe_holds : hold (Fails G25 DataStrobeLow) ≡ true → line_of p h wire.DataStrobe ≡ true
    strobe_holds a = and_left (line_of p h wire.DataStrobe) true (and_left _ _ (one_met version p h G25 DataStrobeLow answer a refl))

    strobe_met : hold (Fails G25 DataStrobeLow) ≡ true → low st line.DataStrobe ≡ true
    strobe_met a = covers.levels.shared line.DataStrobe refl ∙ strobe_holds a

    abbrev answering : Condition → Option Cycle → Type 0
    answering c v = met c (answer_guard (readings p h (Slot s)) v) ≡ true

    -- in an access
    slot_met : (strobed : line_of p h wire.DataStrobe ≡ true) (t : Option ℕ) (v : Cycle) → shown_on p h ≡ Some v → says v (known.Access t) ≡ true → answering OwnSlotShown (Some v)
        → is_slot_shown st s t ≡ true
    slot_met strobed t (cycle.Acknowledge m) is said own = absurd (never false said refl)
    slot_met strobed t (cycle.Access y) is said own = by_board (board p s) refl own
      where
        by_slot : (t : Option ℕ) → s ≡ y → is_some (board p y) ≡ true → says (cycle.Access y) (known.Access t) ≡ true → is_slot_shown st s t ≡ true
        by_slot None same stands said = ap not (covers.levels.shared line.Berr refl) ∙ ap not (error_high strobed y is stands)
        by_slot (Some u) same stands said = subst (λ z. (u == z) ≡ true) (sym same) said

        by_board : (o : Option Row) → board p s ≡ o → option_map_or (λ b. b.slot == y) o false ≡ true → is_slot_shown st s t ≡ true
        by_board None found e = absurd (never false e refl)
        by_board (Some r) found e =
            let f = found_row (IsRowInRange p) p.rows s r (in_range p ok).rows found in
            let same : s ≡ y = sym f.slot ∙ same_number r.slot y e in
            by_slot t same (subst (λ z. is_some (board p z) ≡ true) same (ap (λ (o : Option Row). is_some o) found)) said

    access_met : (a : hold (Fails G25 DataStrobeLow) ≡ true) (t : Option ℕ) → option_map_or (says (shows (strobe_holds a)).cycle) (Some (known.Access t)) false ≡ true
        → hold (Fails G25 OwnSlotShown) ≡ true → is_slot_shown st s t ≡ true
    access_met a t said b =
        let w = shows (strobe_holds a) in
        slot_met (strobe_holds a) t w.cycle w.shows said (subst (answering OwnSlotShown) w.shows (one_met version p h G25 OwnSlotShown answer b refl))

    none_acknowledged : (t : Option ℕ) (v : Cycle) → shown_on p h ≡ Some v → says v (known.Access t) ≡ true → is_acknowledge (shown_on p h) ≡ true → ⊥
    none_acknowledged t (cycle.Acknowledge m) is said on = never false said refl
    none_acknowledged t (cycle.Access y) is said on = never false (sym (ap is_acknowledge is) ∙ on) refl

    -- in an acknowledge
    acknowledged : (n : ℕ) (v : Cycle) → says v (known.Acknowledge n) ≡ true → v ≡ cycle.Acknowledge n
    acknowledged n (cycle.Acknowledge m) said = ap (λ k. cycle.Acknowledge k) (sym (same_number n m said))
    acknowledged n (cycle.Access y) said = absurd (never false said refl)

    module _ (n : ℕ) (a : hold (Fails G25 DataStrobeLow) ≡ true) (said : option_map_or (says (shows (strobe_holds a)).cycle) (Some (known.Acknowledge n)) false ≡ true) where
      shows_it : shown_on p h ≡ Some (cycle.Acknowledge n)
      shows_it = (shows (strobe_holds a)).shows ∙ ap (λ v. Some v) (acknowledged n (shows (strobe_holds a)).cycle said)

      input_holds : hold (Fails G25 AcknowledgeInLow) ≡ true → iack_in p h (Slot s) ≡ true
      input_holds b = and_left (iack_in p h (Slot s)) true (and_left _ true (subst (answering AcknowledgeInLow) shows_it (one_met version p h G25 AcknowledgeInLow answer b refl)))

      out_holds : hold (Fails G25 OwnAcknowledgeOutHigh) ≡ true → drive h (Slot s) wire.IackOut ≡ false
      out_holds b =
          not_true (drive h (Slot s) wire.IackOut)
          (and_left (not (drive h (Slot s) wire.IackOut)) true (subst (answering OwnAcknowledgeOutHigh) shows_it (one_met version p h G25 OwnAcknowledgeOutHigh answer b refl)))

      no_interrupter : (o : Option InterrupterRow) → interrupter_at p s ≡ o → o ≡ None → iack_in p h (Slot s) ≡ true → ⊥
      no_interrupter o found none low = never (is_interrupter p s) (chain_member p (in_range p ok) h s low) (lacks (board p s) (found ∙ none))
        where
          by_row : (o : Option InterrupterRow) → o ≡ None → is_some o ≡ false
          by_row None e = refl
          by_row (Some i) e = absurd (cc)

          lacks : (o : Option Row) → option_and_then (λ r. r.interrupter) o ≡ None → option_map_or (λ r. is_some r.interrupter) o false ≡ false
          lacks None e = refl
          lacks (Some r) e = by_row r.interrupter e

      module _ (i : InterrupterRow) (found : interrupter_at p s ≡ Some i) where
        own_or : (t : ℕ) (b : Bool) → (t ≡ s → b ≡ true) → (not (t == s) || b) ≡ true
        own_or t b own = by_test (t == s) refl
          where
            by_test : (y : Bool) → (t == s) ≡ y → (not y || b) ≡ true
            by_test true e = own (same_number t s e)
            by_test false e = refl

        level_holds : hold (NotPending n) ≡ true → (i.level == n) ≡ true
        level_holds b = sym (ap (λ (o : Option InterrupterRow). option_map_or (λ y. y.level == n) o false) found) ∙ and_left _ _ (and_left _ _ b)

        pends : hold (NotPending n) ≡ true → (t : ℕ) → (not (t == s) || is_pending (request_of p h t)) ≡ true
        pends b t = own_or t (is_pending (request_of p h t)) (λ own. subst (λ y. is_pending (request_of p h y) ≡ true) (sym own) (subst (λ r. is_pending r ≡ true) (sym (pending_is p h s n b)) refl))

        byte_holds : (y : ℕ) → hold (OtherByte y) ≡ true → (i.status == y) ≡ true
        byte_holds y b = sym (ap (λ (o : Option InterrupterRow). option_map_or (λ z. z.status == y) o false) found) ∙ b

        its_segment : is_interrupter p s ≡ true
        its_segment = interrupts_there p i.level s (on_level_of p s i found)

        out_met : hold (Fails G25 OwnAcknowledgeOutHigh) ≡ true → are_alike (is_chain_low end s) false ≡ true
        out_met b = alike_high (is_chain_low end s) (sym (reads (strobe_holds a) (Some s) its_segment) ∙ out_holds b)

  answer_met : (s : ℕ) (x : Option Value) (k : Option Shown) → ((strobed : line_of p h wire.DataStrobe ≡ true) → option_map_or (says (shows strobed).cycle) k false ≡ true)
      → Tells p ok version pins h legal st covers (holds version p h (Slot s) (moved.Line line.Dtack) true x) s (answer_falls p st s x k)
  answer_met s x None said = λ a. (strobe_met s x a, tt)
  answer_met s None (Some (known.Access t)) said = λ a. (strobe_met s None a, λ b. (access_met s None a t (said (strobe_holds s None a)) b, tt))
  answer_met s (Some (value.Shown v)) (Some (known.Access t)) said = λ a.
      (strobe_met s (Some (value.Shown v)) a, λ b. (access_met s (Some (value.Shown v)) a t (said (strobe_holds s (Some (value.Shown v)) a)) b, tt))
  answer_met s (Some value.Access) (Some (known.Access t)) said = λ a.
      (strobe_met s (Some value.Access) a, λ b. (access_met s (Some value.Access) a t (said (strobe_holds s (Some value.Access) a)) b, tt))
  answer_met s (Some (value.Status y)) (Some (known.Access t)) said = λ a.
      let x : Option Value = Some (value.Status y) in (
        strobe_met s x a,
        λ b. (
          access_met s x a t (said (strobe_holds s x a)) b,
          λ c. (absurd (none_acknowledged s x t (shows (strobe_holds s x a)).cycle (shows (strobe_holds s x a)).shows (said (strobe_holds s x a)) c), tt),
        ),
      )
  answer_met s x (Some (known.Acknowledge n)) said = by_row (interrupter_at p s) refl x said
    where
      plain : (x : Option Value) → ((strobed : line_of p h wire.DataStrobe ≡ true) → option_map_or (says (shows strobed).cycle) (Some (known.Acknowledge n)) false ≡ true)
          → (i : InterrupterRow) → interrupter_at p s ≡ Some i
          → Tells p ok version pins h legal st covers (holds version p h (Slot s) (moved.Line line.Dtack) true x) s (acknowledge_answered p st s n None (Some i))
      plain x said i found a =
          let w = said (strobe_holds s x a) in (
            strobe_met s x a,
            λ b. (
              (strobe (strobe_holds s x a), comes (strobe_holds s x a) s (input_holds s x n a w b)),
              λ c. (
                level_holds s x n a w i found c,
                λ d. ((i, found, λ t on. pends s x n a w i found d t), λ f. ((strobe (strobe_holds s x a), out_met s x n a w i found f), tt)),
              ),
            ),
          )

      by_row : (o : Option InterrupterRow) → interrupter_at p s ≡ o → (x : Option Value)
          → ((strobed : line_of p h wire.DataStrobe ≡ true) → option_map_or (says (shows strobed).cycle) (Some (known.Acknowledge n)) false ≡ true)
          → Tells p ok version pins h legal st covers (holds version p h (Slot s) (moved.Line line.Dtack) true x) s (acknowledge_answered p st s n x o)
      by_row None found x said = λ a.
          (strobe_met s x a, λ b. (absurd (no_interrupter s x n a (said (strobe_holds s x a)) None found refl (input_holds s x n a (said (strobe_holds s x a)) b)), tt))
      by_row (Some i) found None said = plain None said i found
      by_row (Some i) found (Some (value.Shown v)) said = plain (Some (value.Shown v)) said i found
      by_row (Some i) found (Some value.Access) said = plain (Some value.Access) said i found
      by_row (Some i) found (Some (value.Status y)) said = λ a.
          let x : Option Value = Some (value.Status y) in
          let w = said (strobe_holds s x a) in (
            strobe_met s x a,
            λ b. (
              (strobe (strobe_holds s x a), comes (strobe_holds s x a) s (input_holds s x n a w b)),
              λ c. (
                level_holds s x n a w i found c,
                λ d. (
                  (i, found, λ t on. pends s x n a w i found d t),
                  λ f. (byte_holds s x n a w i found y f, λ g. ((strobe (strobe_holds s x a), out_met s x n a w i found g), tt)),
                ),
              ),
            ),
          )

  pub answers_fall : (s : ℕ) (x : Option Value) → Tells p ok version pins h legal st covers (holds version p h (Slot s) (moved.Line line.Dtack) true x) s (line_falls p st s line.Dtack x)
  answers_fall s x = answer_met s x st.shown told

  -- ---- BERR*

  last_is : is_segment_of p ok version pins h legal st covers (last_active p chain.Iack) ≡ true
  last_is =
      by_place (last_active p chain.Iack)
      (subst (IsBelow (interrupts p) (suc p.slots)) (last_of (interrupts p) p.slots p.slots (omega arith)) (is_below (interrupts p) p.slots (suc p.slots) (chain_within p (in_range p ok))))
    where
      by_place : (o : Option ℕ) → IsBelow (interrupts p) (suc p.slots) o → is_segment_of p ok version pins h legal st covers o ≡ true
      by_place None b = refl
      by_place (Some t) b = b.passes

  nobody_met : (strobed : line_of p h wire.DataStrobe ≡ true) (k : Option Shown) (c : Cycle) → is_in_range c ≡ true → is_unanswerable p h (Some c) ≡ true → option_map_or (says c) k false ≡ true
      → Meets p ok version pins h legal st covers 0 (nobody_answers p k).test
  nobody_met strobed (Some (known.Acknowledge m)) (cycle.Acknowledge n) range far said = (
    strobe strobed,
    alike_low (is_chain_low end (unwrap_or (last_active p chain.Iack) 0))
        (ap (is_chain_low end) (at_place (last_active p chain.Iack)) ∙ (sym (reads strobed (last_active p chain.Iack) last_is) ∙ far)),
  )
  nobody_met strobed (Some (known.Access (Some t))) (cycle.Access y) range far said =
      subst (λ z. not (is_some (board p z)) ≡ true) (sym (same_number t y said)) (ap (λ (o : Option Row). not (is_some o)) (no_board (board p y) far))
  nobody_met strobed (Some (known.Access None)) (cycle.Access y) range far said = one_empty p ok y range (no_board (board p y) far)
  nobody_met strobed (Some (known.Acknowledge m)) (cycle.Access y) range far said = absurd (never false said refl)
  nobody_met strobed (Some (known.Access (Some t))) (cycle.Acknowledge n) range far said = absurd (never false said refl)
  nobody_met strobed (Some (known.Access None)) (cycle.Acknowledge n) range far said = absurd (never false said refl)
  nobody_met strobed None c range far said = absurd (never false said refl)

  silence : (k : Option Shown) → (nobody_answers p k).obstacle ≡ Fails S2 NobodyCanAnswer
  silence None = refl
  silence (Some (known.Access None)) = refl
  silence (Some (known.Access (Some t))) = refl
  silence (Some (known.Acknowledge n)) = refl

  pub errors_fall : (x : Option Value) → Tells p ok version pins h legal st covers (holds version p h Controller (moved.Line line.Berr) true x) 0 (line_falls p st 0 line.Berr x)
  errors_fall x a =
      let strobed = and_left (line_of p h wire.DataStrobe) true (one_met version p h G7 DataStrobeLow (edge Controller wire.Berr true None) a refl) in (
        covers.levels.shared line.DataStrobe refl ∙ strobed,
        λ b. (
          ap not (covers.levels.shared line.Dtack refl) ∙ one_met version p h G7 DtackHigh (edge Controller wire.Berr true None) b refl,
          λ c. (
            nobody_met strobed st.shown (shows strobed).cycle (shows strobed).range
                (subst (λ v. is_unanswerable p h v ≡ true) (shows strobed).shows (one_settles version p h S2 NobodyCanAnswer (edge Controller wire.Berr true None)
                (subst (λ o. holds version p h Controller (moved.Line line.Berr) true x o ≡ true) (silence st.shown) c) refl)) (told strobed),
            tt,
          ),
        ),
      )
