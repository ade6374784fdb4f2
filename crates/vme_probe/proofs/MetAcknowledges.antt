-- The conditions of the pins of the acknowledge chain that hold of a bus are met by what covers it: `condition_laws`.
use Rattle.std.proofs.Common.{◌≡◌, ◌⊎◌, ◌∙◌, ◌&&◌, ◌||◌, ◌<◌, ◌≤◌, ℕ, suc, Bool, true, false, not, List, [], ◌∷◌, Option, Some, None, refl, sym, ap, subst, ⊎_elim, arith}
use Rattle.std.proofs.lemmas.Bool.Decides.{nat_tests}
use Rattle.std.specs.Prelude.{◌==◌, if◌then◌else◌}
use Rattle.std.specs.Option.{option_map_or}
use Rattle.vme_model.specs.declared.boards.InterrupterRow.{InterrupterRow}
use Rattle.vme_model.specs.declared.conditions.Condition.TheVariants.{AcknowledgeInLow, AcknowledgeShown, AddressStrobeHigh, AddressStrobeLow, DataStrobeLow, OwnDtackHigh}
use Rattle.vme_model.specs.declared.sentences.Rule.TheVariants.{G5, G6, G23, G24}
use Rattle.vme_model.specs.declared.sets.ChainId.TheVariants as chain
use Rattle.vme_model.specs.declared.signals.Cycle.{Cycle}
use Rattle.vme_model.specs.declared.signals.Cycle.TheVariants as cycle
use Rattle.vme_model.specs.declared.signals.Driver.TheVariants.{Controller, Slot}
use Rattle.vme_model.specs.declared.signals.Edge.{Edge}
use Rattle.vme_model.specs.declared.signals.Version.{Version}
use Rattle.vme_model.specs.declared.signals.Wire.TheVariants as wire
use Rattle.vme_model.specs.Accepted.{IsAccepted}
use Rattle.vme_model.specs.History.{drive, line as line_of, segment, shown as shown_on}
use Rattle.vme_model.specs.Plan.{Plan, upstream}
use Rattle.vme_model.specs.Readings.{iack_in, is_served as was_served, readings}
use Rattle.vme_model.specs.Rules.{pass_guard}
use Rattle.vme_model.specs.Signals.{is_acknowledge}
use Rattle.vme_model.specs.Verdict.{IsLegal}
use Rattle.vme_model.proofs.Below.{IsBelow}
use Rattle.vme_model.proofs.Bools.{and_left, is_false, not_true, same_number}
use Rattle.vme_model.proofs.CyclePhases.{Asking, CanAnswer, Done, Fresh, Justified, Quiet}
use Rattle.vme_model.proofs.Cycles.{Going, chain_below, has_board, interrupts, masters}
use Rattle.vme_model.proofs.Ranges.{in_range}
use Rattle.vme_captures.specs.declared.signals.Line.TheVariants as line
use Rattle.vme_captures.specs.declared.signals.Pin.{Pin}
use Rattle.vme_captures.specs.declared.signals.Value.{Value}
use Rattle.vme_standings.specs.declared.moving.Moved.TheVariants as moved
use Rattle.vme_standings.specs.declared.standings.Shown.{Shown}
use Rattle.vme_standings.specs.declared.standings.Shown.TheVariants as known
use Rattle.vme_standings.specs.declared.standings.Standings.{Standings}
use Rattle.vme_standings.specs.Covers.{Covers, says}
use Rattle.vme_standings.specs.Requests.{is_interrupter, request_by, request_of}
use Rattle.vme_standings.proofs.JoinedCycle.{driven_by, goes}
use Rattle.vme_standings.proofs.Tests.{never}
use Rattle.vme_probe.specs.declared.obstacles.Obstacle.{Obstacle}
use Rattle.vme_probe.specs.declared.obstacles.Obstacle.TheVariants.{Fails, IsPending}
use Rattle.vme_probe.specs.Conditions.{acknowledge_moves, chain_rises, is_acknowledge_shown, is_on_level, low, passed_on, start_falls}
use Rattle.vme_probe.specs.declared.demands.RequestTest.TheVariants.{NotPending as IsNotPending}
use Rattle.vme_probe.specs.Demands.{interrupter_at, is_pending, on_requests}
use Rattle.vme_probe.specs.Holding.{edge, holds}
use Rattle.vme_probe.proofs.LeftBy.{Tells}
use Rattle.vme_probe.proofs.MetAnswers.{comes, input_low, shows, strobe, told}
use Rattle.vme_probe.proofs.MetGuards.{met, one_met}

not_zero : (t : ℕ) → (suc t == 0) ≡ false
not_zero t = grind (arith, nat_tests)

-- what is known to be shown if an acknowledge is
known_ack : (v : Cycle) (k : Option Shown) → option_map_or (says v) k false ≡ true → is_acknowledge (Some v) ≡ true → is_acknowledge_shown k ≡ true
known_ack (cycle.Acknowledge m) (Some (known.Acknowledge n)) said is = refl
known_ack (cycle.Acknowledge m) (Some (known.Access t)) said is = absurd (never false said refl)
known_ack (cycle.Acknowledge m) None said is = absurd (never false said refl)
known_ack (cycle.Access y) k said is = absurd (never false is refl)

ack_shown : (n : ℕ) (v : Cycle) → says v (known.Acknowledge n) ≡ true → v ≡ cycle.Acknowledge n
ack_shown n (cycle.Acknowledge m) said = ap (λ k. cycle.Acknowledge k) (sym (same_number n m said))
ack_shown n (cycle.Access y) said = absurd (never false said refl)

module _ (p : Plan) (ok : IsAccepted p) (version : Version) (pins : List Pin) (h : List Edge) (legal : IsLegal version p h) (st : Standings) (covers : Covers p pins h st) where
  -- ---- the controller's segment

  head_fall : (x : Option Value) → Tells p ok version pins h legal st covers (holds version p h Controller (moved.Acknowledge 0) true x) 0 (start_falls st)
  head_fall x a = (
    covers.levels.shared line.AddressStrobe refl ∙ and_left (line_of p h wire.AddressStrobe) true
        (and_left _ true (one_met version p h G5 AddressStrobeLow (edge Controller wire.Iack true None) a refl)),
    λ b.
        let strobed = and_left (line_of p h wire.DataStrobe) true (one_met version p h G5 DataStrobeLow (edge Controller wire.Iack true None) b refl) in
        let w = shows p ok version pins h legal st covers strobed in (
          covers.levels.shared line.DataStrobe refl ∙ strobed,
          λ c. (
            known_ack w.cycle st.shown (told p ok version pins h legal st covers strobed)
                (subst (λ v. is_acknowledge v ≡ true) w.shows (one_met version p h G5 AcknowledgeShown (edge Controller wire.Iack true None) c refl)),
            tt,
          ),
        ),
  )

  head_rise : (x : Option Value) → Tells p ok version pins h legal st covers (holds version p h Controller (moved.Acknowledge 0) false x) 0 (chain_rises G6 st)
  head_rise x a = (ap not (covers.levels.shared line.AddressStrobe refl) ∙ one_met version p h G6 AddressStrobeHigh (edge Controller wire.Iack false None) a refl, tt)

  -- ---- a board's segment

  -- Nobody has answered an acknowledge that has come to a board which neither passed it on nor answered.
  unanswered : (strobed : line_of p h wire.DataStrobe ≡ true) (n s : ℕ) → is_interrupter p s ≡ true → shown_on p h ≡ Some (cycle.Acknowledge n) → iack_in p h (Slot s) ≡ true
      → drive h (Slot s) wire.IackOut ≡ false → drive h (Slot s) wire.Dtack ≡ false → line_of p h wire.Dtack ≡ false
  unanswered strobed n s on is low high silent = is_false (line_of p h wire.Dtack) (λ down. by_phase (goes version p ok h legal) (driven_by version p ok h wire.Dtack down))
    where
      by_order : (a b : ℕ) → (a < b) ⊎ (b ≤ a)
      by_order a b = grind arith

      some_strobe : ((t : ℕ) → drive h (Slot t) wire.DataStrobe ≡ false) → ⊥
      some_strobe none = let m = driven_by version p ok h wire.DataStrobe strobed in never (drive h (Slot m.0) wire.DataStrobe) m.1 (none m.0)

      passed_below : (hi : ℕ) → ((u : ℕ) → is_interrupter p u ≡ true → drive h (Slot u) wire.IackOut ≡ true → u < hi) → (u : ℕ) → is_interrupter p u ≡ true → u < s → u < hi
      passed_below hi below u member less = by_place (upstream p chain.Iack s) (chain_below p (in_range p ok) s) (input_low p ok version pins h legal st covers strobed s low)
        where
          by_place : (o : Option ℕ) → IsBelow (interrupts p) s o → segment h chain.Iack o ≡ true → u < hi
          by_place None b down = absurd (b u member less)
          by_place (Some w) b down = let l = below w b.passes down in let m = b.greatest u member less in omega (arith, l, m)

      by_answer : (t hi : ℕ) (g : Bool) → drive h (Slot t) wire.Dtack ≡ true → (s < hi → drive h (Slot s) wire.IackOut ≡ true)
          → ((u : ℕ) → is_interrupter p u ≡ true → drive h (Slot u) wire.IackOut ≡ true → u < hi) → CanAnswer (interrupts p) (masters p) (has_board p) p.slots (Some (cycle.Acknowledge n)) g hi t → ⊥
      by_answer t hi g down each below can = ⊎_elim
          (λ (l : s < t). never (drive h (Slot s) wire.IackOut) (each (can.3 s on l)) high)
          (λ (l : t ≤ s). ⊎_elim
          (λ (k : t < s). let past = passed_below hi below t can.0 k in let to = can.2 in absurd (omega (arith, past, to)))
          (λ (k : s ≤ t). let same : t ≡ s = omega (arith, l, k) in never (drive h (Slot s) wire.Dtack) (subst (λ y. drive h (Slot y) wire.Dtack ≡ true) same down) silent)
          (by_order t s))
          (by_order s t)

      by_phase : Going p h → (t : ℕ) × (drive h (Slot t) wire.Dtack ≡ true) → ⊥
      by_phase (Quiet, i) t = some_strobe i.dstrobe_high
      by_phase (Fresh m, i) t = some_strobe i.dstrobe_high
      by_phase (Done m, i) t = some_strobe i.dstrobe_high
      by_phase (Asking m g hi, i) t =
          by_answer t.0 hi g t.1 (λ l. i.iout_each s on l) (λ u member down. i.iout_below u member down)
          (subst (λ v. CanAnswer (interrupts p) (masters p) (has_board p) p.slots v g hi t.0) is
          (subst (Justified (interrupts p) (masters p) (has_board p) p.slots (shown_on p h) g hi) (i.answers.dtack_by t.0 t.1) i.justified))

  module _ (t : ℕ) (x : Option Value) where
    abbrev hold : Obstacle → Bool
    hold = holds version p h (Slot (suc t)) (moved.Acknowledge (suc t)) true x

    abbrev pass : Edge
    pass = edge (Slot (suc t)) wire.IackOut true None

    strobe_holds : hold (Fails G23 DataStrobeLow) ≡ true → line_of p h wire.DataStrobe ≡ true
    strobe_holds a = and_left (line_of p h wire.DataStrobe) _ (one_met version p h G23 DataStrobeLow pass a refl)

    strobe_met : hold (Fails G23 DataStrobeLow) ≡ true → low st line.DataStrobe ≡ true
    strobe_met a = covers.levels.shared line.DataStrobe refl ∙ strobe_holds a

    input_holds : hold (Fails G23 AcknowledgeInLow) ≡ true → iack_in p h (Slot (suc t)) ≡ true
    input_holds b = and_left (iack_in p h (Slot (suc t))) true (and_left _ true (and_left _ _ (one_met version p h G23 AcknowledgeInLow pass b refl)))

    silent_holds : hold (Fails G23 OwnDtackHigh) ≡ true → drive h (Slot (suc t)) wire.Dtack ≡ false
    silent_holds b =
        not_true (drive h (Slot (suc t)) wire.Dtack)
        (and_left (not (drive h (Slot (suc t)) wire.Dtack)) true (and_left _ _ (one_met version p h G23 OwnDtackHigh pass b refl)))

    -- none but an acknowledge is passed on
    other_shown : (v : Cycle) (k : Option Shown) → option_map_or (says v) k false ≡ true → is_acknowledge_shown k ≡ false
        → met AcknowledgeShown (pass_guard (readings p h (Slot (suc t))) (Some v)) ≡ true → ⊥
    other_shown (cycle.Acknowledge m) k said none is = never (is_acknowledge_shown k) (known_ack (cycle.Acknowledge m) k said refl) none
    other_shown (cycle.Access y) k said none is = never false is refl

    nothing_shown : (k : Option Shown) → is_acknowledge_shown k ≡ false
        → ((strobed : line_of p h wire.DataStrobe ≡ true) → option_map_or (says (shows p ok version pins h legal st covers strobed).cycle) k false ≡ true)
        → hold (Fails G23 DataStrobeLow) ≡ true → hold (Fails G23 AcknowledgeShown) ≡ true → ⊥
    nothing_shown k none said a b =
        let w = shows p ok version pins h legal st covers (strobe_holds a) in
        other_shown w.cycle k (said (strobe_holds a)) none
        (subst (λ v. met AcknowledgeShown (pass_guard (readings p h (Slot (suc t))) v) ≡ true) w.shows (one_met version p h G23 AcknowledgeShown pass b refl))

    -- a board that is not pending
    unpending : (n : ℕ) (i : InterrupterRow) → interrupter_at p (suc t) ≡ Some i → (i.level == n) ≡ true → hold (IsPending n) ≡ true → (u : ℕ)
        → (not (u == suc t) || not (is_pending (request_of p h u))) ≡ true
    unpending n i found level b u = by_test (u == suc t) refl
      where
        not_both : (l irq served : Bool) → l ≡ true → not ((l && irq) && not served) ≡ true → not (is_pending (request_by irq served)) ≡ true
        not_both true false served e f = refl
        not_both true true true e f = refl
        not_both true true false e f = absurd (never false f refl)
        not_both false irq served e f = absurd (never false e refl)

        own : not (is_pending (request_of p h (suc t))) ≡ true
        own =
            not_both (option_map_or (λ y. y.level == n) (interrupter_at p (suc t)) false) (drive h (Slot (suc t)) wire.Irq) (was_served p h (Slot (suc t)))
            (ap (λ (o : Option InterrupterRow). option_map_or (λ y. y.level == n) o false) found ∙ level) b

        by_test : (y : Bool) → (u == suc t) ≡ y → (not y || not (is_pending (request_of p h u))) ≡ true
        by_test true e = subst (λ z. not (is_pending (request_of p h z)) ≡ true) (sym (same_number u (suc t) e)) own
        by_test false e = refl

    module _ (member : is_interrupter p (suc t) ≡ true) (high : drive h (Slot (suc t)) wire.IackOut ≡ false) where
      request_met : (n : ℕ) (o : Option InterrupterRow) → interrupter_at p (suc t) ≡ o → (b : Bool) → is_on_level n o ≡ b
          → Tells p ok version pins h legal st covers (holds version p h (Slot (suc t)) (moved.Acknowledge (suc t)) true x) (suc t) (if b then on_requests (IsPending n) IsNotPending ∷ [] else [])
      request_met n o found false is = tt
      request_met n None found true is = absurd (never false is refl)
      request_met n (Some i) found true is = λ e. ((i, found, λ u on. unpending n i found is e u), tt)

      pass_met : (k : Option Shown) → ((strobed : line_of p h wire.DataStrobe ≡ true) → option_map_or (says (shows p ok version pins h legal st covers strobed).cycle) k false ≡ true)
          → Tells p ok version pins h legal st covers (holds version p h (Slot (suc t)) (moved.Acknowledge (suc t)) true x) (suc t) (passed_on p st (suc t) k)
      pass_met None said = λ a. (strobe_met a, λ b. (absurd (nothing_shown None refl said a b), tt))
      pass_met (Some (known.Access y)) said = λ a. (strobe_met a, λ b. (absurd (nothing_shown (Some (known.Access y)) refl said a b), tt))
      pass_met (Some (known.Acknowledge n)) said = λ a.
          let strobed = strobe_holds a in
          let w = shows p ok version pins h legal st covers strobed in
          let is : shown_on p h ≡ Some (cycle.Acknowledge n) = w.shows ∙ ap (λ v. Some v) (ack_shown n w.cycle (said strobed)) in (
            strobe_met a,
            λ b. (
              refl,
              λ c. (
                (strobe p ok version pins h legal st covers strobed, comes p ok version pins h legal st covers strobed (suc t) (input_holds c)),
                λ d. (
                  ap not (covers.levels.shared line.Dtack refl) ∙ ap not (unanswered strobed n (suc t) member is (input_holds c) high (silent_holds d)),
                  request_met n (interrupter_at p (suc t)) refl (is_on_level n (interrupter_at p (suc t))) refl,
                ),
              ),
            ),
          )

  board_rise : (t : ℕ) (x : Option Value) → Tells p ok version pins h legal st covers (holds version p h (Slot (suc t)) (moved.Acknowledge (suc t)) false x) (suc t) (chain_rises G24 st)
  board_rise t x a = (ap not (covers.levels.shared line.AddressStrobe refl) ∙ one_met version p h G24 AddressStrobeHigh (edge (Slot (suc t)) wire.IackOut false None) a refl, tt)

  -- ---- by the driver

  pub starts_fall : (x : Option Value) → Tells p ok version pins h legal st covers (holds version p h Controller (moved.Acknowledge 0) true x) 0 (acknowledge_moves p st 0 0 true)
  starts_fall x = head_fall x

  pub starts_rise : (x : Option Value) → Tells p ok version pins h legal st covers (holds version p h Controller (moved.Acknowledge 0) false x) 0 (acknowledge_moves p st 0 0 false)
  starts_rise x = head_rise x

  pub passes_fall : (t : ℕ) (x : Option Value) → is_interrupter p (suc t) ≡ true → drive h (Slot (suc t)) wire.IackOut ≡ false
      → Tells p ok version pins h legal st covers (holds version p h (Slot (suc t)) (moved.Acknowledge (suc t)) true x) (suc t) (acknowledge_moves p st (suc t) (suc t) true)
  passes_fall t x member high = rw (not_zero t) (pass_met t x member high st.shown (λ strobed. told p ok version pins h legal st covers strobed))

  pub passes_rise : (t : ℕ) (x : Option Value) → Tells p ok version pins h legal st covers (holds version p h (Slot (suc t)) (moved.Acknowledge (suc t)) false x) (suc t)
      (acknowledge_moves p st (suc t) (suc t) false)
  passes_rise t x = rw (not_zero t) (board_rise t x)
