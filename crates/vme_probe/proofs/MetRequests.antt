-- The conditions of BRn* and IRQn* that hold of a bus are met by what covers it: `condition_laws`.
use Rattle.std.proofs.Common.{◌≡◌, ◌∙◌, ◌&&◌, ◌||◌, ℕ, Bool, true, false, not, List, [], Option, Some, None, refl, sym, ap, subst, inl, inr, arith}
use Rattle.std.proofs.lemmas.Bool.{cases_Bool}
use Rattle.std.proofs.lemmas.Bool.Decides.{nat_tests}
use Rattle.std.specs.Prelude.{◌==◌}
use Rattle.std.specs.Option.{option_and_then, option_map_or}
use Rattle.vme_model.specs.declared.boards.InterrupterRow.{InterrupterRow}
use Rattle.vme_model.specs.declared.boards.Row.{Row}
use Rattle.vme_model.specs.declared.conditions.Condition.TheVariants.{OwnBusyHigh, OwnBusyLow}
use Rattle.vme_model.specs.declared.sentences.Rule.TheVariants.{G9, G10}
use Rattle.vme_model.specs.declared.signals.Driver.TheVariants.{Slot}
use Rattle.vme_model.specs.declared.signals.Edge.{Edge}
use Rattle.vme_model.specs.declared.signals.Version.{Version}
use Rattle.vme_model.specs.declared.signals.Wire.TheVariants as wire
use Rattle.vme_model.specs.Accepted.{IsAccepted}
use Rattle.vme_model.specs.History.{drive, pulls_interrupt, served_since_request}
use Rattle.vme_model.specs.Plan.{Plan, board}
use Rattle.vme_model.specs.Readings.{is_served as was_served}
use Rattle.vme_model.specs.Signals.{is_same_driver, is_two}
use Rattle.vme_model.specs.Verdict.{IsLegal}
use Rattle.vme_model.proofs.Bools.{same_number}
use Rattle.vme_model.proofs.Members.{found_row}
use Rattle.vme_model.proofs.Ranges.{IsRowInRange, in_range}
use Rattle.vme_captures.specs.declared.signals.Line.TheVariants as line
use Rattle.vme_captures.specs.declared.signals.Pin.{Pin}
use Rattle.vme_captures.specs.declared.signals.Value.{Value}
use Rattle.vme_standings.specs.declared.moving.Moved.TheVariants as moved
use Rattle.vme_standings.specs.declared.standings.Standings.{Standings}
use Rattle.vme_standings.specs.Covers.{Covers}
use Rattle.vme_standings.specs.Requests.{is_on_level, request_by, request_of}
use Rattle.vme_standings.proofs.RequestRows.{on_level_is}
use Rattle.vme_standings.proofs.Tests.{both, is_false, never}
use Rattle.vme_probe.specs.Conditions.{interrupt_rises, line_falls, line_rises, request_rises}
use Rattle.vme_probe.specs.Demands.{interrupter_at, is_served, pulls}
use Rattle.vme_probe.specs.Holding.{edge, holds, is_alone}
use Rattle.vme_probe.proofs.LeftBy.{Tells}
use Rattle.vme_probe.proofs.MetGuards.{first_edge, rule_met}

module _ (p : Plan) (ok : IsAccepted p) (version : Version) (pins : List Pin) (h : List Edge) (legal : IsLegal version p h) (st : Standings) (covers : Covers p pins h st) where
  -- ---- BRn*

  free_meets : (n s : ℕ) (x : Option Value) → Tells p ok version pins h legal st covers (holds version p h (Slot s) (moved.Line (line.Br n)) true x) s (line_falls p st s (line.Br n) x)
  free_meets n s x a =
      let e = edge (Slot s) wire.Br true None in
      let high : not (drive h (Slot s) wire.Bbsy) ≡ true = rule_met version p h G9 OwnBusyHigh e (first_edge version p h G9 OwnBusyHigh e [] a) refl in
      (ap not (sym (covers.phases.is_in.held s)) ∙ high, tt)

  held_meets : (n s : ℕ) (x : Option Value) → Tells p ok version pins h legal st covers (holds version p h (Slot s) (moved.Line (line.Br n)) false x) s (request_rises version s)
  held_meets n s x =
      elim (cases_Bool (is_two version)) [
        | inl two ↦ rw two tt
        | inr one ↦ rw one (λ a.
            let e = edge (Slot s) wire.Br false None in
            let low : (is_two version || drive h (Slot s) wire.Bbsy) ≡ true = rule_met version p h G10 OwnBusyLow e (first_edge version p h G10 OwnBusyLow e [] a) refl in
            (sym (covers.phases.is_in.held s) ∙ (rw one at low), tt))
      ]

  -- ---- IRQn*

  module _ (s : ℕ) (i : InterrupterRow) (found : interrupter_at p s ≡ Some i) where
    pulled : (b : Bool) → pulls (request_by true b) ≡ true
    pulled true = refl
    pulled false = refl

    unpulled : (a b : Bool) → a ≡ false → not (pulls (request_by a b)) ≡ true
    unpulled true b e = absurd (never true refl e)
    unpulled false b e = refl

    own_or : (t : ℕ) (b : Bool) → (t ≡ s → b ≡ true) → (not (t == s) || b) ≡ true
    own_or t b own = by_test (t == s) refl
      where
        by_test : (x : Bool) → (t == s) ≡ x → (not x || b) ≡ true
        by_test true e = own (same_number t s e)
        by_test false e = refl

    pulls_own : drive h (Slot s) wire.Irq ≡ true → (t : ℕ) → (not (t == s) || pulls (request_of p h t)) ≡ true
    pulls_own low t = own_or t (pulls (request_of p h t)) (λ own.
        subst (λ y. pulls (request_of p h y) ≡ true) (sym own) (subst (λ b. pulls (request_by b (was_served p h (Slot s))) ≡ true) (sym low) (pulled (was_served p h (Slot s)))))

    served_is : served_since_request p h (Slot s) i.kind ≡ true → was_served p h (Slot s) ≡ true
    served_is b = by_board (board p s) found
      where
        by_row : (o : Option InterrupterRow) → o ≡ Some i → option_map_or (λ y. served_since_request p h (Slot s) y.kind) o false ≡ true
        by_row o e = ap (λ k. option_map_or (λ y. served_since_request p h (Slot s) y.kind) k false) e ∙ b

        by_board : (o : Option Row) → option_and_then (λ r. r.interrupter) o ≡ Some i
            → option_map_or (λ r. option_map_or (λ y. served_since_request p h (Slot s) y.kind) r.interrupter false) o false ≡ true
        by_board None e = absurd (cc)
        by_board (Some r) e = by_row r.interrupter e

    served_own : drive h (Slot s) wire.Irq ≡ true → served_since_request p h (Slot s) i.kind ≡ true → (t : ℕ) → (not (t == s) || is_served (request_of p h t)) ≡ true
    served_own low b t = own_or t (is_served (request_of p h t)) (λ own.
        subst (λ y. is_served (request_of p h y) ≡ true) (sym own)
        (subst (λ y. is_served (request_by y (was_served p h (Slot s))) ≡ true) (sym low) (subst (λ y. is_served (request_by true y) ≡ true) (sym (served_is b)) refl)))

    other_high : is_alone p h (Slot s) i.level ≡ true → (t : ℕ) → is_on_level p i.level t ≡ true → (t == s || not (pulls (request_of p h t))) ≡ true
    other_high alone t on = by_test (t == s) refl
      where
        differ : (a b : ℕ) → (a == b) ≡ false → not (b == a) ≡ true
        differ a b e = grind (arith, nat_tests)

        not_any : (b : Bool) → not b ≡ true → b ≡ false
        not_any b e = grind arith

        high : (t == s) ≡ false → drive h (Slot t) wire.Irq ≡ false
        high other = is_false (drive h (Slot t) wire.Irq) (λ low.
            let b = on_level_is p i.level t on in
            let f = found_row (IsRowInRange p) p.rows t b.row (in_range p ok).rows b.found in
            never _ (f.passes (λ r. pulls_interrupt h i.level r && not (is_same_driver (Slot s) (Slot r.slot)))
            (both _ _ (both _ _ b.on (subst (λ y. drive h (Slot y) wire.Irq ≡ true) (sym f.slot) low)) (subst (λ y. not (s == y) ≡ true) (sym f.slot) (differ t s other))))
            (not_any _ alone))

        by_test : (b : Bool) → (t == s) ≡ b → (b || not (pulls (request_of p h t))) ≡ true
        by_test true e = refl
        by_test false e = unpulled (drive h (Slot t) wire.Irq) (was_served p h (Slot t)) (high e)

  served_meets : (n s : ℕ) (x : Option Value) → Tells p ok version pins h legal st covers (holds version p h (Slot s) (moved.Line (line.Irq n)) false x) s (interrupt_rises (interrupter_at p s))
  served_meets n s x = by_row (interrupter_at p s) refl
    where
      by_row : (o : Option InterrupterRow) → interrupter_at p s ≡ o → Tells p ok version pins h legal st covers (holds version p h (Slot s) (moved.Line (line.Irq n)) false x) s (interrupt_rises o)
      by_row None found = tt
      by_row (Some i) found = λ a. (
        (i, found, λ t on. pulls_own s i found a t),
        λ b. (
          (i, found, λ t on. served_own s i found a b t),
          λ c. (
            (
              i,
              found,
              λ t on. other_high s i found (sym (ap (λ (o : Option InterrupterRow). option_map_or (λ y. is_alone p h (Slot s) y.level) o false) found) ∙ c) t on,
            ),
            tt,
          ),
        ),
      )

  -- ---- both

  pub requests_fall : (s : ℕ) (x : Option Value) (n : ℕ) → Tells p ok version pins h legal st covers (holds version p h (Slot s) (moved.Line (line.Br n)) true x) s (line_falls p st s (line.Br n) x)
  requests_fall s x n = free_meets n s x

  pub requests_rise : (s : ℕ) (x : Option Value) (n : ℕ) → Tells p ok version pins h legal st covers (holds version p h (Slot s) (moved.Line (line.Br n)) false x) s
      (line_rises p version st s (line.Br n))
  requests_rise s x n = held_meets n s x

  pub interrupts_rise : (s : ℕ) (x : Option Value) (n : ℕ) → Tells p ok version pins h legal st covers (holds version p h (Slot s) (moved.Line (line.Irq n)) false x) s
      (line_rises p version st s (line.Irq n))
  interrupts_rise s x n = served_meets n s x
