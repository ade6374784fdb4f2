-- What is known of the acknowledge chain fits together, and stays so: `hindered_laws`.
use Rattle.std.proofs.Common.{◌≡◌, ◌≢◌, ◌∙◌, ◌&&◌, ◌||◌, ◌<◌, ◌≤◌, ◌⊎◌, ◌/◌, ℕ, zero, suc, Bool, true, false, cond, not, List, Option, Some, None, is_some, refl, sym, ap, subst, inl, inr, arith}
use Rattle.std.proofs.lemmas.Bool.{and_parts, cases_Bool}
use Rattle.std.proofs.lemmas.Bool.Decides.{nat_tests}
use Rattle.std.proofs.lemmas.Nat.Bits.{bit_at-lt, bit_at-suc, bit_at-zero}
use Rattle.std.specs.Int.{bit_at}
use Rattle.std.specs.Prelude.{nat_lt, nat_le, ◌==◌, if◌then◌else◌, unwrap_or}
use Rattle.vme_model.specs.declared.sets.ChainId.{ChainId}
use Rattle.vme_model.specs.declared.sets.ChainId.TheVariants.{Bg0, Bg1, Bg2, Bg3, Iack}
use Rattle.vme_model.specs.Accepted.{IsAccepted}
use Rattle.vme_model.specs.Plan.{Plan, board, upstream}
use Rattle.vme_model.proofs.Below.{IsBelow}
use Rattle.vme_model.proofs.Bools.{same_number}
use Rattle.vme_model.proofs.Cycles.{chain_below, interrupts}
use Rattle.vme_model.proofs.Ranges.{in_range}
use Rattle.vme_bus.specs.declared.sets.SlotSet.{SlotSet}
use Rattle.vme_bus.specs.Sets.{has}
use Rattle.vme_captures.specs.declared.levels.Levels.{Levels}
use Rattle.vme_captures.specs.declared.signals.Change.{Change}
use Rattle.vme_captures.specs.declared.signals.Line.{Line}
use Rattle.vme_captures.specs.declared.signals.Line.TheVariants as line
use Rattle.vme_captures.specs.declared.signals.Pin.{Pin}
use Rattle.vme_captures.specs.declared.signals.Signal.{Signal}
use Rattle.vme_captures.specs.declared.signals.Signal.TheVariants as signal
use Rattle.vme_captures.specs.declared.signals.Value.{Value}
use Rattle.vme_captures.specs.Levels.{is_line_left_low}
use Rattle.vme_captures.specs.Signals.{is_same_chain}
use Rattle.vme_captures.specs.Wires.{wire_of}
use Rattle.vme_standings.specs.declared.fronts.Fronts.{Fronts}
use Rattle.vme_standings.specs.declared.moving.Moved.TheVariants as moved
use Rattle.vme_standings.specs.declared.segments.Segments.{Segments}
use Rattle.vme_standings.specs.declared.standings.Drivers.{Drivers}
use Rattle.vme_standings.specs.declared.standings.Probed.{Probed}
use Rattle.vme_standings.specs.declared.standings.Shown.{Shown}
use Rattle.vme_standings.specs.declared.standings.Shown.TheVariants as shown
use Rattle.vme_standings.specs.declared.standings.Standings.{Standings}
use Rattle.vme_standings.specs.Driving.{is_left_low}
use Rattle.vme_standings.specs.Fronts.{MovesFronts, input_place, place_of}
use Rattle.vme_standings.specs.Hidden.{AreUnseen, FrontsHidden, HasMoved, HidesFronts, is_waited_for}
use Rattle.vme_standings.specs.Requests.{is_interrupter}
use Rattle.vme_standings.specs.Running.{IsPowerUp, Runs}
use Rattle.vme_standings.specs.Standings.{is_nobody}
use Rattle.vme_standings.proofs.Tests.{both, is_false, never, or_left, or_true}
use Rattle.vme_probe.specs.ChainsFit.{AcknowledgeFits, AreOnWires, may_end_at}
use Rattle.vme_probe.specs.Demands.{is_chain_low}
use Rattle.vme_probe.proofs.Leaving.{or_cases}

-- ---- at the beginning nothing is shown

pub without_a_cycle : (p : Plan) (probed : Probed) (st : Standings) → AreOnWires p probed → st.shown ≡ None → AcknowledgeFits p probed st
without_a_cycle p probed st wires none = record {
  wires = wires;
  cycle = λ some. absurd (never (is_some st.shown) some (ap is_some none));
  some = λ some. absurd (never (is_some st.shown) some (ap is_some none));
  each = λ some front ends s near seen. absurd (never (is_some st.shown) some (ap is_some none));
}

pub power_up : (p : Plan) (probed : Probed) (st : Standings) → AreOnWires p probed → IsPowerUp p st → AcknowledgeFits p probed st
power_up p probed st wires is = without_a_cycle p probed st wires is.shown

pub running : (p : Plan) (probed : Probed) (lines : Levels) (low : Segments) (st : Standings) → AreOnWires p probed → Runs p probed lines low st → AcknowledgeFits p probed st
running p probed lines low st wires is = without_a_cycle p probed st wires is.shown

-- the ends of the low segments, as the probes see them
pub record EndsFit (probed : Probed) (low : SlotSet) (f : Fronts) : Type 0 where
  pub some : (front : Option ℕ) × (may_end_at f front ≡ true)
  pub each : (front : Option ℕ) → may_end_at f front ≡ true → (s : ℕ) → s < 22 → has probed.segments.acknowledge s ≡ true → is_chain_low front s ≡ has low s

-- ---- the boards of the chain

in_slots : (end : ℕ) → nat_lt end 22 ≡ true → end < 22
in_slots end h = grind (arith, nat_tests)

pub below_last : (end : ℕ) → end < 22 → nat_lt end 22 ≡ true
below_last end h = grind (arith, nat_tests)

module _ (p : Plan) (ok : IsAccepted p) where
  pub input_below : (e : ℕ) → 0 < e → input_place p e < e
  input_below e from = at (upstream p Iack e) (chain_below p (in_range p ok) e)
    where
      at : (o : Option ℕ) → IsBelow (interrupts p) e o → place_of o < e
      at None none = from
      at (Some u) great = great.below

  -- no board of the chain stands between a board and its input
  none_between : (e s : ℕ) → 0 < s → is_interrupter p s ≡ true → s < e → s ≤ input_place p e
  none_between e s from is less = at (upstream p Iack e) (chain_below p (in_range p ok) e)
    where
      at : (o : Option ℕ) → IsBelow (interrupts p) e o → s ≤ place_of o
      at None none = absurd (none s is less)
      at (Some u) great = great.greatest s is less

  -- so a segment of the chain other than the board's is low up to both, or beyond both
  pub same_side : (e s : ℕ) → 0 < e → s ≢ e → (0 < s → is_interrupter p s ≡ true) → nat_le s (input_place p e) ≡ nat_le s e
  same_side e s from other on = elim (cases_Bool (nat_le s e)) [
    | inl low ↦ inside (at_most low) low
    | inr high ↦ outside high
  ]
    where
      at_most : nat_le s e ≡ true → s ≤ e
      at_most h = grind (arith, nat_tests)

      less_than : s ≤ e → s < e
      less_than h = elim (cases_Bool (nat_lt s e)) [
        | inl less ↦ (grind (arith, nat_tests))
        | inr least ↦ absurd (other (grind (arith, nat_tests)))
      ]

      reached : s < e → s ≤ input_place p e
      reached less = elim (cases_Bool (nat_lt 0 s)) [
        | inl from' ↦ (let f : 0 < s = grind (arith, nat_tests) in none_between e s f (on f) less)
        | inr first ↦ (let f : s ≡ 0 = grind (arith, nat_tests) in omega (arith, f))
      ]

      inside : s ≤ e → nat_le s e ≡ true → nat_le s (input_place p e) ≡ nat_le s e
      inside h low = (let r : s ≤ input_place p e = reached (less_than h) in grind (arith, nat_tests)) ∙ sym low

      outside : nat_le s e ≡ false → nat_le s (input_place p e) ≡ nat_le s e
      outside high = (let b : input_place p e < e = input_below e from in grind (arith, nat_tests)) ∙ sym high

  -- ---- with the edges that no probe sees

  module _ (probed : Probed) (st : Standings) (n : ℕ) (old new : Fronts) (low : SlotSet) (h : HidesFronts p probed st n old new) (wires : AreOnWires p probed)
      (each : (front : Option ℕ) → may_end_at old front ≡ true → (s : ℕ) → s < 22 → has probed.segments.acknowledge s ≡ true → is_chain_low front s ≡ has low s) where
    end_hidden : (most e : ℕ) → e ≤ most → e < 22 → has new.ends e ≡ true → (s : ℕ) → s < 22 → has probed.segments.acknowledge s ≡ true → nat_le s e ≡ has low s
    end_hidden most zero small near there s to seen = by_case (or_cases (has old.ends 0) (old.waiting && has h.unseen 0) (sym h.moves.head ∙ there))
      where
        by_case : (has old.ends 0 ≡ true) ⊎ ((old.waiting && has h.unseen 0) ≡ true) → nat_le s 0 ≡ has low s
        by_case (inl k) = each (Some 0) k s to seen
        by_case (inr k) =
            let w = and_parts old.waiting (has h.unseen 0) k in
            first s refl w.1 ∙ each None w.0 s to seen
          where
            first : (t : ℕ) → s ≡ t → has h.unseen 0 ≡ true → nat_le s 0 ≡ false
            first zero e unseen = absurd (never (has h.unseen 0) unseen (h.unseen_are 0 (omega arith) ∙ ap not (subst (λ k. has probed.segments.acknowledge k ≡ true) e seen)))
            first (suc t) e unseen = grind (arith, nat_tests)
    end_hidden zero (suc e) small near there s to seen = absurd (omega (arith, small))
    end_hidden (suc most) (suc e) small near there s to seen =
        by_case (or_cases (has old.ends (suc e)) _ (sym (h.moves.others (suc e) (omega arith) near) ∙ there))
        (λ k. let less = input_below (suc e) (omega arith) in end_hidden most (input_place p (suc e)) (omega (arith, less, small)) (omega (arith, less, near)) k s to seen)
      where
        by_case : (has old.ends (suc e) ≡ true) ⊎ (((has h.unseen (suc e) && has h.passing (suc e)) && has new.ends (input_place p (suc e))) ≡ true)
            → (has new.ends (input_place p (suc e)) ≡ true → nat_le s (input_place p (suc e)) ≡ has low s) → nat_le s (suc e) ≡ has low s
        by_case (inl k) before = each (Some (suc e)) (both (nat_lt (suc e) 22) (has old.ends (suc e)) (below_last (suc e) near) k) s to seen
        by_case (inr k) before =
            let l = and_parts (has h.unseen (suc e) && has h.passing (suc e)) (has new.ends (input_place p (suc e))) k in
            let unseen = (and_parts (has h.unseen (suc e)) (has h.passing (suc e)) l.0).0 in
            sym (same_side (suc e) s (omega arith) (differs unseen) (λ from. wires s from to seen)) ∙ before l.1
          where
            differs : has h.unseen (suc e) ≡ true → s ≢ suc e
            differs unseen same = never (has h.unseen (suc e)) unseen (h.unseen_are (suc e) near ∙ ap not (subst (λ k. has probed.segments.acknowledge k ≡ true) same seen))

    each_hidden : (front : Option ℕ) → may_end_at new front ≡ true → (s : ℕ) → s < 22 → has probed.segments.acknowledge s ≡ true → is_chain_low front s ≡ has low s
    each_hidden None waits s to seen = each None (sym h.moves.waiting ∙ waits) s to seen
    each_hidden (Some e) there s to seen =
        let k = and_parts (nat_lt e 22) (has new.ends e) there in
        end_hidden e e (omega arith) (in_slots e k.0) k.1 s to seen

    some_hidden : (front : Option ℕ) → may_end_at old front ≡ true → may_end_at new front ≡ true
    some_hidden None waits = h.moves.waiting ∙ waits
    some_hidden (Some zero) there = h.moves.head ∙ or_left (has old.ends 0) _ there
    some_hidden (Some (suc e)) there =
        let k = and_parts (nat_lt (suc e) 22) (has old.ends (suc e)) there in
        both (nat_lt (suc e) 22) (has new.ends (suc e)) k.0 (h.moves.others (suc e) (omega arith) (in_slots (suc e) k.0) ∙ or_left (has old.ends (suc e)) _ k.1)

  fronts_hidden : (probed : Probed) (st : Standings) (v : Option Shown) (waited : Bool) (low : SlotSet) (new : Fronts) → AreOnWires p probed → FrontsHidden p probed st v waited new
      → EndsFit probed low st.fronts
      → EndsFit probed low new
  fronts_hidden probed st (Some (shown.Acknowledge n)) true low new wires h fit = record {
    some = (fit.some.0, some_hidden probed st n st.fronts new low h wires fit.each fit.some.0 fit.some.1);
    each = each_hidden probed st n st.fronts new low h wires fit.each;
  }
  fronts_hidden probed st _ _ low new wires h fit = subst (λ f. EndsFit probed low f) (sym h) fit

  pub hidden : (probed : Probed) (old new : Standings) → HasMoved p probed old new → AcknowledgeFits p probed old → AcknowledgeFits p probed new
  hidden probed old new h fits = record {
    wires = fits.wires;
    cycle = λ some. ap (λ l. is_line_left_low l line.AddressStrobe) h.lines ∙ fits.cycle (before some);
    some = λ some. (moved some).some;
    each = λ some front ends s near seen. (moved some).each front ends s near seen ∙ ap (λ l. has l.acknowledge s) (sym h.low);
  }
    where
      before : is_some new.shown ≡ true → is_some old.shown ≡ true
      before some = ap is_some (sym h.shown) ∙ some

      moved : is_some new.shown ≡ true → EndsFit probed old.low.acknowledge new.fronts
      moved some = fronts_hidden probed (record old { requests = new.requests }) old.shown (is_waited_for old) old.low.acknowledge new.fronts fits.wires h.fronts
          (record { some = fits.some (before some); each = fits.each (before some) })
