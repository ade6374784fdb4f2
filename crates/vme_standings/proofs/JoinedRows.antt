-- What is known of the whole bus covers it behind each change that the probes see, and whoever made
-- it is among those who may have.
use Rattle.std.proofs.Common.{◌≡◌, ◌∙◌, refl, sym, ℕ, zero, suc, Bool, true, false, List, ◌∷◌, ◌<◌, arith}
use Rattle.std.specs.Prelude.{◌==◌, ◌&&◌, not, Option, Some}
use Rattle.vme_model.specs.declared.sets.ChainId.{ChainId}
use Rattle.vme_model.specs.declared.sets.ChainId.TheVariants as chain
use Rattle.vme_model.specs.declared.signals.Driver.{Driver}
use Rattle.vme_model.specs.declared.signals.Driver.TheVariants.{Controller, Slot}
use Rattle.vme_model.specs.declared.signals.Edge.{Edge}
use Rattle.vme_model.specs.Plan.{Plan, grant_chain}
use Rattle.vme_model.specs.Accepted.{IsAccepted}
use Rattle.vme_model.specs.Verdict.{IsLegal}
use Rattle.vme_model.proofs.Bools.{and_left, and_right}
use Rattle.vme_bus.proofs.Masks.{some_bit}
use Rattle.vme_captures.specs.declared.signals.Change.{Change}
use Rattle.vme_captures.specs.declared.signals.Line.TheVariants as on_line
use Rattle.vme_captures.specs.declared.signals.Pin.{Pin}
use Rattle.vme_captures.specs.declared.signals.Side.{Side}
use Rattle.vme_captures.specs.declared.signals.Signal.{Signal}
use Rattle.vme_captures.specs.declared.signals.Signal.TheVariants as signal
use Rattle.vme_captures.specs.declared.signals.Value.{Value}
use Rattle.vme_captures.specs.Changes.{agrees, are_values_of, is_same_way, seen}
use Rattle.vme_captures.specs.Signals.{is_same_signal}
use Rattle.vme_captures.specs.Wires.{wire_of}
use Rattle.vme_captures.proofs.Same.{signal_same}
use Rattle.vme_standings.specs.declared.moving.Moved.TheVariants as moved
use Rattle.vme_standings.specs.declared.standings.Drivers.{Drivers}
use Rattle.vme_standings.specs.declared.standings.Probed.{Probed}
use Rattle.vme_standings.specs.declared.standings.Standings.{Standings}
use Rattle.vme_standings.specs.Covers.{Among, Covers, segment_at}
use Rattle.vme_standings.specs.InPhase.{grant_segment}
use Rattle.vme_standings.specs.Moving.{moved_by}
use Rattle.vme_standings.specs.Standings.{is_nobody}
use Rattle.vme_standings.proofs.JoinedAnswers.{answer_falls}
use Rattle.vme_standings.proofs.JoinedErrors.{error_falls}
use Rattle.vme_standings.proofs.JoinedGrants.{grant_falls, grant_rises}
use Rattle.vme_standings.proofs.JoinedPasses.{pass_falls, pass_rises}
use Rattle.vme_standings.proofs.JoinedSeen.{IsStep, Step, answer_goes_up, busy_falls, busy_rises, clear_falls, clear_rises, data_falls, data_rises, error_rises, interrupt_falls, interrupt_rises, request_falls, request_rises, strobe_goes_up}
use Rattle.vme_standings.proofs.JoinedSegments.{place_of_pin, wire_at}
use Rattle.vme_standings.proofs.JoinedStarts.{strobe_goes_down}

grant_at : (c t : ℕ) → segment_at (grant_chain c) t ≡ grant_segment c t
grant_at c zero = refl
grant_at c (suc t) = refl

same_way : (a b : Bool) → is_same_way a b ≡ true → b ≡ a
same_way true true e = refl
same_way false false e = refl
same_way true false e = absurd (cc)
same_way false true e = absurd (cc)

-- drivers among whom somebody is
pub somebody : (d : Drivers) (x : Driver) → Among d x → is_nobody d ≡ false
somebody d Controller on = off (d.controller) (d.boards.bits == 0) on
  where
    off : (a b : Bool) → a ≡ true → (not a && b) ≡ false
    off a b f = grind arith
somebody d (Slot t) on = off (d.controller) (d.boards.bits == 0) (some_bit d.boards.bits t on)
  where
    off : (a b : Bool) → not b ≡ true → (not a && b) ≡ false
    off a b f = grind arith

module _ (probed : Probed) (p : Plan) (ok : IsAccepted p) (pins : List Pin) (h : List Edge) (e : Edge) (v : Change) (legal : IsLegal probed.version p (e ∷ h)) (s : seen p pins h e ≡ Some v)
    (st : Standings) (covers : Covers p pins h st) where
  -- a segment of a chain
  grant_step : (q : Pin) (c : ℕ) → c < 4 → v.signal ≡ signal.Pin q → wire_of p q ≡ grant_segment c (place_of_pin p ok q) → moved_by p (signal.Pin q) ≡ moved.Grant c (place_of_pin p ok q)
      → (f : Bool) (val : Option Value) → v.fall ≡ f → Step probed p ok pins h e v legal s st covers (signal.Pin q) f val
  grant_step q c few is at m true val fall = grant_falls probed p ok pins h e v legal s st covers q c (place_of_pin p ok q) few is at m val fall
  grant_step q c few is at m false val fall = grant_rises probed p ok pins h e v legal s st covers q c (place_of_pin p ok q) few is at m val fall

  pass_step : (q : Pin) → v.signal ≡ signal.Pin q → wire_of p q ≡ segment_at chain.Iack (place_of_pin p ok q) → moved_by p (signal.Pin q) ≡ moved.Acknowledge (place_of_pin p ok q)
      → (f : Bool) (val : Option Value) → v.fall ≡ f → Step probed p ok pins h e v legal s st covers (signal.Pin q) f val
  pass_step q is at m true val fall = pass_falls probed p ok pins h e v legal s st covers q (place_of_pin p ok q) is at m fall val
  pass_step q is at m false val fall = pass_rises probed p ok pins h e v legal s st covers q (place_of_pin p ok q) is at m fall val

  pin_step : (slot : ℕ) (c : ChainId) (side : Side) → (let q : Pin = record { slot = slot; chain = c; side = side } in
      v.signal ≡ signal.Pin q → (f : Bool) (val : Option Value) → v.fall ≡ f → Step probed p ok pins h e v legal s st covers (signal.Pin q) f val)
  pin_step slot chain.Bg0 side is =
      let q : Pin = record { slot = slot; chain = chain.Bg0; side = side } in
      grant_step q 0 (omega arith) is (wire_at p ok q ∙ grant_at 0 (place_of_pin p ok q)) refl
  pin_step slot chain.Bg1 side is =
      let q : Pin = record { slot = slot; chain = chain.Bg1; side = side } in
      grant_step q 1 (omega arith) is (wire_at p ok q ∙ grant_at 1 (place_of_pin p ok q)) refl
  pin_step slot chain.Bg2 side is =
      let q : Pin = record { slot = slot; chain = chain.Bg2; side = side } in
      grant_step q 2 (omega arith) is (wire_at p ok q ∙ grant_at 2 (place_of_pin p ok q)) refl
  pin_step slot chain.Bg3 side is =
      let q : Pin = record { slot = slot; chain = chain.Bg3; side = side } in
      grant_step q 3 (omega arith) is (wire_at p ok q ∙ grant_at 3 (place_of_pin p ok q)) refl
  pin_step slot chain.Iack side is =
      let q : Pin = record { slot = slot; chain = chain.Iack; side = side } in
      pass_step q is (wire_at p ok q) refl

  -- each change
  step : (x : Signal) (f : Bool) (val : Option Value) → v.signal ≡ x → v.fall ≡ f → are_values_of val v.value ≡ true → Step probed p ok pins h e v legal s st covers x f val
  step (signal.Line (on_line.Br n)) true val is fall agree = request_falls probed p ok pins h e v legal s st covers n val is fall
  step (signal.Line (on_line.Br n)) false val is fall agree = request_rises probed p ok pins h e v legal s st covers n val is fall
  step (signal.Line (on_line.Irq n)) true val is fall agree = interrupt_falls probed p ok pins h e v legal s st covers n val is fall
  step (signal.Line (on_line.Irq n)) false val is fall agree = interrupt_rises probed p ok pins h e v legal s st covers n val is fall
  step (signal.Line on_line.Bbsy) true val is fall agree = busy_falls probed p ok pins h e v legal s st covers val is fall
  step (signal.Line on_line.Bbsy) false val is fall agree = busy_rises probed p ok pins h e v legal s st covers val is fall
  step (signal.Line on_line.AddressStrobe) true val is fall agree = strobe_goes_down probed p ok pins h e v legal s st covers is fall val agree
  step (signal.Line on_line.AddressStrobe) false val is fall agree = strobe_goes_up probed p ok pins h e v legal s st covers is fall val
  step (signal.Line on_line.DataStrobe) true val is fall agree = data_falls probed p ok pins h e v legal s st covers is fall val
  step (signal.Line on_line.DataStrobe) false val is fall agree = data_rises probed p ok pins h e v legal s st covers is val fall
  step (signal.Line on_line.Dtack) true val is fall agree = answer_falls probed p ok pins h e v legal s st covers is fall val agree
  step (signal.Line on_line.Dtack) false val is fall agree = answer_goes_up probed p ok pins h e v legal s st covers is fall val
  step (signal.Line on_line.Berr) true val is fall agree = error_falls probed p ok pins h e v legal s st covers is fall val
  step (signal.Line on_line.Berr) false val is fall agree = error_rises probed p ok pins h e v legal s st covers is val fall
  step (signal.Line on_line.Bclr) true val is fall agree = clear_falls probed p ok pins h e v legal s st covers is val fall
  step (signal.Line on_line.Bclr) false val is fall agree = clear_rises probed p ok pins h e v legal s st covers is val fall
  step (signal.Pin q) f val is fall agree = pin_step q.slot q.chain q.side is f val fall

  -- a captured change that says what was seen
  module _ (c : Change) (agree : agrees c v ≡ true) where
    first : (is_same_signal c.signal v.signal && is_same_way c.fall v.fall) ≡ true
    first = and_left (is_same_signal c.signal v.signal && is_same_way c.fall v.fall) (are_values_of c.value v.value) agree

    pub seen_step : IsStep p probed pins h e st c
    seen_step =
        step c.signal c.fall c.value
        (sym (signal_same c.signal v.signal (and_left (is_same_signal c.signal v.signal) (is_same_way c.fall v.fall) first)))
        (same_way c.fall v.fall (and_right (is_same_signal c.signal v.signal) (is_same_way c.fall v.fall) first))
        (and_right (is_same_signal c.signal v.signal && is_same_way c.fall v.fall) (are_values_of c.value v.value) agree)
