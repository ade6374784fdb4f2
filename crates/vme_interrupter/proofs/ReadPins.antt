-- Of all that rules may read, an interrupter's rules read only what is given to it.
use Rattle.std.proofs.Common.{◌≡◌, refl, sym, ap, ◌∙◌, Bool, true, false, ℕ}
use Rattle.std.specs.Prelude.{◌==◌, not, Option, Some, None, Ok}
use Rattle.std.specs.Option.{option_map_or}
use Rattle.vme_model.specs.declared.boards.InterrupterRow.{InterrupterRow}
use Rattle.vme_model.specs.declared.pins.Pins.{Pins}
use Rattle.vme_model.specs.declared.refusals.Refused.TheVariants.{AlreadyThere, Rule}
use Rattle.vme_model.specs.declared.signals.Version.{Version}
use Rattle.vme_model.specs.declared.signals.Wire.{Wire}
use Rattle.vme_model.specs.declared.signals.Wire.TheVariants.{Irq, IackOut, Dtack}
use Rattle.vme_model.specs.declared.signals.Cycle.{Cycle}
use Rattle.vme_model.specs.declared.signals.Cycle.TheVariants.{Acknowledge, Access}
use Rattle.vme_model.specs.Readings.{Readings, is_pending}
use Rattle.vme_model.specs.Rules.{is_passed_by, may_answer}
use Rattle.vme_model.specs.Verdict.{check, is_other_state, ruling_on}
use Rattle.vme_model.specs.declared.signals.Part.TheVariants as parts
use Rattle.vme_model.specs.Signals.{is_of}
use Rattle.vme_interrupter.specs.Local.{interrupter_readings, SayThePins}

alike : (o p b c fall : Bool) (n : ℕ) → o ≡ p → b ≡ c → check (is_other_state o fall) AlreadyThere (check b (Rule n) (Ok tt)) ≡ check (is_other_state p fall) AlreadyThere (check c (Rule n) (Ok tt))
alike o p b c fall n e f = cc

module _ (version : Version) (s : ℕ) (row : Option InterrupterRow) (own : Wire → Bool) (is_served : Bool) (pins : Pins) (r : Readings) (says : SayThePins s row own is_served pins r) where
  abbrev t : Readings
  t = interrupter_readings s row own is_served pins

  pending_alike : (level : ℕ) → is_pending t level ≡ is_pending r level
  pending_alike level =
      let same : option_map_or (λ i. i.level == level) row false ≡ _ = ap (λ i. option_map_or (λ a. a.level == level) i false) (sym says.interrupter) in
      cc (same, says.own_wires Irq refl, says.served)

  passed_alike : (shown : Option Cycle) → is_passed_by t shown ≡ is_passed_by r shown
  passed_alike None = refl
  passed_alike (Some (Access slot)) = refl
  passed_alike (Some (Acknowledge level)) = ap not (pending_alike level)

  answered_alike : (shown : Option Cycle) → may_answer t shown ≡ may_answer r shown
  answered_alike None = refl
  answered_alike (Some (Access slot)) = sym (says.slot slot)
  answered_alike (Some (Acknowledge level)) = cc (pending_alike level, says.own_wires IackOut refl, says.iack_in)

  passed_shown : is_passed_by t pins.shown ≡ is_passed_by r r.shown
  passed_shown = passed_alike pins.shown ∙ ap (is_passed_by r) (sym says.shown)

  answered_shown : may_answer t pins.shown ≡ may_answer r r.shown
  answered_shown = answered_alike pins.shown ∙ ap (may_answer r) (sym says.shown)

  pub reads_pins : (w : Wire) (fall : Bool) (value : Option Cycle) → is_of parts.Interrupter w ≡ true → ruling_on version t w fall value ≡ ruling_on version r w fall value
  reads_pins Irq true v own = alike _ _ true true true 21 (sym (says.own_wires Irq refl)) refl
  reads_pins Irq false v own = alike _ _ _ _ false 22 (sym (says.own_wires Irq refl)) (sym says.served)
  reads_pins IackOut true v own = alike _ _ _ _ true 23 (sym (says.own_wires IackOut refl)) (cc (says.iack_in, says.own_wires Dtack refl, says.data_strobe, passed_shown))
  reads_pins IackOut false v own = alike _ _ _ _ false 24 (sym (says.own_wires IackOut refl)) (cc (says.address_strobe))
  reads_pins Dtack true v own = alike _ _ _ _ true 25 (sym (says.own_wires Dtack refl)) (cc (says.data_strobe, says.address_strobe, answered_shown))
  reads_pins Dtack false v own = alike _ _ _ _ false 26 (sym (says.own_wires Dtack refl)) (cc (says.data_strobe))
  reads_pins w fall v own = absurd (cc)
