-- Of all that rules may read, a master's rules read only what is given to it.
use Rattle.std.proofs.Common.{◌≡◌, refl, sym, ap, ◌∙◌, Bool, true, false, ℕ}
use Rattle.std.specs.Prelude.{Option, Some, None, Ok}
use Rattle.std.specs.Option.{option_map_or}
use Rattle.vme_model.specs.declared.boards.RequesterRow.{RequesterRow}
use Rattle.vme_model.specs.declared.pins.Pins.{Pins}
use Rattle.vme_model.specs.declared.refusals.Refused.TheVariants.{AlreadyThere, Rule}
use Rattle.vme_model.specs.declared.sets.Levels.{Levels}
use Rattle.vme_model.specs.declared.signals.Version.{Version}
use Rattle.vme_model.specs.declared.signals.Wire.{Wire}
use Rattle.vme_model.specs.declared.signals.Wire.TheVariants.{Addr, AddressStrobe, DataStrobe}
use Rattle.vme_model.specs.declared.signals.Cycle.{Cycle}
use Rattle.vme_model.specs.declared.signals.Cycle.TheVariants.{Acknowledge, Access}
use Rattle.vme_model.specs.Readings.{Readings}
use Rattle.vme_model.specs.Guards.{free as no_condition, holds}
use Rattle.vme_model.specs.Rules.{below_burst, is_below_burst, is_within_burst, may_show}
use Rattle.vme_model.specs.Verdict.{check, is_other_state, ruling_on}
use Rattle.vme_model.specs.declared.signals.Part.TheVariants as parts
use Rattle.vme_model.specs.Signals.{is_of}
use Rattle.vme_master.specs.Local.{master_readings, SayThePins}

alike : (o p b c fall : Bool) (n : ℕ) → o ≡ p → b ≡ c → check (is_other_state o fall) AlreadyThere (check b (Rule n) (Ok tt)) ≡ check (is_other_state p fall) AlreadyThere (check c (Rule n) (Ok tt))
alike o p b c fall n e f = cc

module _ (version : Version) (s : ℕ) (row : RequesterRow) (handler : Levels) (own : Wire → Bool) (cycles : ℕ) (has_strobed : Bool) (pins : Pins) (holds_bus : Bool) (r : Readings)
    (says : SayThePins row handler own cycles has_strobed pins holds_bus r) where
  abbrev t : Readings
  t = master_readings s row handler own cycles has_strobed pins holds_bus

  burst_alike : is_within_burst t ≡ is_within_burst r
  burst_alike =
      ap (λ n. is_below_burst n row.release) (sym says.tenure)
      ∙ ap (λ q. holds (option_map_or (λ a. below_burst r.cycles a.release) q no_condition)) (sym says.requester)

  show_alike : (value : Option Cycle) → may_show t value ≡ may_show r value
  show_alike None = refl
  show_alike (Some (Access slot)) = refl
  show_alike (Some (Acknowledge level)) = cc (says.handles level, says.irq level)

  pub reads_pins : (w : Wire) (fall : Bool) (value : Option Cycle) → is_of parts.Master w ≡ true → ruling_on version t w fall value ≡ ruling_on version r w fall value
  reads_pins Addr true v own = alike _ _ _ _ true 15 (sym (says.own_wires Addr refl)) (cc (says.bbsy, says.address_strobe, burst_alike, show_alike v))
  reads_pins Addr false v own = alike _ _ _ _ false 19 (sym (says.own_wires Addr refl)) (cc (says.own_wires AddressStrobe refl, says.own_wires DataStrobe refl, says.strobed))
  reads_pins AddressStrobe true v own = alike _ _ _ _ true 16 (sym (says.own_wires AddressStrobe refl)) (cc (says.own_wires Addr refl, says.address_strobe))
  reads_pins AddressStrobe false v own = alike _ _ _ _ false 20 (sym (says.own_wires AddressStrobe refl)) (cc (says.own_wires Addr refl))
  reads_pins DataStrobe true v own = alike _ _ _ _ true 17 (sym (says.own_wires DataStrobe refl))
      (cc (says.own_wires AddressStrobe refl, says.own_wires Addr refl, says.dtack, says.berr, says.strobed))
  reads_pins DataStrobe false v own = alike _ _ _ _ false 18 (sym (says.own_wires DataStrobe refl)) (cc (says.dtack, says.berr))
  reads_pins w fall v own = absurd (cc)
