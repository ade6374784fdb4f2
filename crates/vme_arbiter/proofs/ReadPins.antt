-- Of all that rules may read, a controller's rules read only what is given to it.
use Rattle.std.proofs.Common.{◌≡◌, refl, sym, ap, ◌∙◌, Bool, true, false, ℕ}
use Rattle.std.specs.Prelude.{◌&&◌, not, nat_lt, Option, Ok}
use Rattle.std.specs.List.{list_any}
use Rattle.vme_model.specs.declared.boards.ArbiterKind.{ArbiterKind}
use Rattle.vme_model.specs.declared.pins.Pins.{Pins}
use Rattle.vme_model.specs.declared.refusals.Refused.TheVariants.{AlreadyThere, Rule}
use Rattle.vme_model.specs.declared.signals.Version.{Version}
use Rattle.vme_model.specs.declared.signals.Wire.{Wire}
use Rattle.vme_model.specs.declared.signals.Wire.TheVariants.{Bg, Bclr, Iack, Berr}
use Rattle.vme_model.specs.declared.signals.Cycle.{Cycle}
use Rattle.vme_model.specs.Signals.{is_acknowledge, has_wire}
use Rattle.vme_model.specs.Sets.{has_bus_level}
use Rattle.vme_model.specs.Readings.{Readings}
use Rattle.vme_model.specs.Rules.{bus_numbers, is_pick, is_pri, are_grants_high, is_bus_clear_due}
use Rattle.vme_model.specs.Verdict.{check, is_other_state, ruling_on}
use Rattle.vme_model.specs.declared.signals.Driver.TheVariants.{Controller}
use Rattle.vme_model.proofs.Picks.{laws_of}
use Rattle.vme_arbiter.specs.Local.{controller_readings, SayThePins}

alike : (o p b c fall : Bool) (n : ℕ) → o ≡ p → b ≡ c → check (is_other_state o fall) AlreadyThere (check b (Rule n) (Ok tt)) ≡ check (is_other_state p fall) AlreadyThere (check c (Rule n) (Ok tt))
alike o p b c fall n e f = cc

-- a pick is by the four lines and the level itself
pick_alike : (kind : ArbiterKind) (low high : ℕ → Bool) (last n : ℕ) → ((m : ℕ) → low m ≡ high m) →
    is_pick kind low last n ≡ is_pick kind high last n
pick_alike kind low high last n same =
    (laws_of kind).by_lines low high last n (same 0) (same 1) (same 2) (same 3) (same n)

any_alike : (last : ℕ) (low high : ℕ → Bool) → ((m : ℕ) → low m ≡ high m) → list_any (λ m. nat_lt last m && low m) bus_numbers ≡ list_any (λ m. nat_lt last m && high m) bus_numbers
any_alike last low high same = cc (same 0, same 1, same 2, same 3)

module _ (version : Version) (kind : ArbiterKind) (own : Wire → Bool) (last_level : ℕ) (pins : Pins) (r : Readings) (says : SayThePins kind own last_level pins r) where
  abbrev t : Readings
  t = controller_readings kind own last_level pins

  grants_alike : are_grants_high t ≡ are_grants_high r
  grants_alike = cc (says.own_wires (Bg 0) refl, says.own_wires (Bg 1) refl, says.own_wires (Bg 2) refl, says.own_wires (Bg 3) refl)

  pick_so : (n : ℕ) → is_pick kind (has_bus_level pins.requests) last_level n ≡ is_pick r.arbiter r.request r.last_level n
  pick_so n =
      sym (pick_alike kind r.request (has_bus_level pins.requests) last_level n says.requests)
      ∙ ap (λ l. is_pick kind r.request l n) (sym says.last)
      ∙ ap (λ k. is_pick k r.request r.last_level n) (sym says.arbiter)

  any_so : list_any (λ m. nat_lt last_level m && has_bus_level pins.requests m) bus_numbers ≡ list_any (λ m. nat_lt r.last_level m && r.request m) bus_numbers
  any_so =
      sym (any_alike last_level r.request (has_bus_level pins.requests) says.requests)
      ∙ ap (λ l. list_any (λ m. nat_lt l m && r.request m) bus_numbers) (sym says.last)

  clear_alike : is_bus_clear_due t ≡ is_bus_clear_due r
  clear_alike = cc (ap is_pri says.arbiter, says.bbsy, grants_alike, any_so)

  acknowledge_alike : is_acknowledge pins.shown ≡ is_acknowledge r.shown
  acknowledge_alike = ap is_acknowledge (sym says.shown)

  pub reads_pins : (w : Wire) (fall : Bool) (value : Option Cycle) → has_wire Controller w ≡ true → ruling_on version t w fall value ≡ ruling_on version r w fall value
  reads_pins (Bg n) true v own =
      alike _ _ _ _ true 1 (sym (says.own_wires (Bg n) own)) (cc (grants_alike, says.bbsy, pick_so n))
  reads_pins (Bg n) false v own = alike _ _ _ _ false 2 (sym (says.own_wires (Bg n) own)) (cc says.bbsy)
  reads_pins Bclr true v own = alike _ _ _ _ true 3 (sym (says.own_wires Bclr refl)) clear_alike
  reads_pins Bclr false v own = alike _ _ _ _ false 4 (sym (says.own_wires Bclr refl)) (ap not clear_alike)
  reads_pins Iack true v own = alike _ _ _ _ true 5 (sym (says.own_wires Iack refl)) (cc (says.address_strobe, says.data_strobe, acknowledge_alike))
  reads_pins Iack false v own = alike _ _ _ _ false 6 (sym (says.own_wires Iack refl)) (cc says.address_strobe)
  reads_pins Berr true v own = alike _ _ _ _ true 7 (sym (says.own_wires Berr refl)) (cc (says.data_strobe, says.dtack))
  reads_pins Berr false v own = alike _ _ _ _ false 8 (sym (says.own_wires Berr refl)) (cc says.data_strobe)
  reads_pins w fall v own = absurd (cc)
