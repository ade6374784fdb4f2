-- Of all that rules may read, a requester's rules read only what is given to it.
use Rattle.std.proofs.Common.{◌≡◌, refl, sym, ap, ◌∙◌, Bool, true, false, ℕ}
use Rattle.std.specs.Prelude.{◌||◌, not, Option, Ok}
use Rattle.std.specs.List.{list_any}
use Rattle.std.specs.Option.{option_map_or}
use Rattle.vme_model.specs.declared.boards.Release.{Release}
use Rattle.vme_model.specs.declared.boards.Release.TheVariants.{Done, Request}
use Rattle.vme_model.specs.declared.boards.RequesterRow.{RequesterRow}
use Rattle.vme_model.specs.declared.pins.Pins.{Pins}
use Rattle.vme_model.specs.declared.refusals.Refused.TheVariants.{AlreadyThere, Rule}
use Rattle.vme_model.specs.declared.signals.Version.{Version}
use Rattle.vme_model.specs.declared.signals.Wire.{Wire}
use Rattle.vme_model.specs.declared.signals.Wire.TheVariants.{Br, BgOut, Bbsy}
use Rattle.vme_model.specs.declared.signals.Cycle.{Cycle}
use Rattle.vme_model.specs.Readings.{Readings}
use Rattle.vme_model.specs.Guards.{free as no_condition, holds}
use Rattle.vme_model.specs.Rules.{released, bus_numbers, is_asked, may_release}
use Rattle.vme_model.specs.Verdict.{check, is_other_state, ruling_on}
use Rattle.vme_model.specs.declared.signals.Part.TheVariants as parts
use Rattle.vme_model.specs.Signals.{is_of}
use Rattle.vme_requester.specs.Local.{requester_readings, SayThePins}

asked_alike : (r t : Readings) (release : Release) → ((n : ℕ) → r.request n ≡ t.request n) → is_asked r release ≡ is_asked t release
asked_alike r t (Done burst) same = refl
asked_alike r t Request same = cc (same 0, same 1, same 2, same 3)

free_again : (free : Bool) → (not (not free) || free) ≡ free
free_again true = refl
free_again false = refl

alike : (o p b c fall : Bool) (n : ℕ) → o ≡ p → b ≡ c → check (is_other_state o fall) AlreadyThere (check b (Rule n) (Ok tt)) ≡ check (is_other_state p fall) AlreadyThere (check c (Rule n) (Ok tt))
alike o p b c fall n e f = cc

module _ (version : Version) (s : ℕ) (row : RequesterRow) (own : Wire → Bool) (pins : Pins) (free : Bool) (r : Readings) (says : SayThePins row own pins free r) where
  abbrev t : Readings
  t = requester_readings s row own pins free

  release_alike : may_release t ≡ may_release r
  release_alike =
      sym (asked_alike r t row.release says.requests)
      ∙ ap (λ q. holds (option_map_or (λ a. released (list_any r.request bus_numbers) a.release) q no_condition)) (sym says.requester)

  pub reads_pins : (w : Wire) (fall : Bool) (value : Option Cycle) → is_of parts.Requester w ≡ true → ruling_on version t w fall value ≡ ruling_on version r w fall value
  reads_pins Br true v own = alike _ _ _ _ true 9 (sym (says.own_wires Br refl)) (cc (says.own_wires Bbsy refl))
  reads_pins Br false v own = alike _ _ _ _ false 10 (sym (says.own_wires Br refl)) (cc (says.own_wires Bbsy refl))
  reads_pins BgOut true v own = alike _ _ _ _ true 11 (sym (says.own_wires BgOut refl)) (cc (says.own_wires Br refl, says.own_wires Bbsy refl, says.grant_in))
  reads_pins BgOut false v own = alike _ _ _ _ false 12 (sym (says.own_wires BgOut refl)) (cc says.grant_in)
  reads_pins Bbsy true v own = alike _ _ _ _ true 13 (sym (says.own_wires Bbsy refl)) (cc (says.own_wires BgOut refl, says.own_wires Br refl, says.grant_in))
  reads_pins Bbsy false v own = alike _ _ _ _ false 14 (sym (says.own_wires Bbsy refl)) (cc (says.own_wires Br refl, says.grant_in, free_again free, says.address_free, release_alike))
  reads_pins w fall v own = absurd (cc)
