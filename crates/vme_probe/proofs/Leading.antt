-- What is known behind a capture of which somebody may have made each change fits together: `led_laws`.
use Rattle.std.proofs.Common.{◌≡◌, ◌∙◌, ◌∷◌, [], ◌<◌, ◌≤◌, ℕ, zero, suc, Bool, true, false, List, Option, Some, None, is_some, refl, sym, ap, subst, inl, inr, arith}
use Rattle.std.specs.Prelude.{nat_lt}
use Rattle.std.specs.Option.{option_map_or}
use Rattle.std.proofs.lemmas.Bool.{cases_Bool}
use Rattle.std.proofs.lemmas.Bool.Decides.{nat_tests}
use Rattle.vme_model.specs.declared.sets.ChainId.TheVariants.{Iack}
use Rattle.vme_model.specs.Accepted.{IsAccepted}
use Rattle.vme_model.specs.Plan.{Plan, is_active}
use Rattle.vme_bus.specs.Sets.{has}
use Rattle.vme_captures.specs.declared.signals.Change.{Change}
use Rattle.vme_captures.specs.declared.signals.Line.TheVariants as line
use Rattle.vme_captures.specs.declared.signals.Pin.{Pin}
use Rattle.vme_captures.specs.declared.signals.Signal.TheVariants as signal
use Rattle.vme_captures.specs.Levels.{is_line_left_low}
use Rattle.vme_captures.specs.Possible.{Capture, is_among}
use Rattle.vme_captures.specs.Signals.{is_change}
use Rattle.vme_captures.specs.Wires.{pin_on}
use Rattle.vme_standings.specs.declared.standings.Drivers.{Drivers}
use Rattle.vme_standings.specs.declared.standings.Probed.{Probed}
use Rattle.vme_standings.specs.declared.standings.Standings.{Standings}
use Rattle.vme_standings.specs.Behind.{IsBehind}
use Rattle.vme_standings.specs.Covers.{AreProbed, segment_at}
use Rattle.vme_standings.specs.Driving.{AreDrivers, is_left_low}
use Rattle.vme_standings.specs.Following.{RunsAs, StartsAs}
use Rattle.vme_standings.specs.Hidden.{HasMoved}
use Rattle.vme_standings.specs.Requests.{is_interrupter}
use Rattle.vme_standings.specs.Segments.{has_segment}
use Rattle.vme_standings.specs.Standings.{is_nobody}
use Rattle.vme_standings.proofs.JoinedSegments.{probed_works}
use Rattle.vme_standings.proofs.Tests.{never}
use Rattle.vme_probe.specs.ChainsFit.{AllFits, AreOnWires, IsSeen}
use Rattle.vme_probe.specs.Hindered.{AreOthersHindered, FitsTogether}
use Rattle.vme_probe.specs.Led.{IsLed, Leads}
use Rattle.vme_probe.proofs.AllHindered.{all_hindered}
use Rattle.vme_probe.proofs.ChainBehind as chain_behind
use Rattle.vme_probe.proofs.ChainKept as chain_kept
use Rattle.vme_probe.proofs.Fitting as fitting
use Rattle.vme_probe.proofs.GrantsBehind as grants_behind
use Rattle.vme_probe.proofs.GrantsHidden as grants_hidden
use Rattle.vme_probe.proofs.GrantsKept as grants_kept
use Rattle.vme_probe.proofs.Tied.{no_pin_beyond}

module _ (p : Plan) (ok : IsAccepted p) (probed : Probed) where
  -- ---- where the capture begins

  -- a probed segment of the acknowledge chain is the controller's, or that of a board with an interrupter
  on_wires : (qs : List Pin) → AreProbed p qs probed.segments → AreOnWires p probed
  on_wires qs probes s from near seen = by_place s from (sym (probes Iack s near) ∙ seen)
    where
      by_place : (s : ℕ) → 0 < s → is_some (pin_on p qs (segment_at Iack s)) ≡ true → is_interrupter p s ≡ true
      by_place zero from on = absurd (omega (arith, from))
      by_place (suc t) from on = probed_works p ok qs Iack t on

  runs_fit : (c : Capture) (first : Standings) → RunsAs p probed c first → is_among c.lows (signal.Line line.DataStrobe) ≡ false → FitsTogether p first
  runs_fit c first r high = record {
    strobed = λ falls.
        absurd (never (is_left_low first line.DataStrobe) falls (ap (λ l. is_line_left_low l line.DataStrobe) r.known.lines_are ∙ r.said.shared line.DataStrobe refl ∙ high));
    addressed = λ s there. absurd (never (has first.addressers s) there (r.known.addressers s));
    ends = λ s from to there. absurd (never (has first.fronts.ends s) there (r.known.fronts.ends s));
    segments = λ s there. elim (cases_Bool (nat_lt s 22)) [
      | inl below ↦ (let l : s < 22 = grind (arith, nat_tests) in l)
      | inr above ↦ absurd (let far : 22 ≤ s = grind (arith, nat_tests) in never (has first.low.acknowledge s) there (none s far))
    ];
  }
    where
      none : (s : ℕ) → 22 ≤ s → has first.low.acknowledge s ≡ false
      none s far =
          ap (λ l. has l.acknowledge s) r.known.low_are ∙ r.said.probed Iack s
          ∙ ap (λ (o : Option Pin). option_map_or (λ q. is_among c.lows (signal.Pin q)) o false) (no_pin_beyond p ok c.pins Iack s far)

  starts_fit : (c : Capture) (first : Standings) → AreProbed p c.pins probed.segments → StartsAs p probed c first → is_among c.lows (signal.Line line.DataStrobe) ≡ false → AllFits p probed first
  starts_fit c first probes starts high = by_way c.is_running refl
    where
      wires : AreOnWires p probed
      wires = on_wires c.pins probes

      by_way : (b : Bool) → c.is_running ≡ b → AllFits p probed first
      by_way false is = record {
        cycle = fitting.at_power_up p first (starts.power_up is);
        grants = grants_kept.power_up p probed first (starts.power_up is);
        acknowledge = chain_kept.power_up p probed first wires (starts.power_up is);
      }
      by_way true is =
          let r = starts.running is in
          record {
            cycle = runs_fit c first r high;
            grants = grants_kept.running p probed r.lines r.low first ok r.known;
            acknowledge = chain_kept.running p probed r.lines r.low first wires r.known;
          }

  -- ---- from there on

  fits_hidden : (old new : Standings) → HasMoved p probed old new → AllFits p probed old → AllFits p probed new
  fits_hidden old new h fits = record {
    cycle = fitting.with_hidden p probed old new h fits.cycle;
    grants = grants_hidden.hidden p probed old new ok h fits.grants;
    acknowledge = chain_kept.hidden p ok probed old new h fits.acknowledge;
  }

  fits_behind : (old new : Standings) (c : Change) (may : Drivers) → AreDrivers p probed old c may → is_nobody may ≡ false → is_change c ≡ true → IsBehind p probed old c new → AllFits p probed old
      → AllFits p probed new
  fits_behind old new c may who some change h fits = record {
    cycle = fitting.behind p probed old new c may ok who some change h fits.cycle;
    grants = grants_behind.behind p probed old new c may ok who some h fits.grants;
    acknowledge = chain_behind.behind p probed old new c may ok who some change h fits.acknowledge;
  }

  leads_fit : (first last : Standings) (cs : List Change) → Leads p probed first cs last → AllFits p probed first → AllFits p probed last
  leads_fit first last [] h fits = subst (λ st. AllFits p probed st) (sym h) fits
  leads_fit first last (c ∷ cs) h fits = fits_behind h.1 last c h.2 h.5 h.6 h.7 h.8 (fits_hidden h.0 h.1 h.4 (leads_fit first h.0 cs h.3 fits))

pub led_fits : (p : Plan) (probed : Probed) (c : Capture) (last : Standings) → IsAccepted p → IsLed p probed c last → AllFits p probed last
led_fits p probed c last ok led =
    fits_hidden p ok probed led.known.behind last led.known.hidden
    (leads_fit p ok probed led.known.first led.known.behind c.changes led.leads (starts_fit p ok probed c led.known.first led.known.probes led.known.starts led.high))

pub led_hindered : (p : Plan) (probed : Probed) (c : Capture) (last : Standings) (v : Change) (may : Drivers) → IsAccepted p → IsLed p probed c last
    → AreDrivers p probed last v may → IsSeen p probed last v → is_change v ≡ true
    → AreOthersHindered p c.version last v may
led_hindered p probed c last v may ok led who seen change =
    subst (λ x. AreOthersHindered p x last v may) (sym led.known.version) (all_hindered p probed last v may ok who (led_fits p probed c last ok led) seen change)
