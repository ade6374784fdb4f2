-- What is known at the beginning covers the bus.
use Rattle.std.proofs.Common.{◌≡◌, ◌∙◌, refl, sym, ℕ, zero, suc, Bool, true, false, List, [], ◌∷◌, arith}
use Rattle.std.specs.Prelude.{◌&&◌, ◌||◌}
use Rattle.std.specs.List.{list_any}
use Rattle.vme_model.specs.declared.boards.Row.{Row}
use Rattle.vme_model.specs.declared.sets.ChainId.{ChainId}
use Rattle.vme_model.specs.declared.signals.Wire.TheVariants as wire
use Rattle.vme_model.specs.Plan.{Plan, drives, interrupts_on, requests_on}
use Rattle.vme_model.specs.Accepted.{IsAccepted}
use Rattle.vme_model.specs.History.{line}
use Rattle.vme_captures.specs.declared.signals.Line.{Line}
use Rattle.vme_captures.specs.declared.signals.Line.TheVariants as on_line
use Rattle.vme_captures.specs.declared.signals.Pin.{Pin}
use Rattle.vme_captures.specs.Changes.{is_line_low}
use Rattle.vme_standings.specs.declared.phases.GrantPhase.TheVariants.{Idle}
use Rattle.vme_standings.specs.declared.standings.Standings.{Standings}
use Rattle.vme_standings.specs.Covers.{Covers, is_probed, is_segment_low}
use Rattle.vme_standings.specs.Running.{IsPowerUp}
use Rattle.vme_standings.proofs.FrontLaws.{any_meant, beginning_covers}
use Rattle.vme_standings.proofs.PhaseSteps.{begins_idle}
use Rattle.vme_standings.proofs.Tests.{never}

and_no : (a b : Bool) → b ≡ false → (a && b) ≡ false
and_no true b e = e
and_no false b e = refl

-- before any edge no line is low
none_pulls : (test : Row → Bool) (rows : List Row) → list_any (λ r. test r && false) rows ≡ false
none_pulls test [] = refl
none_pulls test (r ∷ rows) = off (test r) (list_any (λ r. test r && false) rows) (none_pulls test rows)
  where
    off : (a b : Bool) → b ≡ false → ((a && false) || b) ≡ false
    off true b e = e
    off false b e = e

line_high : (p : Plan) (l : Line) → is_line_low p [] l ≡ false
line_high p (on_line.Br n) = none_pulls (requests_on n) p.rows
line_high p (on_line.Irq n) = none_pulls (interrupts_on n) p.rows
line_high p on_line.Bbsy = none_pulls (drives wire.Bbsy) p.rows
line_high p on_line.AddressStrobe = none_pulls (drives wire.AddressStrobe) p.rows
line_high p on_line.DataStrobe = none_pulls (drives wire.DataStrobe) p.rows
line_high p on_line.Dtack = none_pulls (drives wire.Dtack) p.rows
line_high p on_line.Berr = refl
line_high p on_line.Bclr = refl

segment_high : (c : ChainId) (s : ℕ) → is_segment_low [] c s ≡ false
segment_high c zero = refl
segment_high c (suc s) = refl

pub power_up : (p : Plan) (pins : List Pin) (new : Standings) → IsAccepted p → IsPowerUp p new → Covers p pins [] new
power_up p pins new ok up = record {
  levels = record {
    shared = λ l on. up.lines l ∙ sym (line_high p l);
    probed = λ c s. up.low c s ∙ sym (and_no (is_probed p pins c s) (is_segment_low [] c s) (segment_high c s));
  };
  shown = record {
    high = λ off. up.shown;
    low = λ on. absurd (never (line p [] wire.AddressStrobe) on (line_high p on_line.AddressStrobe));
    shown = λ v on is. absurd (never (line p [] wire.AddressStrobe) on (line_high p on_line.AddressStrobe));
  };
  strobed = λ s on. absurd (cc);
  phases = record { phase = Idle 0; is_in = begins_idle p; member = up.phases.idle 0 (omega arith) };
  addressers = λ s on. absurd (cc);
  answerers = λ s on. absurd (cc);
  fronts = beginning_covers p new.fronts ok;
  requests = λ s on. up.requests.2.high s ∙ (up.requests.1 s ∙ any_meant p s on);
}
