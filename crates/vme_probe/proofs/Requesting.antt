-- Whoever may not have made a request, of the bus or of an interrupt, has a condition that is named: `laws`.
use Rattle.std.proofs.Common.{◌≡◌, ◌∙◌, ℕ, Bool, true, false, not, [], is_some, refl}
use Rattle.std.proofs.lemmas.Bool.{and_parts}
use Rattle.std.specs.Prelude.{◌==◌}
use Rattle.vme_model.specs.Accepted.{IsAccepted}
use Rattle.vme_model.specs.Plan.{Plan, requests_on}
use Rattle.vme_bus.specs.declared.sets.SlotSet.{SlotSet}
use Rattle.vme_bus.specs.Sets.{has}
use Rattle.vme_captures.specs.declared.signals.Change.{Change}
use Rattle.vme_captures.specs.declared.signals.Line.TheVariants as line
use Rattle.vme_captures.specs.declared.signals.Signal.{Signal}
use Rattle.vme_captures.specs.declared.signals.Signal.TheVariants as signal
use Rattle.vme_standings.specs.declared.standings.Drivers.{Drivers}
use Rattle.vme_standings.specs.declared.standings.Probed.{Probed}
use Rattle.vme_standings.specs.declared.standings.Standings.{Standings}
use Rattle.vme_standings.specs.Driving.{AreAskers, AreDrivers}
use Rattle.vme_standings.specs.GrantChains.{is_of_level}
use Rattle.vme_standings.specs.Phases.{is_held_by}
use Rattle.vme_standings.proofs.Tests.{never}
use Rattle.vme_probe.specs.Conditions.{request_falls}
use Rattle.vme_probe.specs.Demands.{first_failing, is_left}
use Rattle.vme_probe.specs.Hindered.{AreOthersHindered, is_of_requests}
use Rattle.vme_probe.proofs.Leaving.{named_if, near_slot, one_left, phase_left}

denied : (b : Bool) → not b ≡ true → b ≡ false
denied true h = absurd (never false h refl)
denied false h = refl

-- a board of the level that holds the bus in no phase may have asked
request_fall : (p : Plan) → IsAccepted p → (st : Standings) (n : ℕ) (boards : SlotSet) → AreAskers p n st.phases boards → (s : ℕ) → is_of_level p n s ≡ true → has boards s ≡ false
    → is_some (first_failing (is_left p st s) [] (request_falls s)) ≡ true
request_fall p ok st n boards who s on lacks = named_if _ (λ none.
    let k = one_left (is_left p st s) [] _ _ none in
    let f = phase_left p st.phases (request_falls s) k.0 in
    never (has boards s) (who.all s f.phase (near_slot p ok s (requests_on n) on).1 f.near on f.has
    (denied (is_held_by (λ b. b == s) f.phase) (and_parts (not (is_held_by (λ b. b == s) f.phase)) true f.allowed).0)) lacks)

pub requests_hindered : (p : Plan) (probed : Probed) (st : Standings) (c : Change) (may : Drivers) → IsAccepted p → AreDrivers p probed st c may
    → c.fall ≡ true → is_of_requests c.signal ≡ true → AreOthersHindered p probed.version st c may
requests_hindered p probed st c may ok who fall is = by_signal c.signal refl is
  where
    by_signal : (x : Signal) → c.signal ≡ x → is_of_requests x ≡ true → AreOthersHindered p probed.version st c may
    by_signal (signal.Line (line.Br n)) on is = record {
      controller = λ has_it lacks. absurd (never false (rw on at has_it) refl);
      boards = λ s has_it lacks. rw (on, fall) (request_fall p ok st n may.boards (rw (on, fall) at who.boards) s (rw on at has_it) lacks);
    }
    by_signal (signal.Line (line.Irq n)) on is = record {
      controller = λ has_it lacks. absurd (never false (rw on at has_it) refl);
      boards = λ s has_it lacks. absurd (never (has may.boards s) ((rw (on, fall) at who.boards) s ∙ (rw on at has_it)) lacks);
    }
    by_signal _ on is = absurd (never false is refl)
