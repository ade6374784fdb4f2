-- What an accepted edge has passed.
use Rattle.std.proofs.Common.{◌≡◌, refl, ℕ, Bool, true, false, Option, Ok, Err}
use Rattle.std.specs.Prelude.{is_ok}
use Rattle.vme_model.specs.declared.deliveries.Delivery.{Delivery}
use Rattle.vme_model.specs.declared.refusals.Refused.TheVariants.{NoSuchDriver, AlreadyThere, Rule, NotSettled, TraceFull}
use Rattle.vme_model.specs.declared.signals.Edge.{Edge}
use Rattle.vme_model.specs.Guards.{holds}
use Rattle.vme_model.specs.History.{drive}
use Rattle.vme_model.specs.Readings.{readings}
use Rattle.vme_model.specs.Rules.{rule}
use Rattle.vme_model.specs.Settling.{settling}
use Rattle.vme_model.specs.Verdict.{State, Judgement, check, driver_guard, state_guard, room_guard, verdict}
use Rattle.vme_model.specs.Deliveries.{with_delivery}
use Rattle.vme_model.proofs.AllowedEdges.{Passed, all_passed}
use Rattle.vme_summary.specs.Tally.{answered_edge, is_accepted}

pub allowed : (v : Judgement) (d : Option Delivery) → is_ok (with_delivery v d) ≡ true → v ≡ Ok tt
allowed (Ok done) d is = refl
allowed (Err r) d is = cc

without_room : (named moves ruled settled room : Bool) (k m : ℕ)
    → check named NoSuchDriver (check moves AlreadyThere (check ruled (Rule k) (check settled (NotSettled m) (check room TraceFull (Ok tt))))) ≡ Ok tt
    → check named NoSuchDriver (check moves AlreadyThere (check ruled (Rule k) (check settled (NotSettled m) (Ok tt)))) ≡ Ok tt
without_room true true true true room k m is = refl
without_room false moves ruled settled room k m is = is
without_room true false ruled settled room k m is = cc
without_room true true false settled room k m is = cc
without_room true true true false room k m is = cc

pub passed : (b : State) (e : Edge) → is_accepted (answered_edge b e) ≡ true → Passed b.version b.plan b.history e.driver e.wire e.fall e.value
passed b e is =
    let own = rule b.version (readings b.plan b.history e.driver) e.wire e.fall e.value in
    let settles = settling b.version b.plan b.history e.wire e.fall in
    all_passed b.version b.plan b.history e.driver e.wire e.fall e.value
    (without_room (holds (driver_guard b.plan e)) (holds (state_guard (drive b.history e.driver e.wire) e.fall)) own.1 settles.1 (holds (room_guard b)) own.0 settles.0 (allowed (verdict b e) _ is))
