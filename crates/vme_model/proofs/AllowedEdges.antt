-- What an edge that is allowed has passed.
use Rattle.std.proofs.Common.{◌≡◌, ◌≢◌, ◌⊎◌, ℕ, Bool, true, false, List, Option, Result, Ok, refl, arith}
use Rattle.std.specs.Prelude.{◌&&◌, not, ◌==◌, if◌then◌else◌}
use Rattle.std.proofs.lemmas.Bool.Decides.{nat_tests}
use Rattle.vme_model.specs.declared.refusals.Refused.{Refused}
use Rattle.vme_model.specs.declared.refusals.Refused.TheVariants.{NoSuchDriver, AlreadyThere, Rule, NotSettled}
use Rattle.vme_model.specs.declared.signals.Version.{Version}
use Rattle.vme_model.specs.declared.signals.Edge.{Edge}
use Rattle.vme_model.specs.declared.signals.Cycle.{Cycle}
use Rattle.vme_model.specs.declared.signals.Driver.{Driver}
use Rattle.vme_model.specs.declared.signals.Wire.{Wire}
use Rattle.vme_model.specs.Signals.{has_wire, has_value}
use Rattle.vme_model.specs.Plan.{Plan, has_driver}
use Rattle.vme_model.specs.History.{drive}
use Rattle.vme_model.specs.Readings.{readings}
use Rattle.vme_model.specs.Rules.{rule}
use Rattle.vme_model.specs.Settling.{settling}
use Rattle.vme_model.specs.Verdict.{check, verdict_but_full}
use Rattle.vme_model.proofs.Bools.{and_left, and_right, not_true}
use Rattle.vme_model.proofs.GrantPhases.{Sets}

pub record Passed (version : Version) (p : Plan) (h : List Edge) (d : Driver) (w : Wire) (fall : Bool) (v : Option Cycle) : Type 0 where
  pub wire : has_wire d w ≡ true
  pub exists : has_driver p d w ≡ true
  pub before : drive h d w ≡ not fall
  pub rule : (rule version (readings p h d) w fall v).1 ≡ true
  pub settles : (settling version p h w fall).1 ≡ true

pub checked : (b : Bool) (e : Refused) (rest : Result (Unit {0}) Refused) → check b e rest ≡ Ok tt → (b ≡ true) × (rest ≡ Ok tt)
checked true e rest h = (refl, h)
checked false e rest h = cc

other : (a fall : Bool) → (if fall then not a else a) ≡ true → a ≡ not fall
other a true e = not_true a e
other a false e = e

pub all_passed : (version : Version) (p : Plan) (h : List Edge) (d : Driver) (w : Wire) (fall : Bool) (v : Option Cycle) → verdict_but_full version p h
    (record { driver = d; wire = w; fall = fall; value = v }) ≡ Ok tt → Passed version p h d w fall v
all_passed version p h d w fall v l =
    let a = checked _ NoSuchDriver _ l in
    let b = checked _ AlreadyThere _ a.1 in
    let c = checked _ (Rule (rule version (readings p h d) w fall v).0) _ b.1 in
    let e = checked _ (NotSettled (settling version p h w fall).0) _ c.1 in
    record {
      wire = and_left (has_wire d w) (has_value w fall v) (and_left (has_wire d w && has_value w fall v) (has_driver p d w) a.0);
      exists = and_right (has_wire d w && has_value w fall v) (has_driver p d w) a.0;
      before = other (drive h d w) fall b.0;
      rule = c.0;
      settles = e.0;
    }

pub sets_slot : (old : ℕ → Bool) (s : ℕ) (v : Bool) → Sets (λ t. if s == t then v else old t) old s v
sets_slot old s v t = sets_at (old t) s t v
  where
    sets_at : (o : Bool) (s t : ℕ) (v : Bool) → ((t ≡ s) × ((if s == t then v else o) ≡ v)) ⊎ ((t ≢ s) × ((if s == t then v else o) ≡ o))
    sets_at o s t v = grind (arith, nat_tests)

pub sets_level : (old : ℕ → Bool) (n : ℕ) (v : Bool) → Sets (λ t. if n == t && true then v else old t) old n v
sets_level old n v t = sets_at (old t) n t v
  where
    sets_at : (o : Bool) (s t : ℕ) (v : Bool) → ((t ≡ s) × ((if s == t && true then v else o) ≡ v)) ⊎ ((t ≢ s) × ((if s == t && true then v else o) ≡ o))
    sets_at o s t v = grind (arith, nat_tests)
