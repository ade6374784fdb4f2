-- The controller has a grant for each of the levels 0 to 3.
use Rattle.std.proofs.Common.{◌≡◌, ◌<◌, refl, subst, arith, ℕ, Bool, true, false}
use Rattle.std.specs.Prelude.{IsTrue, ◌&&◌}
use Rattle.std.proofs.lemmas.Bool.Decides.{nat_tests}
use Rattle.vme_model.specs.declared.signals.Driver.{Driver}
use Rattle.vme_model.specs.declared.signals.Driver.TheVariants.{Controller, Slot}
use Rattle.vme_model.specs.declared.signals.Wire.{Wire}
use Rattle.vme_model.specs.declared.signals.Wire.TheVariants.{Bg}
use Rattle.vme_model.specs.declared.signals.Edge.{Edge}
use Rattle.vme_model.specs.Signals.{is_well_formed, has_wire, has_value}

first_of : (a b : Bool) → IsTrue (a && b) → a ≡ true
first_of true b h = refl
first_of false b h = cc

by_driver : (d : Driver) (n : ℕ) → has_wire d (Bg n) ≡ true → n < 4
by_driver Controller n h = grind (arith, nat_tests)
by_driver (Slot s) n h = cc

pub granted_level : (e : Edge) (n : ℕ) → e.wire ≡ Bg n → IsTrue (is_well_formed e) → n < 4
granted_level e n w h = by_driver e.driver n (subst (λ (x : Wire). has_wire e.driver x ≡ true) w (first_of (has_wire e.driver e.wire) (has_value e.wire e.fall e.value) h))
