-- No more than six conditions are tested of an edge.
use Rattle.std.proofs.Common.{◌≤◌, ℕ, Bool, true, false, length, arith}
use Rattle.std.specs.Prelude.{◌==◌, ◌&&◌, not, Ok}
use Rattle.vme_model.specs.declared.refusals.Refused.TheVariants.{NoSuchDriver, AlreadyThere, Rule, NotSettled, TraceFull}
use Rattle.vme_model.specs.declared.signals.Edge.{Edge}
use Rattle.vme_model.specs.Signals.{is_well_formed}
use Rattle.vme_model.specs.Plan.{has_driver}
use Rattle.vme_model.specs.History.{drive}
use Rattle.vme_model.specs.Readings.{readings}
use Rattle.vme_model.specs.Rules.{rule}
use Rattle.vme_model.specs.Settling.{settling}
use Rattle.vme_model.specs.Verdict.{State, check, is_other_state, settled}
use Rattle.vme_model.specs.Failing.{tested_for, tested}
use Rattle.vme_rules.proofs.TestedRoom.{five_tested}
use Rattle.vme_rules.specs.Room.{most}

module _ (b : State) (e : Edge) where
  by_tests : (exists turns holds settles room : Bool) (n m : ℕ)
      → most (tested_for b.version b.plan b.history e (check exists NoSuchDriver (check turns AlreadyThere (check holds (Rule n) (check settles (NotSettled m) (Ok tt)))))) ≤ 5
      → most (tested_for b.version b.plan b.history e (check exists NoSuchDriver (check turns AlreadyThere (check holds (Rule n) (check settles (NotSettled m) (check room TraceFull (Ok tt))))))) ≤ 6
  by_tests false turns holds settles room n m five = omega arith
  by_tests true false holds settles room n m five = omega arith
  by_tests true true false settles room n m five = omega arith
  by_tests true true true false room n m five = omega arith
  by_tests true true true true false n m five = omega arith
  by_tests true true true true true n m five = omega arith

  pub six_tested : most (tested b e) ≤ 6
  six_tested =
      by_tests (is_well_formed e && has_driver b.plan e.driver e.wire) (is_other_state (drive b.history e.driver e.wire) e.fall) (rule b.version (readings b.plan b.history e.driver) e.wire e.fall
      e.value).1 (settled b.version b.plan b.history e) (not (length b.history == b.max))
      (rule b.version (readings b.plan b.history e.driver) e.wire e.fall e.value).0 (settling b.version b.plan b.history e.wire e.fall).0
      (five_tested b.version b.plan b.history e)
