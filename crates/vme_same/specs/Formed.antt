-- An edge that differs is well formed, and so are one that it meets and one of its driver.
use Rattle.std.specs.Prelude.{◌&&◌, ℕ, Bool, true, Option, Some, None}
use Rattle.vme_model.specs.declared.signals.Edge.{Edge}
use Rattle.vme_model.specs.Signals.{is_well_formed}
use Rattle.vme_swaps.specs.Stops.{is_formed}
use Rattle.vme_same.specs.declared.comparisons.Why.{Why}
use Rattle.vme_same.specs.declared.comparisons.Why.TheVariants.{Stops}
use Rattle.vme_same.specs.declared.comparisons.Comparison.{Comparison}
use Rattle.vme_same.specs.declared.comparisons.Comparison.TheVariants.{Differs, Leaves}
use Rattle.vme_same.specs.declared.progress.Sought.{Sought}
use Rattle.vme_same.specs.declared.progress.Progress.{Progress}
use Rattle.vme_same.specs.declared.progress.Progress.TheVariants.{Open, Seeks, Finds}

abbrev pub is_formed_why : Why → Bool
is_formed_why (Stops met) = is_formed met
is_formed_why _ = true

abbrev pub is_formed_own : Option (ℕ × Edge) → Bool
is_formed_own None = true
is_formed_own (Some (n, a)) = is_well_formed a

abbrev pub is_formed_found : Comparison → Bool
is_formed_found (Differs n e why own) =
    is_well_formed e && (is_formed_why why && is_formed_own own)
is_formed_found (Leaves n e) = is_well_formed e
is_formed_found _ = true

abbrev pub is_formed_sought : Sought → Bool
is_formed_sought sought = is_well_formed sought.edge && is_formed_own sought.own

abbrev pub is_formed_progress : Progress → Bool
is_formed_progress Open = true
is_formed_progress (Seeks sought) = is_formed_sought sought
is_formed_progress (Finds found) = is_formed_found found
