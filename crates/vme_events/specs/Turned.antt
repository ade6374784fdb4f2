-- Edges to either state of a wire, and what refuses an edge.
use Rattle.std.specs.Prelude.{◌==◌, ℕ, Bool, true, false, List, Option, Some, None, Ok, Err, length}
use Rattle.vme_model.specs.declared.conditions.Condition.{Condition}
use Rattle.vme_model.specs.declared.refusals.Refused.{Refused}
use Rattle.vme_model.specs.declared.refusals.Refused.TheVariants.{Rule, NotSettled}
use Rattle.vme_model.specs.declared.signals.Driver.{Driver}
use Rattle.vme_model.specs.declared.signals.Wire.{Wire}
use Rattle.vme_model.specs.declared.signals.Edge.{Edge}
use Rattle.vme_model.specs.Verdict.{Judgement}

abbrev pub turned_to : Driver → Wire → Bool → Edge
turned_to d w fall = record { driver = d; wire = w; fall = fall; value = None }

abbrev pub refusal : Judgement → Option Refused
refusal (Ok u) = None
refusal (Err refused) = Some refused

-- that rule refuses, and that settling rule
abbrev pub is_rule : ℕ → Option Refused → Bool
is_rule k (Some (Rule n)) = n == k
is_rule k _ = false

abbrev pub is_settling : ℕ → Option Refused → Bool
is_settling k (Some (NotSettled n)) = n == k
is_settling k _ = false

-- a settling rule refuses, or a rule by the only condition that fails
abbrev pub is_by_one : Option Refused → List Condition → Bool
is_by_one (Some (Rule n)) cs = length cs == 1
is_by_one (Some (NotSettled n)) cs = true
is_by_one _ cs = false
