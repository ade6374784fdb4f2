-- What is said of an edge behind a list of edges. (Profile.)
use Rattle.std.specs.Prelude.{ℕ, Bool, true, false, if◌then◌else◌, Option, Result, List, [], is_ok}
use Rattle.std.specs.List.{list_any}
use Rattle.vme_model.specs.declared.conditions.Condition.{Condition}
use Rattle.vme_model.specs.declared.conditions.Condition.TheVariants.{Pending, NotPending}
use Rattle.vme_model.specs.declared.deliveries.Delivery.{Delivery}
use Rattle.vme_model.specs.declared.refusals.Refused.{Refused}
use Rattle.vme_model.specs.declared.signals.Cycle.{Cycle}
use Rattle.vme_model.specs.declared.signals.Edge.{Edge}
use Rattle.vme_model.specs.History.{shown}
use Rattle.vme_model.specs.Spoken.{level_of}
use Rattle.vme_model.specs.Verdict.{State, verdict, kept}
use Rattle.vme_model.specs.Deliveries.{answer}
use Rattle.vme_model.specs.Failing.{unmet}
use Rattle.vme_goals.specs.declared.events.Event.{Event}
use Rattle.vme_events.specs.Events.{events_of}

-- the text of the condition names the level of the acknowledge that is shown
abbrev pub names_shown : Condition → Bool
names_shown Pending = true
names_shown NotPending = true
names_shown c = false

-- that level, if the text of any of the conditions names it; otherwise 0
abbrev pub level_named : List Condition → Option Cycle → ℕ
level_named cs v = if list_any names_shown cs then level_of v else 0

-- of a refused edge the verdict, and the conditions that it fails with the level that their texts
-- name; of an accepted one what it delivers and the situations that it brings about
pub record Reply : Type 0 where
  pub answer : Result (Option Delivery) Refused
  pub failing : List Condition
  pub level : ℕ
  pub events : List Event

-- the situations that an edge brings about if it is accepted
abbrev pub brought : State → Edge → List Event
brought b e = if is_ok (verdict b e) then events_of b.plan b.history e else []

abbrev pub reply_at : State → Edge → Reply
reply_at b e = record {
  answer = answer b e;
  failing = unmet b e;
  level = level_named (unmet b e) (shown b.plan b.history);
  events = brought b e;
}

-- what is said of an edge behind what is kept of a list
abbrev pub reply : State → List Edge → Edge → Reply
reply b es e = reply_at (kept b es) e
