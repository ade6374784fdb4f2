-- What is said of an edge behind a list of edges. (Profile.)
use Rattle.std.specs.Prelude.{ℕ, Bool, true, false, if◌then◌else◌, Option, None, Result, List, [], is_ok}
use Rattle.std.specs.List.{list_any}
use Rattle.vme_model.specs.declared.conditions.Condition.{Condition}
use Rattle.vme_model.specs.declared.conditions.Condition.TheVariants.{Picked, Pending, NotPending}
use Rattle.vme_model.specs.declared.deliveries.Delivery.{Delivery}
use Rattle.vme_model.specs.declared.refusals.Refused.{Refused}
use Rattle.vme_model.specs.declared.signals.Cycle.{Cycle}
use Rattle.vme_model.specs.declared.signals.Edge.{Edge}
use Rattle.vme_model.specs.History.{last_level, request_line, shown}
use Rattle.vme_model.specs.Rules.{pick}
use Rattle.vme_model.specs.Spoken.{level_of}
use Rattle.vme_model.specs.Verdict.{State, verdict, kept}
use Rattle.vme_model.specs.Deliveries.{answer}
use Rattle.vme_model.specs.Failing.{unmet}
use Rattle.vme_goals.specs.declared.events.Event.{Event}
use Rattle.vme_events.specs.Events.{events_of}

-- the text of the condition names the level of the acknowledge that is shown
abbrev pub names_shown : Condition → Bool
names_shown Pending = true
names_shown NotPending = true
names_shown c = false

-- that level, if the text of any of the conditions names it; otherwise 0
abbrev pub level_named : List Condition → Option Cycle → ℕ
level_named cs v = if list_any names_shown cs then level_of v else 0

-- the condition is that the arbiter picks the level of a grant
abbrev pub is_pick : Condition → Bool
is_pick Picked = true
is_pick c = false

-- the level that the arbiter picks, if it picks one and any of the conditions speaks of it
abbrev pub pick_named : List Condition → State → Option ℕ
pick_named cs b =
    if list_any is_pick cs
    then pick b.plan.arbiter (request_line b.plan b.history) (last_level b.history) else None

-- of a refused edge the verdict, the conditions that it fails with the level that their texts name,
-- and what the arbiter picks in place of a grant; of an accepted one what it delivers and the
-- situations that it brings about
pub record Reply : Type 0 where
  pub answer : Result (Option Delivery) Refused
  pub failing : List Condition
  pub level : ℕ
  pub pick : Option ℕ
  pub events : List Event

-- the situations that an edge brings about if it is accepted
abbrev pub brought : State → Edge → List Event
brought b e = if is_ok (verdict b e) then events_of b.plan b.history e else []

abbrev pub reply_at : State → Edge → Reply
reply_at b e = record {
  answer = answer b e;
  failing = unmet b e;
  level = level_named (unmet b e) (shown b.plan b.history);
  pick = pick_named (unmet b e) b;
  events = brought b e;
}

-- what is said of an edge behind what is kept of a list
abbrev pub reply : State → List Edge → Edge → Reply
reply b es e = reply_at (kept b es) e
