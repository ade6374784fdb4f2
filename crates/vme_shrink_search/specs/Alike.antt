-- Whether the same is said twice, by a test.
use Rattle.std.specs.Prelude.{◌==◌, ◌&&◌, ℕ, Bool, true, false, Option, Some, None, Result, Ok, Err}
use denote.Enum.Bare.{sameb}
use lib.Pointwise.{pointwise}
use Rattle.vme_model.specs.contracts.conditions.Condition.{the_type as condition_type}
use Rattle.vme_goals.specs.contracts.events.Event.{the_type as event_type}
use Rattle.vme_model.specs.declared.deliveries.Delivery.{Delivery}
use Rattle.vme_model.specs.declared.refusals.Refused.{Refused}
use Rattle.vme_model.specs.declared.refusals.Refused.TheVariants.{NoSuchDriver, AlreadyThere, Rule, NotSettled, TraceFull}
use Rattle.vme_shrink_search.specs.Replies.{Reply}

abbrev pub is_same_refusal : Refused → Refused → Bool
is_same_refusal NoSuchDriver NoSuchDriver = true
is_same_refusal AlreadyThere AlreadyThere = true
is_same_refusal (Rule m) (Rule n) = m == n
is_same_refusal (NotSettled m) (NotSettled n) = m == n
is_same_refusal TraceFull TraceFull = true
is_same_refusal _ _ = false

abbrev pub is_same_delivery : Option Delivery → Option Delivery → Bool
is_same_delivery None None = true
is_same_delivery (Some d) (Some f) =
    (d.handler == f.handler)
    && ((d.level == f.level) && ((d.answered_by == f.answered_by) && (d.status == f.status)))
is_same_delivery _ _ = false

abbrev pub is_same_answer : Result (Option Delivery) Refused → Result (Option Delivery) Refused
    → Bool
is_same_answer (Ok d) (Ok f) = is_same_delivery d f
is_same_answer (Err r) (Err s) = is_same_refusal r s
is_same_answer _ _ = false

abbrev pub is_same_pick : Option ℕ → Option ℕ → Bool
is_same_pick None None = true
is_same_pick (Some m) (Some n) = m == n
is_same_pick _ _ = false

abbrev pub is_same_reply : Reply → Reply → Bool
is_same_reply t u =
    is_same_answer t.answer u.answer
    && (pointwise (sameb condition_type) t.failing u.failing
    && ((t.level == u.level)
    && (is_same_pick t.pick u.pick && pointwise (sameb event_type) t.events u.events)))
