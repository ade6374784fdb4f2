-- The numbers by which C reads an answer, a delivery and an edge.
use Rattle.std.specs.Prelude.{◌+◌, ◌*◌, ◌%◌, ℕ, Option, Some, Result, Ok, Err}
use Rattle.vme_model.specs.declared.deliveries.Delivery.{Delivery}
use Rattle.vme_model.specs.declared.signals.Edge.{Edge}
use Rattle.vme_model.specs.declared.refusals.Refused.{Refused}
use Rattle.vme_model.specs.declared.refusals.Refused.TheVariants.{NoSuchDriver, AlreadyThere, Rule, NotSettled, TraceFull}
use Rattle.vme_model.specs.Signals.{driver_number, wire_number}
use Rattle.vmebus_c.specs.Bits.{bit, shown_number}

-- E1 to E4 count by 256, with the number of the rule; a bus without an end never answers E5
abbrev pub refusal_number : Refused → ℕ
refusal_number NoSuchDriver = 256
refusal_number AlreadyThere = 512
refusal_number (Rule k) = 768 + k
refusal_number (NotSettled k) = 1024 + k
refusal_number TraceFull = 1280

-- 0 if the edge is accepted
abbrev pub answer_number : Result (Option Delivery) Refused → ℕ
answer_number (Ok _) = 0
answer_number (Err refused) = refusal_number refused

-- from the top: bit 31 set and the level in seven bits, the handler, the slot that answers, and the
-- status, a byte each
abbrev pub delivery_number : Delivery → ℕ
delivery_number d =
    (((128 + d.level % 128) * 256 + d.handler) * 256 + d.answered_by) * 256 + d.status

-- 0 if nothing is delivered
abbrev pub delivered_number : Result (Option Delivery) Refused → ℕ
delivered_number (Ok (Some d)) = delivery_number d
delivered_number _ = 0

-- an edge in one word, from the top: its driver, its wire, 1 for a fall, and its value, a byte each
abbrev pub edge_number : Edge → ℕ
edge_number e =
    ((driver_number e.driver * 256 + wire_number e.wire) * 256 + bit e.fall 1) * 256
    + shown_number e.value
