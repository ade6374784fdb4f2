-- Which status/ID bytes went to which handler. (Chapter 4.)
use Rattle.std.specs.Prelude.{◌&&◌, ℕ, if◌then◌else◌, Option, Some, None, option_map, Result, Ok, Err, List, [], ◌∷◌, ◌++◌}
use Rattle.vme_model.specs.declared.boards.Row.{Row}
use Rattle.vme_model.specs.declared.deliveries.Delivery.{Delivery}
use Rattle.vme_model.specs.declared.refusals.Refused.{Refused}
use Rattle.vme_model.specs.declared.signals.Wire.TheVariants.{Dtack}
use Rattle.vme_model.specs.declared.signals.Cycle.{Cycle}
use Rattle.vme_model.specs.declared.signals.Cycle.TheVariants.{Acknowledge}
use Rattle.vme_model.specs.declared.signals.Edge.{Edge}
use Rattle.vme_model.specs.Signals.{is_same_wire}
use Rattle.vme_model.specs.Plan.{Plan, board_of}
use Rattle.vme_model.specs.History.{shown, addressing}
use Rattle.vme_model.specs.Verdict.{State, Judgement, verdict}

-- what an answer delivers, by what is shown, the slot that shows it, and the board that answers
abbrev pub delivered_by : Option Cycle → Option ℕ → Option Row → Option Delivery
delivered_by (Some (Acknowledge v)) (Some to) (Some row) =
    option_map (λ i. record { handler = to; level = v; answered_by = row.slot; status = i.status })
    row.interrupter
delivered_by _ _ _ = None

-- what an edge delivers: a `dtack-` while an acknowledge is shown, the board's status byte
abbrev pub delivery : Plan → List Edge → Edge → Option Delivery
delivery p h e =
    if e.fall && is_same_wire e.wire Dtack
    then delivered_by (shown p h) (addressing p h) (board_of p e.driver)
    else None

-- a list with one more delivery, if there is one
abbrev pub followed_by : List Delivery → Option Delivery → List Delivery
followed_by ds None = ds
followed_by ds (Some d) = ds ++ d ∷ []

-- what was delivered, in the order of time
abbrev pub delivered : Plan → List Edge → List Delivery
delivered p [] = []
delivered p (e ∷ h) = followed_by (delivered p h) (delivery p h e)

-- a judgement, with the delivery if it is Ok
abbrev pub with_delivery : Judgement → Option Delivery → Result (Option Delivery) Refused
with_delivery (Ok _) d = Ok d
with_delivery (Err refusal) d = Err refusal

-- the whole answer to an edge
abbrev pub answer : State → Edge → Result (Option Delivery) Refused
answer b e = with_delivery (verdict b e) (delivery b.plan b.history e)
