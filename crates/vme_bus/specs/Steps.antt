-- An edge at a bus that stores none, so that no trace ends and E5 does not come; and where a grant
-- stops.
use Rattle.std.specs.Prelude.{◌&&◌, not, ℕ, Bool, if◌then◌else◌, Option, Result, List, ◌∷◌, is_ok}
use Rattle.vme_model.specs.declared.refusals.Refused.{Refused}
use Rattle.vme_model.specs.declared.deliveries.Delivery.{Delivery}
use Rattle.vme_model.specs.declared.signals.Version.{Version}
use Rattle.vme_model.specs.declared.signals.Driver.TheVariants.{Slot}
use Rattle.vme_model.specs.declared.signals.Wire.TheVariants.{BgOut, Bbsy}
use Rattle.vme_model.specs.declared.signals.Edge.{Edge}
use Rattle.vme_model.specs.Plan.{Plan}
use Rattle.vme_model.specs.History.{drive}
use Rattle.vme_model.specs.Readings.{grant_in}
use Rattle.vme_model.specs.Deliveries.{delivery, with_delivery}
use Rattle.vme_model.specs.Verdict.{verdict_but_full}

-- the whole answer to an edge
abbrev pub answer_but_full : Version → Plan → List Edge → Edge → Result (Option Delivery) Refused
answer_but_full version p h e = with_delivery (verdict_but_full version p h e) (delivery p h e)

-- the history after an edge: with it if it is accepted, and otherwise as it was
abbrev pub kept_but_full : Version → Plan → List Edge → Edge → List Edge
kept_but_full version p h e = if is_ok (verdict_but_full version p h e) then e ∷ h else h

-- a grant stands at the slot, which has neither passed it on nor taken it (chapter 3)
abbrev pub is_stop : Plan → List Edge → ℕ → Bool
is_stop p h s =
    grant_in p h (Slot s) && not (drive h (Slot s) BgOut) && not (drive h (Slot s) Bbsy)
