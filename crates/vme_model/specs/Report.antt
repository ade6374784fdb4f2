-- The verdicts on a trace, as text. (Profile.)
use Rattle.std.specs.Prelude.{ℕ, ◌+◌, ◌-◌, List, [], ◌∷◌, ◌++◌, length, decimal, codes, Option, Some, None, Result, Ok, Err}
use Rattle.vme_model.specs.declared.deliveries.Delivery.{Delivery}
use Rattle.vme_model.specs.declared.refusals.Refused.{Refused}
use Rattle.vme_model.specs.declared.refusals.Refused.TheVariants.{NoSuchDriver, AlreadyThere, Rule, NotSettled, TraceFull}
use Rattle.vme_model.specs.declared.signals.Version.{Version}
use Rattle.vme_model.specs.declared.signals.Edge.{Edge}
use Rattle.vme_model.specs.Plan.{Plan}
use Rattle.vme_model.specs.Verdict.{State, after, kept}
use Rattle.vme_model.specs.Deliveries.{answer}
use Rattle.vme_model.specs.Text.{TextFault}

-- the text of a delivery
abbrev pub delivery_text : Delivery → List ℕ
delivery_text d =
    ((((((codes "ok irq " ++ decimal d.level) ++ codes " to ") ++ decimal d.handler)
    ++ codes " from ") ++ decimal d.answered_by) ++ codes " status ") ++ decimal d.status

-- the text of an answer
abbrev pub verdict_text : Result (Option Delivery) Refused → List ℕ
verdict_text (Ok None) = codes "ok"
verdict_text (Ok (Some d)) = delivery_text d
verdict_text (Err NoSuchDriver) = codes "E1"
verdict_text (Err AlreadyThere) = codes "E2"
verdict_text (Err (Rule k)) = codes "E3 G" ++ decimal k
verdict_text (Err (NotSettled k)) = codes "E4 S" ++ decimal k
verdict_text (Err TraceFull) = codes "E5"

-- the verdict line of the n-th edge
abbrev pub verdict_line : ℕ → Result (Option Delivery) Refused → List ℕ
verdict_line n found = ((decimal n ++ codes " ") ++ verdict_text found) ++ 10 ∷ []

-- a line for each edge, from the n-th on, each judged on what was kept before it
abbrev pub verdict_lines : State → ℕ → List Edge → List ℕ
verdict_lines b n [] = []
verdict_lines b n (e ∷ es) = verdict_line n (answer b e) ++ verdict_lines (after b e) (n + 1) es

-- the most edges that a replay keeps
abbrev pub trace_limit : ℕ
trace_limit = 1048576

-- the backplane on which a trace is replayed
abbrev pub at_power_up : Version → Plan → ℕ → State
at_power_up version p max = record { version = version; plan = p; history = []; max = max }

-- how many of the edges are kept
abbrev pub accepted_count : State → List Edge → ℕ
accepted_count b es = length (kept b es).history - length b.history

-- the closing line, with the numbers of edges that were accepted and refused
abbrev pub closing_text : ℕ → ℕ → List ℕ
closing_text accepted refused =
    ((codes "accepted " ++ decimal accepted) ++ codes " refused ") ++ decimal refused ++ 10 ∷ []

-- the closing line for these edges: how many were accepted, and how many refused
abbrev pub closing_line : State → List Edge → List ℕ
closing_line b es = closing_text (accepted_count b es) (length es - accepted_count b es)

-- the closing line, which stands only after a whole trace
abbrev pub closing : Option TextFault → State → List Edge → List ℕ
closing (Some fault) b es = []
closing None b es = closing_line b es
