-- How an edge is written that goes back, and what stops it. (Profile.)
use Rattle.std.specs.Prelude.{ℕ, List, ◌++◌, codes, decimal, Ok, Err}
use Rattle.vme_model.specs.declared.signals.Edge.{Edge}
use Rattle.vme_model.specs.declared.refusals.Refused.{Refused}
use Rattle.vme_model.specs.Report.{verdict_text}
use Rattle.vme_model.specs.Text.{spelling}
use Rattle.vme_model.specs.Verdict.{Judgement}
use Rattle.vme_swaps.specs.declared.stops.Stop.{Stop}
use Rattle.vme_swaps.specs.declared.stops.Stop.TheVariants.{Begins, Far, Waits, Races}

-- an edge by its number, and as it is spelled
abbrev pub edge_text : ℕ → Edge → List ℕ
edge_text n e = (decimal n ++ codes " ") ++ spelling e

-- what comes of the other order: the verdict of the edge that comes second then, if it is refused
abbrev pub outcome_text : Judgement → List ℕ
outcome_text (Ok _) = codes "other"
outcome_text (Err refused) = verdict_text (Err refused)

-- the race of two edges, the one that is met and what comes of the other order
abbrev pub races_text : ℕ → Edge → Judgement → List ℕ
races_text m a outcome =
    ((codes " races " ++ edge_text m a) ++ codes " ") ++ outcome_text outcome

-- the edge for which another waits, and what it gets in front of that one
abbrev pub waits_text : ℕ → Edge → Refused → List ℕ
waits_text m a refused =
    ((codes " waits for " ++ edge_text m a) ++ codes " ") ++ verdict_text (Err refused)

-- what stops an edge
abbrev pub stop_text : Stop → List ℕ
stop_text Begins = codes " begins"
stop_text Far = codes " far"
stop_text (Waits m a refused) = waits_text m a refused
stop_text (Races m a outcome) = races_text m a outcome
