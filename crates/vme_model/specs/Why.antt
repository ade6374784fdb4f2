-- Why an edge is accepted or refused, and the block that reports it. (Profile.)
use Rattle.std.specs.Prelude.{ℕ, Bool, if◌then◌else◌, Option, Some, None, List, [], ◌∷◌, ◌++◌, map, decimal, codes}
use Rattle.std.specs.List.{flat_map}
use Rattle.vme_model.specs.declared.conditions.Tested.{Tested}
use Rattle.vme_model.specs.declared.signals.Edge.{Edge}
use Rattle.vme_model.specs.declared.witnesses.Witness.{Witness}
use Rattle.vme_model.specs.declared.witnesses.Witness.TheVariants.{Wire as wire_is, Granted, Picks, Cycles, Served, Strobed}
use Rattle.vme_model.specs.Plan.{board_of}
use Rattle.vme_model.specs.History.{shown}
use Rattle.vme_model.specs.Guards.{conditions}
use Rattle.vme_model.specs.Sources.{is_ours, profile_mark}
use Rattle.vme_model.specs.Verdict.{State}
use Rattle.vme_model.specs.Failing.{tested}
use Rattle.vme_model.specs.Deliveries.{answer}
use Rattle.vme_model.specs.Text.{wire_text, argument, spelling}
use Rattle.vme_model.specs.Report.{verdict_text}
use Rattle.vme_model.specs.Spoken.{driver_name, state_text, condition_text}
use Rattle.vme_model.specs.Numbered.{Numbered}
use Rattle.vme_model.specs.Witnesses.{witnesses_of}

-- a condition with whether it holds before the edge, and its readings
pub record Reason : Type 0 where
  pub tested : Tested
  pub witnesses : List Witness

-- why an edge has its verdict; k numbers the edges of b
abbrev pub why : State → Numbered → Edge → List Reason
why b k e =
    map (λ t. record { tested = t; witnesses = witnesses_of b k e t.condition })
    (conditions (tested b e))

-- the text for the number of an edge, if there is one
abbrev pub since_text : Option ℕ → List ℕ
since_text None = []
since_text (Some n) = codes " since " ++ decimal n

-- the text for a level, if it is reported
abbrev pub level_text : Option ℕ → List ℕ
level_text None = []
level_text (Some level) = codes " level " ++ decimal level

-- the text for what the policy picks
abbrev pub pick_text : Option ℕ → List ℕ
pick_text None = codes "pick none"
pick_text (Some level) = codes "pick " ++ decimal level

abbrev pub witness_text : Witness → List ℕ
witness_text (wire_is d w low value level since) =
    ((((((driver_name d ++ codes " ") ++ wire_text w) ++ codes " ") ++ state_text w low)
    ++ argument value) ++ level_text level) ++ since_text since
witness_text (Granted level since) =
    (codes "level last granted " ++ decimal level) ++ since_text since
witness_text (Picks level) = pick_text level
witness_text (Cycles d made burst) =
    (((driver_name d ++ codes " cycles ") ++ decimal made) ++ codes " of ") ++ decimal burst
witness_text (Served d since) = (driver_name d ++ codes " served since ") ++ decimal since
witness_text (Strobed d at) = (driver_name d ++ codes " ds- at ") ++ decimal at

-- a line for each reading
abbrev pub witness_lines : List Witness → List ℕ
witness_lines ws = flat_map (λ w. (codes "    " ++ witness_text w) ++ 10 ∷ []) ws

abbrev pub outcome_text : Bool → List ℕ
outcome_text holds = if holds then codes "holds " else codes "fails "

-- a line for a condition of an edge, and one for each of its readings
abbrev pub reason_lines : State → Edge → Reason → List ℕ
reason_lines b e r =
    (((outcome_text r.tested.holds
    ++ condition_text r.tested.condition e (board_of b.plan e.driver) (shown b.plan b.history))
    ++ profile_mark (is_ours e.wire e.fall r.tested.condition))
    ++ 10 ∷ [])
    ++ witness_lines r.witnesses

-- the first line: the number of the edge, the edge, and its verdict
abbrev pub edge_verdict : ℕ → State → Edge → List ℕ
edge_verdict n b e =
    ((((decimal n ++ codes " ") ++ spelling e) ++ codes " ") ++ verdict_text (answer b e))
    ++ 10 ∷ []

-- the block of the n-th edge of a trace; k numbers the accepted edges before it
abbrev pub why_text : ℕ → State → Numbered → Edge → List ℕ
why_text n b k e = edge_verdict n b e ++ flat_map (reason_lines b e) (why b k e)
