-- The lines of a summary, from the numbers of a trace. (Profile.)
use Rattle.std.specs.Prelude.{◌==◌, ◌&&◌, ◌++◌, ℕ, Bool, if◌then◌else◌, Option, Some, None, Err, List, [], ◌∷◌, length, map, filter, is_some, codes, decimal}
use Rattle.std.specs.List.{flat_map}
use Rattle.std.specs.Option.{option_and_then}
use Rattle.vme_model.specs.declared.refusals.Refused.{Refused}
use Rattle.vme_model.specs.declared.refusals.Refused.TheVariants.{NoSuchDriver, AlreadyThere, Rule as by_rule, NotSettled, TraceFull}
use Rattle.vme_model.specs.Plan.{Plan, up_to, board}
use Rattle.vme_model.specs.Report.{verdict_text}
use Rattle.vme_goals.specs.declared.events.Event.{Event}
use Rattle.vme_goals.specs.Events.{all_events, event_text}
use Rattle.vme_summary.specs.declared.boards.BoardTally.{BoardTally}
use Rattle.vme_summary.specs.declared.topics.Topic.{Topic}
use Rattle.vme_summary.specs.declared.topics.Topic.TheVariants.{Edges, Rule, Refusal, NeverAccepted, Met, NeverMet, Board, Answered as answers_of}
use Rattle.vme_summary.specs.Tally.{Answers, accepted, refused, passed_by, refused_for, times_met, first_met, board_tally}

-- how many edges there are, of which so many were accepted
abbrev pub edges_text : ℕ → ℕ → ℕ → List ℕ
edges_text edges accepted refused =
    (((((codes "edges " ++ decimal edges) ++ codes " accepted ") ++ decimal accepted)
    ++ codes " refused ") ++ decimal refused) ++ 10 ∷ []

-- a rule that let edges pass, or refused some
abbrev pub rule_text : ℕ → ℕ → ℕ → List ℕ
rule_text k accepted refused =
    if accepted == 0 && refused == 0 then []
    else (((((codes "G" ++ decimal k) ++ codes " accepted ") ++ decimal accepted)
    ++ codes " refused ") ++ decimal refused) ++ 10 ∷ []

-- another refusal that came
abbrev pub refusal_name : Refused → List ℕ
refusal_name (NotSettled k) = codes "S" ++ decimal k
refusal_name r = verdict_text (Err r)

abbrev pub refusal_text : Refused → ℕ → List ℕ
refusal_text r n =
    if n == 0 then []
    else ((refusal_name r ++ codes " refused ") ++ decimal n) ++ 10 ∷ []

-- what never came: words, each with a blank before it
abbrev pub never_text : List ℕ → List ℕ → List ℕ
never_text first words =
    (first ++ (if length words == 0 then codes " none" else words)) ++ 10 ∷ []

-- the rules of which a count is 0
abbrev pub rules_without : (ℕ → ℕ) → List ℕ
rules_without count =
    flat_map (λ k. codes " G" ++ decimal k) (filter (λ k. count k == 0) (up_to 26))

-- the situations of which it is
abbrev pub events_without : (Event → ℕ) → List ℕ
events_without count =
    flat_map (λ v. codes " " ++ event_text v) (filter (λ v. count v == 0) all_events)

-- a situation that came
abbrev pub met_text : Event → ℕ → Option ℕ → List ℕ
met_text v times None = []
met_text v times (Some first) =
    (((((codes "met " ++ event_text v) ++ codes " ") ++ decimal times) ++ codes " first ")
    ++ decimal first) ++ 10 ∷ []

-- since when, if it is so
abbrev pub since_text : List ℕ → Option ℕ → List ℕ
since_text word None = []
since_text word (Some n) = word ++ decimal n

-- what a board with a requester did at the bus
abbrev pub turns_text : ℕ → BoardTally → List ℕ
turns_text s b =
    ((((((((((((codes "board " ++ decimal s) ++ codes " asked ") ++ decimal b.asked)
    ++ codes " waited ") ++ decimal b.waited) ++ codes " longest-wait ")
    ++ decimal b.longest_wait) ++ codes " tenures ") ++ decimal b.tenures) ++ codes " held ")
    ++ decimal b.held) ++ codes " longest-hold ") ++ decimal b.longest_hold

abbrev pub board_text : ℕ → BoardTally → List ℕ
board_text s b =
    ((((turns_text s b ++ codes " cycles ") ++ decimal b.cycles)
    ++ since_text (codes " asks since ") b.asks_since)
    ++ since_text (codes " holds since ") b.holds_since) ++ 10 ∷ []

-- a board that answered
abbrev pub answers_text : ℕ → BoardTally → List ℕ
answers_text s b =
    if b.answered == 0 then []
    else (((((codes "board " ++ decimal s) ++ codes " answered ") ++ decimal b.answered)
    ++ codes " delivered ") ++ decimal b.delivered) ++ 10 ∷ []

-- the board in the slot has a requester
abbrev pub requests : Plan → ℕ → Bool
requests p s = is_some (option_and_then (λ r. r.requester) (board p s))

-- what is printed about a topic; nothing, if there is nothing to print
abbrev pub line_text : Plan → Answers → Topic → List ℕ
line_text p t Edges = edges_text (length t) (accepted t) (refused t)
line_text p t (Rule k) = rule_text k (passed_by k t) (refused_for (by_rule k) t)
line_text p t (Refusal r) = refusal_text r (refused_for r t)
line_text p t NeverAccepted =
    never_text (codes "never accepted") (rules_without (λ k. passed_by k t))
line_text p t (Met v) = met_text v (times_met v t) (first_met v t)
line_text p t NeverMet = never_text (codes "never met") (events_without (λ v. times_met v t))
line_text p t (Board s) = if requests p s then board_text s (board_tally s t) else []
line_text p t (answers_of s) = answers_text s (board_tally s t)

-- refusals by settling rules, and by no rule
abbrev pub refusals : List Refused
refusals =
    NotSettled 1 ∷ NotSettled 2 ∷ NotSettled 3 ∷ NotSettled 4 ∷ NoSuchDriver ∷ AlreadyThere
    ∷ TraceFull ∷ []

-- the topics, in the order in which they are printed; a backplane has at most 21 slots
abbrev pub topics : List Topic
topics =
    Edges ∷ (map (λ k. Rule k) (up_to 26) ++ (map (λ r. Refusal r) refusals
    ++ (NeverAccepted ∷ (map (λ v. Met v) all_events
    ++ (NeverMet ∷ (map (λ s. Board s) (up_to 21) ++ map (λ s. answers_of s) (up_to 21)))))))

abbrev pub summary_text : Plan → Answers → List ℕ
summary_text p t = flat_map (line_text p t) topics
