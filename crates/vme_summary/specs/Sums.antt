-- What several traces come to together, each from power-up on. (What is counted is this project's
-- profile.)
use Rattle.std.specs.Prelude.{◌==◌, ◌-◌, ◌^◌, ◌++◌, ℕ, min, if◌then◌else◌, None, List, [], ◌∷◌, length, map, codes, decimal}
use Rattle.std.specs.List.{flat_map, sum_by}
use Rattle.vme_model.specs.declared.refusals.Refused.TheVariants.{Rule as by_rule}
use Rattle.vme_model.specs.Plan.{Plan}
use Rattle.vme_goals.specs.declared.events.Event.{Event}
use Rattle.vme_goals.specs.Events.{event_text}
use Rattle.vme_summary.specs.declared.boards.BoardTally.{BoardTally}
use Rattle.vme_summary.specs.declared.topics.Topic.{Topic}
use Rattle.vme_summary.specs.declared.topics.Topic.TheVariants.{Edges, Rule, Refusal, NeverAccepted, Met, NeverMet, Board, Answered as answers_of}
use Rattle.vme_summary.specs.Tally.{Answers, accepted, refused, passed_by, refused_for, times_met, board_tally, greatest}
use Rattle.vme_summary.specs.Summary.{edges_text, rule_text, refusal_text, never_text, rules_without, events_without, board_text, answers_text, requests, topics}

-- traces, each by its edges with their answers; in which order makes no difference
abbrev pub Traces : Type 0
Traces = List Answers

-- a number of each trace, added up: a sum stays at the greatest number of 64 bits
abbrev pub total : (Answers → ℕ) → Traces → ℕ
total number ts = min (sum_by number ts) (2 ^ 64 - 1)

-- the greatest of a number of each
abbrev pub most : (Answers → ℕ) → Traces → ℕ
most number ts = greatest (map number ts)

-- What a board did in all of them. None is reported with its beginning: that is an edge of one
-- trace.
abbrev pub board_sums : ℕ → Traces → BoardTally
board_sums s ts = record {
  asked = total (λ t. (board_tally s t).asked) ts;
  waited = total (λ t. (board_tally s t).waited) ts;
  longest_wait = most (λ t. (board_tally s t).longest_wait) ts;
  tenures = total (λ t. (board_tally s t).tenures) ts;
  held = total (λ t. (board_tally s t).held) ts;
  longest_hold = most (λ t. (board_tally s t).longest_hold) ts;
  cycles = total (λ t. (board_tally s t).cycles) ts;
  answered = total (λ t. (board_tally s t).answered) ts;
  delivered = total (λ t. (board_tally s t).delivered) ts;
  asks_since = None;
  holds_since = None;
}

-- a situation that came in one of them, without the edge that brought it
abbrev pub times_text : Event → ℕ → List ℕ
times_text v times =
    if times == 0 then []
    else (((codes "met " ++ event_text v) ++ codes " ") ++ decimal times) ++ 10 ∷ []

-- what is printed about a topic; nothing, if there is nothing to print
abbrev pub sums_line : Plan → Traces → Topic → List ℕ
sums_line p ts Edges = edges_text (total length ts) (total accepted ts) (total refused ts)
sums_line p ts (Rule k) = rule_text k (total (passed_by k) ts) (total (refused_for (by_rule k)) ts)
sums_line p ts (Refusal r) = refusal_text r (total (refused_for r) ts)
sums_line p ts NeverAccepted =
    never_text (codes "never accepted") (rules_without (λ k. total (passed_by k) ts))
sums_line p ts (Met v) = times_text v (total (times_met v) ts)
sums_line p ts NeverMet =
    never_text (codes "never met") (events_without (λ v. total (times_met v) ts))
sums_line p ts (Board s) = if requests p s then board_text s (board_sums s ts) else []
sums_line p ts (answers_of s) = answers_text s (board_sums s ts)

abbrev pub sums_text : Plan → Traces → List ℕ
sums_text p ts = flat_map (sums_line p ts) topics
