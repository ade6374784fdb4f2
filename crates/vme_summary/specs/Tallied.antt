-- Which tally answered edges lead to.
use Rattle.std.specs.Prelude.{◌≡◌, ◌+◌, ◌-◌, ◌<◌, ◌^◌, ℕ, min, max, Bool, true, false, if◌then◌else◌, Option, Some, None, List, length, fold, set, slice_index_or}
use Rattle.std.specs.Option.{option_or}
use Rattle.vme_model.specs.declared.refusals.Refused.{Refused}
use Rattle.vme_model.specs.declared.refusals.Refused.TheVariants.{NoSuchDriver, AlreadyThere, Rule, NotSettled, TraceFull}
use Rattle.vme_model.specs.declared.signals.Driver.{Driver}
use Rattle.vme_model.specs.declared.signals.Driver.TheVariants.{Controller, Slot}
use Rattle.vme_model.specs.declared.signals.Edge.{Edge}
use Rattle.vme_model.specs.declared.signals.Wire.{Wire}
use Rattle.vme_model.specs.declared.signals.Wire.TheVariants.{Bg, Bclr, Iack, Berr, Br, BgOut, Bbsy, Addr, AddressStrobe, DataStrobe, Irq, IackOut, Dtack}
use Rattle.vme_goals.specs.declared.events.Event.{Event}
use Rattle.vme_goals.specs.Events.{all_events, event_index}
use Rattle.vme_summary.specs.declared.boards.BoardTally.{BoardTally}
use Rattle.vme_summary.specs.declared.met.Met.{Met}
use Rattle.vme_summary.specs.declared.refusals.Refusals.{Refusals}
use Rattle.vme_summary.specs.declared.tallies.Tally.{Tally}
use Rattle.vme_summary.specs.declared.topics.Topic.{Topic}
use Rattle.vme_summary.specs.declared.topics.Topic.TheVariants as topic
use Rattle.vme_summary.specs.Tally.{Answers, accepted, passed_by, refused_for, times_met, first_met, board_tally}

-- the number of the rule that names a wire and a direction
abbrev pub rule_number : Wire → Bool → ℕ
rule_number (Bg level) fall = if fall then 1 else 2
rule_number Bclr fall = if fall then 3 else 4
rule_number Iack fall = if fall then 5 else 6
rule_number Berr fall = if fall then 7 else 8
rule_number Br fall = if fall then 9 else 10
rule_number BgOut fall = if fall then 11 else 12
rule_number Bbsy fall = if fall then 13 else 14
rule_number Addr fall = if fall then 15 else 19
rule_number AddressStrobe fall = if fall then 16 else 20
rule_number DataStrobe fall = if fall then 17 else 18
rule_number Irq fall = if fall then 21 else 22
rule_number IackOut fall = if fall then 23 else 24
rule_number Dtack fall = if fall then 25 else 26

-- a board that did nothing
abbrev pub idle : BoardTally
idle = record {
  asked = 0;
  waited = 0;
  longest_wait = 0;
  tenures = 0;
  held = 0;
  longest_hold = 0;
  cycles = 0;
  answered = 0;
  delivered = 0;
  asks_since = None;
  holds_since = None;
}

-- a sum, which stays at the greatest value
abbrev pub more : ℕ → ℕ → ℕ
more a b = min (a + b) (2 ^ 64 - 1)

-- how many edges from one to the n-th
abbrev pub span : ℕ → Option ℕ → ℕ
span n None = 0
span n (Some m) = n - m

-- a board after an edge of its own, the n-th, which delivers a status byte or not
abbrev pub board_after : BoardTally → Wire → Bool → ℕ → Bool → BoardTally
board_after b Br true n delivers = record b { asked = more b.asked 1; asks_since = Some n }
board_after b Br false n delivers = record b { asks_since = None }
board_after b Bbsy true n delivers = record b {
  tenures = more b.tenures 1;
  waited = more b.waited (span n b.asks_since);
  longest_wait = max b.longest_wait (span n b.asks_since);
  asks_since = None;
  holds_since = Some n;
}
board_after b Bbsy false n delivers = record b {
  held = more b.held (span n b.holds_since);
  longest_hold = max b.longest_hold (span n b.holds_since);
  holds_since = None;
}
board_after b AddressStrobe true n delivers = record b { cycles = more b.cycles 1 }
board_after b Dtack true n delivers = record b {
  answered = more b.answered 1;
  delivered = if delivers then more b.delivered 1 else b.delivered;
}
board_after b w fall n delivers = b

-- the boards after an accepted edge of a driver, the n-th
abbrev pub boards_after : List BoardTally → Driver → Edge → ℕ → Bool → List BoardTally
boards_after boards Controller e n delivers = boards
boards_after boards (Slot s) e n delivers =
    set boards s (board_after (slice_index_or boards s idle) e.wire e.fall n delivers)

-- there is such a rule
abbrev pub IsNamed : Refused → Type 0
IsNamed (Rule k) = k < 27
IsNamed (NotSettled k) = k < 5
IsNamed _ = Unit {0}

-- there is such a rule, and such a slot
abbrev pub IsTopic : Topic → Type 0
IsTopic (topic.Rule k) = k < 27
IsTopic (topic.Refusal r) = IsNamed r
IsTopic (topic.Board s) = s < 22
IsTopic (topic.Answered s) = s < 22
IsTopic _ = Unit {0}

-- each count is that of the refusals of its kind
pub record IsRefusalsOf (t : Answers) (r : Refusals) : Type 0 where
  pub places : (length r.rules ≡ 27) × (length r.settlings ≡ 5)
  pub rules : (k : ℕ) → k < 27 → slice_index_or r.rules k 0 ≡ refused_for (Rule k) t
  pub settlings : (k : ℕ) → k < 5 → slice_index_or r.settlings k 0 ≡ refused_for (NotSettled k) t
  pub no_such_driver : r.no_such_driver ≡ refused_for NoSuchDriver t
  pub already_there : r.already_there ≡ refused_for AlreadyThere t
  pub trace_full : r.trace_full ≡ refused_for TraceFull t

-- a situation came about by the n-th edge
abbrev pub met_once : ℕ → Met → Event → Met
met_once n m v = record m {
  times = set m.times (event_index v) (more (slice_index_or m.times (event_index v) 0) 1);
  first = set m.first (event_index v)
      (option_or (slice_index_or m.first (event_index v) None) (Some n));
}

-- and so did some
abbrev pub met_after : ℕ → Met → List Event → Met
met_after n m vs = fold (met_once n) m vs

-- each count and each first is that of its situation
pub record IsMetOf (t : Answers) (m : Met) : Type 0 where
  pub places : (length m.times ≡ length all_events) × (length m.first ≡ length all_events)
  pub times : (v : Event) → slice_index_or m.times (event_index v) 0 ≡ times_met v t
  pub first : (v : Event) → slice_index_or m.first (event_index v) None ≡ first_met v t

-- each number is that look back through the edges
pub record IsTallyOf (t : Answers) (tally : Tally) : Type 0 where
  pub edges : tally.edges ≡ length t
  pub accepted : tally.accepted ≡ accepted t
  pub places : (length tally.passed ≡ 27) × (length tally.boards ≡ 22)
  pub passed : (k : ℕ) → k < 27 → slice_index_or tally.passed k 0 ≡ passed_by k t
  pub refusals : IsRefusalsOf t tally.refusals
  pub met : IsMetOf t tally.met
  pub boards : (s : ℕ) → s < 22 → slice_index_or tally.boards s idle ≡ board_tally s t

-- what holds of all answered edges that the tally is of
abbrev pub OfTally : Tally → (Answers → Type 0) → Type 0
OfTally tally P = (t : Answers) → IsTallyOf t tally → P t
