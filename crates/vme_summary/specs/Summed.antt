-- Which sums the tallies of traces lead to.
use Rattle.std.specs.Prelude.{◌≡◌, ◌<◌, ℕ, max, None, length, slice_index_or}
use Rattle.vme_model.specs.declared.refusals.Refused.TheVariants.{NoSuchDriver, AlreadyThere, Rule, NotSettled, TraceFull}
use Rattle.vme_goals.specs.declared.events.Event.{Event}
use Rattle.vme_goals.specs.Events.{all_events, event_index}
use Rattle.vme_summary.specs.declared.boards.BoardTally.{BoardTally}
use Rattle.vme_summary.specs.declared.refusals.Refusals.{Refusals}
use Rattle.vme_summary.specs.declared.sums.Sums.{Sums as Added}
use Rattle.vme_summary.specs.Tally.{accepted, refused, passed_by, refused_for, times_met}
use Rattle.vme_summary.specs.Tallied.{idle, more}
use Rattle.vme_summary.specs.Sums.{Traces, board_sums, total}

-- a board with the numbers of another
abbrev pub board_with : BoardTally → BoardTally → BoardTally
board_with a b = record {
  asked = more a.asked b.asked;
  waited = more a.waited b.waited;
  longest_wait = max a.longest_wait b.longest_wait;
  tenures = more a.tenures b.tenures;
  held = more a.held b.held;
  longest_hold = max a.longest_hold b.longest_hold;
  cycles = more a.cycles b.cycles;
  answered = more a.answered b.answered;
  delivered = more a.delivered b.delivered;
  asks_since = None;
  holds_since = None;
}

-- each count is that of the refusals of its kind in all the traces
pub record AreRefusalsOf (ts : Traces) (r : Refusals) : Type 0 where
  pub places : (length r.rules ≡ 27) × (length r.settlings ≡ 5)
  pub rules : (k : ℕ) → k < 27 → slice_index_or r.rules k 0 ≡ total (refused_for (Rule k)) ts
  pub settlings : (k : ℕ) → k < 5
      → slice_index_or r.settlings k 0 ≡ total (refused_for (NotSettled k)) ts
  pub no_such_driver : r.no_such_driver ≡ total (refused_for NoSuchDriver) ts
  pub already_there : r.already_there ≡ total (refused_for AlreadyThere) ts
  pub trace_full : r.trace_full ≡ total (refused_for TraceFull) ts

-- each number is that of all the traces
pub record AreSumsOf (ts : Traces) (sums : Added) : Type 0 where
  pub edges : sums.edges ≡ total length ts
  pub accepted : sums.accepted ≡ total accepted ts
  pub refused : sums.refused ≡ total refused ts
  pub places : (length sums.passed ≡ 27) × (length sums.met ≡ length all_events)
      × (length sums.boards ≡ 22)
  pub passed : (k : ℕ) → k < 27 → slice_index_or sums.passed k 0 ≡ total (passed_by k) ts
  pub refusals : AreRefusalsOf ts sums.refusals
  pub met : (v : Event) → slice_index_or sums.met (event_index v) 0 ≡ total (times_met v) ts
  pub boards : (s : ℕ) → s < 22 → slice_index_or sums.boards s idle ≡ board_sums s ts

-- what holds of all traces that the sums are of
abbrev pub OfSums : Added → (Traces → Type 0) → Type 0
OfSums sums P = (ts : Traces) → AreSumsOf ts sums → P ts
