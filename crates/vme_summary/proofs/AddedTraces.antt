-- The sums of several traces, before the first and after one more.
use Rattle.std.proofs.Common.{◌≡◌, ◌∙◌, refl, ap, ℕ, ◌<◌, [], ◌∷◌, length, get_or, replicate, arith}
use Rattle.std.specs.Prelude.{max, map}
use Rattle.std.proofs.Math.Nat.{max_comm}
use Rattle.std.proofs.lemmas.List.{get_or-replicate, length-replicate}
use Rattle.std.proofs.lemmas.List.Sums.{sum_by-cons}
use Rattle.vme_model.specs.declared.refusals.Refused.TheVariants.{NoSuchDriver, AlreadyThere, Rule, NotSettled, TraceFull}
use Rattle.vme_goals.specs.Events.{all_events, event_index}
use Rattle.vme_goals.proofs.Placed.{index_below}
use Rattle.vme_summary.specs.declared.boards.BoardTally.{BoardTally}
use Rattle.vme_summary.specs.declared.refusals.Refusals.{Refusals}
use Rattle.vme_summary.specs.declared.sums.Sums.{Sums as Added}
use Rattle.vme_summary.specs.declared.tallies.Tally.{Tally}
use Rattle.vme_summary.specs.Tally.{Answers, accepted, refused, passed_by, refused_for, times_met, board_tally, greatest}
use Rattle.vme_summary.specs.Tallied.{idle, more, IsRefusalsOf, IsTallyOf}
use Rattle.vme_summary.specs.Sums.{Traces, board_sums, most, total}
use Rattle.vme_summary.specs.Summed.{board_with, AreRefusalsOf, AreSumsOf}

-- a sum that goes on by the number of one more trace
pub one_more : (number : Answers → ℕ) (t : Answers) (ts : Traces) (n m : ℕ) → n ≡ total number ts → m ≡ number t → more n m ≡ total number (t ∷ ts)
one_more number t ts n m sum is = let step = sum_by-cons number t ts in omega (arith, sum, is, step)

one_greatest : (number : Answers → ℕ) (t : Answers) (ts : Traces) → max (most number ts) (number t) ≡ most number (t ∷ ts)
one_greatest number t ts = max_comm (greatest (map number ts)) (number t)

pub one_board : (s : ℕ) (t : Answers) (ts : Traces) (a b : BoardTally) → a ≡ board_sums s ts → b ≡ board_tally s t → board_with a b ≡ board_sums s (t ∷ ts)
one_board s t ts a b sum is =
    let next : (number : Answers → ℕ) → more (total number ts) (number t) ≡ total number (t ∷ ts) = λ number. one_more number t ts _ _ refl refl in
    rw (sum, is) (rw (
      next (λ x. (board_tally s x).asked),
      next (λ x. (board_tally s x).waited),
      one_greatest (λ x. (board_tally s x).longest_wait) t ts,
      next (λ x. (board_tally s x).tenures),
      next (λ x. (board_tally s x).held),
      one_greatest (λ x. (board_tally s x).longest_hold) t ts,
      next (λ x. (board_tally s x).cycles),
      next (λ x. (board_tally s x).answered),
      next (λ x. (board_tally s x).delivered),
    ) refl)

pub refusals_added : (ts : Traces) (t : Answers) (old other new : Refusals) → AreRefusalsOf ts old → IsRefusalsOf t other
    → length new.rules ≡ length old.rules → ((k : ℕ) → k < length old.rules → get_or new.rules k 0 ≡ more (get_or old.rules k 0) (get_or other.rules k 0))
    → length new.settlings ≡ length old.settlings → ((k : ℕ) → k < length old.settlings → get_or new.settlings k 0 ≡ more (get_or old.settlings k 0) (get_or other.settlings k 0))
    → new.no_such_driver ≡ more old.no_such_driver other.no_such_driver → new.already_there ≡ more old.already_there other.already_there → new.trace_full ≡ more old.trace_full other.trace_full
    → AreRefusalsOf (t ∷ ts) new
refusals_added ts t old other new are is all_rules rules all_settlings settlings no_such_driver already_there trace_full = record {
  places = (all_rules ∙ are.places.0, all_settlings ∙ are.places.1);
  rules = λ k within. rules k (rw are.places.0 within) ∙ one_more (refused_for (Rule k)) t ts _ _ (are.rules k within) (is.rules k within);
  settlings = λ k within. settlings k (rw are.places.1 within) ∙ one_more (refused_for (NotSettled k)) t ts _ _ (are.settlings k within) (is.settlings k within);
  no_such_driver = no_such_driver ∙ one_more (refused_for NoSuchDriver) t ts _ _ are.no_such_driver is.no_such_driver;
  already_there = already_there ∙ one_more (refused_for AlreadyThere) t ts _ _ are.already_there is.already_there;
  trace_full = trace_full ∙ one_more (refused_for TraceFull) t ts _ _ are.trace_full is.trace_full;
}

pub trace_added : (ts : Traces) (t : Answers) (old new : Added) (tally : Tally) → AreSumsOf ts old → IsTallyOf t tally
    → new.edges ≡ more old.edges tally.edges → new.accepted ≡ more old.accepted tally.accepted → new.refused ≡ more old.refused (refused t)
    → length new.passed ≡ length old.passed → ((k : ℕ) → k < length old.passed → get_or new.passed k 0 ≡ more (get_or old.passed k 0) (get_or tally.passed k 0))
    → AreRefusalsOf (t ∷ ts) new.refusals
    → length new.met ≡ length old.met → ((k : ℕ) → k < length old.met → get_or new.met k 0 ≡ more (get_or old.met k 0) (get_or tally.met.times k 0))
    → length new.boards ≡ length old.boards → ((s : ℕ) → s < length old.boards → get_or new.boards s idle ≡ board_with (get_or old.boards s idle) (get_or tally.boards s idle))
    → AreSumsOf (t ∷ ts) new
trace_added ts t old new tally are is edges accepted_ refused_ all_passed passed refusals all_met met all_boards boards = record {
  edges = edges ∙ one_more length t ts _ _ are.edges is.edges;
  accepted = accepted_ ∙ one_more accepted t ts _ _ are.accepted is.accepted;
  refused = refused_ ∙ one_more refused t ts _ _ are.refused refl;
  places = (all_passed ∙ are.places.0, all_met ∙ are.places.1, all_boards ∙ are.places.2);
  passed = λ k within. passed k (rw are.places.0 within) ∙ one_more (passed_by k) t ts _ _ (are.passed k within) (is.passed k within);
  refusals = refusals;
  met = λ v. met (event_index v) (rw are.places.1 (index_below v)) ∙ one_more (times_met v) t ts _ _ (are.met v) (is.met.times v);
  boards = λ s within. boards s (rw are.places.2 within) ∙ one_board s t ts _ _ (are.boards s within) (is.boards s within);
}

-- before the first trace
pub none_refused : (r : Refusals) → IsRefusalsOf [] r → AreRefusalsOf [] r
none_refused r is = record {
  places = is.places;
  rules = is.rules;
  settlings = is.settlings;
  no_such_driver = is.no_such_driver;
  already_there = is.already_there;
  trace_full = is.trace_full;
}

pub no_trace : (x : Added) → x.edges ≡ 0 → x.accepted ≡ 0 → x.refused ≡ 0 → x.passed ≡ replicate 27 0 → IsRefusalsOf [] x.refusals → x.met ≡ replicate (length all_events) 0
    → x.boards ≡ replicate 22 idle → AreSumsOf [] x
no_trace x edges accepted_ refused_ passed refusals met boards = record {
  edges = edges;
  accepted = accepted_;
  refused = refused_;
  places = (ap length passed ∙ length-replicate {A = ℕ} 27 0, ap length met ∙ length-replicate {A = ℕ} (length all_events) 0, ap length boards ∙ length-replicate {A = BoardTally} 22 idle);
  passed = λ k within. ap (λ xs. get_or xs k 0) passed ∙ get_or-replicate {A = ℕ} 27 k 0 0 within;
  refusals = none_refused x.refusals refusals;
  met = λ v. ap (λ xs. get_or xs (event_index v) 0) met ∙ get_or-replicate {A = ℕ} (length all_events) (event_index v) 0 0 (index_below v);
  boards = λ s within. ap (λ xs. get_or xs s idle) boards ∙ get_or-replicate {A = BoardTally} 22 s idle idle within;
}
