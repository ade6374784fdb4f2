-- What the drivers made in their turns, by their workers' logs.
use Rattle.std.proofs.Common.{◌≡◌, ℕ, ◌+◌, ◌*◌, ◌≤◌, List, [], ◌∷◌, length, map, suc, refl, sym, ap, ◌∙◌, arith, All, mul-suc}
use Rattle.std.specs.Prelude.{sum_by, Result, Ok, Err, MatchResult}
use Rattle.std.proofs.lemmas.List.{length-map}
use Rattle.std.proofs.lemmas.List.Elements.{All-head, All-tail, All-nil, All-cons}
use Rattle.std.proofs.lemmas.List.Sums.{sum_by-cons, length-filter}
use Rattle.vme_model.specs.declared.signals.Driver.{Driver}
use Rattle.vme_model.specs.declared.signals.Edge.{Edge}
use Rattle.vme_model.specs.Plan.{drivers}
use Rattle.vme_model.specs.Accepted.{IsAccepted}
use Rattle.vme_model.specs.Verdict.{State, IsLegal}
use Rattle.vme_model.specs.History.{in_order}
use Rattle.vme_model.specs.Signals.{is_same_driver}
use Rattle.vme_model.specs.Counts.{count, only}
use Rattle.vme_lock.specs.Seats.{Place, AllWorked, IsWithin, seat_of, seats_of}
use Rattle.vme_lock.specs.Closing.{IsClosing, AreLogs}
use Rattle.vme_lock.proofs.DeskCounts.{count-in_order}
use Rattle.vme_lock.proofs.AllSeats.{all_counted}
use Rattle.vme_reading.specs.declared.EngineFault.TheVariants as fault
use Rattle.vme_run.specs.declared.RunFault.{RunFault}
use Rattle.vme_run.specs.declared.RunFault.TheVariants.{LogDiffers}
use Rattle.vme_run.specs.Running.{AreInTurns, AreHandedBack}
use Rattle.vme_run.specs.Between.{IsClosed, IsClosedWith, IsClosedApart, IsGrown, IsPlayed, IsNotPlayed}

-- what all seats made
abbrev all_made : List Place → ℕ
all_made seats = sum_by (λ s. s.made) seats

-- logs that are no longer than the turns
worked_within : (seats after : List Place) (logs : List (List Edge)) (turns edges : ℕ) →
    AllWorked seats after logs → All (IsWithin turns edges) logs → all_made after ≤ all_made seats + turns * length seats
worked_within [] [] [] turns edges worked short = omega arith
worked_within (s ∷ seats) (t ∷ after) (log ∷ logs) turns edges worked short =
    let here : t.made ≡ s.made + length log = ap (λ x. x.made) worked.0 in
    let one = All-head (IsWithin turns edges) log logs short in
    let rest = worked_within seats after logs turns edges worked.1 (All-tail (IsWithin turns edges) log logs short) in
    omega (arith, here, one.0, rest, mul-suc turns (length seats), sum_by-cons (λ s. s.made) t after, sum_by-cons (λ s. s.made) s seats)
worked_within seats after logs turns edges worked short = absurd worked

-- what the seats made of a backplane that was opened
opened_with : (b : State) (ds : List Driver) → all_made (map (seat_of b) ds) ≡ sum_by (λ d. count b.history d) ds
opened_with b [] = refl
opened_with b (d ∷ ds) =
    sum_by-cons (λ s. s.made) (seat_of b d) (map (seat_of b) ds)
    ∙ (ap (λ (n : ℕ). count b.history d + n) (opened_with b ds) ∙ sym (sum_by-cons (λ d. count b.history d) d ds))

-- what all seats made before the boards ran
made_before : (opened : State) (seats : List Place) → IsAccepted opened.plan → IsLegal opened.version opened.plan opened.history → seats ≡ seats_of opened → all_made seats ≡ length opened.history
made_before opened seats accepted legal is = ap all_made is ∙ (opened_with opened (drivers opened.plan) ∙ all_counted opened.version opened.plan opened.history accepted legal)

played_within : (opened b : State) (seats after : List Place) (logs : List (List Edge)) (turns edges : ℕ) → IsAccepted opened.plan → IsLegal opened.version opened.plan opened.history
    → seats ≡ seats_of opened → AllWorked seats after logs → All (IsWithin turns edges) logs → IsClosing opened after b
    → length b.history ≤ length opened.history + turns * length (drivers opened.plan)
played_within opened b seats after logs turns edges accepted legal is worked short closing =
    let all = made_before opened seats accepted legal is in
    let many : length seats ≡ length (drivers opened.plan) = ap length is ∙ length-map (drivers opened.plan) (seat_of opened) in
    let bound = worked_within seats after logs turns edges worked short in
    omega (arith, all, ap (λ n. turns * n) many, bound, closing.made)

-- the edges of all logs
abbrev logged : List (List Edge) → ℕ
logged logs = sum_by (λ log. length log) logs

-- the seats made what their logs have
worked_so_much : (seats after : List Place) (logs : List (List Edge)) → AllWorked seats after logs → all_made after ≡ all_made seats + logged logs
worked_so_much [] [] [] worked = refl
worked_so_much (s ∷ seats) (t ∷ after) (log ∷ logs) worked =
    let here : t.made ≡ s.made + length log = ap (λ x. x.made) worked.0 in
    let rest = worked_so_much seats after logs worked.1 in
    omega (arith, here, rest, sum_by-cons (λ s. s.made) t after, sum_by-cons (λ s. s.made) s seats, sum_by-cons (λ (l : List Edge). length l) log logs)
worked_so_much seats after logs worked = absurd worked

grown_by_logs : (opened b : State) (seats after : List Place) (logs : List (List Edge)) → IsAccepted opened.plan → IsLegal opened.version opened.plan opened.history
    → seats ≡ seats_of opened → AllWorked seats after logs → IsClosing opened after b → length b.history ≡ length opened.history + logged logs
grown_by_logs opened b seats after logs accepted legal is worked closing =
    omega (arith, made_before opened seats accepted legal is, worked_so_much seats after logs worked, closing.made)

-- a log for each seat
one_log : (seats after : List Place) (logs : List (List Edge)) → AllWorked seats after logs → length logs ≡ length seats
one_log [] [] [] worked = refl
one_log (s ∷ seats) (t ∷ after) (log ∷ logs) worked = ap suc (one_log seats after logs worked.1)
one_log seats after logs worked = absurd worked

handed_back : (opened : State) (seats after : List Place) (logs : List (List Edge)) (turns edges : ℕ) → seats ≡ seats_of opened → AllWorked seats after logs → All (IsWithin turns edges) logs
    → AreHandedBack turns (length (drivers opened.plan)) (logged logs) logs
handed_back opened seats after logs turns edges is worked short = record {
  each = one_log seats after logs worked ∙ (ap length is ∙ length-map (drivers opened.plan) (seat_of opened));
  short = λ k d lt. (short k d lt).0;
  all = refl;
}

-- each driver's edges are its log
in_turns : (h : List Edge) (ds : List Driver) (logs : List (List Edge)) (turns edges : ℕ) → AreLogs h ds logs → All (IsWithin turns edges) logs → AreInTurns turns ds h
in_turns h [] [] turns edges are short = All-nil (λ d. count h d ≤ turns)
in_turns h (d ∷ ds) (log ∷ logs) turns edges are short =
    let many : length (only h d) ≡ count h d = length-filter (λ e. is_same_driver e.driver d) (in_order h) ∙ count-in_order h d in
    let one = All-head (IsWithin turns edges) log logs short in
    let here : count h d ≤ turns = omega (arith, many, ap length are.0, one.0) in
    All-cons (λ d. count h d ≤ turns) d ds here (in_turns h ds logs turns edges are.1 (All-tail (IsWithin turns edges) log logs short))
in_turns h ds logs turns edges are short = absurd are

-- A closed backplane was played, or its logs are not its drivers' edges.
module _ (opened : State) (seats after : List Place) (logs : List (List Edge)) (turns edges : ℕ) (accepted : IsAccepted opened.plan) (legal : IsLegal opened.version opened.plan opened.history)
    (is : seats ≡ seats_of opened) (worked : AllWorked seats after logs) (short : All (IsWithin turns edges) logs) where
  grown : (b : State) → IsClosed opened after b → IsGrown turns opened b
  grown b closed =
      (closed.closing.follows, closed.closing.legal, closed.safe, closed.fits, played_within opened b seats after logs turns edges accepted legal is worked short closed.closing)

  pub played_or_not : (r : Result State RunFault) → MatchResult r (IsClosedWith opened after logs) (IsClosedApart opened after logs) →
      MatchResult r (IsPlayed turns opened) (IsNotPlayed turns opened)
  played_or_not (Ok b) closed = (grown b closed.0, in_turns b.history (drivers opened.plan) logs turns edges closed.1 short)
  played_or_not (Err (LogDiffers driver at)) apart =
      let b = apart.0 in (
        b,
        grown b apart.1,
        (logs, logged logs, handed_back opened seats after logs turns edges is worked short, grown_by_logs opened b seats after logs accepted legal is worked apart.1.closing, apart.2),
      )
  played_or_not r none = absurd none
