-- All drivers' edges in a history, compared with their logs.
use Rattle.std.proofs.Common.{◌≡◌, ◌≢◌, ℕ, ◌+◌, ◌<◌, ◌≤◌, List, [], ◌∷◌, length, take, get_or, Bool, true, false, Some, None, refl, sym, ap, ◌∙◌, subst, arith, length-take-le, suc}
use Rattle.std.specs.Prelude.{◌==◌, slice_get, slice_index, slice_set, if◌then◌else◌}
use Rattle.std.proofs.lemmas.Bool.Decides.{nat_tests}
use Rattle.std.proofs.lemmas.Grind.{get_or-set_at}
use Rattle.std.proofs.lemmas.List.{get_or-set_other, take_all}
use Rattle.std.proofs.lemmas.List.Sums.{length-filter, count_by-le-length}
use Rattle.std.specs.Option.{option_map}
use Rattle.std.proofs.lemmas.Option.{same_Some, slice_get-map, slice_get_read, slice_get_within}
use Rattle.vme_model.specs.declared.signals.Driver.{Driver}
use Rattle.vme_model.specs.declared.signals.Edge.{Edge}
use Rattle.vme_model.specs.Signals.{is_same_driver}
use Rattle.vme_model.specs.History.{in_order}
use Rattle.vme_model.specs.Counts.{only}
use Rattle.vme_lock.specs.Seats.{Place, can_sit, desk, drivers_of}
use Rattle.vme_lock.specs.Closing.{AreLogs}
use Rattle.vme_lock.specs.Following.{HasNumber, AreNumbered, IsFront, AreFronts, AreWhole}
use Rattle.vme_lock.proofs.DeskCounts.{same_desk, desk_within, found_at}
use Rattle.vme_lock.proofs.LogDifference.{own, went_on, passed}
use Rattle.vme_lock.proofs.OneEdge.{one_driver}
use Rattle.vme_lock.proofs.SeatsAndLogs.{as_many}

-- the drivers below a place have their numbers
abbrev pub AreNumberedBelow : List ℕ → List Driver → ℕ → Type 0
AreNumberedBelow numbers ds n = (k : ℕ) → (d : Driver) → k < n → slice_get ds k ≡ Some d → HasNumber numbers d k

apart : (k n : ℕ) → (k == n) ≡ false → k ≡ n → ⊥
apart k n e same = grind (arith, nat_tests)

one : (k n : ℕ) → (k == n) ≡ true → k ≡ n
one k n e = grind (arith, nat_tests)

-- one more driver at a desk that held no number
pub numbered_more : (numbers : List ℕ) (ds : List Driver) (n at nobody : ℕ) (d : Driver) → length numbers ≡ 22 → AreNumberedBelow numbers ds n →
    slice_get ds n ≡ Some d → can_sit d ≡ true → at ≡ desk d → slice_index numbers at ≡ nobody → n < nobody →
    AreNumberedBelow (slice_set numbers at n) ds (n + 1)
numbered_more numbers ds n at nobody d wide below here sits place free more k b less is = go (k == n) refl
  where
    go : (x : Bool) → (k == n) ≡ x → HasNumber (slice_set numbers at n) b k
    go true e =
        let same : k ≡ n = one k n e in
        let who : b ≡ d = same_Some b d (sym is ∙ (ap (slice_get ds) same ∙ here)) in
        let within : at < length numbers = omega (arith, desk_within d sits, place, wide) in
        record { sits = ap can_sit who ∙ sits; number = get_or-set_at numbers at (desk b) n 0 (ap desk who ∙ sym place) within ∙ sym same }
    go false e =
        let other_place : k ≢ n = λ same. apart k n e same in
        let before : HasNumber numbers b k = below k b (omega (arith, less, other_place)) is in
        let held : get_or numbers (desk b) 0 ≡ k = before.number in
        let none : get_or numbers at 0 ≡ nobody = free in
        let other : desk b ≢ at = λ same. omega (arith, held, none, ap (λ (j : ℕ). get_or numbers j 0) same, less, more) in
        record { sits = before.sits; number = get_or-set_other numbers at (desk b) n 0 other ∙ held }

-- the driver of a seat
pub driver_at : (seats : List Place) (n : ℕ) (s : Place) → n < length seats → s ≡ get_or seats n s → slice_get (drivers_of seats) n ≡ Some s.driver
driver_at seats n s less is =
    slice_get-map (λ (x : Place). x.driver) seats n ∙ ap (option_map (λ (x : Place). x.driver)) (slice_get_read seats (length seats) n s refl less is)

-- after the last seat
pub all_numbered : (numbers : List ℕ) (seats : List Place) (n : ℕ) → length seats ≤ n → AreNumberedBelow numbers (drivers_of seats) n → AreNumbered numbers (drivers_of seats)
all_numbered numbers seats n all below k d is =
    below k d (omega (arith, slice_get_within (drivers_of seats) k d is, as_many seats, all)) is

front_next : (xs log : List Edge) (ends : List ℕ) (i at : ℕ) (e : Edge) (d : Driver) (b : Bool) → is_same_driver e.driver d ≡ b → (desk e.driver == desk d) ≡ b →
    IsFront (own d (take i xs)) log (get_or ends (desk d) 0) → at ≡ desk e.driver → at < length ends → slice_get xs i ≡ Some e →
    (is_same_driver e.driver d ≡ true → slice_get log (get_or ends at 0) ≡ Some e) → IsFront (own d (take (i + 1) xs)) log (get_or (slice_set ends at (get_or ends at 0 + 1)) (desk d) 0)
front_next xs log ends i at e d true by same front place within is stands =
    let here : desk d ≡ at = sym (one (desk e.driver) (desk d) same) ∙ sym place in
    let end : get_or ends (desk d) 0 ≡ get_or ends at 0 = ap (λ j. get_or ends j 0) here in
    let on = went_on xs log d i (get_or ends at 0) e is by (front.same ∙ ap (λ (n : ℕ). take n log) end) (stands by) in
    let set : get_or (slice_set ends at (get_or ends at 0 + 1)) (desk d) 0 ≡ get_or ends at 0 + 1 = get_or-set_at ends at (desk d) (get_or ends at 0 + 1) 0 here within in
    record { within = omega (arith, on.1, set); same = on.0 ∙ sym (ap (λ (n : ℕ). take n log) set) }
front_next xs log ends i at e d false by same front place within is stands =
    let other : desk d ≢ at = λ is. apart (desk e.driver) (desk d) same (sym place ∙ sym is) in
    let set : get_or (slice_set ends at (get_or ends at 0 + 1)) (desk d) 0 ≡ get_or ends (desk d) 0 = get_or-set_other ends at (desk d) (get_or ends at 0 + 1) 0 other in
    record { within = omega (arith, front.within, set); same = passed xs log d i (get_or ends (desk d) 0) e is by front.same ∙ sym (ap (λ (n : ℕ). take n log) set) }

-- no log is followed further than there are edges
pub front_within : (xs log : List Edge) (d : Driver) (at : ℕ) → IsFront (own d xs) log at → at ≤ length xs
front_within xs log d at front =
    let by = λ (e : Edge). is_same_driver e.driver d in
    omega (arith, length-take-le at log front.within, ap length front.same, length-filter by xs, count_by-le-length by xs)

-- an edge whose driver's desk was found, with the log of that desk's number
module _ (xs : List Edge) (numbers ends : List ℕ) (logs : List (List Edge)) (i at : ℕ) (e : Edge) (log : List Edge) (fronts : AreFronts (take i xs) numbers logs ends)
    (is : slice_get xs i ≡ Some e) (found : (if can_sit e.driver then Some (desk e.driver) else None) ≡ Some at) (mine : slice_get logs (slice_index numbers at) ≡ Some log) where
  sits : can_sit e.driver ≡ true
  sits = (found_at (can_sit e.driver) (desk e.driver) at found).0

  place : desk e.driver ≡ at
  place = (found_at (can_sit e.driver) (desk e.driver) at found).1

  number : slice_get logs (slice_index numbers (desk e.driver)) ≡ Some log
  number = subst (λ (n : ℕ). slice_get logs (slice_index numbers n) ≡ Some log) (sym place) mine

  -- it is the next of its driver's log
  pub fronts_more : length ends ≡ 22 → slice_get log (slice_index ends at) ≡ Some e → AreFronts (take (i + 1) xs) numbers logs (slice_set ends at (slice_index ends at + 1))
  fronts_more wide stands d other can reads =
      front_next xs other ends i at e d (is_same_driver e.driver d) refl (sym (same_desk e.driver d sits can)) (fronts d other can reads) (sym place)
      (omega (arith, desk_within e.driver sits, place)) is
      (λ by.
      let same : log ≡ other = same_Some log other (sym number ∙ (ap (λ x. slice_get logs (slice_index numbers (desk x))) (one_driver e.driver d by) ∙ reads)) in
      subst (λ (l : List Edge). slice_get l (slice_index ends at) ≡ Some e) same stands)

  -- no desk holds more than there were edges
  pub end_within : get_or ends at 0 ≤ i
  end_within =
      let most = front_within (take i xs) log e.driver (get_or ends (desk e.driver) 0) (fronts e.driver log sits number) in
      let all : length (take i xs) ≡ i = length-take-le i xs (omega (arith, slice_get_within xs i e is)) in
      omega (arith, most, all, ap (λ (n : ℕ). get_or ends n 0) place)

-- logs that are followed to their ends are the drivers' edges
pub whole_logs : (h : List Edge) (ends : List ℕ) (ds : List Driver) (logs : List (List Edge))
    → ((k : ℕ) → (d : Driver) → (log : List Edge) → slice_get ds k ≡ Some d → slice_get logs k ≡ Some log → IsFront (only h d) log (slice_index ends (desk d)))
    → AreWhole ds logs ends → AreLogs h ds logs
whole_logs h ends [] [] fronts whole = tt
whole_logs h ends (d ∷ ds) (log ∷ logs) fronts whole =
    let front = fronts 0 d log refl refl in
    (front.same ∙ take_all (slice_index ends (desk d)) log (omega (arith, whole.0)), whole_logs h ends ds logs (λ k. fronts (suc k)) whole.1)
whole_logs h ends ds logs fronts whole = absurd whole

-- with the number of each driver
pub all_logs : (h : List Edge) (numbers ends : List ℕ) (ds : List Driver) (logs : List (List Edge)) → AreNumbered numbers ds →
    AreFronts (in_order h) numbers logs ends → AreWhole ds logs ends → AreLogs h ds logs
all_logs h numbers ends ds logs numbered fronts whole =
    whole_logs h ends ds logs (λ k d log is reads. let mine = numbered k d is in fronts d log mine.sits (ap (slice_get logs) mine.number ∙ reads)) whole
