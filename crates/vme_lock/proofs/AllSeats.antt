-- The drivers of a plan, whose edges make up each legal history.
use Rattle.std.proofs.Common.{◌≡◌, ℕ, zero, suc, ◌+◌, ◌<◌, ◌≤◌, List, [], ◌∷◌, ◌++◌, length, map, take, get_or, length-append, Bool, true, false, Option, Some, None, refl, sym, ap, ◌∙◌, subst, arith}
use Rattle.std.specs.Prelude.{count_by, sum_by, filter, is_some, ◌==◌, if◌then◌else◌}
use Rattle.std.specs.Option.{option_map_or}
use Rattle.std.proofs.lemmas.Bool.Decides.{nat_tests}
use Rattle.std.proofs.lemmas.List.Sums.{sum_by-cons, sum_by-append, sum_by_push}
use Rattle.std.specs.List.{All}
use Rattle.std.proofs.lemmas.List.Elements.{filter-append, All-nil, All-cons, All-append, All-map, All-filter, All-get_or}
use Rattle.std.proofs.lemmas.List.{map-append, take_more}
use Rattle.std.proofs.Math.Seq.{take-length}
use Rattle.vme_model.specs.declared.boards.Row.{Row}
use Rattle.vme_model.specs.declared.refusals.Refused.TheVariants.{NoSuchDriver}
use Rattle.vme_model.specs.declared.signals.Driver.{Driver}
use Rattle.vme_model.specs.declared.signals.Driver.TheVariants.{Controller, Slot}
use Rattle.vme_model.specs.declared.signals.Wire.{Wire}
use Rattle.vme_model.specs.declared.signals.Edge.{Edge}
use Rattle.vme_model.specs.declared.signals.Version.{Version}
use Rattle.vme_model.specs.Signals.{is_same_driver, is_well_formed}
use Rattle.vme_model.specs.Plan.{Plan, board, up_to, drivers, has_driver, drives}
use Rattle.vme_model.specs.Accepted.{IsAccepted}
use Rattle.vme_model.specs.Verdict.{State, IsLegal}
use Rattle.vme_model.specs.Counts.{count}
use Rattle.vme_model.proofs.Bools.{and_right}
use Rattle.vme_model.proofs.Members.{found_row}
use Rattle.vme_model.proofs.AllowedEdges.{checked}
use Rattle.vme_model.proofs.Ranges.{IsInRange, IsRowInRange, in_range}
use Rattle.vme_lock.specs.Seats.{Place, can_sit, seat_of, drivers_of}
use Rattle.vme_lock.proofs.DeskCounts.{one_if, count-made}

-- how often a number stands among those that pass
abbrev times : (ℕ → Bool) → ℕ → ℕ → ℕ
times P s n = count_by (λ t. s == t) (filter P (up_to n))

other : (s t : ℕ) → t < s → (s == t) ≡ false
other s t lt = grind (arith, nat_tests)

times-more : (P : ℕ → Bool) (s n : ℕ) → times P s (suc n) ≡ times P s n + count_by (λ t. s == t) (filter P (suc n ∷ []))
times-more P s n =
    ap (count_by (λ t. s == t)) (filter-append P (up_to n) (suc n ∷ []))
    ∙ sum_by-append (λ t. one_if (s == t)) (filter P (up_to n)) (filter P (suc n ∷ []))

none_of : (b : Bool) (s t : ℕ) → (s == t) ≡ false → count_by (λ u. s == u) (if b then t ∷ [] else []) ≡ 0
none_of true s t e = omega (arith, ap one_if e)
none_of false s t e = refl

one_of : (b : Bool) (s t : ℕ) → b ≡ true → (s == t) ≡ true → count_by (λ u. s == u) (if b then t ∷ [] else []) ≡ 1
one_of true s t is e = omega (arith, ap one_if e)
one_of false s t is e = absurd (cc)

none_yet : (P : ℕ → Bool) (s n : ℕ) → n < s → times P s n ≡ 0
none_yet P s zero lt = refl
none_yet P s (suc n) lt =
    let before = none_yet P s n (omega arith) in
    let here = none_of (P (suc n)) s (suc n) (other s (suc n) lt) in
    times-more P s n ∙ omega (arith, before, here)

same_number : (s t : ℕ) → (s == t) ≡ true → s ≡ t
same_number s t e = grind (arith, nat_tests)

below_next : (s n : ℕ) → s ≤ suc n → (s == suc n) ≡ false → s ≤ n
below_next s n high e = grind (arith, nat_tests)

once : (P : ℕ → Bool) (s n : ℕ) → 1 ≤ s → s ≤ n → P s ≡ true → times P s n ≡ 1
once P s zero low high is = absurd (omega arith)
once P s (suc n) low high is = go (s == suc n) refl (λ below. once P s n low below is)
  where
    go : (b : Bool) → (s == suc n) ≡ b → (s ≤ n → times P s n ≡ 1) → times P s (suc n) ≡ 1
    go true e next =
        let same : s ≡ suc n = same_number s (suc n) e in
        let before = none_yet P s n (omega arith) in
        let here = one_of (P (suc n)) s (suc n) (ap P (sym same) ∙ is) e in
        times-more P s n ∙ omega (arith, before, here)
    go false e next =
        let before = next (below_next s n high e) in
        let here = none_of (P (suc n)) s (suc n) e in
        times-more P s n ∙ omega (arith, before, here)

controller_once : (xs : List ℕ) → count_by (λ d. is_same_driver Controller d) (map (λ s. Slot s) xs) ≡ 0
controller_once [] = refl
controller_once (x ∷ xs) = controller_once xs

as_slots : (s : ℕ) (xs : List ℕ) → count_by (λ d. is_same_driver (Slot s) d) (map (λ t. Slot t) xs) ≡ count_by (λ t. s == t) xs
as_slots s [] = refl
as_slots s (x ∷ xs) =
    sum_by-cons (λ d. one_if (is_same_driver (Slot s) d)) (Slot x) (map (λ t. Slot t) xs)
    ∙ (ap (λ (n : ℕ). one_if (s == x) + n) (as_slots s xs) ∙ sym (sum_by-cons (λ t. one_if (s == t)) x xs))

-- the slot of a driver's board
record IsBoard (p : Plan) (s : ℕ) : Type 0 where
  some : is_some (board p s) ≡ true
  low : 1 ≤ s
  high : s ≤ p.slots

board_of : (p : Plan) → IsInRange p → (s : ℕ) (w : Wire) (found : Option Row) → board p s ≡ found → option_map_or (drives w) found false ≡ true → IsBoard p s
board_of p range s w None e is = absurd (cc)
board_of p range s w (Some r) e is =
    let f = found_row (IsRowInRange p) p.rows s r range.rows e in
    record {
      some = ap is_some e;
      low = subst (λ n. 1 ≤ n) f.slot f.fact.from_one;
      high = subst (λ n. n ≤ p.slots) f.slot f.fact.to_last;
    }

-- each driver of the plan has one seat
one_seat : (p : Plan) → IsInRange p → (d : Driver) (w : Wire) → has_driver p d w ≡ true → count_by (is_same_driver d) (drivers p) ≡ 1
one_seat p range Controller w is =
    let slots = filter (λ s. is_some (board p s)) (up_to p.slots) in
    sum_by-cons (λ d. one_if (is_same_driver Controller d)) Controller (map (λ s. Slot s) slots) ∙ omega (arith, controller_once slots)
one_seat p range (Slot s) w is =
    let slots = filter (λ s. is_some (board p s)) (up_to p.slots) in
    let b = board_of p range s w (board p s) refl is in
    sum_by-cons (λ d. one_if (is_same_driver (Slot s) d)) Controller (map (λ s. Slot s) slots)
    ∙ omega (arith, as_slots s slots, once (λ s. is_some (board p s)) s p.slots b.low b.high b.some)

zeros : (ds : List Driver) → sum_by (λ d. count [] d) ds ≡ 0
zeros [] = refl
zeros (d ∷ ds) = sum_by-cons (λ d. count [] d) d ds ∙ omega (arith, zeros ds)

-- one more edge, over all drivers
sum-made : (h : List Edge) (e : Edge) (ds : List Driver) → sum_by (λ d. count (e ∷ h) d) ds ≡ count_by (is_same_driver e.driver) ds + sum_by (λ d. count h d) ds
sum-made h e [] = refl
sum-made h e (d ∷ ds) =
    let a = sum_by-cons (λ d. count (e ∷ h) d) d ds in
    let b = sum_by-cons (λ d. count h d) d ds in
    let c = sum_by-cons (λ d. one_if (is_same_driver e.driver d)) d ds in
    let more = sum-made h e ds in
    omega (arith, a, b, c, more, count-made h e d)

-- the drivers' edges are all edges
pub all_counted : (version : Version) (p : Plan) (h : List Edge) → IsAccepted p → IsLegal version p h → sum_by (λ d. count h d) (drivers p) ≡ length h
all_counted version p [] accepted legal = zeros (drivers p)
all_counted version p (e ∷ h) accepted legal =
    let exists = and_right (is_well_formed e) _ (checked _ NoSuchDriver _ legal.0).0 in
    let here = one_seat p (in_range p accepted) e.driver e.wire exists in
    let more = all_counted version p h accepted legal.1 in
    sum-made h e (drivers p) ∙ omega (arith, here, more)

-- the seats of some drivers, and the parts that are left
pub record AreSeated (b : State) (ds : List Driver) (seats : List Place) (total parts : ℕ) : Type 0 where
  pub placed : seats ≡ map (seat_of b) ds
  pub summed : total ≡ sum_by (λ d. count b.history d) ds
  pub left : parts + length ds ≡ 22

pub seated_none : (b : State) (seats : List Place) (total parts : ℕ) → seats ≡ [] → total ≡ 0 → parts ≡ 22 → AreSeated b [] seats total parts
seated_none b seats total parts none nought whole = record { placed = none; summed = nought; left = omega (arith, whole) }

-- one more driver
pub seated_more : (b : State) (ds : List Driver) (n : ℕ) (d : Driver) (old new : List Place) (made before total parts all : ℕ) → n < length ds →
    get_or ds n Controller ≡ d → AreSeated b (take n ds) old before all → new ≡ old ++ record { driver = d; made = made } ∷ [] →
    made ≡ count b.history d → total ≡ before + made → parts + 1 ≡ all → AreSeated b (take (n + 1) ds) new total parts
seated_more b ds n d old new made before total parts all within here seated is counted more rest =
    let next : take (n + 1) ds ≡ take n ds ++ d ∷ [] = take_more ds n Controller within ∙ ap (λ (x : Driver). take n ds ++ x ∷ []) here in
    let longer : length (take (n + 1) ds) ≡ length (take n ds) + 1 = omega (arith, ap length next, length-append (take n ds) (d ∷ [])) in
    let last : map (seat_of b) (take n ds) ++ seat_of b d ∷ [] ≡ map (seat_of b) (take (n + 1) ds) = sym (ap (map (seat_of b)) next ∙ map-append (seat_of b) (take n ds) (d ∷ [])) in
    record {
      placed = is ∙ ((λ i. seated.placed i ++ record { driver = d; made = counted i } ∷ []) ∙ last);
      summed = omega (arith, seated.summed, more, counted, ap (sum_by (λ d. count b.history d)) next, sum_by_push (λ d. count b.history d) (take n ds) d);
      left = omega (arith, seated.left, rest, longer);
    }

-- all seats
pub seated_all : (b : State) (ds : List Driver) (n : ℕ) (seats : List Place) (total parts : ℕ) → AreSeated b (take n ds) seats total parts → n ≡ length ds →
    ds ≡ drivers b.plan → AreSeated b (drivers b.plan) seats total parts
seated_all b ds n seats total parts seated whole is =
    subst (λ (l : List Driver). AreSeated b l seats total parts) (ap (λ m. take m ds) whole ∙ take-length ds ∙ is) seated

pub drivers-seats_of : (b : State) (ds : List Driver) → drivers_of (map (seat_of b) ds) ≡ ds
drivers-seats_of b [] = refl
drivers-seats_of b (d ∷ ds) = ap (λ (l : List Driver). d ∷ l) (drivers-seats_of b ds)

-- each driver of a plan can sit
slot_sits : (s : ℕ) → 1 ≤ s → s ≤ 21 → can_sit (Slot s) ≡ true
slot_sits s low high = grind (arith, nat_tests)

slots_sit : (n : ℕ) → n ≤ 21 → All (λ s. can_sit (Slot s) ≡ true) (up_to n)
slots_sit zero few = All-nil (λ s. can_sit (Slot s) ≡ true)
slots_sit (suc n) few =
    let sits : ℕ → Type 0 = λ s. can_sit (Slot s) ≡ true in
    All-append sits (up_to n) (suc n ∷ []) (slots_sit n (omega arith)) (All-cons sits (suc n) [] (slot_sits (suc n) (omega arith) few) (All-nil sits))

all_sit : (p : Plan) → IsAccepted p → All (λ d. can_sit d ≡ true) (drivers p)
all_sit p accepted =
    let sits : Driver → Type 0 = λ d. can_sit d ≡ true in
    let some : ℕ → Bool = λ s. is_some (board p s) in
    let slots = slots_sit p.slots (in_range p accepted).most in
    All-cons sits Controller (map (λ s. Slot s) (filter some (up_to p.slots))) refl
    (All-map sits (λ s. Slot s) (filter some (up_to p.slots)) (All-filter some (λ s. can_sit (Slot s) ≡ true) (up_to p.slots) slots))

pub driver_sits : (p : Plan) (ds : List Driver) (n : ℕ) (d : Driver) → IsAccepted p → ds ≡ drivers p → n < length ds → get_or ds n Controller ≡ d → can_sit d ≡ true
driver_sits p ds n d accepted is within here =
    let all : All (λ d. can_sit d ≡ true) ds = subst (λ (l : List Driver). All (λ d. can_sit d ≡ true) l) (sym is) (all_sit p accepted) in
    subst (λ (x : Driver). can_sit x ≡ true) here (All-get_or (λ d. can_sit d ≡ true) ds n Controller within all)
