-- Nothing is left out, and what is chosen is open.
use Rattle.std.proofs.Common.{◌≡◌, ◌∙◌, refl, sym, ap, subst, ℕ, zero, suc, ◌+◌, ◌*◌, ◌-◌, ◌/◌, ◌^◌, ◌<◌, ◌≤◌, ◌⊎◌, ⊎_elim, Bool, true, false, List, [], ◌∷◌, ◌++◌, length, take, slice_index, get_or, arith, eq-eqb, ne_eqb}
use Rattle.std.specs.Prelude.{Option, Some, None, Ok, Err, is_ok, is_some, if◌then◌else◌, ◌==◌, ◌&&◌, nat_lt, slice_get, sum, Result, IfSome}
use Rattle.std.specs.List.{flat_map, All, Contains}
use Rattle.std.specs.Option.{option_map_or}
use Rattle.std.proofs.Math.Nat.{pow-zero, pow-suc}
use Rattle.std.proofs.lemmas.Bool.Decides.{nat_tests}
use Rattle.std.proofs.lemmas.List.Elements.{Contains-append_left, Contains-push, All-nil, All-append, All-contains_itself, All-filter, All-get_or, filter_passes}
use Rattle.std.proofs.lemmas.List.Sums.{sum_by-cons}
use Rattle.std.proofs.lemmas.Option.{get_or_from_slice_get, slice_get_within, slice_get-get_or}
use Rattle.vme_model.specs.declared.boards.Row.{Row}
use Rattle.vme_model.specs.declared.refusals.Refused.{Refused}
use Rattle.vme_model.specs.declared.signals.Driver.{Driver}
use Rattle.vme_model.specs.declared.signals.Driver.TheVariants.{Controller, Slot}
use Rattle.vme_model.specs.declared.signals.Edge.{Edge}
use Rattle.vme_model.specs.declared.signals.Wire.{Wire}
use Rattle.vme_model.specs.declared.signals.Wire.TheVariants.{Bg}
use Rattle.vme_model.specs.Accepted.{IsAccepted}
use Rattle.vme_model.specs.Offers.{wires}
use Rattle.vme_model.specs.Open.{moves, open_edges}
use Rattle.vme_model.specs.Plan.{Plan, board, drives, drivers, has_driver, up_to}
use Rattle.vme_model.specs.Signals.{has_wire, has_value}
use Rattle.vme_model.specs.Verdict.{State, verdict}
use Rattle.vme_model.specs.declared.refusals.Refused.TheVariants.{NoSuchDriver}
use Rattle.vme_model.proofs.AllowedEdges.{checked}
use Rattle.vme_model.proofs.Bools.{and_right}
use Rattle.vme_model.proofs.Members.{found_row}
use Rattle.vme_model.proofs.OpenEdges.{here, there, by_map, by_flat_map, open_are_all, by_filter}
use Rattle.vme_model.proofs.Ranges.{IsRowInRange, in_range}
use Rattle.rand_pcg.specs.Lcg.{Lcg}
use Rattle.vme_seeds.specs.declared.kinds.Kind.{Kind}
use Rattle.vme_seeds.specs.Kinds.{kinds, number, has_board, kind_of, is_of, of_kind}
use Rattle.vme_seeds.specs.Choices.{Draw, weight, all_open, open_of, chance, chance_by, chance_of, chances, chances_by, choices, choices_by, chosen_by, edge_at, edge_by, falls_at, kind_at, kind_by}
use Rattle.vme_seeds.specs.Laws.{IsBelow, IsChosen}
use Rattle.vme_seeds.specs.Numbers.{scaled}
use Rattle.vme_seeds.specs.Walks.{Walk, weights, chosen}
use Rattle.vme_seeds.proofs.KindOrder.{a_kind, kind_in, kinds_listed, kind_stands, listed_at}

-- ---- what is chosen is open

fine : (r : Result (Unit {0}) Refused) → is_ok r ≡ true → r ≡ Ok tt
fine (Ok tt) h = refl
fine (Err r) h = absurd (cc)

module _ (b : State) where
  abbrev is_allowed : Edge → Bool
  is_allowed e = is_ok (verdict b e)

  abbrev IsAllowed : Edge → Type 0
  IsAllowed e = is_allowed e ≡ true

  all_allowed : (ds : List Driver) → All IsAllowed (flat_map (open_edges b) ds)
  all_allowed [] = All-nil IsAllowed
  all_allowed (d ∷ ds) =
      All-append IsAllowed (open_edges b d) (flat_map (open_edges b) ds) (filter_passes is_allowed (flat_map (moves b.history d) (wires d))) (all_allowed ds)

  allowed_at : (k : Kind) (y : ℕ) (e : Edge) → slice_get (open_of b k) y ≡ Some e → verdict b e ≡ Ok tt
  allowed_at k y e at =
      let all = All-filter (is_of (has_board b.plan) k) IsAllowed (all_open b) (all_allowed (drivers b.plan)) in
      fine (verdict b e) (subst IsAllowed (get_or_from_slice_get (open_of b k) y e e at) (All-get_or IsAllowed (open_of b k) y e (slice_get_within (open_of b k) y e at) all))

  allowed_of : (o : Option Kind) (y : ℕ) (e : Edge) → option_map_or (λ k. slice_get (open_of b k) y) o None ≡ Some e → verdict b e ≡ Ok tt
  allowed_of None y e at = absurd (cc)
  allowed_of (Some k) y e at = allowed_at k y e at

pub each_is_open : (w : Kind → ℕ) (b : State) (x y : ℕ) (e : Edge) → edge_at w b x y ≡ Some e → verdict b e ≡ Ok tt
each_is_open w b x y e at = allowed_of b (kind_at w b x) y e at

-- the choice is accepted, whether it is none or one
pub accepted_if : (w : Kind → ℕ) (b : State) (x y : ℕ) (o : Option Edge) → o ≡ edge_at w b x y → IfSome o (λ e. verdict b e ≡ Ok tt)
accepted_if w b x y None is = tt
accepted_if w b x y (Some e) is = each_is_open w b x y e (sym is)

-- ---- nothing is left out

last_or_below : (n m : ℕ) → m ≤ suc n → (m ≤ n) ⊎ (m ≡ suc n)
last_or_below n m to = grind arith

up_to_has : (n m : ℕ) → 1 ≤ m → m ≤ n → Contains (up_to n) m
up_to_has zero m from to = absurd (omega arith)
up_to_has (suc n) m from to = ⊎_elim
    (λ (l : m ≤ n). Contains-append_left (up_to n) (suc n ∷ []) m (up_to_has n m from l))
    (λ (l : m ≡ suc n). subst (λ k. Contains (up_to n ++ suc n ∷ []) k) (sym l) (Contains-push (up_to n) (suc n)))
    (last_or_below n m to)

-- a board that drives a wire is a driver of its plan
module _ (p : Plan) (accepted : IsAccepted p) where
  is_board : (s : ℕ) (r : Row) → board p s ≡ Some r → Contains (drivers p) (Slot s)
  is_board s r is =
      let range = in_range p accepted in
      let f = found_row (IsRowInRange p) p.rows s r range.rows is in
      let from : 1 ≤ s = subst (λ x. 1 ≤ x) f.slot f.fact.from_one in
      let to : s ≤ p.slots = subst (λ x. x ≤ p.slots) f.slot f.fact.to_last in
      let among = by_filter (λ t. is_some (board p t)) (up_to p.slots) s (ap is_some is) (up_to_has p.slots s from to) in
      there Controller (Slot s) _ (by_map (λ t. Slot t) _ s among)

  board_drives : (s : ℕ) (w : Wire) (o : Option Row) → board p s ≡ o → option_map_or (drives w) o false ≡ true → Contains (drivers p) (Slot s)
  board_drives s w None is has = absurd (cc)
  board_drives s w (Some r) is has = is_board s r is

  is_driver : (d : Driver) (w : Wire) → has_driver p d w ≡ true → Contains (drivers p) d
  is_driver Controller w has = here Controller _
  is_driver (Slot s) w has = board_drives s w (board p s) refl has

-- the place at which the chances before one end
falls_there : (cs : List ℕ) (i : ℕ) → 0 < slice_index cs i → (falls_at cs (sum (take i cs)) ≡ i) × (sum (take i cs) < sum cs)
falls_there [] i some = absurd (omega (arith, some))
falls_there (c ∷ cs) zero some =
    (here_if (nat_lt 0 c) _ (grind (arith, nat_tests)), omega (arith, some, sum_by-cons (λ x. x) c cs))
  where
    here_if : (t : Bool) (n : ℕ) → t ≡ true → (if t then 0 else n) ≡ 0
    here_if true n h = refl
    here_if false n h = absurd (cc)
falls_there (c ∷ cs) (suc i) some =
    let rest = falls_there cs i some in
    let before : sum (take (suc i) (c ∷ cs)) ≡ c + sum (take i cs) = sum_by-cons (λ x. x) c (take i cs) in
    let left : c + sum (take i cs) - c ≡ sum (take i cs) = omega arith in (
      ap (falls_at (c ∷ cs)) before
          ∙ further (nat_lt (c + sum (take i cs)) c) (falls_at cs (c + sum (take i cs) - c)) i (grind (arith, nat_tests)) (ap (falls_at cs) left ∙ rest.0),
      omega (arith, rest.1, before, sum_by-cons (λ x. x) c cs),
    )
  where
    further : (t : Bool) (n i : ℕ) → t ≡ false → n ≡ i → (if t then 0 else n + 1) ≡ suc i
    further false n i h is = omega (arith, is)
    further true n i h is = absurd (cc)

chance_some : (w made ready : ℕ) → 0 < w → 0 < ready → 0 < chance w made ready
chance_some w made ready heavy some = else_if (ready == 0) (w * (1 + 256 / (1 + made))) (ne_eqb ready 0 (λ e. omega (arith, some, e))) (grind arith)
  where
    else_if : (t : Bool) (n : ℕ) → t ≡ false → 0 < n → 0 < (if t then 0 else n)
    else_if false n h l = l
    else_if true n h l = absurd (cc)

-- an edge, whichever
no_edge : Edge
no_edge = record { driver = Controller; wire = Bg 0; fall = false; value = None }

power : (n : ℕ) → 0 < 4 ^ n
power zero = omega (arith, pow-zero 4)
power (suc n) = omega (arith, pow-suc 4 n, power n)

module _ (g : Lcg) (b : State) (e : Edge) (accepted : IsAccepted b.plan) (ok : verdict b e ≡ Ok tt) where
  abbrev k : Kind
  k = kind_of (has_board b.plan) e

  exists : has_driver b.plan e.driver e.wire ≡ true
  exists = and_right (has_wire e.driver e.wire && has_value e.wire e.fall e.value) (has_driver b.plan e.driver e.wire) (checked _ NoSuchDriver _ ok).0

  stands : Contains (open_of b k) e
  stands =
      by_filter (is_of (has_board b.plan) k) (all_open b) e (eq-eqb (number k) (number k) refl)
      (by_flat_map (open_edges b) (drivers b.plan) e.driver e (is_driver b.plan accepted e.driver e.wire exists) ((open_are_all b e.driver e).0 (refl, ok)))

  chance_is : 0 < slice_index (chances (weight g) b) (number k)
  chance_is =
      subst (λ n. 0 < n) (sym (listed_at (chance_of (weight g) b) k))
      (chance_some (weight g k) _ (length (open_of b k)) (power _) (some_of (length (open_of b k)) stands.0 stands.1))
    where
      some_of : (n y : ℕ) → y < n → 0 < n
      some_of n y l = omega (arith, l)

  abbrev number_for : ℕ
  number_for = sum (take (number k) (chances (weight g) b))

  kind_is : kind_at (weight g) b number_for ≡ Some k
  kind_is = ap (slice_get kinds) (falls_there (chances (weight g) b) (number k) chance_is).0 ∙ kind_stands k

  is_chosen : IsChosen g b e
  is_chosen = record {
    x = number_for;
    y = stands.0;
    within = (falls_there (chances (weight g) b) (number k) chance_is).1;
    among = subst (λ n. stands.0 < n) (sym (ap (λ o. option_map_or (λ j. length (open_of b j)) o 0) kind_is)) stands.1;
    chosen =
        ap (λ o. option_map_or (λ j. slice_get (open_of b j) stands.0) o None) kind_is
        ∙ slice_get-get_or (open_of b k) stands.0 e stands.1
        ∙ ap (λ x. Some x) stands.2;
  }

  pub can_be_made : Contains kinds (kind_of (has_board b.plan) e) × IsChosen g b e
  can_be_made = (a_kind k, is_chosen)

-- ---- some edge is chosen

-- a number below the sum falls on a chance that is not 0
falls_on_some : (cs : List ℕ) (x : ℕ) → x < sum cs → (falls_at cs x < length cs) × (0 < slice_index cs (falls_at cs x))
falls_on_some [] x below = absurd (omega (arith, below))
falls_on_some (c ∷ cs) x below = by (nat_lt x c) refl (λ (y : ℕ) (l : y < sum cs). falls_on_some cs y l)
  where
    first_is : (t : Bool) (n : ℕ) → t ≡ true → (if t then 0 else n) ≡ 0
    first_is true n h = refl
    first_is false n h = absurd (cc)

    next_is : (t : Bool) (n : ℕ) → t ≡ false → (if t then 0 else n + 1) ≡ suc n
    next_is false n h = omega arith
    next_is true n h = absurd (cc)

    by : (t : Bool) → nat_lt x c ≡ t → ((y : ℕ) → y < sum cs → (falls_at cs y < length cs) × (0 < slice_index cs (falls_at cs y))) → (falls_at (c ∷ cs) x < length (c ∷ cs))
        × (0 < slice_index (c ∷ cs) (falls_at (c ∷ cs) x))
    by true is later =
        let here : falls_at (c ∷ cs) x ≡ 0 = first_is (nat_lt x c) _ is in
        let some : 0 < c = grind (arith, nat_tests) in
        subst (λ i. (i < length (c ∷ cs)) × (0 < slice_index (c ∷ cs) i)) (sym here) (omega arith, some)
    by false is later =
        let over : c ≤ x = grind (arith, nat_tests) in
        let rest = later (x - c) (omega (arith, below, over, sum_by-cons (λ n. n) c cs)) in
        let there : falls_at (c ∷ cs) x ≡ suc (falls_at cs (x - c)) = next_is (nat_lt x c) (falls_at cs (x - c)) is in
        subst (λ i. (i < length (c ∷ cs)) × (0 < slice_index (c ∷ cs) i)) (sym there) (omega (arith, rest.0), rest.1)

ready_if : (w made ready : ℕ) → 0 < chance w made ready → 0 < ready
ready_if w made zero some = absurd (omega (arith, some))
ready_if w made (suc ready) some = omega arith

module _ (d : Draw) (x : ℕ) (below : x < sum (chances_by d)) where
  abbrev among : Kind → List Edge
  among k = of_kind d.boards k d.edges

  place_is : (falls_at (chances_by d) x < length (chances_by d)) × (0 < slice_index (chances_by d) (falls_at (chances_by d) x))
  place_is = falls_on_some (chances_by d) x below

  -- the kind that it falls on has open edges
  one_is : (k : Kind) × (kind_by d x ≡ Some k) × (0 < length (among k))
  one_is =
      let i = falls_at (chances_by d) x in
      let stands = kind_in i (subst (λ n. i < n) (kinds_listed (chance_by d)) place_is.0) in
      let at : slice_index (chances_by d) i ≡ chance_by d stands.0 = ap (slice_index (chances_by d)) (sym stands.2) ∙ listed_at (chance_by d) stands.0 in
      (stands.0, stands.1, ready_if (d.weight stands.0) _ (length (among stands.0)) (subst (λ n. 0 < n) at place_is.1))

  choices_are : choices_by d x ≡ length (among one_is.0)
  choices_are = ap (λ o. option_map_or (λ j. length (among j)) o 0) one_is.1

  pub some_is_chosen : (0 < choices_by d x) × ((y : ℕ) → y < choices_by d x → (e : Edge) × (edge_by d x y ≡ Some e))
  some_is_chosen = (
    subst (λ n. 0 < n) (sym choices_are) one_is.2,
    λ y within. made_at y (subst (λ n. y < n) choices_are within),
  )
    where
      made_at : (y : ℕ) → y < length (among one_is.0) → (e : Edge) × (edge_by d x y ≡ Some e)
      made_at y within = (
        get_or (among one_is.0) y no_edge,
        ap (λ o. option_map_or (λ j. slice_get (among j) y) o None) one_is.1 ∙ slice_get-get_or (among one_is.0) y no_edge within,
      )

-- ---- some edge is drawn of any, and it is one of them

-- what is chosen is among the edges
chosen_among : (d : Draw) (o : Option Kind) (y : ℕ) (e : Edge) → option_map_or (λ k. slice_get (of_kind d.boards k d.edges) y) o None ≡ Some e → Contains d.edges e
chosen_among d None y e at = absurd (cc)
chosen_among d (Some k) y e at =
    let P : Edge → Type 0 = λ c. Contains d.edges c in
    subst P (get_or_from_slice_get (of_kind d.boards k d.edges) y e e at)
    (All-get_or P (of_kind d.boards k d.edges) y e (slice_get_within (of_kind d.boards k d.edges) y e at) (All-filter (is_of d.boards k) P d.edges (All-contains_itself d.edges)))

pub one_of_these : (d : Draw) (x y : ℕ) (e : Edge) → edge_by d x y ≡ Some e → Contains d.edges e
one_of_these d x y e at = chosen_among d (kind_by d x) y e at

module _ (share_below : IsBelow) (d : Draw) (weighed : (k : Kind) → 0 < d.weight k) (e : Edge) (has : Contains d.edges e) where
  abbrev its : Kind
  its = kind_of d.boards e

  its_stands : Contains (of_kind d.boards its d.edges) e
  its_stands = by_filter (is_of d.boards its) d.edges e (eq-eqb (number its) (number its) refl) has

  its_chance : 0 < slice_index (chances_by d) (number its)
  its_chance =
      subst (λ n. 0 < n) (sym (listed_at (chance_by d) its))
      (chance_some (d.weight its) (d.made its) (length (of_kind d.boards its d.edges)) (weighed its) (some_in (length (of_kind d.boards its d.edges)) its_stands.0 its_stands.1))
    where
      some_in : (n y : ℕ) → y < n → 0 < n
      some_in n y l = omega (arith, l)

  some_sum : 0 < sum (chances_by d)
  some_sum = omega (arith, (falls_there (chances_by d) (number its) its_chance).1)

  pub some_is_drawn : (first second : ℕ) → first < 4294967296 → second < 4294967296 → (c : Edge) × (chosen_by d first second ≡ Some c) × Contains d.edges c
  some_is_drawn first second small small_too =
      let x = scaled first (sum (chances_by d)) in
      let one = some_is_chosen d x (share_below (sum (chances_by d)) first some_sum small) in
      let drew = one.1 (scaled second (choices_by d x)) (share_below (choices_by d x) second one.0 small_too) in
      (drew.0, drew.1, one_of_these d x (scaled second (choices_by d x)) drew.0 drew.1)

-- ---- what a walk draws

pub accepted_choice : (w : Walk) (first second : ℕ) (o : Option Edge) → o ≡ chosen w first second → IfSome o (λ e. verdict w.state e ≡ Ok tt)
accepted_choice w first second o is =
    let x = scaled first (sum (chances (weights w) w.state)) in
    accepted_if (weights w) w.state x (scaled second (choices (weights w) w.state x)) o is
