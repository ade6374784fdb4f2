-- The edges that are left of the first trace, the newest first.
use Rattle.std.proofs.Common.{◌≡◌, inl, inr, ◌+◌, ◌-◌, ◌<◌, ◌++◌, ◌∷◌, [], ℕ, suc, List, Option, Some, None, Ok, length, take, drop, refl, sym, ◌∙◌, ap, append_assoc, take-append-drop, subst, arith}
use Rattle.std.specs.Prelude.{◌⊎◌, ◌≢◌}
use Rattle.std.specs.List.{remove}
use Rattle.std.proofs.Math.ListN.{length-append}
use Rattle.std.proofs.lemmas.List.{drop_all, length-drop}
use Rattle.vme_model.specs.declared.signals.Driver.{Driver}
use Rattle.vme_model.specs.declared.signals.Edge.{Edge}
use Rattle.vme_model.specs.declared.signals.Version.{Version}
use Rattle.vme_model.specs.Plan.{Plan}
use Rattle.vme_model.specs.Numbered.{Numbered, edges_in}
use Rattle.vme_model.specs.Verdict.{IsLegal, verdict_but_full}
use Rattle.vme_bus.specs.declared.states.BusState.{BusState}
use Rattle.vme_bus.specs.States.{IsStateOf, OfHistory}
use Rattle.vme_swaps.specs.Swaps.{IsFree}
use Rattle.vme_swaps.specs.declared.stops.Stop.{Stop}
use Rattle.vme_swaps.specs.Stops.{Meets}
use Rattle.vme_same.specs.declared.edges.Left.{Left}
use Rattle.vme_same.specs.Comparing.{GoesBack, HasNoneOf, IsFirstOf, IsMissing, IsPlace}
use Rattle.vme_same.specs.Kept.{IsAt, numbers}

pub numbers_append : (xs ys : List Left) → numbers (xs ++ ys) ≡ numbers xs ++ numbers ys
numbers_append [] ys = refl
numbers_append (x ∷ xs) ys = ap (λ l. (x.number, x.edge) ∷ l) (numbers_append xs ys)

pub numbers_count : (xs : List Left) → length (numbers xs) ≡ length xs
numbers_count [] = refl
numbers_count (x ∷ xs) =
    let others = numbers_count xs in omega (arith, others)

-- the first edge that is left
pub front_of : (xs : List Left) (x : Left) → drop (length xs - (0 + 1)) xs ≡ x ∷ drop (length xs - 0) xs
    → (behind : List Left) × (xs ≡ behind ++ x ∷ [])
front_of xs x is =
    let none : drop (length xs - 0) xs ≡ [] = drop_all (length xs - 0) xs (omega arith) in
    let n = length xs - (0 + 1) in (
      take n xs,
      sym (take-append-drop n xs) ∙ ap (λ l. take n xs ++ l) (is ∙ ap (λ l. x ∷ l) none),
    )

-- ---- the search for an edge

module _ (e : Edge) (xs : List Left) where
  pub none_yet : IsMissing e (numbers (drop (length xs - 0) xs))
  none_yet = subst (λ l. IsMissing e (numbers l)) (sym (drop_all (length xs - 0) xs (omega arith))) tt

  pub none_more : (n : ℕ) (x : Left) → drop (length xs - (n + 1)) xs ≡ x ∷ drop (length xs - n) xs
      → x.edge ≢ e → IsMissing e (numbers (drop (length xs - n) xs))
      → IsMissing e (numbers (drop (length xs - (n + 1)) xs))
  none_more n x is other before =
      subst (λ l. IsMissing e (numbers l)) (sym is) (other, before)

  pub none_there : (n : ℕ) → n ≡ length xs → IsMissing e (numbers (drop (length xs - n) xs))
      → IsMissing e (numbers xs)
  none_there n all missing =
      let first : length xs - n ≡ 0 = omega arith in
      subst (λ m. IsMissing e (numbers (drop m xs))) first missing

  pub found_at : (n : ℕ) (x : Left) → n < length xs
      → drop (length xs - (n + 1)) xs ≡ x ∷ drop (length xs - n) xs
      → x.edge ≡ e → IsMissing e (numbers (drop (length xs - n) xs)) → IsAt e n xs
  found_at n x within is same missing = record {
    behind = take (length xs - (n + 1)) xs;
    left = x;
    before = drop (length xs - n) xs;
    split = sym (take-append-drop (length xs - (n + 1)) xs) ∙ ap (λ l. take (length xs - (n + 1)) xs ++ l) is;
    is = same;
    count = length-drop (length xs - n) xs ∙ omega arith;
    first = missing;
  }

-- ---- the search for the first edge of a driver

module _ (d : Driver) (xs : List Left) where
  pub none_of_yet : HasNoneOf d (numbers (drop (length xs - 0) xs))
  none_of_yet = subst (λ l. HasNoneOf d (numbers l)) (sym (drop_all (length xs - 0) xs (omega arith))) tt

  pub none_of_more : (n : ℕ) (x : Left) → drop (length xs - (n + 1)) xs ≡ x ∷ drop (length xs - n) xs
      → x.edge.driver ≢ d → HasNoneOf d (numbers (drop (length xs - n) xs))
      → HasNoneOf d (numbers (drop (length xs - (n + 1)) xs))
  none_of_more n x is other before =
      subst (λ l. HasNoneOf d (numbers l)) (sym is) (other, before)

  pub none_of_there : (n : ℕ) → n ≡ length xs → HasNoneOf d (numbers (drop (length xs - n) xs))
      → HasNoneOf d (numbers xs)
  none_of_there n all none =
      let first : length xs - n ≡ 0 = omega arith in
      subst (λ m. HasNoneOf d (numbers (drop m xs))) first none

  pub first_at : (n : ℕ) (x : Left) → drop (length xs - (n + 1)) xs ≡ x ∷ drop (length xs - n) xs
      → x.edge.driver ≡ d → HasNoneOf d (numbers (drop (length xs - n) xs))
      → IsFirstOf d (numbers xs) (Some (x.number, x.edge))
  first_at n x is same none =
      let m = length xs - (n + 1) in
      let before = drop (length xs - n) xs in (
        numbers (take m xs),
        numbers before,
        ap numbers (sym (take-append-drop m xs) ∙ ap (λ l. take m xs ++ l) is)
            ∙ numbers_append (take m xs) (x ∷ before),
        same,
        none,
      )

-- if there is one, it stays the first when another edge comes behind
pub first_kept : (d : Driver) (x y : ℕ × Edge) (left : Numbered) (own : Option (ℕ × Edge))
    → own ≡ Some y → IsFirstOf d left own → IsFirstOf d (x ∷ left) own
first_kept d x y left None is first = absurd (cc)
first_kept d x y left (Some (n, a)) is first =
    (x ∷ first.0, first.1, ap (λ l. x ∷ l) first.2, first.3, first.4)

pub first_new : (d : Driver) (n : ℕ) (a : Edge) (left : Numbered) → a.driver ≡ d → HasNoneOf d left
    → IsFirstOf d ((n, a) ∷ left) (Some (n, a))
first_new d n a left same none = ([], left, refl, same, none)

-- it stays the first one, whatever comes behind, if there is one
pub first_on : (d : Driver) (more left : Numbered) (own : Option (ℕ × Edge))
    → (HasNoneOf d left → ⊥) → IsFirstOf d left own → IsFirstOf d (more ++ left) own
first_on d more left None some first = absurd (some first)
first_on d more left (Some (n, a)) some first = (
  more ++ first.0,
  first.1,
  ap (λ l. more ++ l) first.2 ∙ sym (append_assoc more first.0 ((n, a) ∷ first.1)),
  first.3,
  first.4,
)

-- the driver of an edge that is left has one
pub has_some : (behind : Numbered) (n : ℕ) (a : Edge) (before : Numbered)
    → HasNoneOf a.driver (behind ++ (n, a) ∷ before) → ⊥
has_some [] n a before none = none.0 refl
has_some (x ∷ behind) n a before none = has_some behind n a before none.1

-- ---- what stands before an edge, and the list without it

drop_behind : (ys : List Left) (x : Left) (zs : List Left) → drop (length ys + 1) (ys ++ x ∷ zs) ≡ zs
drop_behind [] x zs = refl
drop_behind (y ∷ ys) x zs =
    let n : length (y ∷ ys) + 1 ≡ suc (length ys + 1) = omega arith in
    ap (λ m. drop m (y ∷ (ys ++ x ∷ zs))) n ∙ drop_behind ys x zs

take_behind : (ys zs : List Left) → take (length ys) (ys ++ zs) ≡ ys
take_behind [] zs = refl
take_behind (y ∷ ys) zs = ap (λ l. y ∷ l) (take_behind ys zs)

module _ (e : Edge) (place : ℕ) (xs : List Left) (at : IsAt e place xs) where
  all_count : length xs ≡ length at.behind + (1 + place)
  all_count =
      let all = ap length at.split ∙ length-append at.behind (at.left ∷ at.before) in
      let count = at.count in omega (arith, all, count)

  pub before_is : at.before ≡ drop (length xs - place) xs
  before_is =
      let count = all_count in
      let n : length xs - place ≡ length at.behind + 1 = omega (arith, count) in
      sym (ap (λ l. drop (length xs - place) l) at.split
      ∙ ap (λ m. drop m (at.behind ++ at.left ∷ at.before)) n
      ∙ drop_behind at.behind at.left at.before)

  pub taken_out : (i : ℕ) → i + 1 + place ≡ length xs → remove xs i ≡ at.behind ++ at.before
  taken_out i sum =
      let count = all_count in
      let n : i ≡ length at.behind = omega (arith, count) in
      let after : suc (length at.behind) ≡ length at.behind + 1 = omega arith in
      ap (λ m. remove xs m) n ∙ ap (λ l. remove l (length at.behind)) at.split
      ∙ ap (λ l. l ++ drop (suc (length at.behind)) (at.behind ++ at.left ∷ at.before))
      (take_behind at.behind (at.left ∷ at.before))
      ∙ ap (λ m. at.behind ++ drop m (at.behind ++ at.left ∷ at.before)) after
      ∙ ap (λ l. at.behind ++ l) (drop_behind at.behind at.left at.before)

  -- it is the first such edge of what is left, whatever comes behind
  pub split_of : (more : Numbered) → more ++ numbers xs
      ≡ (more ++ numbers at.behind) ++ (at.left.number, e) ∷ numbers at.before
  split_of more =
      ap (λ l. more ++ numbers l) at.split
      ∙ ap (λ l. more ++ l) (numbers_append at.behind (at.left ∷ at.before))
      ∙ ap (λ a. more ++ (numbers at.behind ++ (at.left.number, a) ∷ numbers at.before)) at.is
      ∙ sym (append_assoc more (numbers at.behind) ((at.left.number, e) ∷ numbers at.before))

  abbrev pub place_of : (more : Numbered) → IsPlace e (more ++ numbers xs)
  place_of more = record {
    behind = more ++ numbers at.behind;
    number = at.left.number;
    before = numbers at.before;
    split = split_of more;
    first = at.first;
  }

  pub before_count : length (numbers at.before) ≡ place
  before_count = numbers_count at.before ∙ at.count

-- ---- the way back

module _ (v : Version) (p : Plan) (taken : Numbered) where
  pub legal_from : (xs ys : List Left) → IsLegal v p (edges_in (numbers (xs ++ ys) ++ taken))
      → IsLegal v p (edges_in (numbers ys ++ taken))
  legal_from [] ys legal = legal
  legal_from (x ∷ xs) ys legal = legal_from xs ys legal.1

  pub legal_drop : (n : ℕ) (xs : List Left) → IsLegal v p (edges_in (numbers xs ++ taken))
      → IsLegal v p (edges_in (numbers (drop n xs) ++ taken))
  legal_drop n xs legal = legal_from (take n xs) (drop n xs)
      (subst (λ l. IsLegal v p (edges_in (numbers l ++ taken))) (sym (take-append-drop n xs)) legal)

  pub over_one : (e : Edge) (x : Left) (xs : List Left) (stop result : Option Stop)
      → (IsLegal v p (e ∷ edges_in (numbers xs ++ taken)) → GoesBack v p e taken (numbers xs) stop)
      → (IsFree v p (edges_in (numbers xs ++ taken)) x.edge e × (result ≡ stop))
      ⊎ (¬ IsFree v p (edges_in (numbers xs ++ taken)) x.edge e
      × (met : Stop) × (result ≡ Some met)
      × Meets v p e x.number x.edge (edges_in (numbers xs ++ taken)) met)
      → GoesBack v p e taken (numbers (x ∷ xs)) result
  over_one e x xs stop result on (inl w) =
      inl (w.0, subst (GoesBack v p e taken (numbers xs)) (sym w.1) (on w.0.swapped.1))
  over_one e x xs stop result on (inr w) = inr w

-- the edge has gone back over so many
pub record HasGone
    (v : Version) (p : Plan) (taken : Numbered) (e : Edge) (xs : List Left) (state : BusState)
    (stop : Option Stop)
    : Type 0 where
  pub stands : IsStateOf v p (edges_in (numbers xs ++ taken)) state
  pub back : IsLegal v p (e ∷ edges_in (numbers xs ++ taken)) → GoesBack v p e taken (numbers xs) stop

module _ (v : Version) (p : Plan) (taken : Numbered) (e : Edge) (xs : List Left) where
  pub gone_none : (state : BusState) → IsStateOf v p (edges_in taken) state
      → HasGone v p taken e (drop (length xs - 0) xs) state None
  gone_none state is =
      let none : [] ≡ drop (length xs - 0) xs = sym (drop_all (length xs - 0) xs (omega arith)) in
      subst (λ l. HasGone v p taken e l state None) none (record { stands = is; back = λ legal. refl })

  pub gone_more : (n : ℕ) (x : Left) (old state : BusState) (stop result : Option Stop)
      → drop (length xs - (n + 1)) xs ≡ x ∷ drop (length xs - n) xs
      → IsLegal v p (edges_in (numbers xs ++ taken))
      → HasGone v p taken e (drop (length xs - n) xs) old stop
      → OfHistory old (λ w q h. IsLegal w q (e ∷ x.edge ∷ h)
      → (IsFree w q h x.edge e × (result ≡ stop))
      ⊎ (¬ IsFree w q h x.edge e × (met : Stop) × (result ≡ Some met)
      × Meets w q e x.number x.edge h met))
      → OfHistory old (λ w q h. verdict_but_full w q h x.edge ≡ Ok tt
      → IsStateOf w q (x.edge ∷ h) state)
      → HasGone v p taken e (drop (length xs - (n + 1)) xs) state result
  gone_more n x old state stop result is legal gone over moves =
      let ys = drop (length xs - n) xs in
      let h = edges_in (numbers ys ++ taken) in
      let there : IsLegal v p (x.edge ∷ h) = subst (λ l. IsLegal v p (edges_in (numbers l ++ taken))) is
      (legal_drop v p taken (length xs - (n + 1)) xs legal) in
      subst (λ l. HasGone v p taken e l state result) (sym is) (record {
        stands = moves v p h gone.stands there.0;
        back = λ allowed. over_one v p taken e x ys stop result gone.back (over v p h gone.stands allowed);
      })

  -- it has gone back over all that stand before it
  pub gone_all : (place : ℕ) (at : IsAt e place xs) (state : BusState) (stop : Option Stop)
      → IsLegal v p (edges_in (numbers xs ++ taken))
      → HasGone v p taken e (drop (length xs - place) xs) state stop
      → GoesBack v p e taken (numbers at.before) stop
  gone_all place at state stop legal gone =
      let here : IsLegal v p (edges_in (numbers (at.left ∷ at.before) ++ taken)) =
      legal_from v p taken at.behind (at.left ∷ at.before)
      (subst (λ l. IsLegal v p (edges_in (numbers l ++ taken))) at.split legal) in
      let allowed : IsLegal v p (e ∷ edges_in (numbers at.before ++ taken)) =
      subst (λ (a : Edge). IsLegal v p (a ∷ edges_in (numbers at.before ++ taken))) at.is here in
      let all : HasGone v p taken e at.before state stop =
      subst (λ l. HasGone v p taken e l state stop) (sym (before_is e place xs at)) gone in
      all.back allowed
