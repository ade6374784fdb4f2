-- An edge has one other order or none.
use Rattle.std.proofs.Common.{◌≡◌, inl, inr, ◌<◌, ◌≤◌, ◌++◌, ◌∷◌, [], ℕ, List, false, length, Ok, sym, ◌∙◌, ap, subst, arith}
use Rattle.std.proofs.lemmas.List.{length-append}
use Rattle.vme_model.specs.declared.signals.Edge.{Edge}
use Rattle.vme_model.specs.declared.signals.Version.{Version}
use Rattle.vme_model.specs.History.{in_order}
use Rattle.vme_model.specs.Numbered.{Numbered, edges_in}
use Rattle.vme_model.specs.Plan.{Plan}
use Rattle.vme_model.specs.Text.{text}
use Rattle.vme_model.specs.Verdict.{Judgement, verdict_but_full}
use Rattle.vme_swaps.specs.Swaps.{IsFree}
use Rattle.vme_swaps.specs.declared.stops.Stop.{Stop}
use Rattle.vme_swaps.specs.declared.stops.Stop.TheVariants.{Begins, Far, Waits, Races}
use Rattle.vme_swaps.specs.Stops.{is_race}
use Rattle.vme_races.specs.Other.{HasNoRace, IsOtherOrder}
use Rattle.vme_races.specs.Walks.{Passes, Stops}
use Rattle.vme_swaps.specs.Stops.{most_passed}

module _ (v : Version) (p : Plan) (e : Edge) where
  -- there is a last one of these, which the edge cannot pass
  abbrev Stays : Numbered → Type 0
  Stays [] = ⊥
  Stays ((n, a) ∷ k) = ¬ IsFree v p (edges_in k) a e

  -- it passes no more edges than on a way that ends there
  no_further : (xs rest ys others : Numbered) → xs ++ rest ≡ ys ++ others → Passes v p e xs rest
      → Stays others → length xs ≤ length ys
  no_further [] rest ys others same passes stays = omega arith
  no_further ((n, a) ∷ xs) rest [] others same passes stays =
      absurd (subst Stays (sym same) stays passes.0)
  no_further ((n, a) ∷ xs) rest (y ∷ ys) others same passes stays =
      let tails : xs ++ rest ≡ ys ++ others = cc in
      let less = no_further xs rest ys others tails passes.1 stays in omega (arith, less)

  same_rest : (xs rest ys others : Numbered) → xs ++ rest ≡ ys ++ others → length xs ≡ length ys
      → rest ≡ others
  same_rest [] rest [] others same size = same
  same_rest [] rest (y ∷ ys) others same size = absurd (omega (arith, size))
  same_rest (x ∷ xs) rest [] others same size = absurd (omega (arith, size))
  same_rest (x ∷ xs) rest (y ∷ ys) others same size =
      same_rest xs rest ys others (cc) (omega (arith, size))

  -- two ways that end so are one
  one_way : (xs rest ys others : Numbered) → xs ++ rest ≡ ys ++ others → Passes v p e xs rest
      → Passes v p e ys others → Stays rest → Stays others → rest ≡ others
  one_way xs rest ys others same passes also stays ends =
      let less = no_further xs rest ys others same passes ends in
      let more = no_further ys others xs rest (sym same) also stays in
      same_rest xs rest ys others same (omega (arith, less, more))

  stays_at : (count n : ℕ) (met : Edge) (k : Numbered) (stop : Stop) (outcome : Judgement)
      → stop ≡ Races n met outcome → Stops v p e count ((n, met) ∷ k) stop
      → (count < most_passed) × Stays ((n, met) ∷ k) × (verdict_but_full v p (edges_in k) e ≡ Ok tt)
  stays_at count n met k stop outcome is stops =
      let h = subst (Stops v p e count ((n, met) ∷ k)) is stops in (h.0, h.1, h.2.2)

  -- a way to a race, and another walk
  module _ (xs : Numbered) (n : ℕ) (met : Edge) (rest : Numbered) (few : length xs < most_passed)
      (passes : Passes v p e xs ((n, met) ∷ rest)) (stays : Stays ((n, met) ∷ rest))
      (ok : verdict_but_full v p (edges_in rest) e ≡ Ok tt) where
    races_too : (ys others : Numbered) (stop : Stop) → xs ++ (n, met) ∷ rest ≡ ys ++ others
        → Passes v p e ys others → Stops v p e (length ys) others stop
        → is_race stop ≡ false → ⊥
    races_too ys [] stop same also stops none =
        let less = no_further ys [] xs ((n, met) ∷ rest) (sym same) also stays in
        let size = ap length same in
        let a = length-append xs ((n, met) ∷ rest) in
        let b = length-append ys [] in
        omega (arith, less, size, a, b)
    races_too ys ((m, a) ∷ k) Begins same also stops none = stops.2
    races_too ys ((m, a) ∷ k) Far same also stops none =
        let less = no_further ys ((m, a) ∷ k) xs ((n, met) ∷ rest) (sym same) also stays in
        omega (arith, less, few, stops)
    races_too ys ((m, a) ∷ k) (Waits i b refused) same also stops none =
        let here : (n, met) ∷ rest ≡ (m, a) ∷ k =
        one_way xs ((n, met) ∷ rest) ys ((m, a) ∷ k) same passes also stays stops.1 in
        let tails : rest ≡ k = cc in
        let refused_there = stops.2.2 in
        let ok_there = subst (λ (l : Numbered). verdict_but_full v p (edges_in l) e ≡ Ok tt) tails ok in
        absurd (cc)
    races_too ys ((m, a) ∷ k) (Races i b outcome) same also stops none = absurd (cc)

-- ---- the other order

-- the text of the other order, by the edges that are not passed
abbrev text_of : Version → Edge → Numbered → List ℕ
text_of v e [] = []
text_of v e ((n, met) ∷ rest) = text v (in_order (met ∷ e ∷ edges_in rest))

module _ (p : Plan) (v : Version) (before : List Edge) (e : Edge) where
  way : (bytes : List ℕ) (order : IsOtherOrder p v before e bytes)
      → (length order.goes.passed < most_passed) × Stays v p e ((order.n, order.met) ∷ order.rest)
      × (verdict_but_full v p (edges_in order.rest) e ≡ Ok tt)
  way bytes order =
      stays_at v p e (length order.goes.passed) order.n order.met order.rest order.walk.stop
      order.outcome order.races
      (subst (λ k. Stops v p e (length order.goes.passed) k order.walk.stop) order.behind
      order.goes.stops)

  passed_so : (bytes : List ℕ) (order : IsOtherOrder p v before e bytes)
      → Passes v p e order.goes.passed ((order.n, order.met) ∷ order.rest)
  passed_so bytes order = subst (Passes v p e order.goes.passed) order.behind order.goes.passes

  pub one_order : (a b : List ℕ) → IsOtherOrder p v before e a → IsOtherOrder p v before e b → a ≡ b
  one_order a b x y =
      let same : x.goes.passed ++ (x.n, x.met) ∷ x.rest ≡ y.goes.passed ++ (y.n, y.met) ∷ y.rest =
      ap (λ k. x.goes.passed ++ k) (sym x.behind) ∙ sym x.goes.split ∙ y.goes.split
      ∙ ap (λ k. y.goes.passed ++ k) y.behind in
      x.trace
      ∙ ap (text_of v e) (one_way v p e x.goes.passed ((x.n, x.met) ∷ x.rest) y.goes.passed
      ((y.n, y.met) ∷ y.rest) same (passed_so a x) (passed_so b y) (way a x).1 (way b y).1)
      ∙ sym y.trace

  raceless : (bytes : List ℕ) → IsOtherOrder p v before e bytes → HasNoRace p v before e → ⊥
  raceless bytes x none = elim none [
    | inl refused ↦ (let accepted = x.accepted in absurd (cc))
    | inr other ↦ (
        let same : x.goes.passed ++ (x.n, x.met) ∷ x.rest ≡ other.1.passed ++ other.1.rest =
        ap (λ k. x.goes.passed ++ k) (sym x.behind) ∙ sym x.goes.split ∙ other.1.split in
        races_too v p e x.goes.passed x.n x.met x.rest (way bytes x).0 (passed_so bytes x)
        (way bytes x).1 (way bytes x).2 other.1.passed other.1.rest other.0.stop same
        other.1.passes other.1.stops other.2)
  ]

  pub one_or_none : (bytes : List ℕ) → IsOtherOrder p v before e bytes → ¬ HasNoRace p v before e
  one_or_none bytes x = raceless bytes x
