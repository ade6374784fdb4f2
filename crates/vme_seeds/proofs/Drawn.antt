-- Which edge two words choose.
use Rattle.std.proofs.Common.{◌≡◌, ◌∙◌, sym, ap, ℕ, ◌<◌, Bool, List, length, slice_index}
use Rattle.std.proofs.Math.Path.{fun_ext}
use Rattle.std.specs.Prelude.{Option, Some, None, slice_get, sum}
use Rattle.std.specs.Option.{option_map_or}
use Rattle.rand_pcg.specs.Lcg.{Lcg, next}
use Rattle.rand_pcg.specs.Pcg.{multiplier_64, pcg32}
use Rattle.vme_model.specs.declared.signals.Edge.{Edge}
use Rattle.vme_seeds.specs.declared.kinds.Kind.{Kind}
use Rattle.vme_seeds.specs.Kinds.{kinds, number, has_board, of_kind, count}
use Rattle.vme_seeds.specs.Numbers.{after_words, word, scaled}
use Rattle.vme_seeds.specs.Choices.{Draw, all_open, chance, chance_by, chances_by, chosen_by, draw_on, falls_at}
use Rattle.vme_seeds.specs.declared.draws.Draws.{Draws}
use Rattle.vme_seeds.specs.Draws.{weight_of, made_of, draw_by}
use Rattle.vme_seeds.specs.Tallies.{AreCounts}
use Rattle.vme_seeds.specs.Walks.{Walk, weights}
use Rattle.vme_seeds.proofs.KindOrder.{by_numbers}
use Rattle.vme_seeds.proofs.Words.{one_word, two_words}

-- the chances, by the counts
pub chances_are : (d : Draw) (xs ws ms rs : List ℕ) → length xs ≡ 28
    → ((n : ℕ) → n < 28 → slice_index xs n ≡ chance (slice_index ws n) (slice_index ms n) (slice_index rs n))
    → ((k : Kind) → slice_index ws (number k) ≡ d.weight k) → ((k : Kind) → slice_index ms (number k) ≡ d.made k) → AreCounts d.boards d.edges rs → xs ≡ chances_by d
chances_are d xs ws ms rs long each weighed made ready =
    by_numbers xs (λ n. chance (slice_index ws n) (slice_index ms n) (slice_index rs n)) (chance_by d) long each
    (λ k.
    ap (λ v. chance v (slice_index ms (number k)) (slice_index rs (number k))) (weighed k)
    ∙ ap (λ m. chance (d.weight k) m (slice_index rs (number k))) (made k)
    ∙ ap (λ r. chance (d.weight k) (d.made k) r) (ready k))

module _ (d : Draw) (first second : ℕ) where
  -- the edges of a kind
  abbrev among : Kind → List Edge
  among k = of_kind d.boards k d.edges

  -- the edge among the edges of a kind that the second word chooses
  abbrev of_that : Option Kind → Option Edge
  of_that o = option_map_or (λ k. slice_get (among k) (scaled second (option_map_or (λ j. length (among j)) o 0))) o None

  by_chances : (xs : List ℕ) → xs ≡ chances_by d → of_that (slice_get kinds (falls_at xs (scaled first (sum xs)))) ≡ chosen_by d first second
  by_chances xs are = ap (λ (cs : List ℕ). of_that (slice_get kinds (falls_at cs (scaled first (sum cs))))) are

  pub none_chosen : (xs : List ℕ) → xs ≡ chances_by d → slice_get kinds (falls_at xs (scaled first (sum xs))) ≡ None → None ≡ chosen_by d first second
  none_chosen xs are is = sym (ap of_that is) ∙ by_chances xs are

  pub one_chosen : (xs : List ℕ) (k : Kind) (y : ℕ) (o : Option Edge) → xs ≡ chances_by d → slice_get kinds (falls_at xs (scaled first (sum xs))) ≡ Some k
      → y ≡ scaled second (length (among k)) → o ≡ slice_get (among k) y → o ≡ chosen_by d first second
  one_chosen xs k y o are is at chose = chose ∙ ap (slice_get (among k)) at ∙ sym (ap of_that is) ∙ by_chances xs are

-- the next two words
module _ (d : Draw) (f s : ℕ) (g h n : Lcg) (one : (f, g) ≡ pcg32 n) (two : (s, h) ≡ pcg32 g) where
  second_from : g ≡ after_words 1 n
  second_from = ap (λ (x : ℕ × Lcg). x.1) one ∙ one_word n

  pub next_is : chosen_by d f s ≡ chosen_by d (word n) (word (after_words 1 n))
  next_is =
      ap (λ (x : ℕ). chosen_by d x s) (ap (λ (x : ℕ × Lcg). x.0) one)
      ∙ ap (λ (x : ℕ). chosen_by d (word n) x) (ap (λ (x : ℕ × Lcg). x.0) two ∙ ap word second_from)

  pub then_from : h ≡ after_words 2 n
  then_from = ap (λ (x : ℕ × Lcg). x.1) two ∙ ap (next 64 multiplier_64) (ap (λ (x : ℕ × Lcg). x.1) one) ∙ two_words n

-- a draw by a seed's numbers is that of the walk
pub same_draw : (d : Draws) (w : Walk) (boards : ℕ → Bool) (es : List Edge) → ((k : Kind) → weight_of d k ≡ weights w k)
    → AreCounts (has_board w.state.plan) w.state.history d.made.counts → boards ≡ has_board w.state.plan → es ≡ all_open w.state
    → draw_by d boards es ≡ draw_on (weights w) w.state
same_draw d w boards es weighed made has listed =
    let m : Kind → ℕ = λ k. count (has_board w.state.plan) k w.state.history in
    let weighed_all : weight_of d ≡ weights w = fun_ext weighed in
    let made_all : made_of d ≡ m = fun_ext made in
    ap (λ (f : Kind → ℕ). (let r : Draw = record { weight = f; made = made_of d; boards = boards; edges = es } in r)) weighed_all
    ∙ ap (λ (f : Kind → ℕ). (let r : Draw = record { weight = weights w; made = f; boards = boards; edges = es } in r)) made_all
    ∙ ap (λ (f : ℕ → Bool). (let r : Draw = record { weight = weights w; made = m; boards = f; edges = es } in r)) has
    ∙ ap (λ (l : List Edge). (let r : Draw = record { weight = weights w; made = m; boards = has_board w.state.plan; edges = l } in r)) listed
