-- An edge is drawn exactly if there is one, and it is one of those.
use Rattle.std.proofs.Common.{◌≡◌, refl, ℕ, ◌*◌, ◌-◌, ◌/◌, ◌%◌, ◌^◌, ◌<◌, ◌↔◌, Bool, List, [], ◌∷◌, arith}
use Rattle.std.proofs.Math.Nat.{one-le-pow}
use Rattle.std.proofs.lemmas.Nat.{or_of_32, shr_le}
use Rattle.std.specs.Prelude.{Option, Some, None, IfSome, bit_or, bit_xor, sum}
use Rattle.std.specs.Int.{rotate_right, w32}
use Rattle.std.specs.List.{Contains}
use Rattle.vme_model.specs.declared.signals.Edge.{Edge}
use Rattle.vme_model.proofs.OpenEdges.{here}
use Rattle.vme_seeds.specs.declared.draws.Draws.{Draws}
use Rattle.vme_seeds.specs.Choices.{Draw, chances_by, choices_by}
use Rattle.vme_seeds.specs.Draws.{draw_by, next_by, numbers_of}
use Rattle.vme_seeds.specs.Laws.{OneOfThese, SomeIsDrawn}
use Rattle.vme_seeds.specs.Numbers.{after_words, scaled, word}
use Rattle.vmebus_c.specs.Played.{AreWeighed}

-- a weight is a power of 4
pub some_weight : (n : ℕ) → 0 < 4 ^ n
some_weight n = omega (arith, one-le-pow n 4 (omega arith))

-- the output of a generator has 32 bits
small_turned : (x by : ℕ) → x < 4294967296 → bit_or (x / 2 ^ by) (x * 2 ^ ((32 - by) % 32) % 4294967296) < 4294967296
small_turned x by small =
    or_of_32 (x / 2 ^ by) (x * 2 ^ ((32 - by) % 32) % 4294967296) (omega (arith, small, shr_le x by)) (omega arith)

small_output : (s : ℕ) → rotate_right w32 (bit_xor (s / 2 ^ 18) s / 2 ^ 27 % 2 ^ 32) (s / 2 ^ 59) < 4294967296
small_output s = small_turned (bit_xor (s / 2 ^ 18) s / 2 ^ 27 % 2 ^ 32) (s / 2 ^ 59 % 32) (omega arith)

first_word : (d : Draws) → word (numbers_of d) < 4294967296
first_word d = small_output (numbers_of d).state

second_word : (d : Draws) → word (after_words 1 (numbers_of d)) < 4294967296
second_word d = small_output (after_words 1 (numbers_of d)).state

module _ (one : OneOfThese) (some : SomeIsDrawn) (d : Draws) (boards : ℕ → Bool) where
  -- the edge is one of these
  pub drawn_is_one : (es : List Edge) (e : Edge) → next_by d boards es ≡ Some e → Contains es e
  drawn_is_one es e is =
      let by : Draw = draw_by d boards es in
      let x = scaled (word (numbers_of d)) (sum (chances_by by)) in
      one by x (scaled (word (after_words 1 (numbers_of d))) (choices_by by x)) e is

  pub drawn_among : (es : List Edge) (o : Option Edge) → next_by d boards es ≡ o → IfSome o (λ e. Contains es e)
  drawn_among es None is = tt
  drawn_among es (Some e) is = drawn_is_one es e is

  -- of no edges none is drawn
  pub none_of_none : next_by d boards [] ≡ None
  none_of_none = by (next_by d boards []) refl
    where
      by : (o : Option Edge) → next_by d boards [] ≡ o → next_by d boards [] ≡ None
      by None is = is
      by (Some e) is = let within = (drawn_is_one [] e is).1 in absurd (omega (arith, within))

  -- none is drawn if there is none, and only then
  pub none_drawn : AreWeighed d → (es : List Edge) → (next_by d boards es ≡ None) ↔ (es ≡ [])
  none_drawn weighed [] = (λ none. refl, λ empty. none_of_none)
  none_drawn weighed (e ∷ es) = (
    λ none.
        let drew = some (draw_by d boards (e ∷ es)) e (word (numbers_of d)) (word (after_words 1 (numbers_of d))) weighed (here e es) (first_word d) (second_word d) in
        let is : next_by d boards (e ∷ es) ≡ Some drew.0 = drew.1 in absurd (cc),
    λ empty. absurd (cc),
  )
