use Rattle.std.proofs.Common.{◌∙◌, refl, ap, slice_index}
use Rattle.rand_pcg.specs.Lcg.{Lcg}
use Rattle.vme_seeds.specs.declared.weights.Weights.{Weights}
use Rattle.vme_seeds.specs.Kinds.{has_board, number}
use Rattle.vme_seeds.specs.Choices.{Draw, all_open, chosen_by, draw_on}
use Rattle.vme_seeds.specs.Draws.{numbers_of}
use Rattle.vme_seeds.specs.Numbers.{after_words, word}
use Rattle.vme_seeds.specs.Walks.{weights}
use Rattle.vme_seeds.proofs.Counted.{counted_in}
use Rattle.vme_seeds.proofs.Drawn.{same_draw}
use Rattle.vme_seeds.proofs.laws.draws_follow_the_walk.Goals as goal

pub returns-clause-next : goal.returns-clause-next
returns-clause-next c = λ w d at.
    ap (λ (x : Draw). chosen_by x (word (numbers_of d)) (word (after_words 1 (numbers_of d))))
    (same_draw d w (has_board w.state.plan) (all_open w.state) at.weighed at.counted refl refl)
    ∙ ap (λ (g : Lcg). chosen_by (draw_on (weights w) w.state) (word g) (word (after_words 1 g))) at.numbers

pub returns-clause-on : goal.returns-clause-on
returns-clause-on c = λ w d new e at moved same counts. record {
  numbers = moved ∙ ap (after_words 2) at.numbers;
  weighed = λ k. ap (λ (x : Weights). slice_index x.by_kind (number k)) same ∙ at.weighed k;
  counted = counted_in (has_board w.state.plan) w.state.history e d.made.counts new.made.counts at.counted counts;
}
