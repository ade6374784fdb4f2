use Rattle.std.proofs.Common.{◌≡◌, ◌∙◌, ap}
use Rattle.vme_bus.specs.Sets.{has}
use Rattle.vme_seeds.specs.Choices.{Draw, chosen_by}
use Rattle.vme_seeds.specs.Draws.{numbers_of}
use Rattle.vme_seeds.specs.Numbers.{after_words, word}
use Rattle.vme_seeds.specs.Walks.{Walk, chosen, next_edge}
use Rattle.vme_seeds.proofs.AllOpen.{accepted_choice}
use Rattle.vme_seeds.proofs.Drawn.{same_draw}
use Rattle.vme_seeds.proofs.walks.Walk.draw.Goals as goal

pub returns-clause-edge : goal.returns-clause-edge
returns-clause-edge c =
    let w : Walk = record { seed = c.self.inside.seed; state = c.self.inside.bus; numbers = numbers_of c.self.inside.draws } in
    let listed = c.as_slice.ensures.value ∙ c.all_open.ensures in
    let same = same_draw c.self.inside.draws w (has c.self.inside.boards) c.as_slice.result.now c.self.invariant.0 c.self.invariant.1 c.self.invariant.2 listed in
    c.draw.ensures.edge ∙ ap (λ (d : Draw). chosen_by d (word w.numbers) (word (after_words 1 w.numbers))) same ∙ ap next_edge c.self.view_is

pub returns-clause-accepted : goal.returns-clause-accepted
returns-clause-accepted c =
    let w : Walk = record { seed = c.self.inside.seed; state = c.self.inside.bus; numbers = numbers_of c.self.inside.draws } in
    let listed = c.as_slice.ensures.value ∙ c.all_open.ensures in
    let same = same_draw c.self.inside.draws w (has c.self.inside.boards) c.as_slice.result.now c.self.invariant.0 c.self.invariant.1 c.self.invariant.2 listed in
    let drew : c.draw.result ≡ chosen w (word w.numbers) (word (after_words 1 w.numbers)) =
    c.draw.ensures.edge ∙ ap (λ (d : Draw). chosen_by d (word w.numbers) (word (after_words 1 w.numbers))) same in
    accepted_choice w (word w.numbers) (word (after_words 1 w.numbers)) c.draw.result drew
