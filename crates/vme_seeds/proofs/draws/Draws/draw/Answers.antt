use Rattle.std.proofs.Common.{◌∙◌, ap, ℕ}
use Rattle.rand_pcg.specs.Lcg.{Lcg, increment_of}
use Rattle.rand_pcg.specs.Pcg.{pcg32}
use Rattle.vme_bus.specs.Sets.{has}
use Rattle.vme_seeds.specs.Choices.{Draw}
use Rattle.vme_seeds.specs.Draws.{draw_by, numbers_of}
use Rattle.vme_seeds.proofs.Drawn.{next_is, then_from}
use Rattle.vme_seeds.proofs.draws.Draws.draw.Goals as goal

pub returns-clause-edge : goal.returns-clause-edge
returns-clause-edge c =
    let d : Draw = draw_by c.args.self.now (has c.args.boards) c.args.edges.now in
    c.choice-edge.ensures
    ∙ next_is d _ _ _ _ (numbers_of c.args.self.now) (c.next_word-first.ensures ∙ ap pcg32 c.numbers-numbers.ensures) c.next_word-second.ensures

pub returns-clause-numbers : goal.returns-clause-numbers
returns-clause-numbers c =
    let d : Draw = draw_by c.args.self.now (has c.args.boards) c.args.edges.now in
    let moved = then_from d _ _ _ _ (numbers_of c.args.self.now) (c.next_word-first.ensures ∙ ap pcg32 c.numbers-numbers.ensures) c.next_word-second.ensures in
    ap (λ (s : ℕ). (let g : Lcg = record { state = s; increment = increment_of 64 0 } in g)) (c.halves-low.ensures ∙ c.state.ensures ∙ ap (λ (g : Lcg). g.state) moved)
