use Rattle.std.proofs.Common.{◌≡◌, ◌∙◌, ap, sym, refl, ℕ}
use Rattle.std.specs.Prelude.{slice_get, sum}
use Rattle.vme_bus.specs.Sets.{has}
use Rattle.vme_seeds.specs.Kinds.{kinds}
use Rattle.vme_seeds.specs.Numbers.{scaled}
use Rattle.vme_seeds.specs.Choices.{Draw, falls_at}
use Rattle.vme_seeds.specs.Draws.{draw_by}
use Rattle.vme_seeds.proofs.Drawn.{chances_are, none_chosen, one_chosen}
use Rattle.vme_seeds.proofs.draws.Draws.choice.Goals as goal

pub returns-in_err-kind : goal.returns-in_err-kind
returns-in_err-kind c =
    let d : Draw = draw_by c.args.self.now (has c.args.boards) c.args.edges.now in
    let xs = c.new-chances.result.by_kind in
    let are = chances_are d xs c.args.self.now.weights.by_kind c.args.self.now.made.counts c.of-ready.result.counts c.new-chances.ensures.long c.new-chances.ensures.each (λ k. refl)
    (λ k. refl) c.of-ready.ensures in
    let number : c.scaled.result ≡ scaled c.args.first (sum xs) = c.scaled.ensures.number ∙ ap (scaled c.args.first) c.sum.ensures in
    let kind = ap (λ (x : ℕ). slice_get kinds (falls_at xs x)) (sym number) ∙ sym c.kind_at.ensures ∙ c.in_err-kind.was in
    c.from_residual.ensures ∙ none_chosen d c.args.first c.args.second xs are kind

pub returns : goal.returns
returns c =
    let k = c.in_ok-kind.kind in
    let d : Draw = draw_by c.args.self.now (has c.args.boards) c.args.edges.now in
    let xs = c.new-chances.result.by_kind in
    let are = chances_are d xs c.args.self.now.weights.by_kind c.args.self.now.made.counts c.of-ready.result.counts c.new-chances.ensures.long c.new-chances.ensures.each (λ j. refl)
    (λ j. refl) c.of-ready.ensures in
    let number : c.scaled.result ≡ scaled c.args.first (sum xs) = c.scaled.ensures.number ∙ ap (scaled c.args.first) c.sum.ensures in
    let kind = ap (λ (x : ℕ). slice_get kinds (falls_at xs x)) (sym number) ∙ sym c.kind_at.ensures ∙ c.in_ok-kind.was in
    let at = c.scaled-place.ensures.number ∙ ap (scaled c.args.second) (c.count.ensures ∙ c.of-ready.ensures k) in
    one_chosen d c.args.first c.args.second xs k c.scaled-place.result c.edge_of.result are kind at c.edge_of.ensures
