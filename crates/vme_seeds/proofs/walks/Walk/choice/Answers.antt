use Rattle.std.proofs.Common.{◌≡◌, ◌∙◌, ap, sym, ℕ, List}
use Rattle.std.specs.Prelude.{slice_get, sum}
use Rattle.vme_model.specs.declared.signals.Edge.{Edge}
use Rattle.vme_model.specs.Plan.{Plan}
use Rattle.vme_seeds.specs.Kinds.{kinds, count, of_kind}
use Rattle.vme_seeds.specs.Numbers.{scaled}
use Rattle.vme_seeds.specs.Choices.{all_open, falls_at}
use Rattle.vme_seeds.specs.Tallies.{AreCounts}
use Rattle.vme_seeds.specs.Walks.{Walk, chosen, weights}
use Rattle.vme_seeds.proofs.Drawn.{chances_are, none_chosen, one_chosen}
use Rattle.vme_seeds.proofs.walks.Walk.choice.Goals as goal

pub returns-in_err-kind-clause-edge : goal.returns-in_err-kind-clause-edge
returns-in_err-kind-clause-edge c =
    let w : Walk = record { seed = c.self.inside.seed; state = c.self.inside.bus; numbers = c.self.inside.numbers } in
    let xs = c.new-chances.result.by_kind in
    let listed = c.as_slice-edges.ensures.value ∙ c.all_open.ensures in
    let ready : AreCounts w.state.plan (all_open w.state) c.of-ready.result.counts = λ k. c.of-ready.ensures k ∙ ap (λ (p : Plan). count p k c.as_slice-edges.result.now) c.plan-plan.ensures ∙ ap (λ (es : List Edge). count w.state.plan k es) listed in
    let are = chances_are (weights w) w.state xs c.self.inside.weights.by_kind c.self.inside.made.counts c.of-ready.result.counts c.new-chances.ensures.long c.new-chances.ensures.each c.self.invariant.0 c.self.invariant.1 ready in
    let number : c.scaled.result ≡ scaled c.args.first (sum xs) = c.scaled.ensures.number ∙ ap (scaled c.args.first) c.sum.ensures in
    let kind = ap (λ (x : ℕ). slice_get kinds (falls_at xs x)) (sym number) ∙ sym c.kind_at.ensures ∙ c.in_err-kind.was in
    c.from_residual.ensures ∙ none_chosen w c.args.first c.args.second xs are kind ∙ ap (λ (v : Walk). chosen v c.args.first c.args.second) c.self.view_is

pub returns-clause-edge : goal.returns-clause-edge
returns-clause-edge c =
    let k = c.in_ok-kind.kind in
    let y = c.scaled-place.result in
    let w : Walk = record { seed = c.self.inside.seed; state = c.self.inside.bus; numbers = c.self.inside.numbers } in
    let xs = c.new-chances.result.by_kind in
    let listed = c.as_slice-edges.ensures.value ∙ c.all_open.ensures in
    let ready : AreCounts w.state.plan (all_open w.state) c.of-ready.result.counts = λ k. c.of-ready.ensures k ∙ ap (λ (p : Plan). count p k c.as_slice-edges.result.now) c.plan-plan.ensures ∙ ap (λ (es : List Edge). count w.state.plan k es) listed in
    let are = chances_are (weights w) w.state xs c.self.inside.weights.by_kind c.self.inside.made.counts c.of-ready.result.counts c.new-chances.ensures.long c.new-chances.ensures.each c.self.invariant.0 c.self.invariant.1 ready in
    let number : c.scaled.result ≡ scaled c.args.first (sum xs) = c.scaled.ensures.number ∙ ap (scaled c.args.first) c.sum.ensures in
    let kind = ap (λ (x : ℕ). slice_get kinds (falls_at xs x)) (sym number) ∙ sym c.kind_at.ensures ∙ c.in_ok-kind.was in
    let at = c.scaled-place.ensures.number ∙ ap (scaled c.args.second) (c.count.ensures ∙ ready k) in
    let chose = c.edge_of.ensures ∙ ap (λ (p : Plan). slice_get (of_kind p k c.as_slice-edges.result.now) y) c.plan-plan.ensures ∙ ap (λ (es : List Edge). slice_get (of_kind w.state.plan k es) y) listed in
    one_chosen w c.args.first c.args.second xs k y c.edge_of.result are kind at chose ∙ ap (λ (v : Walk). chosen v c.args.first c.args.second) c.self.view_is
