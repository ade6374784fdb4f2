use Rattle.std.proofs.Common.{◌≡◌, ◌∙◌, ◌<◌, ℕ, Bool, ap, sym, subst, slice_index, arith}
use Rattle.std.specs.Prelude.{Ok}
use Rattle.vme_model.specs.Verdict.{State, verdict}
use Rattle.vme_bus.specs.Sets.{has}
use Rattle.vme_seeds.specs.declared.weights.Weights.{Weights}
use Rattle.vme_seeds.specs.Kinds.{has_board, kind_of, number}
use Rattle.vme_seeds.specs.Tallies.{AreCounts, CountsIn}
use Rattle.vme_seeds.specs.Walks.{Walk}
use Rattle.vme_seeds.proofs.Counted.{counted_in, few, made_where_ok}
use Rattle.vme_seeds.proofs.walks.Walk.make.Goals as goal

pub invariant_of-self : goal.invariant_of-self
invariant_of-self c =
    let b = c.self.inside.bus in
    let e = c.args.edge in
    let k = kind_of (has c.self.inside.boards) e in
    let old = c.self.inside.draws.made.counts in
    let new = c.count.new.self.made.counts in
    let room : slice_index old (number k) < 4294967295 =
    omega (arith, c.self.invariant.1 k, few (has_board b.plan) k b.history, c.laws.ensures.fits, c.laws.ensures.bounded) in
    let more = subst (λ (boards : ℕ → Bool). CountsIn boards e old new) c.self.invariant.2 (c.count.ensures.counts room) in
    let ok = subst (λ (v : Walk). verdict v.state e ≡ Ok tt) (sym c.self.view_is) c.requires in
    let stepped = c.step.ensures.state ∙ made_where_ok b e ok in (
      λ j. ap (λ (w : Weights). slice_index w.by_kind (number j)) c.count.ensures.weights ∙ c.self.invariant.0 j,
      subst (λ (s : State). AreCounts (has_board s.plan) s.history new) (sym stepped) (counted_in (has_board b.plan) b.history e old new c.self.invariant.1 more),
      c.self.invariant.2 ∙ ap (λ (s : State). has_board s.plan) (sym stepped),
    )
