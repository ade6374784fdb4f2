use Rattle.std.proofs.Common.{◌∙◌, ap, sym, subst}
use Rattle.vme_model.specs.Verdict.{State}
use Rattle.vme_seeds.specs.Kinds.{has_board}
use Rattle.vme_seeds.specs.Tallies.{AreCounts}
use Rattle.vme_seeds.proofs.walks.Walk.restart.Goals as goal

pub invariant_of-self : goal.invariant_of-self
invariant_of-self c = (
  c.new-self-inside.ensures.weights,
  subst (λ (s : State). AreCounts (has_board s.plan) s.history c.new-self-inside.result.made.counts) (sym c.restart.ensures) (c.new-self-inside.ensures.made (has_board c.self.inside.bus.plan)),
  c.self.invariant.2 ∙ ap (λ (s : State). has_board s.plan) (sym c.restart.ensures),
)
