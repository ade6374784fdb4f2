use Rattle.std.proofs.Common.{◌∙◌, ap, sym, subst}
use Rattle.vme_model.specs.Verdict.{State}
use Rattle.vme_seeds.specs.Kinds.{has_board}
use Rattle.vme_seeds.specs.Tallies.{AreCounts}
use Rattle.vme_seeds.proofs.walks.Walk.new.Goals as goal

pub invariant_of-result : goal.invariant_of-result
invariant_of-result c = (
  c.new-2.ensures.weights,
  subst (λ (s : State). AreCounts (has_board s.plan) s.history c.new-2.result.made.counts) (sym c.new.ensures) (c.new-2.ensures.made (has_board c.args.plan)),
  c.boards_of-boards.ensures ∙ ap (λ (s : State). has_board s.plan) (sym c.new.ensures),
)
