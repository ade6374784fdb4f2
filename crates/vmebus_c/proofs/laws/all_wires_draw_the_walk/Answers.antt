use Rattle.std.proofs.Common.{◌∙◌, ap, List}
use Rattle.vme_model.specs.declared.signals.Edge.{Edge}
use Rattle.vme_seeds.specs.Draws.{next_by}
use Rattle.vme_seeds.specs.Kinds.{has_board}
use Rattle.vmebus_c.proofs.AllPlayed.{played_all}
use Rattle.vmebus_c.proofs.laws.all_wires_draw_the_walk.Goals as goal

pub returns : goal.returns
returns c = λ w d wires accepted room all at.
    ap (λ (es : List Edge). next_by d (has_board w.state.plan) es) (played_all w.state accepted wires all room)
    ∙ c.draws_follow_the_walk.ensures.next w d at
