use Rattle.std.proofs.Common.{◌≡◌, ◌↔◌, sym, subst, ℕ, Bool, []}
use Rattle.std.specs.Prelude.{Option, None}
use Rattle.vme_model.specs.declared.signals.Edge.{Edge}
use Rattle.vme_seeds.specs.Draws.{IsCountedIn}
use Rattle.vme_seeds.specs.Kinds.{has_board}
use Rattle.vmebus_c.specs.Played.{played}
use Rattle.vmebus_c.proofs.NoneOpen.{drawn_among, none_drawn}
use Rattle.vmebus_c.proofs.played.draw.Goals as goal

pub returns-clause-edge : goal.returns-clause-edge
returns-clause-edge c = λ version p h at. c.draw_next.ensures.edge version p h at (c.boards_on-boards.ensures version p h at)

pub returns-clause-counts : goal.returns-clause-counts
returns-clause-counts c = λ version p h at.
    subst (λ (f : ℕ → Bool). IsCountedIn f c.draw_next.result c.args.draws.now c.draw_next.new.draws) (c.boards_on-boards.ensures version p h at) c.draw_next.ensures.counts

pub returns-clause-among : goal.returns-clause-among
returns-clause-among c = λ version p h at.
    drawn_among c.a_draw_gives_one_of_its_edges.ensures.one c.a_draw_gives_one_of_its_edges.ensures.some c.args.draws.now (has_board p)
    (played version p h c.args.wires.now) c.draw_next.result (sym (returns-clause-edge c version p h at))

pub returns-clause-none : goal.returns-clause-none
returns-clause-none c = λ weighed version p h at.
    let es = played version p h c.args.wires.now in
    subst (λ (o : Option Edge). (o ≡ None) ↔ (es ≡ [])) (sym (returns-clause-edge c version p h at))
    (none_drawn c.a_draw_gives_one_of_its_edges.ensures.one c.a_draw_gives_one_of_its_edges.ensures.some c.args.draws.now (has_board p) weighed es)
