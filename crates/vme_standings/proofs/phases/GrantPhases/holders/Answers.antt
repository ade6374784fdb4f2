use Rattle.std.proofs.Common.{◌≡◌, ◌∙◌, ◌<◌, ℕ, true, sym, ap, arith}
use Rattle.std.proofs.lemmas.Bool.Decides.{nat_tests}
use Rattle.vme_bus.specs.Sets.{has}
use Rattle.vme_standings.specs.Phases.{held_row}
use Rattle.vme_standings.proofs.Growing.{grow_some, grow_all}
use Rattle.vme_standings.proofs.phases.GrantPhases.holders.Goals as goal

pub loop-board-preserved : goal.loop-board-preserved
loop-board-preserved c = record {
  some = grow_some (has c.loop-board.holders) (has c.with_if-holders.result) (λ b. (b < 22)
      × ((first : ℕ) × (has (held_row c.args.self.now b) first ≡ true))) c.loop-board.board c.is_some.result c.with_if-holders.ensures
      c.loop-board.invariant.some
      (λ h. let w = c.is_some.ensures.some h in (grind (arith, nat_tests, c.loop-board-test.true), (w.0, ap (λ r. has r w.0) (sym c.held_row.ensures) ∙ w.1)));
  all = grow_all (has c.loop-board.holders) (has c.with_if-holders.result) (λ b. (first : ℕ)
      × (has (held_row c.args.self.now b) first ≡ true)) c.loop-board.board c.is_some.result c.with_if-holders.ensures
      c.loop-board.invariant.all
      (λ w. c.is_some.ensures.none w.0 (ap (λ r. has r w.0) c.held_row.ensures ∙ w.1));
}

pub returns-clause-all : goal.returns-clause-all
returns-clause-all c b first l h =
    let ended : c.loop-board.board ≡ 22 = grind (arith, nat_tests, c.loop-board.auto.board-end, c.loop-board-test.false) in
    c.loop-board.invariant.all b (omega (arith, l, ended)) (first, h)
