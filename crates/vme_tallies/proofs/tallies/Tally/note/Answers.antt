use Rattle.std.proofs.Common.{◌∙◌, refl, sym, ◌+◌, ◌<◌, ◌^◌, length, arith}
use Rattle.vme_tallies.specs.Tally.{answered_edge}
use Rattle.vme_tallies.proofs.OneMore.{edge_accepted, edge_refused}
use Rattle.vme_tallies.proofs.tallies.Tally.note.Goals as goal

pub returns-in-Ok : goal.returns-in-Ok
returns-in-Ok c = λ t is b same comes.
    let e = c.args.edge.now in
    let few : length t + 1 < 2 ^ 64 = let r = c.requires.room in let count = is.edges in omega (arith, r, count) in
    edge_accepted b e.wire e.fall e.value c.in-Ok.delivery t few c.args.self.now c.accept.new.self e.driver (c.args.self.now.edges + 1) c.args.events.now is (sym same ∙ c.in-Ok.is) refl comes (rw c.is_some.ensures at c.accept.ensures)

pub returns-in-Err : goal.returns-in-Err
returns-in-Err c = λ t is b same comes.
    let few : length t + 1 < 2 ^ 64 = let r = c.requires.room in let count = is.edges in omega (arith, r, count) in
    let a = answered_edge b c.args.edge.now in
    edge_refused b c.args.edge.now c.in-Err.refused t c.args.self.now _ c.note.new.self (c.args.self.now.edges + 1) few is (sym same ∙ c.in-Err.is) refl (c.note.ensures t a is.refusals (sym same ∙ c.in-Err.is) few) refl
