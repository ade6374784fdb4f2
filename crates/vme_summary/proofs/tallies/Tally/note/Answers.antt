use Rattle.std.proofs.Common.{◌≡◌, ◌∙◌, refl, sym, ◌+◌, arith}
use Rattle.vme_summary.specs.Tally.{answered_edge}
use Rattle.vme_summary.proofs.OneMore.{edge_accepted, edge_refused}
use Rattle.vme_summary.proofs.tallies.Tally.note.Goals as goal

pub returns-in-Ok : goal.returns-in-Ok
returns-in-Ok c = λ t is b few same comes.
    let e = c.args.edge.now in
    let next : c.saturating_add-self.result ≡ c.args.self.now.edges + 1 = let r = c.saturating_add-self.ensures in let count = is.edges in omega (arith, r, count, few) in
    edge_accepted b e.wire e.fall e.value c.in-Ok.delivery t few c.args.self.now c.accept.new.self e.driver c.saturating_add-self.result c.args.events.now is (sym same ∙ c.in-Ok.is) next comes
    (rw c.is_some.ensures at c.accept.ensures)

pub returns-in-Err : goal.returns-in-Err
returns-in-Err c = λ t is b few same comes.
    let next : c.saturating_add-self.result ≡ c.args.self.now.edges + 1 = let r = c.saturating_add-self.ensures in let count = is.edges in omega (arith, r, count, few) in
    let a = answered_edge b c.args.edge.now in
    edge_refused b c.args.edge.now c.in-Err.refused t c.args.self.now _ c.note.new.self c.saturating_add-self.result few is (sym same ∙ c.in-Err.is) next
    (c.note.ensures t a is.refusals (sym same ∙ c.in-Err.is) few) refl
