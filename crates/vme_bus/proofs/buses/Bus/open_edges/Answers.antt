use Rattle.std.proofs.Common.{◌∙◌, sym, ap}
use Rattle.vme_model.specs.Verdict.{State}
use Rattle.vme_histories.specs.Opens.{open_but_full}
use Rattle.vme_histories.proofs.OfferChoice.{open_full, open_with_room, all_of}
use Rattle.vme_bus.proofs.buses.Bus.open_edges.Goals as goal

pub returns-then-is_full-clause-edges : goal.returns-then-is_full-clause-edges
returns-then-is_full-clause-edges c = c.new.ensures ∙ sym (open_full c.args.self.now c.args.driver (sym c.is_full.ensures ∙ c.if-is_full.true))

pub returns-then-is_full-clause-all : goal.returns-then-is_full-clause-all
returns-then-is_full-clause-all c = all_of c.args.self.now c.args.driver c.new.result.items (returns-then-is_full-clause-edges c)

pub returns-else-is_full-clause-edges : goal.returns-else-is_full-clause-edges
returns-else-is_full-clause-edges c =
    let b = c.self.inside in
    c.open_edges_of.ensures b.version b.plan b.past c.self.invariant.0
    ∙ ap (λ (s : State). open_but_full s.version s.plan s.history c.args.driver) c.self.view_is
    ∙ sym (open_with_room c.args.self.now c.args.driver (sym c.is_full.ensures ∙ c.if-is_full.false))

pub returns-else-is_full-clause-all : goal.returns-else-is_full-clause-all
returns-else-is_full-clause-all c = all_of c.args.self.now c.args.driver c.open_edges_of.result.items (returns-else-is_full-clause-edges c)
