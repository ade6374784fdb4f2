use Rattle.std.proofs.Common.{◌∙◌, sym}
use Rattle.vme_backplane.proofs.OfferChoice.{open_full, open_with_room, all_of}
use Rattle.vme_backplane.proofs.backplanes.Backplane.open_edges.Goals as goal

pub returns-then-is_full-clause-edges : goal.returns-then-is_full-clause-edges
returns-then-is_full-clause-edges c = c.new.ensures ∙ sym (open_full c.args.self.now c.args.driver (sym c.is_full.ensures ∙ c.if-is_full.true))

pub returns-then-is_full-clause-all : goal.returns-then-is_full-clause-all
returns-then-is_full-clause-all c = all_of c.args.self.now c.args.driver c.new.result.items (returns-then-is_full-clause-edges c)

pub returns-else-is_full-clause-edges : goal.returns-else-is_full-clause-edges
returns-else-is_full-clause-edges c = c.open_but_full.ensures ∙ sym (open_with_room c.args.self.now c.args.driver (sym c.is_full.ensures ∙ c.if-is_full.false))

pub returns-else-is_full-clause-all : goal.returns-else-is_full-clause-all
returns-else-is_full-clause-all c = all_of c.args.self.now c.args.driver c.open_but_full.result.items (returns-else-is_full-clause-edges c)
