use Rattle.std.proofs.Common.{sym, ◌∙◌}
use Rattle.vme_cycles.proofs.Noted.{tenure_ends}
use Rattle.vme_cycles.proofs.record.LastTenure.note.Goals as goal

pub returns-else-edge : goal.returns-else-edge
returns-else-edge c = λ k n is few request.
    tenure_ends k n c.args.edge.now few c.if-edge.false c.args.self.now c.saturating_add-self.result is (sym c.is_same.ensures ∙ c.if-is_same.true) c.saturating_add-self.ensures
