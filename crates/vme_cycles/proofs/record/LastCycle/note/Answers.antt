use Rattle.std.proofs.Common.{sym, ◌∙◌}
use Rattle.vme_cycles.proofs.Noted.{cycle_ends}
use Rattle.vme_cycles.proofs.record.LastCycle.note.Goals as goal

pub returns-else-edge : goal.returns-else-edge
returns-else-edge c = λ p k is few shown request sent.
    cycle_ends k c.args.n c.args.edge.now few c.if-edge.false p c.args.self.now c.saturating_add-self.result is (sym c.is_same.ensures ∙ c.if-is_same.true) c.saturating_add-self.ensures
