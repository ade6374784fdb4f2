use Rattle.std.proofs.Common.{sym, ◌∙◌}
use Rattle.vme_wiring.proofs.Parts.{mapped}
use Rattle.vme_wiring.proofs.boards.note_master.Goals as goal

pub returns-in-Some : goal.returns-in-Some
returns-in-Some c s row handler h same = mapped _ _ row _ _ (sym c.in-Some.is ∙ same) (λ q e. c.note.ensures s q handler h e)
