use Rattle.std.proofs.Common.{sym, ◌∙◌}
use Rattle.vme_wiring.proofs.Parts.{mapped}
use Rattle.vme_wiring.proofs.boards.note_requester.Goals as goal

pub returns-in-Some : goal.returns-in-Some
returns-in-Some c s row version h same = mapped _ _ row _ _ (sym c.in-Some.is ∙ same) (λ q e. c.note.ensures s q version h e)
