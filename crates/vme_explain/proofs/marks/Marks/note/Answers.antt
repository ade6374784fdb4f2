use Rattle.vme_explain.proofs.marks.Marks.note.Goals as goal

pub returns : goal.returns
returns c = λ p k is showing. record {
  moves = c.note.ensures k is.moves;
  services = c.note-2.ensures p k is.services showing;
}
