-- What holds of all numbered edges that the marks are of, if these are the edges of a backplane.
use Rattle.std.specs.Prelude.{◌≡◌}
use Rattle.vme_model.specs.Verdict.{State}
use Rattle.vme_model.specs.Numbered.{Numbered, edges_in}
use Rattle.vme_explain.specs.declared.marks.Marks.{Marks}
use Rattle.vme_explain.specs.Marked.{IsMarksOf}

abbrev pub OfTrace : State → Marks → (Numbered → Type 0) → Type 0
OfTrace b m P = (k : Numbered) → edges_in k ≡ b.history → IsMarksOf b.plan k m → P k
