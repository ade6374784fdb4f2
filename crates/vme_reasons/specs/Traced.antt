-- What holds of a backplane and of the marks of its edges.
use Rattle.std.specs.Prelude.{◌≡◌}
use Rattle.vme_model.specs.Verdict.{State}
use Rattle.vme_model.specs.Numbered.{Numbered, edges_in}
use Rattle.vme_reasons.specs.declared.marks.Marks.{Marks}
use Rattle.vme_reasons.specs.Marked.{IsMarksOf}

-- what holds of every numbering of the backplane's edges that the marks are of
abbrev pub OfTrace : State → Marks → (Numbered → Type 0) → Type 0
OfTrace b m P = (k : Numbered) → edges_in k ≡ b.history → IsMarksOf b.plan k m → P k
