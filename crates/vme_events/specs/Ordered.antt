-- What holds of all numbered edges that the marks are of, if these are the edges of a backplane
-- and their numbers grow.
use Rattle.std.specs.Prelude.{◌≡◌, ℕ}
use Rattle.vme_model.specs.Verdict.{State}
use Rattle.vme_model.specs.Numbered.{Numbered, edges_in}
use Rattle.vme_explain.specs.declared.marks.Marks.{Marks}
use Rattle.vme_explain.specs.Marked.{IsMarksOf}
use Rattle.vme_events.specs.Places.{AreBelow}

abbrev pub OfOrdered : State → Marks → (Numbered → Type 0) → Type 0
OfOrdered b m P =
    (k : Numbered) (n : ℕ) → edges_in k ≡ b.history → IsMarksOf b.plan k m → AreBelow n k → P k
