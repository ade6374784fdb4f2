-- Two backplanes that give an edge the same answer.
use Rattle.std.specs.Prelude.{◌≡◌, ◌<◌, false, length}
use Rattle.vme_model.specs.declared.signals.Edge.{Edge}
use Rattle.vme_model.specs.Locality.{is_settled_by_others}
use Rattle.vme_model.specs.Views.{view}
use Rattle.vme_model.specs.Verdict.{State, verdict}

-- if version and plan are the same and both have room: the verdict is the same if the edge's driver
-- saw the same, unless a settling rule looks at other boards
abbrev pub AnswerAlike : State → State → Edge → Type 0
AnswerAlike a b e =
    a.version ≡ b.version → a.plan ≡ b.plan → length a.history < a.max → length b.history < b.max
    → is_settled_by_others a.version e.wire e.fall ≡ false
    → view a.plan a.history e.driver ≡ view b.plan b.history e.driver
    → verdict a e ≡ verdict b e
