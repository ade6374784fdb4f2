use Rattle.std.proofs.Common.{◌∙◌, ap, sym, ℕ, List, Bool}
use Rattle.std.specs.Prelude.{◌&&◌}
use Rattle.std.specs.Str.{bytes_eq}
use Rattle.vme_goals.specs.Goals.{goal_text}
use Rattle.vme_goals.proofs.goals.Goal.is_named.Goals as goal

pub returns-then-is_of : goal.returns-then-is_of
returns-then-is_of c =
    c.eq.ensures
    ∙ ap (λ (words : List ℕ). bytes_eq words c.as_slice.result.now) c.as_bytes.ensures.value
    ∙ ap (bytes_eq c.args.words.now) (c.as_slice.ensures.value ∙ c.text.ensures)
    ∙ ap (λ (b : Bool). b && bytes_eq c.args.words.now (goal_text c.args.self)) (sym c.if-is_of.true ∙ c.is_of.ensures)
