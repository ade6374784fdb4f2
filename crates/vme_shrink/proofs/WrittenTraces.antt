-- The text of a story and its edge.
use Rattle.std.proofs.Common.{◌≡◌, ◌++◌, ◌∷◌, [], List, sym, ◌∙◌, ap}
use Rattle.vme_model.specs.declared.signals.Edge.{Edge}
use Rattle.vme_model.specs.Text.{edge_lines}
use Rattle.vme_trace.specs.Writing.{edge_line}
use Rattle.vme_reading.proofs.WrittenLines.{line_alone, lines_behind}

pub one_more : (es : List Edge) (e : Edge)
    → edge_lines (es ++ e ∷ []) ≡ edge_lines es ++ edge_line e
one_more es e =
    lines_behind es (e ∷ []) ∙ ap (λ l. edge_lines es ++ l) (sym (line_alone e))
