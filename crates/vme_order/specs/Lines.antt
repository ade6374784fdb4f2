-- The lines that are written of an order, one after another.
use Rattle.std.specs.Prelude.{◌+◌, ◌++◌, ◌∷◌, [], ℕ, List}
use Rattle.vme_model.specs.declared.signals.Edge.{Edge}
use Rattle.vme_model.specs.declared.signals.Version.{Version}
use Rattle.vme_model.specs.Deliveries.{answer}
use Rattle.vme_model.specs.Text.{header}
use Rattle.vme_model.specs.Verdict.{State, after}
use Rattle.vme_trace.specs.Writing.{edge_line}
use Rattle.vme_moments.specs.declared.Seen.{Seen}
use Rattle.vme_order.specs.declared.Form.{Form}
use Rattle.vme_order.specs.declared.Form.TheVariants.{Trace, Places}
use Rattle.vme_order.specs.Ordering.{place_line}

-- what stands before the lines of the edges
abbrev pub head_text : Form → Version → List ℕ
head_text Trace version = header version ++ 10 ∷ []
head_text Places version = []

-- the line of the n-th edge
abbrev pub seen_line : Form → State → ℕ → Seen → List ℕ
seen_line Trace b n s = edge_line s.edge
seen_line Places b n s = place_line n s (answer b s.edge)

-- the bus after an edge, if edges are judged for what is written
abbrev pub judged : Form → State → Edge → State
judged Trace b e = b
judged Places b e = after b e

-- the bus after edges, if they are judged
abbrev pub all_judged : Form → State → List Seen → State
all_judged form b [] = b
all_judged form b (s ∷ ss) = all_judged form (judged form b s.edge) ss

-- the lines of edges, from the n-th on
abbrev pub seen_lines : Form → State → ℕ → List Seen → List ℕ
seen_lines form b n [] = []
seen_lines form b n (s ∷ ss) =
    seen_line form b n s ++ seen_lines form (judged form b s.edge) (n + 1) ss
