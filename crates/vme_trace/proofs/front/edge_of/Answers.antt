use Rattle.std.proofs.Common.{rules, arith, ◌≡◌, ◌++◌, ◌∷◌, []}
use Rattle.vme_trace.proofs.OneSpelling.{long_line, no_front, whole_front, part_front}
use Rattle.vme_trace.proofs.front.edge_of.Goals as goal

pub returns-then-line-ge-LINE : goal.returns-then-line-ge-LINE
returns-then-line-ge-LINE c = long_line c.args.line.now (grind arith)

pub returns-in_default : goal.returns-in_default
returns-in_default c =
    let same : c.as_slice.result.now ≡ c.args.line.now ++ 10 ∷ [] = search rules in
    no_front c.args.line.now _ same c.in_default.ensures.missed

pub returns-then-is_empty : goal.returns-then-is_empty
returns-then-is_empty c =
    let same : c.as_slice.result.now ≡ c.args.line.now ++ 10 ∷ [] = search rules in
    whole_front c.args.line.now _ same _ _ c.in-Some.ensures.found (grind arith)

pub returns-else-is_empty : goal.returns-else-is_empty
returns-else-is_empty c =
    let same : c.as_slice.result.now ≡ c.args.line.now ++ 10 ∷ [] = search rules in
    part_front c.args.line.now _ same _ _ c.in-Some.ensures.found (grind arith)
