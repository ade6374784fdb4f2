use Rattle.std.proofs.Common.{◌≡◌, ◌+◌, ◌-◌, ◌%◌, ◌<◌, ℕ, length, drop, get_or, ap, ◌∙◌, arith, subst}
use Rattle.vme_trace.specs.Known.{key_number, IsKeyOf}
use Rattle.vme_trace.specs.Fronts.{IsFrontLine}
use Rattle.vme_trace.proofs.KnownLines.{some_key, known_line}
use Rattle.vme_trace.proofs.known.Known.edge_between.Goals as goal

pub returns-then-is_same : goal.returns-then-is_same
returns-then-is_same c =
    let text = c.args.text.now in
    let start = c.args.start in
    let line = (c.args.end + (18446744073709551616 - start)) % 18446744073709551616 in
    let end : start + line ≡ c.args.end = omega arith in
    let place = get_or c.args.self.now.places c.place.result c.index-self-place.result in
    let small = λ (k : ℕ). (c.type_inv.text k).fits in
    let within : start + line < length text = omega arith in
    let feed : get_or text (start + line) 0 ≡ 10 = ap (λ n. get_or text n 0) end ∙ c.requires.feed in
    let same : key_number place.key ≡ key_number c.key_at-key.result = ap key_number ((c.is_same.ensures).0 c.if-is_same.true) in
    let number = same ∙ c.key_at-key.ensures in
    let spells : IsKeyOf place.edge (key_number place.key) = place.spells (some_key text start line _ small number within feed) in
    let P : ℕ → Type 0 = λ n. IsFrontLine place.edge (drop start text) (drop (n + 1) text) in
    subst P end (known_line text start line _ small number within feed place.edge spells)
