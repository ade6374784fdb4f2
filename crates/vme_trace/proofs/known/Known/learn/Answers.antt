use Rattle.std.proofs.Common.{◌≡◌, ◌+◌, ℕ, List, length, drop, ap, ◌∙◌, subst}
use Rattle.std.proofs.lemmas.List.{take_rest}
use Rattle.vme_trace.specs.Fronts.{IsFrontLine}
use Rattle.vme_trace.proofs.KnownLines.{kept_key, kept_line}
use Rattle.vme_trace.proofs.known.Known.learn.Goals as goal

pub invariant_of-self : goal.invariant_of-self
invariant_of-self c =
    let text = c.args.text.now in
    let here = take_rest text c.args.start in
    let P : List ℕ → Type 0 = λ l. IsFrontLine c.in_ok-edge.edge l c.in_ok-edge.rest.now in
    let front : IsFrontLine c.in_ok-edge.edge (drop c.args.start text) c.in_ok-edge.rest.now = subst P here c.in_ok-edge.ensures.found in
    let long : length c.in_ok-edge.rest.now + c.args.line + 1 ≡ length (drop c.args.start text) = c.if-rest-line.false ∙ ap length here in
    record { spells = λ some. kept_key text c.args.start c.args.line _ _ front long _ (λ k. (c.type_inv.text k).fits) c.requires.key }

pub returns : goal.returns
returns c =
    let text = c.args.text.now in
    let here = take_rest text c.args.start in
    let P : List ℕ → Type 0 = λ l. IsFrontLine c.in_ok-edge.edge l c.in_ok-edge.rest.now in
    let front : IsFrontLine c.in_ok-edge.edge (drop c.args.start text) c.in_ok-edge.rest.now = subst P here c.in_ok-edge.ensures.found in
    let long : length c.in_ok-edge.rest.now + c.args.line + 1 ≡ length (drop c.args.start text) = c.if-rest-line.false ∙ ap length here in
    kept_line text c.args.start c.args.line _ _ front long
