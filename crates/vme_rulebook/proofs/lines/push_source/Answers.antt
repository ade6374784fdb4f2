use Rattle.std.proofs.Common.{◌≡◌, ◌∙◌, ◌++◌, ◌∷◌, [], List, ℕ, ap, append_assoc}
use Rattle.vme_rulebook.specs.Pages.{column, source_text, version_text, why_text}
use Rattle.vme_rulebook.proofs.lines.push_source.Goals as goal

regroup : (a b c d e f : List ℕ) → ((((a ++ b) ++ c) ++ d) ++ e) ++ f ≡ a ++ ((((b ++ c) ++ d) ++ e) ++ f)
regroup a b c d e f = simp (append_assoc)

pub returns-clause-text : goal.returns-clause-text
returns-clause-text c =
    let before = c.args.text.now in
    let column_text = column c.args.rule c.args.condition.now in
    let source = source_text c.args.source in
    let version = version_text c.args.rule in
    let why = why_text c.args.source in
    c.push-3.ensures
    ∙ ap (λ (t : List ℕ). t ++ 10 ∷ []) c.push_why.ensures.text
    ∙ ap (λ (t : List ℕ). (t ++ why) ++ 10 ∷ []) (c.push-2.ensures ∙ ap (λ (v : List ℕ). c.push.new.self ++ v) (c.as_bytes-2.ensures.value ∙ c.version_text.ensures.text))
    ∙ ap (λ (t : List ℕ). ((t ++ version) ++ why) ++ 10 ∷ []) (c.push.ensures ∙ ap (λ (v : List ℕ). c.push_column.new.text ++ v) (c.as_bytes.ensures.value ∙ c.source_text.ensures.text))
    ∙ ap (λ (t : List ℕ). (((t ++ source) ++ version) ++ why) ++ 10 ∷ []) c.push_column.ensures.text
    ∙ regroup before column_text source version why (10 ∷ [])
