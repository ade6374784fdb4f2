use Rattle.std.proofs.Common.{◌∙◌, ◌≤◌, ◌+◌, ◌++◌, [], sym, ap, subst, take, get_or, arith}
use Rattle.vme_drive.specs.declared.edges.TheConstants.{WORDS, SIZES}
use Rattle.vme_drive.proofs.EdgeWords.{row_is_last, size_fits}
use Rattle.vme_drive.proofs.edges.push_last_word.Goals as goal

pub append-requires-clause-many : goal.append-requires-clause-many
append-requires-clause-many c =
    let fits : c.from.result ≤ 8 = subst (λ n. n ≤ 8) (sym (c.from.ensures ∙ ap (λ k. get_or SIZES k 0) c.move_place-place.ensures.place)) (size_fits _ _ c.requires.word) in
    omega arith

pub returns : goal.returns
returns c =
    let text = c.args.text.now in
    c.append.ensures
    ∙ ap (λ n. text ++ take (n + 1) (get_or WORDS c.move_place-place.result [])) c.from.ensures
    ∙ ap (λ k. text ++ take (get_or SIZES k 0 + 1) (get_or WORDS k [])) c.move_place-place.ensures.place
    ∙ ap (λ l. text ++ l) (row_is_last c.args.wire c.args.fall c.requires.word)
