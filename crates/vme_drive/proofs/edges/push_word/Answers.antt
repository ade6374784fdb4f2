use Rattle.std.proofs.Common.{◌≡◌, ◌∙◌, ◌≤◌, ◌+◌, ◌++◌, [], sym, ap, subst, take, get_or, length, arith, ℕ, List}
use Rattle.std.proofs.lemmas.List.{length-append}
use Rattle.vme_model.specs.Text.{wire_text, sign}
use Rattle.vme_drive.specs.declared.edges.TheConstants.{WORDS, SIZES}
use Rattle.vme_drive.proofs.EdgeWords.{row_is_word, size_fits, word_fits}
use Rattle.vme_drive.proofs.edges.push_word.Goals as goal

pub append-requires-clause-many : goal.append-requires-clause-many
append-requires-clause-many c =
    let fits : c.from.result ≤ 8 = subst (λ n. n ≤ 8) (sym (c.from.ensures ∙ ap (λ k. get_or SIZES k 0) c.move_place-place.ensures.place)) (size_fits _ _ c.requires.word) in
    omega arith

text_is : goal.returns-clause-text
text_is c =
    let text = c.args.text.now in
    c.append.ensures
    ∙ ap (λ n. text ++ take n (get_or WORDS c.move_place-place.result [])) c.from.ensures
    ∙ ap (λ k. text ++ take (get_or SIZES k 0) (get_or WORDS k [])) c.move_place-place.ensures.place
    ∙ ap (λ l. text ++ l) (row_is_word c.args.wire c.args.fall c.requires.word)

pub returns-clause-text : goal.returns-clause-text
returns-clause-text c = text_is c

pub returns-clause-short : goal.returns-clause-short
returns-clause-short c =
    let text = c.args.text.now in
    let word = wire_text c.args.wire ++ sign c.args.fall in
    let fits = word_fits c.args.wire c.args.fall c.requires.word in
    let long : length c.append.new.self ≡ length text + length word = ap (λ (l : List ℕ). length l) (text_is c) ∙ length-append text word in
    omega arith
