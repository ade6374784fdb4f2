use Rattle.std.proofs.Common.{◌+◌, take, drop, ap, sym, ◌∙◌}
use Rattle.std.proofs.lemmas.List.{drop-drop, take_rest}
use Rattle.vme_trace.specs.Known.{number_of}
use Rattle.vme_trace.proofs.KeyNumbers.{are_bytes, AreBytes-drop, masked_at}
use Rattle.vme_trace.proofs.keys.key_at.Goals as goal

pub returns : goal.returns
returns c =
    let text = c.args.text.now in
    let at = c.args.at in
    let bytes = AreBytes-drop at text (are_bytes text (λ k. (c.type_inv.text k).fits)) in
    let low = c.word.ensures ∙ ap (λ l. number_of (take 8 l)) (take_rest text at) in
    let high = c.word-2.ensures ∙ ap (λ l. number_of (take 8 l)) (take_rest text (at + 8) ∙ sym (drop-drop 8 at text)) in
    masked_at (drop at text) _ _ c.args.line bytes low high c.requires.short
