use Rattle.std.proofs.Common.{◌∙◌, ◌+◌, ◌++◌, ◌∷◌, [], List, ℕ, map, refl, sym, ap, arith, append_assoc}
use Rattle.std.specs.List.{range_with_len}
use Rattle.std.proofs.lemmas.List.FromFn.{map-range_with_len_more}
use Rattle.vme_show.specs.Picture.{label}
use Rattle.vme_show.specs.Columns.{digit_of}
use Rattle.vme_show.proofs.lines.numbers_line.Goals as goal

pub loop-place-preserved : goal.loop-place-preserved
loop-place-preserved c =
    let digit = digit_of c.args.digit in
    let place = c.loop-place.place in
    let first = c.args.first in
    record {
      items =
          c.push.ensures.items
          ∙ ap (λ (l : List ℕ). l ++ c.of.result ∷ []) c.loop-place.invariant.items
          ∙ ap (λ (x : ℕ). (label [] ++ map digit (range_with_len first place)) ++ x ∷ []) c.of.ensures
          ∙ append_assoc (label []) (map digit (range_with_len first place)) (digit (first + place) ∷ [])
          ∙ ap (λ (l : List ℕ). label [] ++ l) (sym (map-range_with_len_more digit first place (first + place) refl));
      len = let was = c.loop-place.invariant.len in let now = c.push.ensures.len in omega (arith, was, now);
    }
