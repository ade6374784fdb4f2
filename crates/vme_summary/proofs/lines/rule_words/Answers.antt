use Rattle.std.proofs.Common.{rules, ◌≡◌, ◌≢◌, ◌∙◌, sym, ap, ◌+◌, ◌++◌, true, false, append_assoc, append-nil, codes, get_or, arith}
use Rattle.std.specs.Prelude.{◌==◌, decimal, filter}
use Rattle.std.specs.List.{flat_map}
use Rattle.std.proofs.lemmas.Bool.{ne_eqb}
use Rattle.vme_model.specs.Plan.{up_to}
use Rattle.vme_summary.proofs.Words.{word_more, up_to_more}
use Rattle.vme_summary.proofs.lines.rule_words.Goals.{then-passed-from-eq0, else-passed-from-eq0}
use Rattle.vme_summary.proofs.lines.rule_words.Goals as goal

pub loop-below-preserved : goal.loop-below-preserved
loop-below-preserved c =
    let n = c.loop-below.below in
    let old = c.loop-below.words.items in
    let passed = c.args.passed.now in
    record {
      words = elim c.if-passed-from-eq0.branch [
        | then-passed-from-eq0 w ↦
            let is : get_or passed (n + 1) 0 ≡ 0 = search rules in
            let none : (get_or passed (n + 1) 0 == 0) ≡ true = ap (λ m. m == 0) is in
            let known = ap (λ l. l.items) w.words-is ∙ w.push_byte.ensures.items ∙ ap (λ l. l ++ decimal (n + 1)) w.push.ensures.items ∙ append_assoc old (codes " G") (decimal (n + 1)) in
            word_more (λ k. codes " G" ++ decimal k) (λ k. get_or passed k 0 == 0) (up_to n) (n + 1) old c.if-passed-from-eq0.words.items true none c.loop-below.invariant.words known
            ∙ ap (λ l. flat_map (λ k. codes " G" ++ decimal k) (filter (λ k. get_or passed k 0 == 0) l)) (up_to_more n)
        | else-passed-from-eq0 w ↦
            let other : get_or passed (n + 1) 0 ≢ 0 = search rules in
            let some : (get_or passed (n + 1) 0 == 0) ≡ false = ne_eqb (get_or passed (n + 1) 0) 0 other in
            let known = ap (λ l. l.items) w.words-is ∙ sym (append-nil old) in
            word_more (λ k. codes " G" ++ decimal k) (λ k. get_or passed k 0 == 0) (up_to n) (n + 1) old c.if-passed-from-eq0.words.items false some c.loop-below.invariant.words known
            ∙ ap (λ l. flat_map (λ k. codes " G" ++ decimal k) (filter (λ k. get_or passed k 0 == 0) l)) (up_to_more n)
      ];
      room =
          let before = c.loop-below.invariant.room in
          elim c.if-passed-from-eq0.branch [
            | then-passed-from-eq0 w ↦ let first = w.push.ensures.len in let second = w.push_byte.ensures.len in rw w.words-is (omega (arith, before, first, second))
            | else-passed-from-eq0 w ↦ rw w.words-is (omega (arith, before))
          ];
    }
