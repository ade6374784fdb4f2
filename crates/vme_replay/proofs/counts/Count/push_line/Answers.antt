use Rattle.std.proofs.Common.{◌≡◌, ◌∙◌, ◌+◌, ◌-◌, ◌^◌, ◌<◌, ◌≤◌, ◌++◌, ◌∷◌, ap, length, arith, length-append, take, drop}
use Rattle.std.proofs.lemmas.List.{length-take}
use Rattle.vme_replay.specs.Counting.{tens_text}
use Rattle.vme_replay.proofs.NextNumber.{few_tens, spelled_with}
use Rattle.vme_replay.proofs.counts.Count.push_line.Goals as goal

pub returns-clause-text : goal.returns-clause-text
returns-clause-text c =
    let whole : c.self.inside.first + 24 - c.self.inside.first ≡ 24 = omega arith in
    spelled_with _ _ _ _ c.self.invariant _ c.requires.least c.requires.most _ (omega arith) c.requires.small c.args.text.now c.append_line.new.self (take c.args.size c.args.tail)
    (c.append_line.ensures ∙ ap (λ k. c.args.text.now ++ (take (20 - c.self.inside.first) (take k (drop c.self.inside.first c.self.inside.line))
    ++ (c.args.digit ∷ take c.args.size c.args.tail))) whole)

pub returns-clause-short : goal.returns-clause-short
returns-clause-short c =
    let tens = c.self.inside.tens in
    let small : tens < 10 ^ 19 = omega (arith, c.self.invariant.small) in
    let few : length (tens_text tens) ≤ 19 = few_tens tens small in
    rw c.append_line.ensures (simp (length-append, length-take) (omega (arith, few, c.self.invariant.ends)))
