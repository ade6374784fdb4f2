use Rattle.std.proofs.Common.{◌-◌, ◌^◌, ◌<◌, ◌≤◌, ◌∙◌, ◌++◌, drop, ap, length, arith, length-append}
use Rattle.std.proofs.lemmas.List.{take-take, length-take}
use Rattle.vme_engines.specs.Counting.{tens_text}
use Rattle.vme_engines.proofs.NextNumber.{few_tens, spelled_in_two}
use Rattle.vme_engines.proofs.counts.Count.push_tens.Goals as goal

pub returns-clause-text : goal.returns-clause-text
returns-clause-text c =
    spelled_in_two c.self.inside.tens c.self.inside.last c.self.inside.first c.self.inside.line c.self.invariant c.args.self.now (omega arith)
    c.args.text.now c.append.new.self
    (c.append.ensures ∙ ap (λ l. c.args.text.now ++ l) (take-take (20 - c.self.inside.first) (44 - c.self.inside.first) (drop c.self.inside.first c.self.inside.line) (omega arith)))

pub returns-clause-short : goal.returns-clause-short
returns-clause-short c =
    let tens = c.self.inside.tens in
    let small : tens < 10 ^ 19 = omega (arith, c.self.invariant.small) in
    let few : length (tens_text tens) ≤ 19 = few_tens tens small in
    rw c.append.ensures (simp (length-append, length-take) (omega (arith, few, c.self.invariant.ends)))
