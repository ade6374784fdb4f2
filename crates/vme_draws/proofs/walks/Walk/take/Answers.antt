use Rattle.std.proofs.Common.{◌≡◌, ◌∙◌, ap, sym, suc, ◌+◌, ◌-◌, arith}
use Rattle.vme_draws.specs.Walks.{walked}
use Rattle.vme_draws.proofs.Walked.{walk_ends, walk_goes_on}
use Rattle.vme_draws.proofs.walks.Walk.take.Goals as goal

pub returns-in-None : goal.returns-in-None
returns-in-None c =
    let more = c.args.edges - (c.loop-made._made + 1) in
    let one_less : c.args.edges - c.loop-made._made ≡ suc more = omega arith in
    walk_ends more c.loop-made.self c.draw.new.self c.draw.ensures.state (sym c.in-None.is ∙ c.draw.ensures.edge)
    ∙ ap (λ n. walked n c.loop-made.self) (sym one_less) ∙ sym c.loop-made.invariant

pub loop-made-preserved : goal.loop-made-preserved
loop-made-preserved c =
    let more = c.args.edges - (c.loop-made._made + 1) in
    let one_less : c.args.edges - c.loop-made._made ≡ suc more = omega arith in
    c.loop-made.invariant ∙ ap (λ n. walked n c.loop-made.self) one_less
    ∙ walk_goes_on more c.loop-made.self c.draw.new.self c.draw.ensures.state c.in-Some.edge c.make.new.self (sym c.in-Some.is ∙ c.draw.ensures.edge) c.make.ensures

pub returns : goal.returns
returns c =
    let none : c.args.edges - c.loop-made._made ≡ 0 = omega arith in
    sym (c.loop-made.invariant ∙ ap (λ n. walked n c.loop-made.self) none)
