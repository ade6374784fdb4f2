use Rattle.std.proofs.Common.{rules, refl, ◌≡◌, ◌<◌, ◌+◌, ◌-◌, ◌^◌, min, ◌++◌, ◌∷◌, [], length, ◌∙◌, ap, arith}
use Rattle.std.proofs.lemmas.Result.{err_from_is_err_and}
use Rattle.vme_trace.proofs.KnownLines.{more_lines}
use Rattle.vme_trace.proofs.LinesInPlace.{lines_read, lines_lost}
use Rattle.vme_trace.proofs.reader.take_edges.Goals as goal

pub returns-in_err-rest-clause-fault : goal.returns-in_err-rest-clause-fault
returns-in_err-rest-clause-fault g c =
    let p = err_from_is_err_and c.from_residual.result c.from_residual.ensures.1 in
    let lost = c.in_err-rest.ensures.lost in
    rw (p.1, p.2) (λ version. lines_lost version _ _ lost.0 _ _ lost.1 _ c.in_err-rest.ensures.fault)

pub returns-then-is_err-clause-fault : goal.returns-then-is_err-clause-fault
returns-then-is_err-clause-fault g c =
    let same : c.push.new.self.items ≡ c.lines.edges.items = search rules in
    λ version. rw same (lines_lost version _ _ _ _ _ c.lines.invariant _ refl)

pub lines-preserved : goal.lines-preserved
lines-preserved g c =
    let same : c.push.new.self.items ≡ c.lines.edges.items ++ c.in-Some.edge ∷ [] = search rules in
    more_lines _ _ _ c.in-Some.edge _ _ _ c.lines.invariant c.in-Some.ensures.found same

pub returns-clause-ok : goal.returns-clause-ok
returns-clause-ok g c =
    let small : c.args.n.now < 2 ^ 64 = grind arith in
    let more : c.len.result ≡ length c.lines.edges.items = search rules in
    let less : c.len-before.result ≡ length c.args.edges.now.items = search rules in
    let count : c.len.result - c.len-before.result ≡ length c.lines.edges.items - length c.args.edges.now.items = omega (arith, more, less) in
    let number = c.saturating_add.ensures ∙ ap (λ k. min (c.args.n.now + k) (2 ^ 64 - 1)) count in
    λ version. lines_read version _ _ _ _ _ c.lines.invariant _ small number
