use Rattle.std.proofs.Common.{◌≡◌, [], ap, arith, length, rules, subst, sym, true}
use Rattle.std.proofs.lemmas.Bool.Decides.{nat_tests}
use Rattle.std.proofs.lemmas.Grind.{common_steps}
use Rattle.std.proofs.lemmas.List.{nil_from_length}
use Rattle.vme_same.specs.Kept.{Goes, IsOpen, IsSure, edges_of}
use Rattle.vme_same.proofs.Leading.{left_sure}
use Rattle.vme_same.proofs.progress.Pairing.close.Goals as goal

pub returns-in-Some-clause-going : goal.returns-in-Some-clause-going
returns-in-Some-clause-going c = λ t going.
    let now = c.args.self.now in
    let ready : IsOpen t (edges_of now.waiting.items) now.rest now.taken = subst (Goes t now) c.in-Open.is going in
    let over : now.is_over ≡ true = search rules in
    let none : length now.waiting.items ≡ 0 = grind (arith, nat_tests, common_steps) in
    let idle : now.waiting.items ≡ [] = nil_from_length now.waiting.items none in
    let some = c.in-Some.ensures.some in
    subst (IsSure t now.has_ended now.is_over) (sym c.leaves.ensures.found)
    (left_sure t (edges_of now.waiting.items) now.rest now.taken ready (ap edges_of idle)
    some.0 c.in-Some.left.now some.1 now.has_ended now.is_over over)
