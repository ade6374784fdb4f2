use Rattle.std.proofs.Common.{◌≡◌, ◌+◌, ◌<◌, arith, subst, sym}
use Rattle.vme_swaps.specs.Stops.{most_passed}
use Rattle.vme_same.specs.Kept.{edges_of, numbers}
use Rattle.vme_same.proofs.Leading.{far_sure}
use Rattle.vme_same.proofs.Lists.{numbers_count}
use Rattle.vme_same.proofs.progress.Pairing.look_for.Goals as goal

pub returns-in-None-clause-going : goal.returns-in-None-clause-going
returns-in-None-clause-going c = λ p v w k fs ready ample.
    let now = c.args.self.now in
    let all = ready.all in
    let few = ready.few in
    let is : c.saturating_add-number.result ≡ now.taken + 1 = omega (arith, all, few, c.saturating_add-number.ensures) in
    c.miss.ensures.going p v w k fs ready.taken (numbers now.rest.edges.items) now.taken
    (edges_of now.waiting.items) is c.in-None.ensures c.first_of.ensures.first ready.leads
    (λ goes. subst (λ m. most_passed < m) (sym (numbers_count now.rest.edges.items)) (ample goes))

pub returns-then-place-gt-MOST_PASSED-clause-going : goal.returns-then-place-gt-MOST_PASSED-clause-going
returns-then-place-gt-MOST_PASSED-clause-going c = λ p v w k fs ready ample.
    let now = c.args.self.now in
    let all = ready.all in
    let few = ready.few in
    let is : c.saturating_add-number.result ≡ now.taken + 1 = omega (arith, all, few, c.saturating_add-number.ensures) in
    far_sure p v w k fs c.args.edge.now (edges_of now.waiting.items) now.rest now.taken
    c.saturating_add-number.result ready is now.has_ended now.is_over c.in-Some.place c.in-Some.ensures
    (omega arith) c.first_of-then-place-gt-MOST_PASSED.result
    c.first_of-then-place-gt-MOST_PASSED.ensures.first

pub returns-else-place-gt-MOST_PASSED-clause-going : goal.returns-else-place-gt-MOST_PASSED-clause-going
returns-else-place-gt-MOST_PASSED-clause-going c = λ p v w k fs ready ample.
    let now = c.args.self.now in
    let all = ready.all in
    let few = ready.few in
    let is : c.saturating_add-number.result ≡ now.taken + 1 = omega (arith, all, few, c.saturating_add-number.ensures) in
    c.bring.ensures.going p v w k fs c.in-Some.ensures ready is (omega arith)
