use Rattle.std.proofs.Common.{◌≡◌, ◌||◌, ◌≤◌, ◌<◌, ◌+◌, length, refl, subst, sym, arith}
use Rattle.vme_shrink_search.specs.Searching.{start}
use Rattle.vme_shrink_search.proofs.Legal.{list_fits}
use Rattle.vme_shrink_search.proofs.Searches.{IsRunning, run_end, run_first, run_smaller, run_step}
use Rattle.vme_shrink_search.proofs.search.Search.run.Goals as goal

pub next_power_of_two-size-requires : goal.next_power_of_two-size-requires
next_power_of_two-size-requires g c =
    let s = c.args.self.now in
    let few : length s.list.items ≤ 1048576 =
    list_fits (start s) s.list.items refl c.requires.search.whole in
    omega (arith, few, c.len.ensures, s.list.ok.0)

pub sizes-init : goal.sizes-init
sizes-init g c =
    run_first c.args.self.now c.next_power_of_two-size.result c.requires.search
    c.next_power_of_two-size.ensures.power
    (let low = c.next_power_of_two-size.ensures.lower_bound in
    omega (arith, low, c.len.ensures, c.args.self.now.list.ok.0))

pub pass-requires-clause-search : goal.pass-requires-clause-search
pass-requires-clause-search g c = c.sizes.invariant.left.on.search

pub sizes-preserved : goal.sizes-preserved
sizes-preserved g c =
    let left = c.in_ok-has_left_now.has_left_now in
    subst (λ n. IsRunning c.args.self.now c.pass.new.self n (c.sizes.has_left || left))
    (sym c.next_size-size.ensures)
    (run_step c.args.self.now c.sizes.self c.pass.new.self c.sizes.size c.sizes.has_left left
    (omega arith) c.sizes.invariant c.in_ok-has_left_now.ensures.left
    c.in_ok-has_left_now.ensures.tight)

pub sizes-smaller : goal.sizes-smaller
sizes-smaller g c =
    subst (λ n. n + length c.pass.new.self.list.items
    < c.sizes.size + length c.sizes.self.list.items) (sym c.next_size-size.ensures)
    (run_smaller c.sizes.self c.pass.new.self c.sizes.size c.in_ok-has_left_now.has_left_now
    (omega arith) c.in_ok-has_left_now.ensures.left)

pub returns-clause-left : goal.returns-clause-left
returns-clause-left g c = c.sizes.invariant.left

pub returns-clause-tight : goal.returns-clause-tight
returns-clause-tight g c =
    let none : c.sizes.size ≡ 0 = omega arith in
    run_end c.args.self.now c.sizes.self c.sizes.has_left
    (subst (λ n. IsRunning c.args.self.now c.sizes.self n c.sizes.has_left) none
    c.sizes.invariant)
