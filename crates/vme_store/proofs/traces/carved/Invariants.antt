use Rattle.std.proofs.Common.{◌≡◌, ◌+◌, ◌*◌, ◌≤◌, min, vec_len, vec_capacity}
use Rattle.vme_arena.specs.Stretch.{rounded}
use Rattle.vme_arena.specs.Words.{rest_left}
use Rattle.vme_store.specs.Pages.{pages_for}
use Rattle.vme_store.proofs.traces.carved.Given as goal

abbrev pub invariant-loop-page : goal.invariant-loop-page
invariant-loop-page l =
    (vec_len l.leases ≡ l.page) × (pages_for l.max ≤ vec_capacity l.leases)
    × (rest_left l.rest + min (rounded (4 * l.max)) (262144 * l.page) ≡ rest_left l.initial.rest)
