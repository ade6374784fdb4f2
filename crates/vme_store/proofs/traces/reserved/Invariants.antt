use Rattle.std.proofs.Common.{◌≡◌, ◌+◌, ◌-◌, ◌*◌, ◌≤◌, length, min, vec_capacity}
use Rattle.std.specs.Vec.Iter.{into_iter_items}
use Rattle.vme_store.specs.Pages.{pages_for, ArePages}
use Rattle.vme_store.proofs.traces.reserved.Given as goal

abbrev pub invariant-loop-lease : goal.invariant-loop-lease
invariant-loop-lease l =
    (goal.iterator-loop-lease).can_next l.lease-iterator × (goal.iterator-loop-lease).is_finite l.lease-iterator
    × (length l.pages.items + length (into_iter_items l.lease-iterator) ≡ pages_for l.fn.max)
    × (length l.pages.items ≤ pages_for l.fn.max) × (pages_for l.fn.max ≤ vec_capacity l.pages)
    × (l.left ≡ l.fn.max - length l.pages.items * 65536)
    × ArePages (min l.fn.max (length l.pages.items * 65536)) 0 l.pages.items
