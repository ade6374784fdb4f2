use Rattle.std.proofs.Common.{◌≡◌, ◌*◌, ◌+◌, ◌<◌, [], ◌∷◌, ◌++◌, min, length, arith, ap, ◌∙◌}
use Rattle.std.proofs.lemmas.Grind.{common_steps}
use Rattle.std.proofs.lemmas.List.{length-append}
use Rattle.std.specs.Vec.Iter.{into_iter_items}
use Rattle.vme_store.specs.Pages.{Page}
use Rattle.vme_store.proofs.FilledPages.{another_page}
use Rattle.vme_store.proofs.traces.reserved.Goals as goal

pub loop-lease-preserved : goal.loop-lease-preserved
loop-lease-preserved c =
    let ps = c.loop-lease.pages.items in
    let new = c.push_reserved.new.self.items in
    let r = c.min-room.result in
    let page : c.in_ok-new.field-0 ≡ record { edges = []; room = r } = c.in_ok-new.ensures in
    let items : new ≡ ps ++ record { edges = []; room = r } ∷ [] = c.push_reserved.ensures.items ∙ ap (λ (p : Page). ps ++ p ∷ []) page in
    let taken : length (into_iter_items c.next.new.self) + 1 ≡ length (into_iter_items c.loop-lease.lease-iterator) = grind (arith, common_steps) in
    let i = c.loop-lease.invariant in
    let grown : length new ≡ length ps + 1 = ap length items ∙ length-append ps (record { edges = []; room = r } ∷ []) in
    let started : length ps * 65536 < c.args.max = omega (arith, i.2) in
    let least : r ≡ min c.loop-lease.left 65536 = c.min-room.ensures in
    let before : min c.args.max (length ps * 65536) ≡ length ps * 65536 = omega arith in
    let after : length ps * 65536 + r ≡ min c.args.max (length new * 65536) = omega (arith, i.5) in
    let pages = another_page r ps (rw before at i.6) (omega arith) in (
      tt,
      tt,
      omega (arith, i.2),
      omega (arith, i.2),
      omega (arith, i.4, c.push_reserved.ensures.capacity),
      omega (arith, i.5),
      rw (← items, after) at pages,
    )
