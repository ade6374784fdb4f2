use Rattle.std.proofs.Common.{◌++◌, arith, sym, ap, ◌∙◌, length, take, append_assoc, length-append}
use Rattle.vme_lock.specs.Logs.{edges_in}
use Rattle.vme_lock.proofs.LogPages.{joined-next, joined-front}
use Rattle.vme_lock.proofs.logs.Pages.copy_to.Goals as goal

pub copy_page-requires : goal.copy_page-requires
copy_page-requires c =
    let old = c.args.log.now.items in
    let pages = c.deref-page-items.result.now in
    let i = c.loop-page.page-index in
    let so_far = ap length c.loop-page.invariant.0 ∙ length-append old (edges_in (take i pages)) in
    let all = ap (λ ps. length (edges_in ps)) c.deref-page-items.ensures.value ∙ ap (λ f. length f.edges) c.self.view_is in
    omega (arith, c.requires, so_far, all, c.loop-page.invariant.1, joined-front pages i c.page-item.result c.loop-page-test.true c.page-item.is)

pub loop-page-preserved : goal.loop-page-preserved
loop-page-preserved c =
    let old = c.args.log.now.items in
    let pages = c.deref-page-items.result.now in
    let i = c.loop-page.page-index in
    let page = c.page-item.result in
    let joined = append_assoc old (edges_in (take i pages)) page ∙ ap (λ l. old ++ l) (sym (joined-next pages i page c.loop-page-test.true c.page-item.is)) in
    (c.copy_page.ensures.items ∙ (ap (λ l. l ++ page) c.loop-page.invariant.0 ∙ joined), c.copy_page.ensures.capacity ∙ c.loop-page.invariant.1)
