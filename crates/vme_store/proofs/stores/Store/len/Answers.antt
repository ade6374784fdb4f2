use Rattle.std.proofs.Common.{sym}
use Rattle.vme_store.proofs.FilledPages.{length_of}
use Rattle.vme_store.proofs.stores.Store.len.Goals as goal

pub returns : goal.returns
returns c =
    let i = c.self.inside in
    sym (length_of i.max i.len i.pages.items c.args.self.now c.self.invariant.0 c.self.invariant.1 c.self.view_is)
