use Rattle.std.proofs.Common.{◌≡◌, ◌/◌, ◌%◌, ◌<◌, List, length, reverse, get_or, arith, ap, sym, ◌∙◌}
use Rattle.std.specs.Prelude.{Some, slice_get}
use Rattle.std.proofs.lemmas.List.{reverse-reverse}
use Rattle.std.proofs.lemmas.Option.{slice_get-get_or, get_or_from_slice_get}
use Rattle.vme_model.specs.declared.signals.Edge.{Edge}
use Rattle.vme_store.specs.Pages.{Store, stored}
use Rattle.vme_store.proofs.FilledPages.{length_of, stored_length, has_page, is_there, stored_at}
use Rattle.vme_store.proofs.stores.Store.edge_at.Goals as goal

pub index-page-requires : goal.index-page-requires
index-page-requires c =
    let i = c.self.inside in
    let n = length_of i.max i.len i.pages.items c.args.self.now c.self.invariant.0 c.self.invariant.1 c.self.view_is in
    let l : c.args.place / 65536 < length i.pages.items = has_page i.max i.len (c.args.place / 65536) i.pages.items c.self.invariant.0 (omega (arith, c.self.invariant.1)) in
    omega arith

pub edge_at-requires : goal.edge_at-requires
edge_at-requires c =
    let i = c.self.inside in
    let n = length_of i.max i.len i.pages.items c.args.self.now c.self.invariant.0 c.self.invariant.1 c.self.view_is in
    is_there i.max i.len c.args.place i.pages.items c.index-page.result.now c.self.invariant.0 c.self.invariant.1 (omega arith) c.index-page.ensures

pub returns : goal.returns
returns c =
    let i = c.self.inside in
    let place = c.args.place in
    let n = length_of i.max i.len i.pages.items c.args.self.now c.self.invariant.0 c.self.invariant.1 c.self.view_is in
    let l : place < i.len = omega arith in
    let page = c.index-page.result.now in
    let x = c.edge_at.result in
    let s = stored_length i.max i.len i.pages.items c.self.invariant.0 c.self.invariant.1 in
    let found = get_or_from_slice_get page.edges (place % 65536) x x c.edge_at.ensures in
    let e : get_or (stored i.pages.items) place x ≡ x = stored_at i.max i.len place i.pages.items page x c.self.invariant.0 c.self.invariant.1 l c.index-page.ensures ∙ found in
    ap (λ (t : Store). slice_get (reverse t.history) place) (sym c.self.view_is)
    ∙ ap (λ (es : List Edge). slice_get es place) (reverse-reverse (stored i.pages.items))
    ∙ slice_get-get_or (stored i.pages.items) place x (omega arith)
    ∙ ap (λ (y : Edge). Some y) e
