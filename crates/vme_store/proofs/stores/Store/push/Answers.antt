use Rattle.std.proofs.Common.{◌/◌, ◌<◌, ℕ, [], ◌∷◌, List, length, reverse, arith, ap, ◌∙◌}
use Rattle.std.proofs.lemmas.List.{reverse-append}
use Rattle.vme_model.specs.declared.signals.Edge.{Edge}
use Rattle.vme_store.specs.Pages.{Store, stored}
use Rattle.vme_store.proofs.FilledPages.{length_of, has_page, has_room, pages_after, stored_after}
use Rattle.vme_store.proofs.stores.Store.push.Goals as goal

abbrev store_of : List Edge → ℕ → Store
store_of h max = record { history = h; max = max }

pub index_mut-requires : goal.index_mut-requires
index_mut-requires c =
    let i = c.self.inside in
    let n = length_of i.max i.len i.pages.items c.args.self.now c.self.invariant.0 c.self.invariant.1 c.self.view_is in
    let m = ap (λ (s : Store). s.max) c.self.view_is in
    let l : i.len / 65536 < length i.pages.items = has_page i.max i.len (i.len / 65536) i.pages.items c.self.invariant.0 (omega arith) in
    omega arith

pub push-requires-clause-room : goal.push-requires-clause-room
push-requires-clause-room c =
    let i = c.self.inside in
    let n = length_of i.max i.len i.pages.items c.args.self.now c.self.invariant.0 c.self.invariant.1 c.self.view_is in
    let m = ap (λ (s : Store). s.max) c.self.view_is in
    has_room i.max i.len i.pages.items c.index_mut.result.now c.self.invariant.0 (omega arith) c.index_mut.ensures.value

pub invariant_of-self : goal.invariant_of-self
invariant_of-self c =
    let i = c.self.inside in
    let n = length_of i.max i.len i.pages.items c.args.self.now c.self.invariant.0 c.self.invariant.1 c.self.view_is in
    let m = ap (λ (s : Store). s.max) c.self.view_is in
    let l : i.len < i.max = omega arith in (
      pages_after i.max i.len i.pages.items c.index_mut.result.now c.push.new.self c.args.edge c.self.invariant.0 l c.index_mut.ensures.value c.push.ensures,
      omega arith,
      c.self.invariant.2,
    )

pub returns : goal.returns
returns c =
    let i = c.self.inside in
    let n = length_of i.max i.len i.pages.items c.args.self.now c.self.invariant.0 c.self.invariant.1 c.self.view_is in
    let m = ap (λ (s : Store). s.max) c.self.view_is in
    let edge = c.args.edge in
    let more = stored_after i.max i.len i.pages.items c.index_mut.result.now c.push.new.self edge c.self.invariant.0 (omega arith) c.index_mut.ensures.value c.push.ensures in
    ap (λ (es : List Edge). store_of (reverse es) i.max) more
    ∙ ap (λ (es : List Edge). store_of es i.max) (reverse-append (stored i.pages.items) (edge ∷ []))
    ∙ ap (λ (s : Store). store_of (edge ∷ s.history) s.max) c.self.view_is
