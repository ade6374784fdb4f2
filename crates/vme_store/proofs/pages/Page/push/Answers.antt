use Rattle.std.proofs.Common.{◌++◌, ℕ, [], ◌∷◌, List, map, ap, ◌∙◌, vec_capacity}
use Rattle.std.proofs.lemmas.List.{map-append}
use Rattle.vme_model.specs.declared.signals.Edge.{Edge}
use Rattle.vme_store.specs.Codes.{edge_of}
use Rattle.vme_store.specs.Pages.{Page}
use Rattle.vme_store.proofs.RoundTrip.{round_trip}
use Rattle.vme_store.proofs.FilledPages.{longer}
use Rattle.vme_store.proofs.pages.Page.push.Goals as goal

abbrev page_of : List Edge → ℕ → Page
page_of es n = record { edges = es; room = n }

pub returns : goal.returns
returns c =
    let xs = c.self.inside.codes.items in
    let edge = c.args.edge in
    let back = ap edge_of c.code_of.ensures ∙ round_trip edge c.requires.well_formed in
    let items = ap (map edge_of) c.push_reserved.ensures.items ∙ map-append edge_of xs (c.code_of.result ∷ []) ∙ ap (λ (e : Edge). map edge_of xs ++ e ∷ []) back in
    ap (λ (es : List Edge). page_of es (vec_capacity c.push_reserved.new.self)) items
    ∙ ap (λ (n : ℕ). page_of (map edge_of xs ++ edge ∷ []) n) c.push_reserved.ensures.capacity
    ∙ ap (λ (p : Page). longer p edge) c.self.view_is
