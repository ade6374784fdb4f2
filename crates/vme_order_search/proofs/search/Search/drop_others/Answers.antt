use Rattle.std.proofs.Common.{◌≡◌, ◌∙◌, ◌++◌, ◌∷◌, [], ap, arith, length, refl}
use Rattle.std.proofs.lemmas.Result.{on_ok_weaker}
use Rattle.vme_order_search.specs.declared.layers.Beginning.{Beginning}
use Rattle.vme_order_search.proofs.Alone.{one_item, search_anew}
use Rattle.vme_order_search.proofs.search.Search.drop_others.Goals as goal

pub returns-clause-layer : goal.returns-clause-layer
returns-clause-layer c t n h =
    let s = c.args.self.now in
    let b = c.get-only.result in
    let d : Beginning = record b { step = c.in_ok-trail.step } in
    let count : length s.layer.kept.items ≡ 1 = omega (arith, c.len.ensures, c.if-len-ne1.false) in
    on_ok_weaker c.push.result
    (λ kept. search_anew t n s (record s { trail = c.in_ok-trail.trail; layer = c.push.new.self }) b d
    (one_item s.layer.kept.items b count c.get-only.ensures)
    (kept ∙ ap (λ l. l ++ d ∷ []) c.clear.ensures.empty) refl refl c.in_ok-trail.ensures.ends refl refl refl h)
    c.push.ensures.kept
