use Rattle.std.proofs.Common.{◌≡◌, ◌∙◌, ◌++◌, ◌∷◌, [], true, false, ap, sym}
use Rattle.vme_order_search.specs.declared.layers.Beginning.{Beginning}
use Rattle.vme_order_search.proofs.Outcomes.{first_layer}
use Rattle.vme_order_search.proofs.search.Search.new.Goals as goal

pub returns-clause-layer : goal.returns-clause-layer
returns-clause-layer c t leads =
    let b : Beginning = record { step = 0; taken = c.none.result; bus = c.to_kind.result } in
    record {
      bus = ([], leads);
      paths = λ i. [];
      layer = first_layer t c.in_ok-new.field-0 false c.push.new.self.kept.items b c.args.start
          (c.in_ok-push.ensures.kept ∙ ap (λ l. l ++ b ∷ []) c.in_ok-layer.ensures.empty) leads
          (sym c.to_kind.ensures) c.none.ensures.none c.in_ok-new.ensures.empty;
      cut = λ is. absurd (no_both is);
    }
  where
    no_both : false ≡ true → ⊥
    no_both h = cc
