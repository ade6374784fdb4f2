-- The edges that lead to a state, one by one.
use Rattle.std.proofs.Common.{◌≡◌, ◌++◌, ◌∷◌, [], List, true, is_ok, sym, ◌∙◌, ap, subst}
use Rattle.vme_model.specs.declared.signals.Edge.{Edge}
use Rattle.vme_model.specs.Report.{at_power_up, trace_limit}
use Rattle.vme_model.specs.Verdict.{State, after, kept, made, verdict}
use Rattle.vme_shrink_search.specs.Leading.{LeadsTo}
use Rattle.vme_shrink_search.proofs.Lists.{kept_append, kept_plan, kept_version, made_more}

start_made : (s : State) (e : Edge)
    → at_power_up s.version s.plan trace_limit
    ≡ at_power_up (after s e).version (after s e).plan trace_limit
start_made s e =
    (λ i. at_power_up (sym (kept_version s (e ∷ [])) i) (sym (kept_plan s (e ∷ [])) i) trace_limit)

-- with an edge that is made
pub leads_more : (s now : State) (edges new : List Edge) (e : Edge) → LeadsTo edges s
    → now ≡ after s e → new ≡ edges ++ e ∷ [] → is_ok (verdict s e) ≡ true → LeadsTo new now
leads_more s now edges new e was is more ok =
    subst (LeadsTo new) (sym is) (record {
      made = made_more s e edges new was.made more ok;
      leads = ap (λ (x : State). after x e) was.leads
          ∙ sym (kept_append (at_power_up s.version s.plan trace_limit) edges (e ∷ []))
          ∙ (λ i. kept (start_made s e i) (sym more i));
    })
