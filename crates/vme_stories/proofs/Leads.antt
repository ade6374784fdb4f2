-- The edges that lead to a state, one by one.
use Rattle.std.proofs.Common.{◌≡◌, ◌++◌, ◌∷◌, [], List, Bool, true, false, is_ok, if◌then◌else◌, sym, ◌∙◌, ap, subst}
use Rattle.vme_model.specs.declared.signals.Edge.{Edge}
use Rattle.vme_model.specs.declared.signals.Version.{Version}
use Rattle.vme_model.specs.History.{in_order}
use Rattle.vme_model.specs.Plan.{Plan}
use Rattle.vme_model.specs.Report.{at_power_up, trace_limit}
use Rattle.vme_model.specs.Verdict.{State, after, kept, made, verdict}
use Rattle.vme_stories.specs.Leading.{LeadsTo}
use Rattle.vme_stories.proofs.Lists.{kept_append, kept_plan, kept_version, made_more}

pub leads_none : (s : State) (v : Version) (p : Plan) (edges : List Edge)
    → s ≡ at_power_up v p trace_limit → edges ≡ [] → LeadsTo edges s
leads_none s v p edges is none = record {
  made = none ∙ ap (λ (x : State). in_order x.history) (sym is);
  leads = is ∙ sym (ap (λ (x : State). at_power_up x.version x.plan trace_limit) is)
      ∙ ap (kept (at_power_up s.version s.plan trace_limit)) (sym none);
}

start_made : (s : State) (e : Edge)
    → at_power_up s.version s.plan trace_limit
    ≡ at_power_up (after s e).version (after s e).plan trace_limit
start_made s e =
    (λ i. at_power_up (sym (kept_version s (e ∷ [])) i) (sym (kept_plan s (e ∷ [])) i) trace_limit)

-- with an edge that is made
pub leads_more : (s now : State) (edges new : List Edge) (e : Edge) → LeadsTo edges s
    → now ≡ after s e → new ≡ edges ++ e ∷ [] → is_ok (verdict s e) ≡ true → LeadsTo new now
leads_more s now edges new e was is more ok =
    subst (LeadsTo new) (sym is) (record {
      made = made_more s e edges new was.made more ok;
      leads = ap (λ (x : State). after x e) was.leads
          ∙ sym (kept_append (at_power_up s.version s.plan trace_limit) edges (e ∷ []))
          ∙ (λ i. kept (start_made s e i) (sym more i));
    })

-- an edge that is refused changes nothing
pub leads_same : (s now : State) (edges new : List Edge) (e : Edge) → LeadsTo edges s
    → now ≡ after s e → new ≡ edges → is_ok (verdict s e) ≡ false → LeadsTo new now
leads_same s now edges new e was is same refused =
    subst (λ l. LeadsTo l now) (sym same)
    (subst (LeadsTo edges)
    (sym (is ∙ ap (λ (t : Bool). if t then made s e else s) refused)) was)
