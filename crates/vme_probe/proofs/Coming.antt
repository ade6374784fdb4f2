-- The lines of the changes that may come, one after another.
use Rattle.std.proofs.Common.{◌≡◌, ◌∙◌, ◌++◌, ◌∷◌, [], ℕ, List, refl, sym, ap, subst, append_assoc, append-nil}
use Rattle.vme_model.specs.Plan.{Plan}
use Rattle.vme_captures.specs.declared.signals.Change.{Change}
use Rattle.vme_standings.specs.declared.standings.Drivers.{Drivers}
use Rattle.vme_standings.specs.declared.standings.Probed.{Probed}
use Rattle.vme_standings.specs.declared.standings.Standings.{Standings}
use Rattle.vme_standings.specs.Driving.{AreDrivers}
use Rattle.vme_probe.specs.Lines.{may_come_line}
use Rattle.vme_probe.specs.Ends.{AddsComing, Coming}

module _ (p : Plan) (probed : Probed) (st : Standings) where
  coming_append : (cs ds : List Change) (t u : List ℕ) → Coming p probed st cs t → Coming p probed st ds u → Coming p probed st (cs ++ ds) (t ++ u)
  coming_append [] ds t u h k = subst (λ (l : List ℕ). Coming p probed st ds l) (ap (λ (l : List ℕ). l ++ u) (sym h)) k
  coming_append (c ∷ cs) ds t u h k = (
    h.0,
    h.1 ++ u,
    h.2,
    coming_append cs ds h.1 u h.3 k,
    ap (λ (l : List ℕ). l ++ u) h.4 ∙ append_assoc (may_come_line c h.0) h.1 u,
  )

  pub adds_both : (cs ds : List Change) (a b c : List ℕ) → AddsComing p probed st cs a b → AddsComing p probed st ds b c → AddsComing p probed st (cs ++ ds) a c
  adds_both cs ds a b c h k = record {
    text = h.text ++ k.text;
    added = k.added ∙ ap (λ (l : List ℕ). l ++ k.text) h.added ∙ append_assoc a h.text k.text;
    coming = coming_append cs ds h.text k.text h.coming k.coming;
  }

  pub adds_one : (c : Change) (d : Drivers) (a b : List ℕ) → AreDrivers p probed st c d → b ≡ a ++ may_come_line c d → AddsComing p probed st (c ∷ []) a b
  adds_one c d a b are is = record {
    text = may_come_line c d ++ [];
    added = is ∙ ap (λ (l : List ℕ). a ++ l) (sym (append-nil (may_come_line c d)));
    coming = (d, [], are, refl, refl);
  }

  pub adds_none : (a b : List ℕ) → b ≡ a → AddsComing p probed st [] a b
  adds_none a b is = record {
    text = [];
    added = is ∙ sym (append-nil a);
    coming = refl;
  }

  pub adds_as : (cs ds : List Change) (a b : List ℕ) → cs ≡ ds → AddsComing p probed st cs a b → AddsComing p probed st ds a b
  adds_as cs ds a b is h = subst (λ (l : List Change). AddsComing p probed st l a b) is h
