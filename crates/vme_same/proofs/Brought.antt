-- An edge that comes to the front of what is left: the histories are one but for free swaps.
use Rattle.std.proofs.Common.{◌≡◌, inl, inr, ◌++◌, ◌∷◌, [], ℕ, List, None, map, refl, sym, ◌∙◌, ap, append_assoc, subst}
use Rattle.vme_model.specs.declared.signals.Edge.{Edge}
use Rattle.vme_model.specs.declared.signals.Version.{Version}
use Rattle.vme_model.specs.Plan.{Plan}
use Rattle.vme_model.specs.Numbered.{Numbered, edges_in}
use Rattle.vme_model.specs.Verdict.{IsLegal}
use Rattle.vme_swaps.specs.Swaps.{AreOneButForSwaps, IsSwap, LeadThrough}
use Rattle.vme_same.specs.Comparing.{GoesBack, IsPlace}

pub edges_append : (k l : Numbered) → edges_in (k ++ l) ≡ edges_in k ++ edges_in l
edges_append [] l = refl
edges_append (m ∷ k) l = ap (λ h. m.1 ∷ h) (edges_append k l)

module _ (v : Version) (p : Plan) where
  -- ---- free swaps, one after another

  pub swaps_none : (g : List Edge) → AreOneButForSwaps v p g g
  swaps_none g = record { through = []; swaps = refl }

  lead_on : (through others : List (List Edge)) (g h k : List Edge) → LeadThrough v p g through h
      → LeadThrough v p h others k → LeadThrough v p g (through ++ others) k
  lead_on [] others g h k same lead = subst (λ x. LeadThrough v p x others k) (sym same) lead
  lead_on (m ∷ through) others g h k first lead =
      (first.0, lead_on through others m h k first.1 lead)

  pub swaps_on : (g h k : List Edge) → AreOneButForSwaps v p g h → AreOneButForSwaps v p h k
      → AreOneButForSwaps v p g k
  swaps_on g h k one other = record {
    through = one.through ++ other.through;
    swaps = lead_on one.through other.through g h k one.swaps other.swaps;
  }

  swap_under : (e : Edge) (g h : List Edge) → IsSwap v p g h → IsSwap v p (e ∷ g) (e ∷ h)
  swap_under e g h swap = record {
    later = e ∷ swap.later;
    before = swap.before;
    first = swap.first;
    second = swap.second;
    free = swap.free;
    from = ap (λ l. e ∷ l) swap.from;
    to = ap (λ l. e ∷ l) swap.to;
  }

  lead_under : (e : Edge) (through : List (List Edge)) (g h : List Edge)
      → LeadThrough v p g through h
      → LeadThrough v p (e ∷ g) (map (λ k. e ∷ k) through) (e ∷ h)
  lead_under e [] g h same = ap (λ l. e ∷ l) same
  lead_under e (m ∷ through) g h lead =
      (swap_under e g m lead.0, lead_under e through m h lead.1)

  -- with one more edge behind both
  pub swaps_under : (e : Edge) (g h : List Edge) → AreOneButForSwaps v p g h
      → AreOneButForSwaps v p (e ∷ g) (e ∷ h)
  swaps_under e g h one = record {
    through = map (λ k. e ∷ k) one.through;
    swaps = lead_under e one.through g h one.swaps;
  }

  -- ---- the way to the front

  module _ (e : Edge) (taken : Numbered) where
    brought : (before : Numbered) (later : List Edge) → GoesBack v p e taken before None
        → AreOneButForSwaps v p (later ++ e ∷ edges_in (before ++ taken))
        (later ++ (edges_in before ++ e ∷ edges_in taken))
    brought [] later goes = swaps_none (later ++ e ∷ edges_in taken)
    brought ((n, a) ∷ before) later (inl goes) =
        let h = edges_in (before ++ taken) in
        let next : AreOneButForSwaps v p (later ++ a ∷ e ∷ h)
        (later ++ (a ∷ (edges_in before ++ e ∷ edges_in taken))) =
        subst (λ l. AreOneButForSwaps v p l (later ++ (a ∷ (edges_in before ++ e ∷ edges_in taken))))
        (append_assoc later (a ∷ []) (e ∷ h))
        (subst (λ l. AreOneButForSwaps v p ((later ++ a ∷ []) ++ e ∷ h) l)
        (append_assoc later (a ∷ []) (edges_in before ++ e ∷ edges_in taken))
        (brought before (later ++ a ∷ []) goes.1)) in
        record {
          through = (later ++ a ∷ e ∷ h) ∷ next.through;
          swaps = (
            record {
              later = later;
              before = h;
              first = a;
              second = e;
              free = goes.0;
              from = refl;
              to = refl;
            },
            next.swaps,
          );
        }
    brought ((n, a) ∷ before) later (inr stops) =
        let none = stops.2 in absurd (cc)

    -- the edge is taken out of what is left
    pub brought_at : (left : Numbered) (place : IsPlace e left)
        → GoesBack v p e taken place.before None
        → AreOneButForSwaps v p (edges_in (left ++ taken))
        (edges_in ((place.behind ++ place.before) ++ (place.number, e) ∷ taken))
    brought_at left place goes =
        let x : ℕ × Edge = (place.number, e) in
        let from : edges_in (left ++ taken)
        ≡ edges_in place.behind ++ e ∷ edges_in (place.before ++ taken) =
        ap (λ l. edges_in (l ++ taken)) place.split
        ∙ ap edges_in (append_assoc place.behind (x ∷ place.before) taken)
        ∙ edges_append place.behind (x ∷ (place.before ++ taken)) in
        let to : edges_in ((place.behind ++ place.before) ++ x ∷ taken)
        ≡ edges_in place.behind ++ (edges_in place.before ++ e ∷ edges_in taken) =
        ap edges_in (append_assoc place.behind place.before (x ∷ taken))
        ∙ edges_append place.behind (place.before ++ x ∷ taken)
        ∙ ap (λ l. edges_in place.behind ++ l) (edges_append place.before (x ∷ taken)) in
        subst (λ l. AreOneButForSwaps v p l (edges_in ((place.behind ++ place.before) ++ x ∷ taken)))
        (sym from)
        (subst (λ l. AreOneButForSwaps v p (edges_in place.behind ++ e ∷ edges_in (place.before ++ taken)) l)
        (sym to) (brought place.before (edges_in place.behind) goes))

  legal_behind : (g h : List Edge) → IsLegal v p (g ++ h) → IsLegal v p h
  legal_behind [] h legal = legal
  legal_behind (e ∷ g) h legal = legal_behind g h legal.1

  -- the edge that was taken last is legal behind the others
  pub legal_taken : (k : Numbered) (n : ℕ) (e : Edge) (taken : Numbered)
      → IsLegal v p (edges_in (k ++ (n, e) ∷ taken)) → IsLegal v p (e ∷ edges_in taken)
  legal_taken k n e taken legal =
      legal_behind (edges_in k) (e ∷ edges_in taken)
      (subst (IsLegal v p) (edges_append k ((n, e) ∷ taken)) legal)
