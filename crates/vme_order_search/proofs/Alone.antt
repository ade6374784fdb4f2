-- A layer with one beginning, whose way is made anew without any other.
use Rattle.std.proofs.Common.{◌≡◌, inl, inr, ◌∷◌, [], ℕ, zero, suc, Bool, List, Some, length, refl, sym, ◌∙◌, subst, ap, arith}
use Rattle.std.specs.List.{slice_get}
use Rattle.std.proofs.lemmas.Option.{same_Some}
use Rattle.vme_order_search.specs.declared.layers.Beginning.{Beginning}
use Rattle.vme_order_search.specs.declared.search.Search.{Search}
use Rattle.vme_order_search.specs.declared.trails.Trail.{Trail}
use Rattle.vme_order_search.specs.Searching.{Task, HasLayer, IsKeptAs, IsLayer, IsStoodFor, StandsFor}
use Rattle.vme_order_search.specs.Trails.{Ends}
use Rattle.vme_order_search.proofs.Lists.{none_there}

-- ---- the layer

only_one : {X : Type 0} (x y : X) (i : ℕ) → slice_get (x ∷ []) i ≡ Some y → (i ≡ 0) × (x ≡ y)
only_one x y zero is = (refl, same_Some x y is)
only_one x y (suc i) is = absurd (none_there y i is)

pub one_item : {X : Type 0} (xs : List X) (x : X) → length xs ≡ 1 → slice_get xs 0 ≡ Some x
    → xs ≡ x ∷ []
one_item [] x count is = absurd (none_there x 0 is)
one_item (y ∷ []) x count is = ap (λ z. z ∷ []) (same_Some y x is)
one_item (y ∷ z ∷ xs) x count is = absurd (omega arith)

module _ (t : Task) (trail other : Trail) (cut : Bool) (n : ℕ) (b c : Beginning)
    (taken : c.taken ≡ b.taken) (bus : c.bus ≡ b.bus)
    (ends : (path : List ℕ) → Ends trail b.step path → Ends other c.step path)
    (paths : ℕ → List ℕ) where
  kept_anew : (path : List ℕ) → IsKeptAs t trail n b path → IsKeptAs t other n c path
  kept_anew path k = record {
    legal = k.legal;
    count = k.count;
    ends = ends path k.ends;
    taken = rw taken k.taken;
    leads = rw bus k.leads;
  }

  stands_anew : (path q : List ℕ) → StandsFor t b path q → StandsFor t c path q
  stands_anew path q s = record { leads = rw bus s.leads; taken = rw taken s.taken; most = s.most }

  stood_anew : (q : List ℕ) → IsStoodFor t (b ∷ []) paths q → IsStoodFor t (c ∷ []) paths q
  stood_anew q s =
      let one = only_one b s.by s.place s.is in
      record {
        place = 0;
        by = c;
        is = refl;
        stands = stands_anew (paths 0) q
            (subst (λ (i : ℕ). StandsFor t b (paths i) q) one.0
            (subst (λ (d : Beginning). StandsFor t d (paths s.place) q) (sym one.1) s.stands));
      }

  pub layer_anew : IsLayer t trail cut n (b ∷ []) paths → IsLayer t other cut n (c ∷ []) paths
  layer_anew l = record {
    kept = record {
      each = λ i d is.
          let one = only_one c d i is in
          subst (λ (e : Beginning). IsKeptAs t other n e (paths i)) one.1
          (subst (λ (k : ℕ). IsKeptAs t other n c (paths k)) (sym one.0)
          (kept_anew (paths 0) (l.kept.each 0 b refl)));
      ascending = l.kept.ascending;
    };
    all = λ q legal count.
        elim (l.all q legal count) [
          | inl s ↦ inl (stood_anew q s)
          | inr out ↦ inr (record { cut = out.cut; beyond = out.beyond })
        ];
  }

-- ---- the search

pub search_anew : (t : Task) (n : ℕ) (s new : Search) (b c : Beginning)
    → s.layer.kept.items ≡ b ∷ [] → new.layer.kept.items ≡ c ∷ [] → c.taken ≡ b.taken
    → c.bus ≡ b.bus
    → ((path : List ℕ) → Ends s.trail b.step path → Ends new.trail c.step path)
    → new.state ≡ s.state → new.is_cut ≡ s.is_cut → new.width ≡ s.width → HasLayer t n s
    → HasLayer t n new
search_anew t n s new b c was is taken bus ends state cut width h = record {
  bus = rw state h.bus;
  paths = h.paths;
  layer =
      rw (cut, is) (layer_anew t s.trail new.trail s.is_cut n b c taken bus ends h.paths
      (subst (λ bs. IsLayer t s.trail s.is_cut n bs h.paths) was h.layer));
  cut = λ is_cut full. h.cut (sym cut ∙ is_cut) (sym width ∙ full);
}
