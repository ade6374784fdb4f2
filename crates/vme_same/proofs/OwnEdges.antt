-- The edge of the first trace that comes with one that differs is of its driver.
use Rattle.std.proofs.Common.{◌≡◌, inl, inr, ◌+◌, ◌++◌, ◌∷◌, [], ℕ, List, Option, Some, None, refl, sym, subst, arith}
use Rattle.std.specs.List.{Contains}
use Rattle.std.proofs.lemmas.List.Elements.{Contains-append_cases, Contains-append_left, Contains-append_right}
use Rattle.vme_model.specs.declared.refusals.Refused.{Refused}
use Rattle.vme_model.specs.declared.signals.Edge.{Edge}
use Rattle.vme_model.specs.declared.signals.Version.{Version}
use Rattle.vme_model.specs.Plan.{Plan}
use Rattle.vme_model.specs.Numbered.{Numbered, numbered}
use Rattle.vme_reading.specs.Refusals.{first_refusal}
use Rattle.vme_reading.specs.Outcomes.{bench}
use Rattle.vme_same.specs.declared.comparisons.Comparison.TheVariants.{Differs}
use Rattle.vme_same.specs.declared.comparisons.Why.{Why}
use Rattle.vme_same.specs.Comparing.{Compares, IsComparison, IsFirstOf, IsFound}

-- it is of the driver, and one of these
pub record IsOwn (e : Edge) (i : ℕ) (a : Edge) (left : Numbered) : Type 0 where
  pub driver : a.driver ≡ e.driver
  pub there : Contains left (i, a)

module _ (e : Edge) (why : Why) (i : ℕ) (a : Edge) where
  own_first : (left : Numbered) → IsFirstOf e.driver left (Some (i, a)) → IsOwn e i a left
  own_first left first = record {
    driver = first.3;
    there = subst (λ l. Contains l (i, a)) (sym first.2)
        (Contains-append_right first.0 ((i, a) ∷ first.1) (i, a) (0, omega arith, refl));
  }

  module _ (v : Version) (p : Plan) (n : ℕ) where
    own_left : (taken left : Numbered) (m : ℕ) (fs : List Edge)
        → Compares v p taken left m fs (Differs n e why (Some (i, a))) → IsOwn e i a left
    own_left taken left m [] (inl over) = (let is = over.1 in absurd (cc))
    own_left taken left m [] (inr over) = (let is = over.4 in absurd (cc))
    own_left taken left m (f ∷ fs) (inl stays) =
        let is = stays.4 in
        let edge : f ≡ e = cc in
        let own : stays.1 ≡ Some (i, a) = cc in
        own_first left (subst (λ (b : Edge). IsFirstOf b.driver left (Some (i, a))) edge
        (subst (IsFirstOf f.driver left) own stays.3))
    own_left taken left m (f ∷ fs) (inr comes) =
        let place = comes.0 in
        let others = own_left ((place.number, f) ∷ taken) (place.behind ++ place.before) (m + 1) fs comes.3 in
        record {
          driver = others.driver;
          there = subst (λ l. Contains l (i, a)) (sym place.split)
              (elim (Contains-append_cases place.behind place.before (i, a) others.there) [
                | inl is ↦ Contains-append_left place.behind ((place.number, f) ∷ place.before) (i, a) is
                | inr is ↦ Contains-append_right place.behind ((place.number, f) ∷ place.before) (i, a)
                    (Contains-append_right ((place.number, f) ∷ []) place.before (i, a) is)
              ]);
        }

  module _ (p : Plan) (v w : Version) (es fs : List Edge) (n : ℕ) where
    by_refusals : (x y : Option (ℕ × Refused))
        → IsFound p v w es fs x y (Differs n e why (Some (i, a)))
        → IsOwn e i a (numbered (bench p v) es)
    by_refusals (Some (m, refused)) y found = absurd (cc)
    by_refusals None (Some (m, refused)) found = absurd (cc)
    by_refusals None None (inl found) = (let other = found.1 in absurd (cc))
    by_refusals None None (inr found) =
        own_left v p n [] (numbered (bench p v) es) 0 fs found.1

    pub own_edge : IsComparison p v w es fs (Differs n e why (Some (i, a)))
        → IsOwn e i a (numbered (bench p v) es)
    own_edge found = by_refusals (first_refusal 1 (bench p v) es) (first_refusal 1 (bench p w) fs) found
