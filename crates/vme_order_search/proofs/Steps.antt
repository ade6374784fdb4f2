-- Steps of a trail.
use Rattle.std.proofs.Common.{◌≡◌, ◌⊎◌, inl, inr, ◌<◌, ◌≤◌, ◌++◌, ℕ, List, [], ◌∷◌, Some, length, refl, sym, ◌∙◌, subst, ap, arith}
use Rattle.std.specs.List.{slice_get}
use Rattle.std.proofs.lemmas.Option.{slice_get_within}
use Rattle.vme_order_search.specs.declared.trails.Step.{Step}
use Rattle.vme_order_search.specs.declared.trails.Trail.{Trail}
use Rattle.vme_order_search.specs.Trails.{Ends}
use Rattle.vme_order_search.proofs.Lists.{get_before, get_there, one_there}

-- a trail went on by a step
pub ends_more : (t u : Trail) (s : Step) → u.steps.items ≡ t.steps.items ++ s ∷ [] → (at : ℕ)
    (path : List ℕ) → Ends t at path → Ends u at path
ends_more t u s is at [] h = h
ends_more t u s is at (j ∷ path) h =
    let within : at < length t.steps.items = slice_get_within t.steps.items at h.0 h.1 in (
      h.0,
      ap (λ l. slice_get l at) is ∙ get_before t.steps.items s at within ∙ h.1,
      h.2,
      h.3,
      ends_more t u s is h.0.front path h.4,
    )

pub ends_there : (t u : Trail) (s : Step) → u.steps.items ≡ t.steps.items ++ s ∷ []
    → 0 < length t.steps.items → (path : List ℕ) → Ends t s.front path
    → Ends u (length t.steps.items) (s.place ∷ path)
ends_there t u s is some path h = (
  s,
  ap (λ l. slice_get l (length t.steps.items)) is ∙ get_there t.steps.items s,
  refl,
  some,
  ends_more t u s is s.front path h,
)

-- ---- the way back

-- what was passed on the way back from a step, and what is left of it
pub record WentBack (t : Trail) (at : ℕ) (path places : List ℕ) : Type 0 where
  pub rest : List ℕ
  pub is : path ≡ places ++ rest
  pub ends : Ends t at rest

append_one : (places : List ℕ) (j : ℕ) (rest : List ℕ) → places ++ j ∷ rest ≡ (places ++ j ∷ []) ++ rest
append_one [] j rest = refl
append_one (p ∷ places) j rest = ap (λ l. p ∷ l) (append_one places j rest)

step_by : (t : Trail) (at : ℕ) (path places : List ℕ) (s : Step) (rest : List ℕ)
    → slice_get t.steps.items at ≡ Some s → 0 < at → path ≡ places ++ rest → Ends t at rest
    → WentBack t s.front path (places ++ s.place ∷ [])
step_by t at path places s [] is some e h = absurd (omega arith)
step_by t at path places s (j ∷ rest) is some e h =
    let same : h.0 ≡ s = one_there t.steps.items at h.0 s h.1 is in
    let place : j ≡ s.place = sym h.2 ∙ ap (λ (x : Step). x.place) same in
    record {
      rest = rest;
      is = e ∙ append_one places j rest ∙ ap (λ k. (places ++ k ∷ []) ++ rest) place;
      ends = subst (λ (x : Step). Ends t x.front rest) same h.4;
    }

pub step_back : (t : Trail) (at : ℕ) (path places : List ℕ) (s : Step)
    → slice_get t.steps.items at ≡ Some s → 0 < at → WentBack t at path places
    → WentBack t s.front path (places ++ s.place ∷ [])
step_back t at path places s is some w = step_by t at path places s w.rest is some w.is w.ends

nothing_left : (t : Trail) (at : ℕ) (rest : List ℕ) → Ends t at rest
    → (at ≡ 0) ⊎ (length t.steps.items ≤ at) → rest ≡ []
nothing_left t at [] h x = refl
nothing_left t at (j ∷ rest) h (inl z) = absurd (let some : 0 < at = h.3 in omega arith)
nothing_left t at (j ∷ rest) h (inr le) =
    absurd (let lt : at < length t.steps.items = slice_get_within t.steps.items at h.0 h.1 in omega arith)

append_none : (places : List ℕ) → places ++ [] ≡ places
append_none [] = refl
append_none (p ∷ places) = ap (λ l. p ∷ l) (append_none places)

pub whole_way : (t : Trail) (at : ℕ) (path places : List ℕ) → WentBack t at path places
    → (at ≡ 0) ⊎ (length t.steps.items ≤ at) → places ≡ path
whole_way t at path places w end =
    sym (w.is ∙ ap (λ l. places ++ l) (nothing_left t at w.rest w.ends end) ∙ append_none places)
