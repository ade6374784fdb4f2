-- The greatest slack is that of some driver, and none is greater.
use Rattle.std.proofs.Common.{◌≡◌, ◌⊎◌, inl, inr, ◌<◌, ◌≤◌, ◌+◌, ℕ, zero, suc, List, [], ◌∷◌, length, get_or, max, refl, sym, ◌∙◌, subst, arith}
use Rattle.std.proofs.lemmas.Bool.{cases_lt}
use Rattle.vme_model.specs.declared.signals.Driver.{Driver}
use Rattle.vme_model.specs.declared.signals.Driver.TheVariants.{Controller, Slot}
use Rattle.vme_moments.specs.declared.slacks.Slacks.{Slacks}
use Rattle.vme_moments.specs.Before.{IsKnown, slack_of}

each_below : (xs : List ℕ) (k g : ℕ) → ((i : ℕ) → i < length xs → get_or xs i 0 ≤ g) → get_or xs k 0 ≤ g
each_below [] k g h = omega arith
each_below (x ∷ xs) zero g h = h 0 (omega arith)
each_below (x ∷ xs) (suc k) g h = each_below xs k g (λ i lt. h (suc i) (omega arith))

pub none_greater : (x : Slacks) (g : ℕ) → x.controller ≤ g
    → ((k : ℕ) → k < length x.boards → get_or x.boards k 0 ≤ g) → (d : Driver) → slack_of x d ≤ g
none_greater x g c h Controller = c
none_greater x g c h (Slot s) = each_below x.boards s g h

pub no_less : (g v more : ℕ) → more ≡ max g v → g ≤ more
no_less g v more is = grind arith

pub all_more : (xs : List ℕ) (count g more : ℕ) → ((k : ℕ) → k < count → get_or xs k 0 ≤ g)
    → more ≡ max g (get_or xs count 0) → (k : ℕ) → k < count + 1 → get_or xs k 0 ≤ more
all_more xs count g more h is k lt = by (cases_lt k count)
  where
    with_last : (g v more : ℕ) → more ≡ max g v → v ≤ more
    with_last g v more is = grind arith

    by : (k < count) ⊎ (count ≤ k) → get_or xs k 0 ≤ more
    by (inl low) =
        let below : get_or xs k 0 ≤ g = h k low in
        let grown : g ≤ more = no_less g (get_or xs count 0) more is in omega arith
    by (inr high) =
        let same : count ≡ k = omega arith in
        subst (λ (i : ℕ). get_or xs i 0 ≤ more) same (with_last g (get_or xs count 0) more is)

-- it is the slack of the controller, or of a slot below that one
abbrev pub IsSomeBelow : Slacks → ℕ → ℕ → Type 0
IsSomeBelow x count g =
    (x.controller ≡ g) ⊎ ((s : ℕ) × (s < count) × (get_or x.boards s 0 ≡ g))

pub one_more : (x : Slacks) (count g more : ℕ) → IsSomeBelow x count g
    → more ≡ max g (get_or x.boards count 0) → IsSomeBelow x (count + 1) more
one_more x count g more (inl same) is = by (max_of g (get_or x.boards count 0))
  where
    max_of : (a b : ℕ) → (max a b ≡ a) ⊎ (max a b ≡ b)
    max_of a b = grind arith

    by : (max g (get_or x.boards count 0) ≡ g) ⊎ (max g (get_or x.boards count 0) ≡ get_or x.boards count 0)
        → IsSomeBelow x (count + 1) more
    by (inl kept) = inl (same ∙ sym kept ∙ sym is)
    by (inr new) = inr (count, omega arith, sym new ∙ sym is)
one_more x count g more (inr (s, lt, same)) is = by (max_of g (get_or x.boards count 0))
  where
    max_of : (a b : ℕ) → (max a b ≡ a) ⊎ (max a b ≡ b)
    max_of a b = grind arith

    by : (max g (get_or x.boards count 0) ≡ g) ⊎ (max g (get_or x.boards count 0) ≡ get_or x.boards count 0)
        → IsSomeBelow x (count + 1) more
    by (inl kept) = inr (s, omega arith, same ∙ sym kept ∙ sym is)
    by (inr new) = inr (count, omega arith, sym new ∙ sym is)

pub some_driver : (x : Slacks) (count g : ℕ) → count ≤ 22 → IsSomeBelow x count g
    → (d : Driver) × IsKnown d × (slack_of x d ≡ g)
some_driver x count g few (inl same) = (Controller, tt, same)
some_driver x count g few (inr (s, lt, same)) = (Slot s, omega arith, same)
