-- One condition more in the walk along the conditions of a change: `left::first_failing`.
use Rattle.std.proofs.Common.{◌≡◌, ◌∙◌, ◌+◌, ◌<◌, ◌≤◌, ◌∷◌, ◌++◌, [], ℕ, Bool, true, false, List, ap, drop, get_or, length, refl, sym, take}
use Rattle.std.proofs.lemmas.List.{drop_all, drop_more, take_more}
use Rattle.std.specs.Prelude.{None, Some}
use Rattle.vme_model.specs.declared.signals.Wire.TheVariants.{Bg}
use Rattle.vme_probe.specs.declared.demands.Demand.{Demand}
use Rattle.vme_probe.specs.declared.demands.Test.{Test}
use Rattle.vme_probe.specs.declared.demands.Test.TheVariants.{Known}
use Rattle.vme_probe.specs.declared.obstacles.Obstacle.TheVariants.{NotLow}
use Rattle.vme_probe.specs.Demands.{first_failing}

one_passes : (leaves : List Demand → Test → Bool) (before ds : List Demand) (d : Demand) → leaves (before ++ d ∷ []) d.test ≡ true
    → first_failing leaves before (d ∷ ds) ≡ first_failing leaves (before ++ d ∷ []) ds
unfolding first_failing
one_passes leaves before ds d h = rw h refl

one_fails : (leaves : List Demand → Test → Bool) (before ds : List Demand) (d : Demand) → leaves (before ++ d ∷ []) d.test ≡ false → first_failing leaves before (d ∷ ds) ≡ Some d.obstacle
unfolding first_failing
one_fails leaves before ds d h = rw h refl

pub passes : (leaves : List Demand → Test → Bool) (xs : List Demand) (i : ℕ) (d : Demand) → i < length xs → leaves (take (i + 1) xs) (get_or xs i d).test ≡ true
    → first_failing leaves (take i xs) (drop i xs) ≡ first_failing leaves (take (i + 1) xs) (drop (i + 1) xs)
passes leaves xs i d lt h =
    let more = take_more xs i d lt in
    ap (λ l. first_failing leaves (take i xs) l) (drop_more xs i d lt)
    ∙ one_passes leaves (take i xs) (drop (i + 1) xs) (get_or xs i d) (rw more at h)
    ∙ ap (λ l. first_failing leaves l (drop (i + 1) xs)) (sym more)

pub fails : (leaves : List Demand → Test → Bool) (xs : List Demand) (i : ℕ) (d : Demand) → i < length xs → leaves (take (i + 1) xs) (get_or xs i d).test ≡ false
    → first_failing leaves (take i xs) (drop i xs) ≡ Some (get_or xs i d).obstacle
fails leaves xs i d lt h =
    let more = take_more xs i d lt in
    ap (λ l. first_failing leaves (take i xs) l) (drop_more xs i d lt)
    ∙ one_fails leaves (take i xs) (drop (i + 1) xs) (get_or xs i d) (rw more at h)

pub ended : (leaves : List Demand → Test → Bool) (xs : List Demand) (i : ℕ) → length xs ≤ i → first_failing leaves (take i xs) (drop i xs) ≡ None
unfolding first_failing
ended leaves xs i far = rw (drop_all i xs far) refl

-- what stands for an element that a list does not have
abbrev pub some_demand : Demand
some_demand = record { obstacle = NotLow (Bg 0); test = Known false }
