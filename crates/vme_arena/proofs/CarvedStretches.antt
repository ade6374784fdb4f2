-- Stretches that are carved one after another lie in the rest, in their order.
use Rattle.std.proofs.Common.{◌≡◌, ℕ, ◌+◌, ◌%◌, ◌<◌, ◌≤◌, List, [], ◌∷◌, All, refl, arith}
use Rattle.std.proofs.lemmas.List.Elements.{All-nil, All-cons}
use Rattle.std.proofs.lemmas.List.Kept.{AllPairs-cons}
use Rattle.vme_arena.specs.Stretch.{Stretch, rounded, front, behind, total, carved, IsPart, IsBefore, CarvedWithin, CarvedApart}

even : (a n : ℕ) → a % 16 ≡ 0 → (a + rounded n) % 16 ≡ 0
even a n e = omega (arith, e)

parts : (t s : Stretch) (ns : List ℕ) → s.block ≡ t.block → t.start ≤ s.start → s.start % 16 ≡ 0 → s.start + total ns ≤ t.end → All (IsPart t) (carved s ns)
parts t s [] same low aligned fits = All-nil (IsPart t)
parts t s (n ∷ ns) same low aligned fits =
    All-cons (IsPart t) (front (rounded n) s) (carved (behind (rounded n) s) ns) (same, low, omega arith, omega (arith, fits), aligned, even s.start n aligned)
    (parts t (behind (rounded n) s) ns same (omega (arith, low)) (even s.start n aligned) (omega (arith, fits)))

later : (k : ℕ) (s : Stretch) (ns : List ℕ) → k ≤ s.start → All (λ (u : Stretch). k ≤ u.start) (carved s ns)
later k s [] low = All-nil (λ (u : Stretch). k ≤ u.start)
later k s (n ∷ ns) low = All-cons (λ (u : Stretch). k ≤ u.start) (front (rounded n) s) (carved (behind (rounded n) s) ns) low (later k (behind (rounded n) s) ns (omega (arith, low)))

pub carved_within : CarvedWithin
carved_within s ns aligned fits = parts s s ns refl (omega arith) aligned fits

pub carved_apart : CarvedApart
carved_apart s [] = λ i j d l l'. absurd (none j l')
  where
    none : (j : ℕ) → ¬ (j < 0)
    none j l = omega arith
carved_apart s (n ∷ ns) =
    AllPairs-cons IsBefore (front (rounded n) s) (carved (behind (rounded n) s) ns) (later (s.start + rounded n) (behind (rounded n) s) ns (omega arith)) (carved_apart (behind (rounded n) s) ns)
