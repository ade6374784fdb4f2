-- Which of several sets is the furthest.
use Rattle.std.proofs.Common.{◌≡◌, ◌⊎◌, ◌∙◌, ◌<◌, ◌≤◌, ℕ, inl, inr, ◌+◌, ◌^◌, sym, ap, subst, arith}
use Rattle.std.specs.Prelude.{count_ones}
use Rattle.std.proofs.lemmas.Bool.{cases_lt}
use Rattle.vme_standings.proofs.Tests.{never}
use Rattle.vme_samples.specs.declared.places.Places.{Places}
use Rattle.vme_samples.specs.Places.{IsBefore, has_place}
use Rattle.std.proofs.Math.Pow.{pow-lt}
use Rattle.vme_samples.specs.Ways.{IsFarther, IsFurthest, IsReached, Known}

pub not_before_itself : (a : Places) → IsBefore a a → ⊥
not_before_itself a b = never (has_place a b.place) b.here b.missing

pub not_farther_than_itself : (known : Known) (a : Places) → IsFarther known a a → ⊥
not_farther_than_itself known a f = by_count f.more
  where
    by_count : (count_ones a.bits < count_ones a.bits) ⊎ ((count_ones a.bits ≡ count_ones a.bits) × IsBefore a a) → ⊥
    by_count (inl l) = omega (arith, l)
    by_count (inr e) = not_before_itself a e.1

pub before_both : (a b c : Places) → IsBefore a b → IsBefore b c → IsBefore a c
before_both a b c f g = by_place (cases_lt f.place g.place)
  where
    by_place : (f.place < g.place) ⊎ (g.place ≤ f.place) → IsBefore a c
    by_place (inl l) = record {
      place = f.place;
      near = f.near;
      here = f.here;
      missing = sym (g.same f.place l) ∙ f.missing;
      same = λ j m. f.same j m ∙ g.same j (omega (arith, l, m));
    }
    by_place (inr l) = by_same (cases_lt g.place f.place)
      where
        by_same : (g.place < f.place) ⊎ (f.place ≤ g.place) → IsBefore a c
        by_same (inl m) = record {
          place = g.place;
          near = g.near;
          here = f.same g.place m ∙ g.here;
          missing = g.missing;
          same = λ j k. f.same j (omega (arith, m, k)) ∙ g.same j k;
        }
        by_same (inr m) =
            let e : f.place ≡ g.place = omega (arith, l, m) in
            absurd (never (has_place b f.place) (ap (has_place b) e ∙ g.here) f.missing)

pub farther_both : (known : Known) (a b c : Places) → IsFarther known a b → IsFarther known b c → IsFarther known a c
farther_both known a b c f g = record { reached = f.reached; more = by_count f.more g.more }
  where
    by_count : (count_ones b.bits < count_ones a.bits) ⊎ ((count_ones b.bits ≡ count_ones a.bits) × IsBefore a b) → (count_ones c.bits < count_ones b.bits)
        ⊎ ((count_ones c.bits ≡ count_ones b.bits) × IsBefore b c) → (count_ones c.bits < count_ones a.bits) ⊎ ((count_ones c.bits ≡ count_ones a.bits) × IsBefore a c)
    by_count (inl l) (inl m) = inl (omega (arith, l, m))
    by_count (inl l) (inr e) = let k = e.0 in inl (omega (arith, l, k))
    by_count (inr e) (inl m) = let k = e.0 in inl (omega (arith, k, m))
    by_count (inr e) (inr d) = inr (d.0 ∙ e.0, before_both a b c e.1 d.1)

-- of the sets below the n-th it is the furthest
pub record IsBest (known : Known) (n : ℕ) (best : Places) : Type 0 where
  pub near : best.bits < n
  pub reached : 0 < best.bits → IsReached known best
  pub none : (other : Places) → other.bits < n → IsFarther known other best → ⊥

same_set : (a b : Places) → a.bits ≡ b.bits → a ≡ b
same_set a b e = ap (λ (n : ℕ). let r : Places = record { bits = n } in r) e

below_or_at : (other k : ℕ) → other < k + 1 → (other < k) ⊎ (other ≡ k)
below_or_at other k l = by_order (cases_lt other k)
  where
    by_order : (other < k) ⊎ (k ≤ other) → (other < k) ⊎ (other ≡ k)
    by_order (inl m) = inl m
    by_order (inr m) = inr (omega (arith, l, m))

pub first_best : (known : Known) (none : Places) → none.bits ≡ 0 → IsBest known 1 none
first_best known none e = record {
  near = omega (arith, e);
  reached = λ l. absurd (omega (arith, l, e));
  none = λ other l f. not_farther_than_itself known none (subst (λ x. IsFarther known x none) (same_set other none (omega (arith, l, e))) f);
}

pub farther_best : (known : Known) (k : ℕ) (old places : Places) → IsBest known k old → places.bits ≡ k → IsFarther known places old → IsBest known (k + 1) places
farther_best known k old places best at far = record {
  near = omega (arith, at);
  reached = λ l. far.reached;
  none = λ other l f. by_place other f (below_or_at other.bits k l);
}
  where
    by_place : (other : Places) → IsFarther known other places → (other.bits < k) ⊎ (other.bits ≡ k) → ⊥
    by_place other f (inl l) = best.none other l (farther_both known other places old f far)
    by_place other f (inr e) = not_farther_than_itself known places (subst (λ x. IsFarther known x places) (same_set other places (e ∙ sym at)) f)

pub same_best : (known : Known) (k : ℕ) (old places : Places) → IsBest known k old → places.bits ≡ k → (IsFarther known places old → ⊥) → IsBest known (k + 1) old
same_best known k old places best at not_far = record {
  near = let l = best.near in omega (arith, l);
  reached = best.reached;
  none = λ other l f. by_place other f (below_or_at other.bits k l);
}
  where
    by_place : (other : Places) → IsFarther known other old → (other.bits < k) ⊎ (other.bits ≡ k) → ⊥
    by_place other f (inl l) = best.none other l f
    by_place other f (inr e) = not_far (subst (λ x. IsFarther known x old) (same_set other places (e ∙ sym at)) f)

pub all_best : (known : Known) (k count : ℕ) (best : Places) → k ≡ 2 ^ count → IsBest known k best → IsFurthest known count best
all_best known k count best e b = record {
  near = subst (λ n. best.bits < n) e b.near;
  reached = b.reached;
  none = λ other l f. b.none other (subst (λ n. other.bits < n) (sym e) l) f;
}

-- a sample has no more sets than there is room for
pub few_sets : (n : ℕ) → n ≤ 12 → 2 ^ n ≤ 4096
few_sets n le = by_order (cases_lt n 12)
  where
    by_order : (n < 12) ⊎ (12 ≤ n) → 2 ^ n ≤ 4096
    by_order (inl l) = let m : 2 ^ n < 2 ^ 12 = pow-lt l in omega (arith, m)
    by_order (inr l) = let e : n ≡ 12 = omega (arith, l, le) in subst (λ k. 2 ^ k ≤ 4096) (sym e) (omega arith)
