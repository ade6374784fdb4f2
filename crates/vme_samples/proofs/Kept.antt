-- What is known behind a set stays so while what is known behind others is found.
use Rattle.std.proofs.Common.{◌≡◌, ◌⊎◌, ◌<◌, ◌≤◌, ◌+◌, ◌-◌, ◌^◌, ℕ, zero, suc, List, Option, Some, length, inl, inr, sym, ap, subst, arith}
use Rattle.std.specs.List.{slice_get}
use Rattle.std.proofs.lemmas.Bool.{cases_lt}
use Rattle.std.proofs.Math.Pow.{pow_pos}
use Rattle.vme_model.specs.Plan.{Plan}
use Rattle.vme_standings.specs.declared.standings.Probed.{Probed}
use Rattle.vme_standings.specs.declared.standings.Standings.{Standings}
use Rattle.vme_samples.specs.declared.places.Places.{Places}
use Rattle.vme_samples.specs.declared.samples.SeenChange.{SeenChange}
use Rattle.vme_samples.specs.Places.{without}
use Rattle.vme_samples.specs.Ways.{AreWays, Gathered, Hides, IsKnownBehind, Keeps, Known, LedTo, Steps, hidden_behind}

-- the sets from which a set is read are the same
abbrev pub SameBelow : Places → Known → Known → Type 0
SameBelow set old new = (i : ℕ) → hidden_behind old (without set i) ≡ hidden_behind new (without set i)

pub led_kept : (p : Plan) (probed : Probed) (sample : List SeenChange) (old new : Known) (set : Places) (i : ℕ) (at : Option Standings) → SameBelow set old new → LedTo p probed sample old set i at
    → LedTo p probed sample new set i at
led_kept p probed sample old new set i at same led = record {
  able = λ is. subst (λ h. Steps p probed h (slice_get sample i) at) (same i) (led.able is);
  unable = led.unable;
}

pub gathered_kept : (p : Plan) (probed : Probed) (sample : List SeenChange) (old new : Known) (set : Places) (n : ℕ) (at : Option Standings) → SameBelow set old new
    → Gathered p probed sample old set n at → Gathered p probed sample new set n at
gathered_kept p probed sample old new set zero at same g = g
gathered_kept p probed sample old new set (suc n) at same g =
    (g.0, g.1, gathered_kept p probed sample old new set n g.0 same g.2, led_kept p probed sample old new set n g.1 same g.3, g.4)

below : (b i : ℕ) → 0 < b → b - 2 ^ i < b
below b i l = let m : 0 < 2 ^ i = pow_pos i in omega (arith, l, m)

-- a set of that number or a lesser one is read from lesser ones
pub same_below : (p : Plan) (probed : Probed) (kept set : Places) (at : Option Standings) (old new : Known) → Keeps p probed kept at old new → 0 < set.bits → set.bits ≤ kept.bits
    → SameBelow set old new
same_below p probed kept set at old new keeps some near i =
    sym (keeps.others (without set i) (λ e. let l = below set.bits i some in let m : set.bits - 2 ^ i ≡ kept.bits = e in absurd (omega (arith, l, m, near))))

-- the lesser ones stay
pub behind_kept : (p : Plan) (probed : Probed) (sample : List SeenChange) (kept set : Places) (at : Option Standings) (old new : Known) → Keeps p probed kept at old new → 0 < set.bits
    → set.bits < kept.bits → IsKnownBehind p probed sample old set → IsKnownBehind p probed sample new set
behind_kept p probed sample kept set at old new keeps some near behind = record {
  at = behind.at;
  gathered = gathered_kept p probed sample old new set (length sample) behind.at (same_below p probed kept set at old new keeps some (omega (arith, near))) behind.gathered;
  hides = subst (λ h. Hides p probed behind.at h) (sym (keeps.others set (λ e. absurd (omega (arith, near, e))))) behind.hides;
}

-- and this one is known
pub behind_here : (p : Plan) (probed : Probed) (sample : List SeenChange) (kept : Places) (at : Option Standings) (old new : Known) → Keeps p probed kept at old new → 0 < kept.bits
    → Gathered p probed sample old kept (length sample) at → IsKnownBehind p probed sample new kept
behind_here p probed sample kept at old new keeps some gathered = record {
  at = at;
  gathered = gathered_kept p probed sample old new kept (length sample) at (same_below p probed kept kept at old new keeps some (omega arith)) gathered;
  hides = keeps.here;
}

-- what is known behind the sets below the n-th
pub record IsFilled (p : Plan) (probed : Probed) (start : Standings) (sample : List SeenChange) (known : Known) (n : ℕ) : Type 0 where
  pub begins : Hides p probed (Some start) (hidden_behind known (record { bits = 0 }))
  pub others : (set : Places) → 0 < set.bits → set.bits < n → IsKnownBehind p probed sample known set

same_set : (a b : Places) → a.bits ≡ b.bits → a ≡ b
same_set a b e = ap (λ (n : ℕ). let r : Places = record { bits = n } in r) e

pub first_filled : (p : Plan) (probed : Probed) (start : Standings) (sample : List SeenChange) (none : Places) (old new : Known) → none.bits ≡ 0 → Keeps p probed none (Some start) old new
    → IsFilled p probed start sample new 1
first_filled p probed start sample none old new e keeps = record {
  begins = subst (λ (x : Places). Hides p probed (Some start) (hidden_behind new x)) (same_set none (record { bits = 0 }) e) keeps.here;
  others = λ set some l. absurd (omega (arith, some, l));
}

pub one_filled : (p : Plan) (probed : Probed) (start : Standings) (sample : List SeenChange) (kept : Places) (k : ℕ) (at : Option Standings) (old new : Known) → kept.bits ≡ k → 0 < k
    → Gathered p probed sample old kept (length sample) at → Keeps p probed kept at old new → IsFilled p probed start sample old k → IsFilled p probed start sample new (k + 1)
one_filled p probed start sample kept k at old new e some gathered keeps filled = record {
  begins = subst (λ h. Hides p probed (Some start) h) (sym (keeps.others (record { bits = 0 }) (λ q. let z : 0 ≡ kept.bits = q in absurd (omega (arith, some, e, z))))) filled.begins;
  others = λ set more l. by_order set more (cases_lt set.bits kept.bits) l;
}
  where
    by_order : (set : Places) → 0 < set.bits → (set.bits < kept.bits) ⊎ (kept.bits ≤ set.bits) → set.bits < k + 1 → IsKnownBehind p probed sample new set
    by_order set more (inl l) m = behind_kept p probed sample kept set at old new keeps more l (filled.others set more (omega (arith, l, e)))
    by_order set more (inr l) m =
        let same : kept.bits ≡ set.bits = omega (arith, l, m, e) in
        subst (IsKnownBehind p probed sample new) (same_set kept set same) (behind_here p probed sample kept at old new keeps (omega (arith, some, e)) gathered)

pub all_filled : (p : Plan) (probed : Probed) (start : Standings) (sample : List SeenChange) (known : Known) (k : ℕ) → k ≡ 2 ^ length sample → IsFilled p probed start sample known k
    → AreWays p probed start sample known
all_filled p probed start sample known k e filled = record {
  begins = filled.begins;
  others = λ set some l. filled.others set some (subst (λ n. set.bits < n) (sym e) l);
}
