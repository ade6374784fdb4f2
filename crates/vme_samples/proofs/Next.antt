-- Which changes of a sample are in a set, where the changes of each line or pin keep their order.
use Rattle.std.proofs.Common.{◌≡◌, ◌≢◌, ◌⊎◌, ◌∙◌, ◌<◌, ◌≤◌, ◌+◌, ℕ, zero, suc, Bool, true, false, List, length, inl, inr, refl, sym, ap, subst, arith}
use Rattle.std.specs.Prelude.{◌&&◌, not, Option, Some, None}
use Rattle.std.specs.List.{slice_get}
use Rattle.std.specs.Option.{option_map_or}
use Rattle.std.proofs.lemmas.Bool.{cases_lt}
use Rattle.std.proofs.lemmas.Option.{slice_get_within}
use Rattle.vme_model.proofs.Bools.{and_left, and_right, not_true}
use Rattle.vme_captures.specs.declared.signals.Signal.{Signal}
use Rattle.vme_standings.proofs.Tests.{is_false, never}
use Rattle.vme_samples.specs.declared.places.Places.{Places}
use Rattle.vme_samples.specs.declared.samples.SeenChange.{SeenChange}
use Rattle.vme_samples.specs.Places.{has_place, with}
use Rattle.vme_samples.specs.Samples.{comes_next, earlier_in, is_of}
use Rattle.vme_samples.proofs.OneMore.{with_here, with_other}
use Rattle.vme_samples.proofs.Said.{count, count_more, count_same, said, said_last, said_same, said_up}

-- the change at the place, which comes next behind the set
pub record Next (sample : List SeenChange) (set : Places) (i : ℕ) : Type 0 where
  pub seen : SeenChange
  pub at : slice_get sample i ≡ Some seen
  pub off : has_place set i ≡ false
  pub earlier : earlier_in sample seen.change.signal set i ≡ true

pub next_of : (sample : List SeenChange) (set : Places) (i : ℕ) → comes_next sample set i ≡ true → Next sample set i
next_of sample set i next = by_change (slice_get sample i) refl (and_right (not (has_place set i)) _ next)
  where
    by_change : (o : Option SeenChange) → slice_get sample i ≡ o → option_map_or (λ s. earlier_in sample s.change.signal set i) o false ≡ true → Next sample set i
    by_change None is e = absurd (never false e refl)
    by_change (Some s) is e = record { seen = s; at = is; off = not_true (has_place set i) (and_left (not (has_place set i)) _ next); earlier = e }

earlier_there : (sample : List SeenChange) (x : Signal) (set : Places) (n k : ℕ) → earlier_in sample x set n ≡ true → k < n → is_of sample x k ≡ true → has_place set k ≡ true
earlier_there sample x set zero k e l of = absurd (omega (arith, l))
earlier_there sample x set (suc n) k e l of = by_order (cases_lt k n) (λ m. earlier_there sample x set n k
    (and_left (earlier_in sample x set n) (not (is_of sample x n && not (has_place set n))) e) m of)
  where
    here : (a b : Bool) → not (a && not b) ≡ true → a ≡ true → b ≡ true
    here true true x y = refl
    here true false x y = x
    here false b x y = absurd (never false y refl)

    by_order : (k < n) ⊎ (n ≤ k) → (k < n → has_place set k ≡ true) → has_place set k ≡ true
    by_order (inl m) rest = rest m
    by_order (inr m) rest =
        let q : n ≡ k = omega (arith, l, m) in
        subst (λ j. has_place set j ≡ true) q
        (here (is_of sample x n) (has_place set n) (and_right (earlier_in sample x set n) (not (is_of sample x n && not (has_place set n))) e) (subst (λ j. is_of sample x j ≡ true) (sym q) of))

-- with each change the set has all earlier ones of its line or pin
abbrev pub Closed : List SeenChange → Places → Type 0
Closed sample set =
    (j : ℕ) (s : SeenChange) → slice_get sample j ≡ Some s → has_place set j ≡ true
    → (i : ℕ) → i < j → is_of sample s.change.signal i ≡ true → has_place set i ≡ true

module _ (sample : List SeenChange) (set : Places) (i : ℕ) (n : Next sample set i) where
  near : i < length sample
  near = slice_get_within sample i n.seen n.at

  same_seen : (a b : SeenChange) → Some a ≡ Some b → a ≡ b
  same_seen a b e = cc

  pub closed_next : Closed sample set → Closed sample (with set i)
  closed_next closed j s at on k l of = by_place (cases_lt j i) (cases_lt i j)
    where
      kept : has_place set k ≡ true → has_place (with set i) k ≡ true
      kept x = with_other set i k n.off (λ e. never (has_place set k) x (subst (λ y. has_place set y ≡ false) (sym e) n.off)) ∙ x

      other : j ≢ i → has_place (with set i) k ≡ true
      other apart = kept (closed j s at (sym (with_other set i j n.off apart) ∙ on) k l of)

      by_place : (j < i) ⊎ (i ≤ j) → (i < j) ⊎ (j ≤ i) → has_place (with set i) k ≡ true
      by_place (inl m) y = other (λ e. absurd (omega (arith, m, e)))
      by_place (inr m) (inl y) = other (λ e. absurd (omega (arith, y, e)))
      by_place (inr m) (inr y) =
          let e : j ≡ i = omega (arith, m, y) in
          let same : s ≡ n.seen = same_seen s n.seen (sym at ∙ ap (slice_get sample) e ∙ n.at) in
          kept (earlier_there sample n.seen.change.signal set i k n.earlier (omega (arith, l, e)) (subst (λ (x : SeenChange). is_of sample x.change.signal k ≡ true) same of))

  module _ (closed : Closed sample set) (mine : ℕ → Bool) (one : mine i ≡ true → (j : ℕ) → i < j → j < length sample → has_place set j ≡ true → mine j ≡ true → (s : SeenChange)
      × (slice_get sample j ≡ Some s) × (is_of sample s.change.signal i ≡ true)) where
    -- no later one of them is in the set
    later : mine i ≡ true → (j : ℕ) → i < j → j < length sample → mine j ≡ true → has_place set j ≡ false
    later own j l m also = is_false (has_place set j) (λ on. let x = one own j l m on also in never (has_place set i) (closed j x.0 x.1 on i l x.2) n.off)

    module _ {A : Type 0} (says : ℕ → A) (first : A) where
      pub said_next : mine i ≡ true → said mine says first (has_place (with set i)) (length sample) ≡ says i
      said_next own =
          said_last mine says first (has_place (with set i)) i (length sample) near own (with_here set i n.off)
          (λ j l m also. with_other set i j n.off (λ e. absurd (omega (arith, l, e))) ∙ later own j l m also)

      -- of the set those before the place are said
      pub said_before : mine i ≡ true → ((j : ℕ) → j < i → mine j ≡ true → has_place set j ≡ true) → said mine says first (has_place set) (length sample) ≡ said mine says first (λ j. true) i
      said_before own all =
          said_up mine says first (has_place set) i (length sample) (omega (arith, near))
          (λ j l m also. by_order j l m also (cases_lt i j))
          ∙ said_same mine says first (has_place set) (λ j. true) i all
        where
          by_order : (j : ℕ) → i ≤ j → j < length sample → mine j ≡ true → (i < j) ⊎ (j ≤ i) → has_place set j ≡ false
          by_order j l m also (inl x) = later own j x m also
          by_order j l m also (inr x) = let e : i ≡ j = omega (arith, l, x) in subst (λ y. has_place set y ≡ false) e n.off

  module _ (mine : ℕ → Bool) where
    apart : mine i ≡ false → (j : ℕ) → mine j ≡ true → j ≢ i
    apart other j own e = never (mine i) (subst (λ k. mine k ≡ true) e own) other

    pub said_kept : {A : Type 0} (says : ℕ → A) (first : A) → mine i ≡ false → said mine says first (has_place (with set i)) (length sample) ≡ said mine says first (has_place set) (length sample)
    said_kept says first other =
        said_same mine says first (has_place (with set i)) (has_place set) (length sample) (λ j l own. with_other set i j n.off (apart other j own))

    pub count_kept : mine i ≡ false → count mine (has_place (with set i)) (length sample) ≡ count mine (has_place set) (length sample)
    count_kept other = count_same mine (has_place (with set i)) (has_place set) (length sample) (λ j l own. with_other set i j n.off (apart other j own))

    pub count_next : mine i ≡ true → count mine (has_place (with set i)) (length sample) ≡ count mine (has_place set) (length sample) + 1
    count_next own = count_more mine (has_place set) (has_place (with set i)) i (length sample) near own n.off (with_here set i n.off) (λ j e. with_other set i j n.off e)

  pub earlier_of : (x : Signal) → n.seen.change.signal ≡ x → (j : ℕ) → j < i → is_of sample x j ≡ true → has_place set j ≡ true
  earlier_of x is j l of = earlier_there sample n.seen.change.signal set i j n.earlier l (subst (λ y. is_of sample y j ≡ true) (sym is) of)
