-- A list that is cut into moments has an order.
use Rattle.std.proofs.Common.{◌≡◌, ◌⊎◌, inl, inr, ◌<◌, ◌≤◌, ◌||◌, ℕ, Bool, true, false, eqb, List, [], ◌∷◌, Some, length, refl, sym, ◌∙◌, subst, ap, arith}
use Rattle.std.proofs.lemmas.Bool.Decides.{nat_tests}
use Rattle.std.specs.List.{slice_get}
use Rattle.vme_model.specs.declared.signals.Version.{Version}
use Rattle.vme_model.specs.declared.signals.Edge.{Edge}
use Rattle.vme_model.specs.Plan.{Plan}
use Rattle.vme_model.specs.Verdict.{IsLegal}
use Rattle.vme_moments.specs.declared.Seen.{Seen}
use Rattle.vme_moments.specs.declared.slacks.Slacks.{Slacks}
use Rattle.vme_moments.specs.Cuts.{AreDifferent, DoNotFall, IsNoLater, IsCutOf}
use Rattle.vme_moments.specs.Orders.{edges_at, has, IsBeginning, IsLegalBeginning}
use Rattle.vme_moments.proofs.Earlier.{TwoSeen, two_seen, place_within}

-- one of two tests holds
pub either : (a b : Bool) → (a || b) ≡ true → (a ≡ true) ⊎ (b ≡ true)
either true b h = inl refl
either false b h = inr h

pub second : (a b : Bool) → b ≡ true → (a || b) ≡ true
second true b h = refl
second false b h = h

pub same : (i j : ℕ) → eqb i j ≡ true → i ≡ j
same i j h = grind (arith, nat_tests)

-- the first of some places is one of them
pub first_is : (j : ℕ) (places : List ℕ) → has (j ∷ places) j ≡ true
first_is j places = let e : eqb j j ≡ true = grind (arith, nat_tests) in rw e refl

-- each place is one of these, or was seen no earlier than all of them
abbrev IsSplit : List Seen → List ℕ → Type 0
IsSplit ms places = (i : ℕ) → i < length ms
    → (has places i ≡ true) ⊎ ((k : ℕ) → has places k ≡ true → IsNoLater ms k i)

abbrev IsApart : List Seen → List ℕ → ℕ → Type 0
IsApart ms places i = (has places i ≡ true) ⊎ ((k : ℕ) → has places k ≡ true → IsNoLater ms k i)

split_front : (ms : List Seen) (j : ℕ) (places : List ℕ) (i : ℕ)
    → ((k : ℕ) → has places k ≡ true → IsNoLater ms k j)
    → (eqb j i ≡ true) ⊎ (has places i ≡ true) → IsApart ms places i
split_front ms j places i late (inl h) =
    inr (subst (λ n. (k : ℕ) → has places k ≡ true → IsNoLater ms k n) (same j i h) late)
split_front ms j places i late (inr h) = inl h

split_rest : (ms : List Seen) (j : ℕ) (places : List ℕ) (i : ℕ)
    → ((k : ℕ) → has places k ≡ true → IsNoLater ms k j)
    → IsApart ms (j ∷ places) i → IsApart ms places i
split_rest ms j places i late (inl h) =
    split_front ms j places i late (either (eqb j i) (has places i) h)
split_rest ms j places i late (inr h) = inr (λ k t. h k (second (eqb j k) (has places k) t))

some_same : (a b : Seen) → (Some a) ≡ (Some b) → a.moment ≡ b.moment
some_same a b h = cc

-- what came before a place, of which no other is a later one, is among those behind it
behind_first : (ms : List Seen) (j : ℕ) (places : List ℕ) (i : ℕ) → TwoSeen ms i j
    → IsApart ms (j ∷ places) i → has places i ≡ true
behind_first ms j places i two (inr h) =
    let late : two.other.moment ≤ two.first.moment =
    h j (first_is j places) two.other two.first two.other_is two.first_is in
    let early : two.first.moment < two.other.moment = two.earlier in
    absurd (omega arith)
behind_first ms j places i two (inl h) = behind_same ms j places i two (either (eqb j i) (has places i) h)
  where
    behind_same : (ms : List Seen) (j : ℕ) (places : List ℕ) (i : ℕ) → TwoSeen ms i j
        → (eqb j i ≡ true) ⊎ (has places i ≡ true) → has places i ≡ true
    behind_same ms j places i two (inr h) = h
    behind_same ms j places i two (inl h) =
        let early : two.first.moment < two.other.moment = two.earlier in
        let one : two.first.moment ≡ two.other.moment =
        some_same two.first two.other
        (sym two.first_is ∙ ap (λ n. slice_get ms n) (sym (same j i h)) ∙ two.other_is) in
        absurd (omega arith)

begins : (x : Slacks) (ms : List Seen) (places : List ℕ) → AreDifferent places
    → ((i : ℕ) → has places i ≡ true → i < length ms) → DoNotFall ms places → IsSplit ms places
    → IsBeginning x ms places
begins x ms [] different within fall split = tt
begins x ms (j ∷ places) different within fall split = (
  record {
    within = within j (first_is j places);
    new = different.0;
    behind = λ i t.
        let two = two_seen x ms i j t in
        behind_first ms j places i two (split i (place_within ms i two.first two.first_is));
  },
  begins x ms places different.1
      (λ i t. within i (second (eqb j i) (has places i) t)) fall.1
      (λ i lt. split_rest ms j places i fall.0 (split i lt)),
)

pub cut_has_order : (version : Version) (p : Plan) (x : Slacks) (h : List Edge) (ms : List Seen)
    → IsLegal version p h → IsCutOf h ms
    → (order : List ℕ) × (length order ≡ length ms) × (edges_at ms order ≡ h)
    × IsLegalBeginning version p x ms order
cut_has_order version p x h ms legal cut = (
  cut.places,
  cut.count,
  cut.edges,
  record {
    begins = begins x ms cut.places cut.different cut.within cut.moments
        (λ i lt. inl (cut.all i lt));
    legal = subst (λ (es : List Edge). IsLegal version p es) (sym cut.edges) legal;
  },
)
