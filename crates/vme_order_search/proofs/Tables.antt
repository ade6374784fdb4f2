-- The table of a layer.
use Rattle.std.proofs.Common.{◌≡◌, ◌≢◌, ◌⊎◌, inl, inr, ◌<◌, ◌≤◌, ◌+◌, ◌-◌, ◌++◌, ℕ, zero, suc, List, [], ◌∷◌}
use Rattle.std.proofs.Common.{length, refl, sym, ◌∙◌, subst, ap, arith, get_or, set, length-set, get_or-set_same}
use Rattle.std.proofs.Common.{get_or-set_other}
use Rattle.std.specs.List.{slice_get}
use Rattle.std.proofs.lemmas.Bool.{cases_lt}
use Rattle.std.proofs.lemmas.Option.{slice_get_within}
use Rattle.std.proofs.Math.ListN.{get_or-append}
use Rattle.std.proofs.Math.Seq.{get_or-append_seam}
use Rattle.vme_order_search.specs.declared.layers.Beginning.{Beginning}
use Rattle.vme_order_search.specs.declared.layers.Layer.{Layer}
use Rattle.vme_order_search.specs.Layers.{IsTable, StandsAt, StandsBelow}
use Rattle.vme_order_search.specs.Places.{bucket_of}
use Rattle.vme_order_search.proofs.Lists.{get_before, get_last, get_past, get_there, length_more}

-- ---- on the way through a bucket

pub before_falls : (l : Layer) (at : ℕ) → IsTable l → 0 < at → get_or l.before.items (at - 1) 0 < at
before_falls l at table some =
    let le : get_or l.before.items (at - 1) 0 ≤ at - 1 = table.falls (at - 1) in omega arith

pub before_stands : (l : Layer) (bucket at : ℕ) → IsTable l → 0 < at → StandsBelow l bucket at
    → 0 < get_or l.before.items (at - 1) 0
    → StandsBelow l bucket (get_or l.before.items (at - 1) 0)
before_stands l bucket at table some below more =
    subst (λ k. StandsBelow l k (get_or l.before.items (at - 1) 0)) below.2
    (table.same (at - 1) below.0 below.1 more)

before_at : (l : Layer) (bucket at i : ℕ) (b : Beginning) → IsTable l → 0 < at
    → StandsBelow l bucket at → StandsAt l i b → bucket_of b.taken ≡ bucket → i < at
    → (i < at - 1) ⊎ (at - 1 ≤ i) → (i ≡ at - 1 → ⊥) → i < get_or l.before.items (at - 1) 0
before_at l bucket at i b table some below there is lt (inl less) other =
    table.before i (at - 1) b below.0 there below.1 less (is ∙ sym below.2)
before_at l bucket at i b table some below there is lt (inr more) other =
    absurd (other (omega arith))

-- what is of the bucket, and is not the one that was seen, stands below the one before that
pub before_all : (l : Layer) (bucket at i : ℕ) (b : Beginning) → IsTable l → 0 < at
    → StandsBelow l bucket at → StandsAt l i b → bucket_of b.taken ≡ bucket → i < at
    → (i ≡ at - 1 → ⊥) → i < get_or l.before.items (at - 1) 0
before_all l bucket at i b table some below there is lt other =
    before_at l bucket at i b table some below there is lt (cases_lt i (at - 1)) other

-- ---- one more

-- a layer got one more beginning
pub record GotOne (l u : Layer) (b : Beginning) (before : ℕ) : Type 0 where
  pub kept : u.kept.items ≡ l.kept.items ++ b ∷ []
  pub before_items : u.before.items ≡ l.before.items ++ before ∷ []
  pub last_items : u.last.items ≡ set l.last.items (bucket_of b.taken) (length l.kept.items + 1)

-- where the one before it stands, of its bucket
pub record IsBefore (l : Layer) (b : Beginning) (before : ℕ) : Type 0 where
  pub few : before ≤ length l.kept.items
  pub all : (i : ℕ) (c : Beginning) → StandsAt l i c → bucket_of c.taken ≡ bucket_of b.taken
      → i < before
  pub ends : 0 < before → StandsBelow l (bucket_of b.taken) before

stands_more : (l u : Layer) (b c : Beginning) (before i : ℕ) → GotOne l u b before → StandsAt l i c
    → StandsAt u i c
stands_more l u b c before i got there =
    ap (λ xs. slice_get xs i) got.kept
    ∙ get_before l.kept.items b i (slice_get_within l.kept.items i c there) ∙ there

stands_less : (l u : Layer) (b c : Beginning) (before i : ℕ) → GotOne l u b before → StandsAt u i c
    → i < length l.kept.items → StandsAt l i c
stands_less l u b c before i got there lt =
    sym (get_before l.kept.items b i lt) ∙ ap (λ xs. slice_get xs i) (sym got.kept) ∙ there

stands_new : (l u : Layer) (b c : Beginning) (before i : ℕ) → GotOne l u b before → StandsAt u i c
    → length l.kept.items ≤ i → (i ≡ length l.kept.items) × (b ≡ c)
stands_new l u b c before i got there le =
    get_last l.kept.items b c i le (ap (λ xs. slice_get xs i) (sym got.kept) ∙ there)

below_more : (l u : Layer) (b : Beginning) (before bucket at : ℕ) → GotOne l u b before
    → StandsBelow l bucket at → StandsBelow u bucket at
below_more l u b before bucket at got below =
    (below.0, stands_more l u b below.0 before (at - 1) got below.1, below.2)

last_same : (l u : Layer) (b : Beginning) (before bucket : ℕ) → GotOne l u b before → IsTable l
    → bucket_of b.taken < 65536 → bucket ≡ bucket_of b.taken
    → get_or u.last.items bucket 0 ≡ length l.kept.items + 1
last_same l u b before bucket got table within is =
    let room : bucket_of b.taken < length l.last.items = subst (λ n. bucket_of b.taken < n) (sym table.room) within in
    ap (λ xs. get_or xs bucket 0) got.last_items
    ∙ ap (λ k. get_or (set l.last.items (bucket_of b.taken) (length l.kept.items + 1)) k 0) is
    ∙ get_or-set_same l.last.items (bucket_of b.taken) (length l.kept.items + 1) 0 room

last_other : (l u : Layer) (b : Beginning) (before bucket : ℕ) → GotOne l u b before
    → bucket ≢ bucket_of b.taken → get_or u.last.items bucket 0 ≡ get_or l.last.items bucket 0
last_other l u b before bucket got apart =
    ap (λ xs. get_or xs bucket 0) got.last_items
    ∙ get_or-set_other l.last.items (bucket_of b.taken) bucket (length l.kept.items + 1) 0 apart

new_below : (l u : Layer) (b : Beginning) (before : ℕ) → GotOne l u b before
    → StandsBelow u (bucket_of b.taken) (length l.kept.items + 1)
new_below l u b before got =
    let at : length l.kept.items + 1 - 1 ≡ length l.kept.items = omega arith in (
      b,
      ap (slice_get u.kept.items) at ∙ ap (λ xs. slice_get xs (length l.kept.items)) got.kept
          ∙ get_there l.kept.items b,
      refl,
    )

same_or_not : (m n : ℕ) → (m < n) ⊎ (n ≤ m) → (n < m) ⊎ (m ≤ n) → (m ≡ n) ⊎ (m ≢ n)
same_or_not m n (inl h) x = inr (λ e. absurd (omega arith))
same_or_not m n (inr h) (inl g) = inr (λ e. absurd (omega arith))
same_or_not m n (inr h) (inr g) = inl (omega arith)

-- of each that stands now, that its bucket's last is behind it, and is of its bucket
last_by : (l u : Layer) (b c : Beginning) (before i : ℕ) → GotOne l u b before → IsTable l
    → bucket_of b.taken < 65536 → StandsAt u i c
    → (bucket_of c.taken ≡ bucket_of b.taken) ⊎ (bucket_of c.taken ≢ bucket_of b.taken)
    → (i < length l.kept.items) ⊎ (length l.kept.items ≤ i)
    → (i < get_or u.last.items (bucket_of c.taken) 0)
    × StandsBelow u (bucket_of c.taken) (get_or u.last.items (bucket_of c.taken) 0)
last_by l u b c before i got table within there (inl same) x =
    let past : i < length l.kept.items + 1 =
    get_past l.kept.items b c i (ap (λ xs. slice_get xs i) (sym got.kept) ∙ there) in
    let is = last_same l u b before (bucket_of c.taken) got table within same in (
      subst (λ n. i < n) (sym is) past,
      subst (λ n. StandsBelow u (bucket_of c.taken) n) (sym is)
          (subst (λ k. StandsBelow u k (length l.kept.items + 1)) (sym same) (new_below l u b before got)),
    )
last_by l u b c before i got table within there (inr other) (inl lt) =
    let old : StandsAt l i c = stands_less l u b c before i got there lt in
    let is = last_other l u b before (bucket_of c.taken) got other in (
      subst (λ n. i < n) (sym is) (table.last i c old),
      subst (λ n. StandsBelow u (bucket_of c.taken) n) (sym is)
          (below_more l u b before (bucket_of c.taken) (get_or l.last.items (bucket_of c.taken) 0) got
          (table.ends i c old)),
    )
last_by l u b c before i got table within there (inr other) (inr le) =
    let new = stands_new l u b c before i got there le in
    absurd (other (ap (λ (x : Beginning). bucket_of x.taken) (sym new.1)))

last_in : (l u : Layer) (b c : Beginning) (before i : ℕ) → GotOne l u b before → IsTable l
    → bucket_of b.taken < 65536 → StandsAt u i c
    → (i < get_or u.last.items (bucket_of c.taken) 0)
    × StandsBelow u (bucket_of c.taken) (get_or u.last.items (bucket_of c.taken) 0)
last_in l u b c before i got table within there =
    last_by l u b c before i got table within there
    (same_or_not (bucket_of c.taken) (bucket_of b.taken)
    (cases_lt (bucket_of c.taken) (bucket_of b.taken))
    (cases_lt (bucket_of b.taken) (bucket_of c.taken)))
    (cases_lt i (length l.kept.items))

before_old : (l u : Layer) (b : Beginning) (before j : ℕ) → GotOne l u b before → IsTable l
    → j < length l.kept.items → get_or u.before.items j 0 ≡ get_or l.before.items j 0
before_old l u b before j got table lt =
    ap (λ xs. get_or xs j 0) got.before_items
    ∙ get_or-append l.before.items (before ∷ []) 0 j
    (subst (λ n. j < n) (sym table.both) lt)

before_new : (l u : Layer) (b : Beginning) (before j : ℕ) → GotOne l u b before → IsTable l
    → j ≡ length l.kept.items → get_or u.before.items j 0 ≡ before
before_new l u b before j got table is =
    ap (λ xs. get_or xs j 0) got.before_items
    ∙ ap (λ k. get_or (l.before.items ++ before ∷ []) k 0) (is ∙ sym table.both)
    ∙ get_or-append_seam l.before.items before [] 0

before_by : (l u : Layer) (b c d : Beginning) (before i j : ℕ) → GotOne l u b before → IsTable l
    → IsBefore l b before → StandsAt u i c → StandsAt u j d → i < j
    → bucket_of c.taken ≡ bucket_of d.taken → (j < length l.kept.items) ⊎ (length l.kept.items ≤ j)
    → i < get_or u.before.items j 0
before_by l u b c d before i j got table one first other lt same (inl low) =
    subst (λ n. i < n) (sym (before_old l u b before j got table low))
    (table.before i j c d (stands_less l u b c before i got first (omega arith))
    (stands_less l u b d before j got other low) lt same)
before_by l u b c d before i j got table one first other lt same (inr high) =
    let new = stands_new l u b d before j got other high in
    let at : j ≡ length l.kept.items = new.0 in
    subst (λ n. i < n) (sym (before_new l u b before j got table new.0))
    (one.all i c (stands_less l u b c before i got first (omega arith))
    (same ∙ ap (λ (x : Beginning). bucket_of x.taken) (sym new.1)))

same_by : (l u : Layer) (b d : Beginning) (before j : ℕ) → GotOne l u b before → IsTable l
    → IsBefore l b before → StandsAt u j d → 0 < get_or u.before.items j 0
    → (j < length l.kept.items) ⊎ (length l.kept.items ≤ j)
    → StandsBelow u (bucket_of d.taken) (get_or u.before.items j 0)
same_by l u b d before j got table one there some (inl low) =
    let is = before_old l u b before j got table low in
    subst (λ n. StandsBelow u (bucket_of d.taken) n) (sym is)
    (below_more l u b before (bucket_of d.taken) (get_or l.before.items j 0) got
    (table.same j d (stands_less l u b d before j got there low) (subst (λ n. 0 < n) is some)))
same_by l u b d before j got table one there some (inr high) =
    let new = stands_new l u b d before j got there high in
    let is = before_new l u b before j got table new.0 in
    subst (λ n. StandsBelow u (bucket_of d.taken) n) (sym is)
    (subst (λ (x : Beginning). StandsBelow u (bucket_of x.taken) before) new.1
    (below_more l u b before (bucket_of b.taken) before got (one.ends (subst (λ n. 0 < n) is some))))

falls_by : (l u : Layer) (b : Beginning) (before j : ℕ) → GotOne l u b before → IsTable l
    → IsBefore l b before → (j < length l.kept.items) ⊎ (length l.kept.items ≤ j)
    → (j < length l.kept.items + 1) ⊎ (length l.kept.items + 1 ≤ j)
    → get_or u.before.items j 0 ≤ j
falls_by l u b before j got table one (inl low) x =
    subst (λ n. n ≤ j) (sym (before_old l u b before j got table low)) (table.falls j)
falls_by l u b before j got table one (inr high) (inl low) =
    let at : j ≡ length l.kept.items = omega arith in
    let few : before ≤ length l.kept.items = one.few in
    subst (λ n. n ≤ j) (sym (before_new l u b before j got table at))
    (let le : before ≤ j = omega arith in le)
falls_by l u b before j got table one (inr high) (inr past) =
    let long : length u.before.items ≤ j = subst (λ n. n ≤ j)
    (sym (ap length got.before_items ∙ length_more l.before.items before ∙ ap (λ n. n + 1) table.both))
    past in
    subst (λ n. n ≤ j) (sym (past_zero u.before.items j long)) (omega arith)
  where
    past_zero : (xs : List ℕ) (j : ℕ) → length xs ≤ j → get_or xs j 0 ≡ 0
    past_zero [] j le = refl
    past_zero (x ∷ xs) zero le = absurd (omega arith)
    past_zero (x ∷ xs) (suc j) le = past_zero xs j (omega arith)

pub got_table : (l u : Layer) (b : Beginning) (before : ℕ) → GotOne l u b before → IsTable l
    → IsBefore l b before → bucket_of b.taken < 65536 → length l.kept.items + 1 < 4294967296
    → IsTable u
got_table l u b before got table one within few = record {
  room = ap length got.last_items ∙ length-set l.last.items (bucket_of b.taken) (length l.kept.items + 1)
      ∙ table.room;
  both = ap length got.before_items ∙ length_more l.before.items before ∙ ap (λ n. n + 1) table.both
      ∙ sym (ap length got.kept ∙ length_more l.kept.items b);
  few = subst (λ n. n < 4294967296) (sym (ap length got.kept ∙ length_more l.kept.items b)) few;
  last = λ i c there. (last_in l u b c before i got table within there).0;
  ends = λ i c there. (last_in l u b c before i got table within there).1;
  before = λ i j c d first other lt same. before_by l u b c d before i j got table one first other lt
      same (cases_lt j (length l.kept.items));
  falls = λ j. falls_by l u b before j got table one (cases_lt j (length l.kept.items))
      (cases_lt j (length l.kept.items + 1));
  same = λ j d there some. same_by l u b d before j got table one there some
      (cases_lt j (length l.kept.items));
}
