-- The beginnings with one place more, as they are made.
use Rattle.std.proofs.Common.{◌≡◌, ◌⊎◌, inl, inr, ◌<◌, ◌≤◌, ◌+◌, ◌++◌, ℕ, zero, suc, Bool, true, false, eqb, cond, List, [], ◌∷◌, Some, length, refl, sym, ◌∙◌, subst, ap, arith}
use Rattle.std.specs.List.{slice_get}
use Rattle.std.proofs.lemmas.Bool.{cases_lt}
use Rattle.std.proofs.lemmas.Bool.Decides.{nat_tests}
use Rattle.std.proofs.lemmas.Option.{slice_get_within}
use Rattle.vme_moments.specs.Orders.{IsFree, IsLesser}
use Rattle.vme_bus.specs.declared.kinds.BusKind.{BusKind}
use Rattle.vme_order_search.specs.declared.layers.Beginning.{Beginning}
use Rattle.vme_order_search.specs.declared.taken.Taken.{Taken}
use Rattle.vme_order_search.specs.declared.trails.Trail.{Trail}
use Rattle.vme_order_search.specs.Places.{AreTaken, AreUnfree}
use Rattle.vme_order_search.specs.Trails.{Ends}
use Rattle.vme_order_search.specs.Searching.{Task, IsLegalIn, Leads, IsAtMost, IsKeptAs, StandsFor, AreKept, IsStoodFor, IsLeftOut, IsLayer, IsMade, IsDue, AreLonger}
use Rattle.vme_order_search.proofs.Lesser.{lesser_at_most, lesser_place}
use Rattle.vme_order_search.proofs.Legal.{front_legal, last_free}
use Rattle.vme_order_search.proofs.Lists.{get_before, get_last, get_there, length_more, none_there, one_there}

-- ---- before the first

zero_or : (n : ℕ) → (0 < n) ⊎ (0 ≡ n)
zero_or zero = inr refl
zero_or (suc n) = inl (omega arith)

first_behind : (place j : ℕ) → (0 < place) ⊎ (0 ≡ place)
    → (0 < place) ⊎ ((0 ≡ place) × (0 ≤ j))
first_behind place j (inl h) = inl h
first_behind place j (inr h) = inr (h, omega arith)

first_way : (t : Task) (cut : Bool) (bs : List Beginning) (paths longer : ℕ → List ℕ) (j : ℕ)
    (q : List ℕ) → IsStoodFor t bs paths q ⊎ IsLeftOut cut bs paths q
    → IsStoodFor t [] longer (j ∷ q) ⊎ IsDue t 0 0 bs paths j q ⊎ IsLeftOut cut bs paths q
first_way t cut bs paths longer j q (inl h) = inr (inl (record {
  place = h.place;
  by = h.by;
  is = h.is;
  stands = h.stands;
  behind = first_behind h.place j (zero_or h.place);
}))
first_way t cut bs paths longer j q (inr h) = inr (inr h)

pub none_longer : (t : Task) (trail : Trail) (cut : Bool) (n : ℕ) (bs : List Beginning)
    (paths : ℕ → List ℕ) → IsLayer t trail cut n bs paths
    → AreLonger t trail cut n 0 0 bs paths [] paths
none_longer t trail cut n bs paths layer = record {
  kept = record {
    each = λ i b h. absurd (none_there b i h);
    ascending = λ i j lt within. absurd (omega arith);
  };
  made = λ i within. absurd (omega arith);
  all = λ j q legal count. first_way t cut bs paths paths j q (layer.all q (front_legal t j q legal) count);
}

-- ---- places that were passed

wider : (front m from to place : ℕ) → from ≤ to → (front < m) ⊎ ((front ≡ m) × (place < from))
    → (front < m) ⊎ ((front ≡ m) × (place < to))
wider front m from to place h (inl g) = inl g
wider front m from to place h (inr g) =
    inr (g.0, (let lt : place < from = g.1 in let le : place < to = omega arith in le))

made_wider : (count m from to : ℕ) (paths : ℕ → List ℕ) (path : List ℕ) → from ≤ to
    → IsMade count m from paths path → IsMade count m to paths path
made_wider count m from to paths path h made = record {
  front = made.front;
  place = made.place;
  is = made.is;
  within = made.within;
  before = wider made.front m from to made.place h made.before;
}

-- what is said of the places that are passed behind the m-th beginning
abbrev pub ArePassed : Task → (m from to : ℕ) → (bs : List Beginning) → (ℕ → List ℕ)
    → List Beginning → (ℕ → List ℕ) → Type 0
ArePassed t m from to bs paths cs longer =
    (j : ℕ) (q : List ℕ) (b : Beginning) → slice_get bs m ≡ Some b → StandsFor t b (paths m) q
    → IsLegalIn t (j ∷ q) → from ≤ j → j < to → IsStoodFor t cs longer (j ∷ q)

pass_at : (t : Task) (cut : Bool) (m from to : ℕ) (bs : List Beginning) (paths : ℕ → List ℕ)
    (cs : List Beginning) (longer : ℕ → List ℕ) (j : ℕ) (q : List ℕ)
    → ArePassed t m from to bs paths cs longer → IsLegalIn t (j ∷ q) → (d : IsDue t m from bs paths j q)
    → (m < d.place) ⊎ ((m ≡ d.place) × (from ≤ j)) → (j < to) ⊎ (to ≤ j)
    → IsStoodFor t cs longer (j ∷ q) ⊎ IsDue t m to bs paths j q ⊎ IsLeftOut cut bs paths q
pass_at t cut m from to bs paths cs longer j q passed legal d (inl h) x = inr (inl (record {
  place = d.place;
  by = d.by;
  is = d.is;
  stands = d.stands;
  behind = inl h;
}))
pass_at t cut m from to bs paths cs longer j q passed legal d (inr h) (inl lt) =
    inl (passed j q d.by (subst (λ i. slice_get bs i ≡ Some d.by) (sym h.0) d.is)
    (subst (λ i. StandsFor t d.by (paths i) q) (sym h.0) d.stands) legal h.1 lt)
pass_at t cut m from to bs paths cs longer j q passed legal d (inr h) (inr le) = inr (inl (record {
  place = d.place;
  by = d.by;
  is = d.is;
  stands = d.stands;
  behind = inr (h.0, le);
}))

pass_way : (t : Task) (cut : Bool) (m from to : ℕ) (bs : List Beginning) (paths : ℕ → List ℕ)
    (cs : List Beginning) (longer : ℕ → List ℕ) (j : ℕ) (q : List ℕ)
    → ArePassed t m from to bs paths cs longer → IsLegalIn t (j ∷ q)
    → IsStoodFor t cs longer (j ∷ q) ⊎ IsDue t m from bs paths j q ⊎ IsLeftOut cut bs paths q
    → IsStoodFor t cs longer (j ∷ q) ⊎ IsDue t m to bs paths j q ⊎ IsLeftOut cut bs paths q
pass_way t cut m from to bs paths cs longer j q passed legal (inl h) = inl h
pass_way t cut m from to bs paths cs longer j q passed legal (inr (inl d)) =
    pass_at t cut m from to bs paths cs longer j q passed legal d d.behind (cases_lt j to)
pass_way t cut m from to bs paths cs longer j q passed legal (inr (inr h)) = inr (inr h)

pub pass : (t : Task) (trail : Trail) (cut : Bool) (n m from to : ℕ) (bs : List Beginning)
    (paths : ℕ → List ℕ) (cs : List Beginning) (longer : ℕ → List ℕ) → from ≤ to
    → ArePassed t m from to bs paths cs longer
    → AreLonger t trail cut n m from bs paths cs longer
    → AreLonger t trail cut n m to bs paths cs longer
pass t trail cut n m from to bs paths cs longer le passed h = record {
  kept = h.kept;
  made = λ i within. made_wider (length bs) m from to paths (longer i) le (h.made i within);
  all = λ j q legal count.
      pass_way t cut m from to bs paths cs longer j q passed legal (h.all j q legal count);
}

-- no place between can come next
pub unfree_passed : (t : Task) (m from to : ℕ) (bs : List Beginning) (paths : ℕ → List ℕ)
    (cs : List Beginning) (longer : ℕ → List ℕ) (b : Beginning) → slice_get bs m ≡ Some b
    → ((q : List ℕ) → AreTaken q b.taken → AreUnfree t.slacks t.seen q from to)
    → ArePassed t m from to bs paths cs longer
unfree_passed t m from to bs paths cs longer b is unfree j q c there stands legal le lt =
    let same : b ≡ c = one_there bs m b c is there in
    absurd (unfree q (subst (λ (x : Beginning). AreTaken q x.taken) (sym same) stands.taken) j le lt
    (last_free t j q legal))

-- ---- the next beginning

next_made : (count m from : ℕ) (paths : ℕ → List ℕ) (path : List ℕ)
    → IsMade count m from paths path → IsMade count (m + 1) 0 paths path
next_made count m from paths path made = record {
  front = made.front;
  place = made.place;
  is = made.is;
  within = made.within;
  before = inl (before made.front m from made.place made.before);
}
  where
    before : (front m from place : ℕ) → (front < m) ⊎ ((front ≡ m) × (place < from)) → front < m + 1
    before front m from place (inl h) = omega arith
    before front m from place (inr h) = let e : front ≡ m = h.0 in omega arith

next_at : (t : Task) (cut : Bool) (m from : ℕ) (bs : List Beginning) (paths : ℕ → List ℕ)
    (cs : List Beginning) (longer : ℕ → List ℕ) (j : ℕ) (q : List ℕ)
    → ((b : Beginning) → slice_get bs m ≡ Some b → StandsFor t b (paths m) q
    → IsLegalIn t (j ∷ q) → from ≤ j → ⊥) → IsLegalIn t (j ∷ q) → (d : IsDue t m from bs paths j q)
    → (m < d.place) ⊎ ((m ≡ d.place) × (from ≤ j)) → (m + 1 < d.place) ⊎ (d.place ≤ m + 1)
    → IsStoodFor t cs longer (j ∷ q) ⊎ IsDue t (m + 1) 0 bs paths j q ⊎ IsLeftOut cut bs paths q
next_at t cut m from bs paths cs longer j q none legal d (inl h) (inl lt) = inr (inl (record {
  place = d.place;
  by = d.by;
  is = d.is;
  stands = d.stands;
  behind = inl lt;
}))
next_at t cut m from bs paths cs longer j q none legal d (inl h) (inr le) = inr (inl (record {
  place = d.place;
  by = d.by;
  is = d.is;
  stands = d.stands;
  behind = inr (omega arith, omega arith);
}))
next_at t cut m from bs paths cs longer j q none legal d (inr h) x =
    absurd (none d.by (subst (λ i. slice_get bs i ≡ Some d.by) (sym h.0) d.is)
    (subst (λ i. StandsFor t d.by (paths i) q) (sym h.0) d.stands) legal h.1)

next_way : (t : Task) (cut : Bool) (m from : ℕ) (bs : List Beginning) (paths : ℕ → List ℕ)
    (cs : List Beginning) (longer : ℕ → List ℕ) (j : ℕ) (q : List ℕ)
    → ((b : Beginning) → slice_get bs m ≡ Some b → StandsFor t b (paths m) q
    → IsLegalIn t (j ∷ q) → from ≤ j → ⊥) → IsLegalIn t (j ∷ q)
    → IsStoodFor t cs longer (j ∷ q) ⊎ IsDue t m from bs paths j q ⊎ IsLeftOut cut bs paths q
    → IsStoodFor t cs longer (j ∷ q) ⊎ IsDue t (m + 1) 0 bs paths j q ⊎ IsLeftOut cut bs paths q
next_way t cut m from bs paths cs longer j q none legal (inl h) = inl h
next_way t cut m from bs paths cs longer j q none legal (inr (inl d)) =
    next_at t cut m from bs paths cs longer j q none legal d d.behind (cases_lt (m + 1) d.place)
next_way t cut m from bs paths cs longer j q none legal (inr (inr h)) = inr (inr h)

unfree_none : (t : Task) (m from : ℕ) (bs : List Beginning) (paths : ℕ → List ℕ) (b : Beginning)
    → slice_get bs m ≡ Some b
    → ((q : List ℕ) → AreTaken q b.taken → AreUnfree t.slacks t.seen q from (length t.seen))
    → (j : ℕ) (q : List ℕ) (c : Beginning) → slice_get bs m ≡ Some c → StandsFor t c (paths m) q
    → IsLegalIn t (j ∷ q) → from ≤ j → ⊥
unfree_none t m from bs paths b is unfree j q c there stands legal le =
    let same : b ≡ c = one_there bs m b c is there in
    let free : IsFree t.slacks t.seen q j = last_free t j q legal in
    unfree q (subst (λ (x : Beginning). AreTaken q x.taken) (sym same) stands.taken) j le
    free.within free

-- no place is left behind the m-th beginning
pub next_one : (t : Task) (trail : Trail) (cut : Bool) (n m from : ℕ) (bs : List Beginning)
    (paths : ℕ → List ℕ) (cs : List Beginning) (longer : ℕ → List ℕ) (b : Beginning)
    → slice_get bs m ≡ Some b
    → ((q : List ℕ) → AreTaken q b.taken → AreUnfree t.slacks t.seen q from (length t.seen))
    → AreLonger t trail cut n m from bs paths cs longer
    → AreLonger t trail cut n (m + 1) 0 bs paths cs longer
next_one t trail cut n m from bs paths cs longer b is unfree h = record {
  kept = h.kept;
  made = λ i within. next_made (length bs) m from paths (longer i) (h.made i within);
  all = λ j q legal count.
      next_way t cut m from bs paths cs longer j q
      (unfree_none t m from bs paths b is unfree j q) legal (h.all j q legal count);
}

-- ---- one that is like one that is kept

-- what was made is less than what comes of a place that is still to be tried
made_lesser : (m from place count : ℕ) (paths : ℕ → List ℕ) (path q : List ℕ)
    → ((i j : ℕ) → i < j → j < count → IsLesser (paths i) (paths j)) → m < count → from ≤ place
    → IsMade count m from paths path → IsAtMost (paths m) q → IsLesser path (place ∷ q)
made_lesser m from place count paths path q ascending within le made most =
    subst (λ l. IsLesser l (place ∷ q)) (sym made.is)
    (by_front m from place count paths q made.front made.place ascending within le most made.before)
  where
    by_front : (m from place count : ℕ) (paths : ℕ → List ℕ) (q : List ℕ) (front j : ℕ)
        → ((i j : ℕ) → i < j → j < count → IsLesser (paths i) (paths j)) → m < count
        → from ≤ place → IsAtMost (paths m) q → (front < m) ⊎ ((front ≡ m) × (j < from))
        → IsLesser (j ∷ paths front) (place ∷ q)
    by_front m from place count paths q front j ascending within le most (inl h) =
        inl (lesser_at_most (paths front) (paths m) q (ascending front m h within) most)
    by_front m from place count paths q front j ascending within le most (inr h) =
        lesser_place j place (paths front) q
        (subst (λ i. IsAtMost (paths i) q) (sym h.0) most)
        (let lt : j < from = h.1 in let e : j < place = omega arith in e)

-- a beginning that was made has the places of the one that would come next, and leads to the same
pub stood_by_like : (t : Task) (trail : Trail) (cut : Bool) (n m place i : ℕ) (bs : List Beginning)
    (paths : ℕ → List ℕ) (cs : List Beginning) (longer : ℕ → List ℕ) (c : Beginning)
    (taken : Taken) (bus : BusKind) → m < length bs → AreKept t trail n bs paths
    → AreLonger t trail cut n m place bs paths cs longer → slice_get cs i ≡ Some c
    → c.taken ≡ taken → c.bus ≡ bus → (q : List ℕ) → IsAtMost (paths m) q
    → AreTaken (place ∷ q) taken → Leads t (place ∷ q) bus → IsStoodFor t cs longer (place ∷ q)
stood_by_like t trail cut n m place i bs paths cs longer c taken bus within kept h is same like q most
    takes leads = record {
      place = i;
      by = c;
      is = is;
      stands = record {
        leads = subst (λ k. Leads t (place ∷ q) k) (sym like) leads;
        taken = subst (λ k. AreTaken (place ∷ q) k) (sym same) takes;
        most = inr (made_lesser m place place (length bs) paths (longer i) q kept.ascending within
            (let e : place ≤ place = omega arith in e) (h.made i (slice_get_within cs i c is)) most);
      };
    }

-- ---- one more that is kept

-- the lists, and one more behind so many
abbrev pub with_path : (ℕ → List ℕ) → ℕ → List ℕ → ℕ → List ℕ
with_path longer count path i = cond (eqb i count) path (longer i)

pub path_before : (longer : ℕ → List ℕ) (count : ℕ) (path : List ℕ) (i : ℕ) → i < count
    → with_path longer count path i ≡ longer i
path_before longer count path i lt =
    let e : eqb i count ≡ false = grind (arith, nat_tests) in ap (λ b. cond b path (longer i)) e

pub path_there : (longer : ℕ → List ℕ) (count : ℕ) (path : List ℕ) (i : ℕ) → i ≡ count
    → with_path longer count path i ≡ path
path_there longer count path i is =
    let e : eqb i count ≡ true = grind (arith, nat_tests) in ap (λ b. cond b path (longer i)) e

kept_later : (t : Task) (trail later : Trail) (n : ℕ) (b : Beginning) (path : List ℕ)
    → ((step : ℕ) (path : List ℕ) → Ends trail step path → Ends later step path)
    → IsKeptAs t trail n b path → IsKeptAs t later n b path
kept_later t trail later n b path more h = record {
  legal = h.legal;
  count = h.count;
  ends = more b.step path h.ends;
  taken = h.taken;
  leads = h.leads;
}

-- the trail went on
pub layer_later : (t : Task) (trail later : Trail) (cut : Bool) (n : ℕ) (bs : List Beginning)
    (paths : ℕ → List ℕ)
    → ((step : ℕ) (path : List ℕ) → Ends trail step path → Ends later step path)
    → IsLayer t trail cut n bs paths → IsLayer t later cut n bs paths
layer_later t trail later cut n bs paths more h = record {
  kept = record {
    each = λ i b is. kept_later t trail later n b (paths i) more (h.kept.each i b is);
    ascending = h.kept.ascending;
  };
  all = h.all;
}

each_more : (t : Task) (trail later : Trail) (n : ℕ) (cs : List Beginning) (longer : ℕ → List ℕ)
    (c : Beginning) (path : List ℕ)
    → ((step : ℕ) (path : List ℕ) → Ends trail step path → Ends later step path)
    → ((i : ℕ) (b : Beginning) → slice_get cs i ≡ Some b → IsKeptAs t trail n b (longer i))
    → IsKeptAs t later n c path → (i : ℕ) (b : Beginning) → slice_get (cs ++ c ∷ []) i ≡ Some b
    → (i < length cs) ⊎ (length cs ≤ i)
    → IsKeptAs t later n b (with_path longer (length cs) path i)
each_more t trail later n cs longer c path more each kept i b is (inl lt) =
    subst (λ l. IsKeptAs t later n b l) (sym (path_before longer (length cs) path i lt))
    (kept_later t trail later n b (longer i) more (each i b (sym (get_before cs c i lt) ∙ is)))
each_more t trail later n cs longer c path more each kept i b is (inr le) =
    let last = get_last cs c b i le is in
    subst (λ (x : Beginning). IsKeptAs t later n x (with_path longer (length cs) path i)) last.1
    (subst (λ l. IsKeptAs t later n c l) (sym (path_there longer (length cs) path i last.0)) kept)

ascending_more : (cs : List Beginning) (longer : ℕ → List ℕ) (path : List ℕ)
    → ((i j : ℕ) → i < j → j < length cs → IsLesser (longer i) (longer j))
    → ((i : ℕ) → i < length cs → IsLesser (longer i) path) → (i j : ℕ) → i < j
    → j < length cs + 1 → (j < length cs) ⊎ (length cs ≤ j)
    → IsLesser (with_path longer (length cs) path i) (with_path longer (length cs) path j)
ascending_more cs longer path ascending last i j lt within (inl low) =
    let first : i < length cs = omega arith in
    subst (λ l. IsLesser l (with_path longer (length cs) path j))
    (sym (path_before longer (length cs) path i first))
    (subst (λ l. IsLesser (longer i) l) (sym (path_before longer (length cs) path j low))
    (ascending i j lt low))
ascending_more cs longer path ascending last i j lt within (inr high) =
    let first : i < length cs = omega arith in
    let at : j ≡ length cs = omega arith in
    subst (λ l. IsLesser l (with_path longer (length cs) path j))
    (sym (path_before longer (length cs) path i first))
    (subst (λ l. IsLesser (longer i) l) (sym (path_there longer (length cs) path j at)) (last i first))

made_more : (count m place : ℕ) (paths : ℕ → List ℕ) (cs : List Beginning) (longer : ℕ → List ℕ)
    → m < count
    → ((i : ℕ) → i < length cs → IsMade count m place paths (longer i)) → (i : ℕ)
    → i < length cs + 1 → (i < length cs) ⊎ (length cs ≤ i)
    → IsMade count m (place + 1) paths (with_path longer (length cs) (place ∷ paths m) i)
made_more count m place paths cs longer within made i lt (inl low) =
    subst (λ l. IsMade count m (place + 1) paths l)
    (sym (path_before longer (length cs) (place ∷ paths m) i low))
    (made_wider count m place (place + 1) paths (longer i)
    (let e : place ≤ place + 1 = omega arith in e) (made i low))
made_more count m place paths cs longer within made i lt (inr high) =
    let at : i ≡ length cs = omega arith in
    subst (λ l. IsMade count m (place + 1) paths l)
    (sym (path_there longer (length cs) (place ∷ paths m) i at)) (record {
      front = m;
      place = place;
      is = refl;
      within = within;
      before = inr (refl, (let e : place < place + 1 = omega arith in e));
    })

stood_more : (t : Task) (cs : List Beginning) (longer : ℕ → List ℕ) (c : Beginning) (path q : List ℕ)
    → IsStoodFor t cs longer q → IsStoodFor t (cs ++ c ∷ []) (with_path longer (length cs) path) q
stood_more t cs longer c path q h =
    let lt : h.place < length cs = slice_get_within cs h.place h.by h.is in
    record {
      place = h.place;
      by = h.by;
      is = get_before cs c h.place lt ∙ h.is;
      stands = subst (λ l. StandsFor t h.by l q)
          (sym (path_before longer (length cs) path h.place lt)) h.stands;
    }

stood_last : (t : Task) (cs : List Beginning) (longer : ℕ → List ℕ) (c : Beginning) (path q : List ℕ)
    → StandsFor t c path q → IsStoodFor t (cs ++ c ∷ []) (with_path longer (length cs) path) q
stood_last t cs longer c path q h = record {
  place = length cs;
  by = c;
  is = get_there cs c;
  stands = subst (λ l. StandsFor t c l q) (sym (path_there longer (length cs) path (length cs) refl)) h;
}

way_more : (t : Task) (cut : Bool) (m place : ℕ) (bs : List Beginning) (paths : ℕ → List ℕ)
    (cs : List Beginning) (longer : ℕ → List ℕ) (c : Beginning) (path : List ℕ) (j : ℕ) (q : List ℕ)
    → IsStoodFor t cs longer (j ∷ q) ⊎ IsDue t m place bs paths j q ⊎ IsLeftOut cut bs paths q
    → IsStoodFor t (cs ++ c ∷ []) (with_path longer (length cs) path) (j ∷ q)
    ⊎ IsDue t m place bs paths j q ⊎ IsLeftOut cut bs paths q
way_more t cut m place bs paths cs longer c path j q (inl h) =
    inl (stood_more t cs longer c path (j ∷ q) h)
way_more t cut m place bs paths cs longer c path j q (inr h) = inr h

last_passed : (t : Task) (m place : ℕ) (bs : List Beginning) (paths : ℕ → List ℕ)
    (cs : List Beginning) (longer : ℕ → List ℕ) (c : Beginning)
    → ((q : List ℕ) (b : Beginning) → slice_get bs m ≡ Some b → StandsFor t b (paths m) q
    → IsLegalIn t (place ∷ q) → StandsFor t c (place ∷ paths m) (place ∷ q))
    → ArePassed t m place (place + 1) bs paths (cs ++ c ∷ [])
    (with_path longer (length cs) (place ∷ paths m))
last_passed t m place bs paths cs longer c stands j q b is by legal le lt =
    let at : place ≡ j = omega arith in
    stood_last t cs longer c (place ∷ paths m) (j ∷ q)
    (subst (λ k. StandsFor t c (place ∷ paths m) (k ∷ q)) at
    (stands q b is by (subst (λ k. IsLegalIn t (k ∷ q)) (sym at) legal)))

-- one more is kept, and stands for what its place makes of all that the m-th stands for
pub keep_more : (t : Task) (trail later : Trail) (cut : Bool) (n m place : ℕ) (bs : List Beginning)
    (paths : ℕ → List ℕ) (cs : List Beginning) (longer : ℕ → List ℕ) (c : Beginning)
    → m < length bs → AreKept t trail n bs paths
    → ((step : ℕ) (path : List ℕ) → Ends trail step path → Ends later step path)
    → IsKeptAs t later (n + 1) c (place ∷ paths m)
    → ((q : List ℕ) (b : Beginning) → slice_get bs m ≡ Some b → StandsFor t b (paths m) q
    → IsLegalIn t (place ∷ q) → StandsFor t c (place ∷ paths m) (place ∷ q))
    → AreLonger t trail cut n m place bs paths cs longer
    → AreLonger t later cut n m (place + 1) bs paths (cs ++ c ∷ [])
    (with_path longer (length cs) (place ∷ paths m))
keep_more t trail later cut n m place bs paths cs longer c within kept more new stands h = record {
  kept = record {
    each = λ i b is. each_more t trail later (n + 1) cs longer c (place ∷ paths m) more h.kept.each
        new i b is (cases_lt i (length cs));
    ascending = λ i j lt low. ascending_more cs longer (place ∷ paths m) h.kept.ascending
        (λ k near. made_lesser m place place (length bs) paths (longer k) (paths m) kept.ascending
        within (let e : place ≤ place = omega arith in e) (h.made k near) (inl refl))
        i j lt (subst (λ k. j < k) (length_more cs c) low) (cases_lt j (length cs));
  };
  made = λ i low. made_more (length bs) m place paths cs longer within h.made i
      (subst (λ k. i < k) (length_more cs c) low) (cases_lt i (length cs));
  all = λ j q legal count.
      pass_way t cut m place (place + 1) bs paths (cs ++ c ∷ [])
      (with_path longer (length cs) (place ∷ paths m)) j q
      (last_passed t m place bs paths cs longer c stands) legal
      (way_more t cut m place bs paths cs longer c (place ∷ paths m) j q (h.all j q legal count));
}

-- ---- the end of a layer

ends_cut : (t : Task) (cut : Bool) (m from : ℕ) (bs : List Beginning) (paths : ℕ → List ℕ)
    (cs : List Beginning) (longer : ℕ → List ℕ) (j : ℕ) (q : List ℕ)
    → ((i k : ℕ) → i < k → k < length bs → IsLesser (paths i) (paths k))
    → ((i : ℕ) → i < length cs → IsMade (length bs) m from paths (longer i))
    → IsStoodFor t cs longer (j ∷ q) ⊎ IsDue t m from bs paths j q ⊎ IsLeftOut cut bs paths q
    → IsStoodFor t cs longer (j ∷ q) ⊎ IsLeftOut true cs longer (j ∷ q)
ends_cut t cut m from bs paths cs longer j q ascending made (inl h) = inl h
ends_cut t cut m from bs paths cs longer j q ascending made (inr (inl d)) = inr (record {
  cut = refl;
  beyond = λ i lt. before_due m from bs paths (longer i) j q d.place ascending
      (slice_get_within bs d.place d.by d.is) (made i lt) d.stands.most d.behind;
})
  where
    by_front : (m from : ℕ) (bs : List Beginning) (paths : ℕ → List ℕ) (front p j : ℕ) (q : List ℕ)
        (place : ℕ) → ((i k : ℕ) → i < k → k < length bs → IsLesser (paths i) (paths k))
        → place < length bs → (front < m) ⊎ ((front ≡ m) × (p < from)) → IsAtMost (paths place) q
        → (m < place) ⊎ ((m ≡ place) × (from ≤ j)) → IsLesser (p ∷ paths front) (j ∷ q)
    by_front m from bs paths front p j q place ascending within (inl h) most (inl g) =
        inl (lesser_at_most (paths front) (paths place) q
        (ascending front place (let e : front < place = omega arith in e) within) most)
    by_front m from bs paths front p j q place ascending within (inl h) most (inr g) =
        inl (lesser_at_most (paths front) (paths place) q
        (ascending front place (let e : m ≡ place = g.0 in let f : front < place = omega arith in f) within)
        most)
    by_front m from bs paths front p j q place ascending within (inr h) most (inl g) =
        inl (lesser_at_most (paths front) (paths place) q
        (ascending front place (let e : front ≡ m = h.0 in let f : front < place = omega arith in f) within)
        most)
    by_front m from bs paths front p j q place ascending within (inr h) most (inr g) =
        lesser_place p j (paths front) q (subst (λ i. IsAtMost (paths i) q) (sym (h.0 ∙ g.0)) most)
        (let a : p < from = h.1 in let b : from ≤ j = g.1 in let e : p < j = omega arith in e)

    before_due : (m from : ℕ) (bs : List Beginning) (paths : ℕ → List ℕ) (path : List ℕ) (j : ℕ)
        (q : List ℕ) (place : ℕ)
        → ((i k : ℕ) → i < k → k < length bs → IsLesser (paths i) (paths k)) → place < length bs
        → IsMade (length bs) m from paths path → IsAtMost (paths place) q
        → (m < place) ⊎ ((m ≡ place) × (from ≤ j)) → IsLesser path (j ∷ q)
    before_due m from bs paths path j q place ascending within made most behind =
        subst (λ l. IsLesser l (j ∷ q)) (sym made.is)
        (by_front m from bs paths made.front made.place j q place ascending within made.before most behind)
ends_cut t cut m from bs paths cs longer j q ascending made (inr (inr h)) = inr (record {
  cut = refl;
  beyond = λ i lt. before_left bs paths (longer i) m from j q h.beyond (made i lt);
})
  where
    before_left : (bs : List Beginning) (paths : ℕ → List ℕ) (path : List ℕ) (m from j : ℕ) (q : List ℕ)
        → ((i : ℕ) → i < length bs → IsLesser (paths i) q) → IsMade (length bs) m from paths path
        → IsLesser path (j ∷ q)
    before_left bs paths path m from j q beyond made =
        subst (λ l. IsLesser l (j ∷ q)) (sym made.is) (inl (beyond made.front made.within))

longer_of : (t : Task) (n : ℕ) (P : List ℕ → Type 0)
    → ((j : ℕ) (q : List ℕ) → IsLegalIn t (j ∷ q) → length q ≡ n → P (j ∷ q))
    → (q : List ℕ) → IsLegalIn t q → length q ≡ n + 1 → P q
longer_of t n P all [] legal count = absurd (omega arith)
longer_of t n P all (j ∷ q) legal count = all j q legal (let e : length q ≡ n = omega arith in e)

-- there was no room for more
pub cut_here : (t : Task) (trail : Trail) (cut : Bool) (n m from : ℕ) (bs : List Beginning)
    (paths : ℕ → List ℕ) (cs : List Beginning) (longer : ℕ → List ℕ) → AreKept t trail n bs paths
    → AreLonger t trail cut n m from bs paths cs longer → IsLayer t trail true (n + 1) cs longer
cut_here t trail cut n m from bs paths cs longer kept h = record {
  kept = h.kept;
  all = longer_of t n (λ q. IsStoodFor t cs longer q ⊎ IsLeftOut true cs longer q)
      (λ j q legal count. ends_cut t cut m from bs paths cs longer j q kept.ascending h.made
      (h.all j q legal count));
}

ends_whole : (t : Task) (cut : Bool) (m from : ℕ) (bs : List Beginning) (paths : ℕ → List ℕ)
    (cs : List Beginning) (longer : ℕ → List ℕ) (j : ℕ) (q : List ℕ) → length bs ≤ m
    → ((i : ℕ) → i < length cs → IsMade (length bs) m from paths (longer i))
    → IsStoodFor t cs longer (j ∷ q) ⊎ IsDue t m from bs paths j q ⊎ IsLeftOut cut bs paths q
    → IsStoodFor t cs longer (j ∷ q) ⊎ IsLeftOut cut cs longer (j ∷ q)
ends_whole t cut m from bs paths cs longer j q past made (inl h) = inl h
ends_whole t cut m from bs paths cs longer j q past made (inr (inl d)) =
    absurd (too_far m from d.place (length bs) j past (slice_get_within bs d.place d.by d.is) d.behind)
  where
    too_far : (m from place count j : ℕ) → count ≤ m → place < count
        → (m < place) ⊎ ((m ≡ place) × (from ≤ j)) → ⊥
    too_far m from place count j le lt (inl h) = absurd (omega arith)
    too_far m from place count j le lt (inr h) = absurd (let e : m ≡ place = h.0 in omega arith)
ends_whole t cut m from bs paths cs longer j q past made (inr (inr h)) = inr (record {
  cut = h.cut;
  beyond = λ i lt. before_left bs paths (longer i) m from j q h.beyond (made i lt);
})
  where
    before_left : (bs : List Beginning) (paths : ℕ → List ℕ) (path : List ℕ) (m from j : ℕ) (q : List ℕ)
        → ((i : ℕ) → i < length bs → IsLesser (paths i) q) → IsMade (length bs) m from paths path
        → IsLesser path (j ∷ q)
    before_left bs paths path m from j q beyond made =
        subst (λ l. IsLesser l (j ∷ q)) (sym made.is) (inl (beyond made.front made.within))

-- all were made
pub made_whole : (t : Task) (trail : Trail) (cut : Bool) (n m from : ℕ) (bs : List Beginning)
    (paths : ℕ → List ℕ) (cs : List Beginning) (longer : ℕ → List ℕ) → length bs ≤ m
    → AreLonger t trail cut n m from bs paths cs longer → IsLayer t trail cut (n + 1) cs longer
made_whole t trail cut n m from bs paths cs longer past h = record {
  kept = h.kept;
  all = longer_of t n (λ q. IsStoodFor t cs longer q ⊎ IsLeftOut cut cs longer q)
      (λ j q legal count. ends_whole t cut m from bs paths cs longer j q past h.made
      (h.all j q legal count));
}
