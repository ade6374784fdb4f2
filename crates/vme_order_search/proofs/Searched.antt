-- What a search keeps, step by step.
use Rattle.std.proofs.Common.{◌≡◌, ◌≢◌, ◌⊎◌, inl, inr, ◌<◌, ◌≤◌, ◌+◌, ◌++◌, ◌||◌, ℕ, zero, suc, Bool, true, List, [], ◌∷◌, All, Some, length, refl, sym, ◌∙◌, subst, ap, arith}
use Rattle.std.specs.Prelude.{◌==◌, Result, Ok, Err, IfOk}
use Rattle.std.specs.List.{slice_get}
use Rattle.std.proofs.lemmas.Option.{slice_get_within}
use Rattle.vme_moments.specs.Orders.{HasFarPlace}
use Rattle.vme_bus.specs.declared.kinds.BusKind.{BusKind}
use Rattle.vme_bus.specs.declared.states.BusState.{BusState}
use Rattle.vme_bus.specs.Kinds.{kind_of}
use Rattle.vme_order_search.specs.declared.layers.Beginning.{Beginning}
use Rattle.vme_order_search.specs.declared.layers.Layer.{Layer}
use Rattle.vme_order_search.specs.declared.OrderFault.{OrderFault}
use Rattle.vme_order_search.specs.declared.search.Room.{Room}
use Rattle.vme_order_search.specs.declared.search.Room.TheVariants.{Enough, Lacking}
use Rattle.vme_order_search.specs.declared.search.Search.{Search}
use Rattle.vme_order_search.specs.declared.taken.Taken.{Taken}
use Rattle.vme_order_search.specs.declared.trails.Trail.{Trail}
use Rattle.vme_order_search.specs.Places.{AreTaken, AreUnfree, holds}
use Rattle.vme_order_search.specs.TooMany.{AreSamePlaces, HasManySets, HasTooMany}
use Rattle.vme_order_search.specs.Trails.{Ends}
use Rattle.vme_order_search.specs.Searching.{Task, AreKept, AreLonger, AreSets, GoesOn, HasLayer, HasLonger, IsBusOf}
use Rattle.vme_order_search.specs.Searching.{IsGrown, IsKeptAs, IsLayer, IsLeftOut, IsLegalIn, IsStoodFor, IsUnderWay}
use Rattle.vme_order_search.specs.Searching.{Leads, StandsFor}
use Rattle.vme_order_search.proofs.Lesser.{at_most_longer}
use Rattle.vme_order_search.proofs.Lists.{length_more, one_there}
use Rattle.vme_order_search.proofs.Longer.{ArePassed, cut_here, keep_more, layer_later, made_whole, next_one, none_longer, pass, path_before, path_there, stood_by_like, unfree_passed, with_path}
use Rattle.vme_order_search.proofs.Sets.{at_least, below_least, one_set}

-- what holds with room and without holds of each answer
pub in_room : (r : Result Room OrderFault) (Is : Room → Type 0) → (r ≡ Ok Enough → Is Enough) → (r ≡ Ok Lacking → Is Lacking) → IfOk r Is
in_room (Ok Enough) Is enough lacking = enough refl
in_room (Ok Lacking) Is enough lacking = lacking refl
in_room (Err f) Is enough lacking = tt

-- ---- a place is passed

-- other states of the bus, and places that were passed
pub passed_to : (t : Task) (n m from to : ℕ) (s : Search) (b : BusState) (w : IsUnderWay t n m from s)
    → from ≤ to → IsBusOf t b
    → ArePassed t m from to s.layer.kept.items w.paths s.longer.kept.items w.longer
    → IsUnderWay t n m to (record s { state = b })
passed_to t n m from to s b w le bus passed = record {
  bus = bus;
  paths = w.paths;
  longer = w.longer;
  layer = w.layer;
  made = pass t s.trail s.is_cut n m from to s.layer.kept.items w.paths s.longer.kept.items w.longer le
      passed w.made;
  sets = w.sets;
  cut = w.cut;
}

pub other_state : (t : Task) (n m from : ℕ) (s : Search) (b : BusState) → IsUnderWay t n m from s
    → IsBusOf t b → IsUnderWay t n m from (record s { state = b })
other_state t n m from s b w bus = record {
  bus = bus;
  paths = w.paths;
  longer = w.longer;
  layer = w.layer;
  made = w.made;
  sets = w.sets;
  cut = w.cut;
}

-- no place between can come next
pub unfree_to : (t : Task) (n m from to : ℕ) (s : Search) (front : Beginning)
    → IsUnderWay t n m from s → slice_get s.layer.kept.items m ≡ Some front → from ≤ to
    → ((q : List ℕ) → AreTaken q front.taken → AreUnfree t.slacks t.seen q from to)
    → IsUnderWay t n m to s
unfree_to t n m from to s front w is le unfree =
    passed_to t n m from to s s.state w le w.bus
    (unfree_passed t m from to s.layer.kept.items w.paths s.longer.kept.items w.longer front is unfree)

-- the edge is refused at a place
pub refused_place : (t : Task) (n m place : ℕ) (s : Search) (front : Beginning) (b : BusState)
    → IsUnderWay t n m place s → slice_get s.layer.kept.items m ≡ Some front
    → ((q : List ℕ) → Leads t q front.bus → IsLegalIn t (place ∷ q) → ⊥) → IsBusOf t b
    → IsUnderWay t n m (place + 1) (record s { state = b })
refused_place t n m place s front b w is refused bus =
    passed_to t n m place (place + 1) s b w (let e : place ≤ place + 1 = omega arith in e) bus
    (λ j q c there stands legal le lt.
    let at : j ≡ place = omega arith in
    let same : c ≡ front = one_there s.layer.kept.items m c front there is in
    absurd (refused q (subst (λ (x : Beginning). Leads t q x.bus) same stands.leads)
    (subst (λ k. IsLegalIn t (k ∷ q)) at legal)))

-- the path of the beginning that one goes on from
pub front_path : (t : Task) (n m from : ℕ) (s : Search) (front : Beginning)
    (w : IsUnderWay t n m from s) → slice_get s.layer.kept.items m ≡ Some front
    → IsKeptAs t s.trail n front (w.paths m)
front_path t n m from s front w is = w.layer.kept.each m front is

-- a place that can come next lies too far
pub far_place : (t : Task) (n m place : ℕ) (s : Search) (front : Beginning) (b : BusState)
    → IsUnderWay t n m place s → slice_get s.layer.kept.items m ≡ Some front → GoesOn t front place b
    → front.taken.least + 128 ≤ place → HasFarPlace t.version t.plan t.slacks t.seen
far_place t n m place s front b w is goes far =
    let kept : IsKeptAs t s.trail n front (w.paths m) = front_path t n m place s front w is in
    record {
      places = w.paths m;
      least = front.taken.least;
      missing = sym (kept.taken front.taken.least) ∙ at_least front.taken front.taken.least refl;
      below = λ i lt. sym (kept.taken i) ∙ below_least front.taken i lt;
      far = place;
      is_far = far;
      legal = (goes (w.paths m) kept.leads kept.taken).1 kept.legal;
    }

-- ---- one of the same kind is kept

-- what comes of a place has one place more
more_taken : (place : ℕ) (q : List ℕ) (t u : Taken) → AreTaken q t
    → ((i : ℕ) → holds u i ≡ ((place == i) || holds t i)) → AreTaken (place ∷ q) u
more_taken place q t u takes more i = more i ∙ ap (λ b. (place == i) || b) (takes i)

pub like_kept : (t : Task) (n m place i : ℕ) (s : Search) (front c : Beginning) (taken : Taken)
    (bus : BusKind) → IsUnderWay t n m place s → slice_get s.layer.kept.items m ≡ Some front
    → slice_get s.longer.kept.items i ≡ Some c → c.taken ≡ taken → c.bus ≡ bus
    → ((i : ℕ) → holds taken i ≡ ((place == i) || holds front.taken i)) → kind_of s.state ≡ bus
    → GoesOn t front place s.state → IsUnderWay t n m (place + 1) s
like_kept t n m place i s front c taken bus w is there same like more kind goes =
    passed_to t n m place (place + 1) s s.state w (let e : place ≤ place + 1 = omega arith in e) w.bus
    (λ j q d at stands legal le lt.
    let e : place ≡ j = omega arith in
    let f : d ≡ front = one_there s.layer.kept.items m d front at is in
    let leads : Leads t q front.bus = subst (λ (x : Beginning). Leads t q x.bus) f stands.leads in
    let takes : AreTaken q front.taken = subst (λ (x : Beginning). AreTaken q x.taken) f stands.taken in
    subst (λ k. IsStoodFor t s.longer.kept.items w.longer (k ∷ q)) e
    (stood_by_like t s.trail s.is_cut n m place i s.layer.kept.items w.paths s.longer.kept.items w.longer c
    taken bus (slice_get_within s.layer.kept.items m front is) w.layer.kept w.made there same like q
    stands.most (more_taken place q front.taken taken takes more) (s.state, (goes q leads takes).0, kind)))

-- ---- one more is kept

all_more : (path : List ℕ) (lists : List (List ℕ)) (P : List ℕ → Type 0) → P path → All P lists
    → All P (path ∷ lists)
all_more path lists P p all zero d lt = p
all_more path lists P p all (suc k) d lt = all k d (omega arith)

still_made : (cs : List Beginning) (longer : ℕ → List ℕ) (c : Beginning) (path : List ℕ)
    (lists : List (List ℕ)) → All (λ q. (i : ℕ) × (i < length cs) × (q ≡ longer i)) lists
    → All (λ q. (i : ℕ) × (i < length (cs ++ c ∷ [])) × (q ≡ with_path longer (length cs) path i)) lists
still_made cs longer c path lists h k d lt =
    let g = h k d lt in (
      g.0,
      subst (λ n. g.0 < n) (sym (length_more cs c))
          (let lt : g.0 < length cs = g.1 in let e : g.0 < length cs + 1 = omega arith in e),
      g.2 ∙ sym (path_before longer (length cs) path g.0 g.1),
    )

-- so many sets were counted, and stay counted
sets_more : (count : ℕ) (cs : List Beginning) (longer : ℕ → List ℕ) (c : Beginning) (path : List ℕ)
    → AreSets count cs longer → AreSets count (cs ++ c ∷ []) (with_path longer (length cs) path)
sets_more count cs longer c path h = record {
  lists = h.lists;
  counted = h.counted;
  made = still_made cs longer c path h.lists h.made;
  apart = h.apart;
}

-- one that is kept has other places than these
abbrev pub HasOthers : List Beginning → (ℕ → List ℕ) → Taken → Type 0
HasOthers cs longer taken =
    (i : ℕ) → i < length cs
    → (b : Beginning) × (slice_get cs i ≡ Some b) × (b.taken ≢ taken) × AreTaken (longer i) b.taken

not_same : (path r : List ℕ) (t u : Taken) → AreTaken path t → AreTaken r u → u ≢ t
    → AreSamePlaces path r → ⊥
not_same path r t u takes other apart same =
    apart (one_set u t (λ i. other i ∙ sym (same i) ∙ sym (takes i)))

apart_from : (cs : List Beginning) (longer : ℕ → List ℕ) (path r : List ℕ) (taken : Taken)
    → AreTaken path taken → HasOthers cs longer taken
    → (i : ℕ) × (i < length cs) × (r ≡ longer i) → AreSamePlaces path r → ⊥
apart_from cs longer path r taken takes others g same =
    let b = others g.0 g.1 in
    not_same path (longer g.0) taken b.0.taken takes b.3 b.2
    (subst (λ l. AreSamePlaces path l) g.2 same)

sets_new : (count : ℕ) (cs : List Beginning) (longer : ℕ → List ℕ) (c : Beginning) (path : List ℕ)
    (taken : Taken) → AreSets count cs longer → AreTaken path taken → HasOthers cs longer taken
    → AreSets (count + 1) (cs ++ c ∷ []) (with_path longer (length cs) path)
sets_new count cs longer c path taken h takes others =
    record {
      lists = path ∷ h.lists;
      counted = (let e : length h.lists ≡ count = h.counted in omega arith);
      made = all_more path h.lists
          (λ q. (i : ℕ) × (i < length (cs ++ c ∷ [])) × (q ≡ with_path longer (length cs) path i)) (
            length cs,
            (let e : length (cs ++ c ∷ []) ≡ length cs + 1 = length_more cs c in omega arith),
            sym (path_there longer (length cs) path (length cs) refl),
          )
          (still_made cs longer c path h.lists h.made);
      apart = (λ k d lt same. apart_from cs longer path _ taken takes others (h.made k d lt) same, h.apart);
    }

there_is : (cs : List Beginning) (i : ℕ) → i < length cs
    → (b : Beginning) × (slice_get cs i ≡ Some b)
there_is [] i lt = absurd (omega arith)
there_is (c ∷ cs) zero lt = (c, refl)
there_is (c ∷ cs) (suc i) lt = there_is cs i (omega arith)

pub have_others : (t : Task) (trail : Trail) (n : ℕ) (cs : List Beginning) (longer : ℕ → List ℕ)
    (taken : Taken) → AreKept t trail n cs longer
    → ((i : ℕ) (b : Beginning) → slice_get cs i ≡ Some b → b.taken ≢ taken)
    → HasOthers cs longer taken
have_others t trail n cs longer taken kept others i lt =
    let b = there_is cs i lt in
    (b.0, b.1, others i b.0 b.1, (kept.each i b.0 b.1).taken)

-- one that is added
grown_to : (t : Task) (n m place count : ℕ) (s : Search) (later : Trail) (longer : Layer)
    (front last : Beginning) (taken : Taken) (bus : BusKind) (w : IsUnderWay t n m place s)
    → slice_get s.layer.kept.items m ≡ Some front → last.taken ≡ taken → last.bus ≡ bus
    → longer.kept.items ≡ s.longer.kept.items ++ last ∷ []
    → ((at : ℕ) (path : List ℕ) → Ends s.trail at path → Ends later at path)
    → ((path : List ℕ) → Ends s.trail front.step path → Ends later last.step (place ∷ path))
    → ((i : ℕ) → holds taken i ≡ ((place == i) || holds front.taken i)) → kind_of s.state ≡ bus
    → GoesOn t front place s.state
    → AreSets count (s.longer.kept.items ++ last ∷ [])
    (with_path w.longer (length s.longer.kept.items) (place ∷ w.paths m))
    → IsUnderWay t n m (place + 1) (record s { trail = later; longer = longer; sets = count })
grown_to t n m place count s later longer front last taken bus w there taken_is bus_is items kept ends
    more kind goes sets =
    let first : IsKeptAs t s.trail n front (w.paths m) = front_path t n m place s front w there in
    let cs : List Beginning = s.longer.kept.items in
    let next : ℕ → List ℕ = with_path w.longer (length cs) (place ∷ w.paths m) in
    record {
      bus = w.bus;
      paths = w.paths;
      longer = next;
      layer = layer_later t s.trail later s.is_cut n s.layer.kept.items w.paths kept w.layer;
      made = subst (λ l. AreLonger t later s.is_cut n m (place + 1) s.layer.kept.items w.paths l next)
          (sym items)
          (keep_more t s.trail later s.is_cut n m place s.layer.kept.items w.paths cs w.longer last
          (slice_get_within s.layer.kept.items m front there) w.layer.kept kept
          (new_kept first) (λ q b is stands legal. new_stands q b is stands) w.made);
      sets = subst (λ l. AreSets count l next) (sym items) sets;
      cut = w.cut;
    }
  where
    new_kept : IsKeptAs t s.trail n front (w.paths m) → IsKeptAs t later (n + 1) last (place ∷ w.paths m)
    new_kept first = record {
      legal = (goes (w.paths m) first.leads first.taken).1 first.legal;
      count = (let e : length (w.paths m) ≡ n = first.count in omega arith);
      ends = ends (w.paths m) first.ends;
      taken = subst (λ k. AreTaken (place ∷ w.paths m) k) (sym taken_is)
          (more_taken place (w.paths m) front.taken taken first.taken more);
      leads = subst (λ k. Leads t (place ∷ w.paths m) k) (sym bus_is)
          (s.state, (goes (w.paths m) first.leads first.taken).0, kind);
    }

    new_stands : (q : List ℕ) (b : Beginning) → slice_get s.layer.kept.items m ≡ Some b
        → StandsFor t b (w.paths m) q → StandsFor t last (place ∷ w.paths m) (place ∷ q)
    new_stands q b is stands =
        let f : b ≡ front = one_there s.layer.kept.items m b front is there in
        let leads : Leads t q front.bus = subst (λ (x : Beginning). Leads t q x.bus) f stands.leads in
        let takes : AreTaken q front.taken = subst (λ (x : Beginning). AreTaken q x.taken) f stands.taken in
        record {
          leads = subst (λ k. Leads t (place ∷ q) k) (sym bus_is) (s.state, (goes q leads takes).0, kind);
          taken = subst (λ k. AreTaken (place ∷ q) k) (sym taken_is)
              (more_taken place q front.taken taken takes more);
          most = at_most_longer place (w.paths m) q stands.most;
        }

-- one that is added with places that another has
pub grown_same : (t : Task) (n m place : ℕ) (s v : Search) (front : Beginning) (taken : Taken)
    (bus : BusKind) → IsUnderWay t n m place s → slice_get s.layer.kept.items m ≡ Some front
    → IsGrown s v front.step place taken bus
    → ((i : ℕ) → holds taken i ≡ ((place == i) || holds front.taken i)) → kind_of s.state ≡ bus
    → GoesOn t front place s.state → IsUnderWay t n m (place + 1) v
grown_same t n m place s v front taken bus w there g more kind goes =
    subst (λ (x : Search). IsUnderWay t n m (place + 1) x) (sym g.is)
    (grown_to t n m place s.sets s g.trail g.longer front g.last taken bus w there g.taken_is g.bus_is
    g.items g.kept g.ends more kind goes
    (sets_more s.sets s.longer.kept.items w.longer g.last (place ∷ w.paths m) w.sets))

-- one that is added with places that none has
pub grown_new : (t : Task) (n m place : ℕ) (s v : Search) (front : Beginning) (taken : Taken)
    (bus : BusKind) → IsUnderWay t n m place s → slice_get s.layer.kept.items m ≡ Some front
    → IsGrown s v front.step place taken bus
    → ((i : ℕ) (b : Beginning) → slice_get s.longer.kept.items i ≡ Some b → b.taken ≢ taken)
    → ((i : ℕ) → holds taken i ≡ ((place == i) || holds front.taken i)) → kind_of s.state ≡ bus
    → GoesOn t front place s.state → IsUnderWay t n m (place + 1) (record v { sets = v.sets + 1 })
grown_new t n m place s v front taken bus w there g others more kind goes =
    let first : IsKeptAs t s.trail n front (w.paths m) = front_path t n m place s front w there in
    subst (λ (x : Search). IsUnderWay t n m (place + 1) (record x { sets = x.sets + 1 })) (sym g.is)
    (grown_to t n m place (s.sets + 1) s g.trail g.longer front g.last taken bus w there g.taken_is
    g.bus_is g.items g.kept g.ends more kind goes
    (sets_new s.sets s.longer.kept.items w.longer g.last (place ∷ w.paths m) taken w.sets
    (more_taken place (w.paths m) front.taken taken first.taken more)
    (have_others t s.trail (n + 1) s.longer.kept.items w.longer taken w.made.kept others)))

-- ---- there are too many

made_kept : (t : Task) (trail : Trail) (n : ℕ) (cs : List Beginning) (longer : ℕ → List ℕ)
    (r : List ℕ) → AreKept t trail n cs longer → (i : ℕ) × (i < length cs) × (r ≡ longer i)
    → IsLegalIn t r × (length r ≡ n)
made_kept t trail n cs longer r kept g =
    let b = there_is cs g.0 g.1 in
    let one : IsKeptAs t trail n b.0 (longer g.0) = kept.each g.0 b.0 b.1 in
    (subst (λ l. IsLegalIn t l) (sym g.2) one.legal, ap length g.2 ∙ one.count)

pub many_sets : (t : Task) (n m place : ℕ) (s : Search) (front : Beginning) (taken : Taken)
    → IsUnderWay t n m place s → slice_get s.layer.kept.items m ≡ Some front
    → ((i : ℕ) (b : Beginning) → slice_get s.longer.kept.items i ≡ Some b → b.taken ≢ taken)
    → ((i : ℕ) → holds taken i ≡ ((place == i) || holds front.taken i))
    → GoesOn t front place s.state → s.width ≤ s.sets → s.width ≡ 65536
    → HasManySets t.version t.plan t.slacks t.seen
many_sets t n m place s front taken w there others more goes full width =
    let first : IsKeptAs t s.trail n front (w.paths m) = front_path t n m place s front w there in
    let path : List ℕ = place ∷ w.paths m in
    let legal : IsLegalIn t path = (goes (w.paths m) first.leads first.taken).1 first.legal in
    let takes : AreTaken path taken = more_taken place (w.paths m) front.taken taken first.taken more in
    let count : length w.sets.lists ≡ s.sets = w.sets.counted in
    let has_others : HasOthers s.longer.kept.items w.longer taken =
    have_others t s.trail (n + 1) s.longer.kept.items w.longer taken w.made.kept others in
    record {
      size = n + 1;
      beginnings = path ∷ w.sets.lists;
      many = omega arith;
      legal = all_more path w.sets.lists (λ q. IsLegalIn t q) legal
          (λ k d lt. (made_kept t s.trail (n + 1) s.longer.kept.items w.longer _ w.made.kept
          (w.sets.made k d lt)).0);
      sizes = all_more path w.sets.lists (λ q. length q ≡ n + 1)
          (let e : length (w.paths m) ≡ n = first.count in omega arith)
          (λ k d lt. (made_kept t s.trail (n + 1) s.longer.kept.items w.longer _ w.made.kept
          (w.sets.made k d lt)).1);
      apart = (
        λ k d lt same. apart_from s.longer.kept.items w.longer path _ taken takes has_others
            (w.sets.made k d lt) same,
        w.sets.apart,
      );
    }

-- ---- layer by layer

-- before the first is made
pub begins : (t : Task) (n : ℕ) (s : Search) (longer : Layer) → HasLayer t n s
    → longer.kept.items ≡ [] → IsUnderWay t n 0 0 (record s { longer = longer; sets = 0 })
begins t n s longer h empty = record {
  bus = h.bus;
  paths = h.paths;
  longer = h.paths;
  layer = h.layer;
  made = subst (λ l. AreLonger t s.trail s.is_cut n 0 0 s.layer.kept.items h.paths l h.paths) (sym empty)
      (none_longer t s.trail s.is_cut n s.layer.kept.items h.paths h.layer);
  sets = subst (λ l. AreSets 0 l h.paths) (sym empty) (record {
    lists = [];
    counted = refl;
    made = λ k d lt. absurd (omega arith);
    apart = tt;
  });
  cut = h.cut;
}

-- no place is left behind one
pub next_front : (t : Task) (n m from : ℕ) (s : Search) (front : Beginning) → IsUnderWay t n m from s
    → slice_get s.layer.kept.items m ≡ Some front
    → ((q : List ℕ) → AreTaken q front.taken → AreUnfree t.slacks t.seen q from (length t.seen))
    → IsUnderWay t n (m + 1) 0 s
next_front t n m from s front w is unfree = record {
  bus = w.bus;
  paths = w.paths;
  longer = w.longer;
  layer = w.layer;
  made = next_one t s.trail s.is_cut n m from s.layer.kept.items w.paths s.longer.kept.items w.longer
      front is unfree w.made;
  sets = w.sets;
  cut = w.cut;
}

pub all_longer : (t : Task) (n m from : ℕ) (s : Search) → IsUnderWay t n m from s
    → length s.layer.kept.items ≤ m → HasLonger t n s
all_longer t n m from s w past = record {
  longer = w.longer;
  layer = made_whole t s.trail s.is_cut n m from s.layer.kept.items w.paths s.longer.kept.items
      w.longer past w.made;
}

looser : (t : Task) (trail : Trail) (cut : Bool) (n : ℕ) (bs : List Beginning) (paths : ℕ → List ℕ)
    → IsLayer t trail cut n bs paths → IsLayer t trail true n bs paths
looser t trail cut n bs paths h = record {
  kept = h.kept;
  all = λ q legal count. by q (h.all q legal count);
}
  where
    by : (q : List ℕ) → IsStoodFor t bs paths q ⊎ IsLeftOut cut bs paths q
        → IsStoodFor t bs paths q ⊎ IsLeftOut true bs paths q
    by q (inl g) = inl g
    by q (inr g) = inr (record { cut = refl; beyond = g.beyond })

-- there was no room for more
pub cut_layer : (t : Task) (n m from : ℕ) (s : Search) → IsUnderWay t n m from s
    → (s.width ≡ 65536 → HasTooMany t.version t.plan t.slacks t.seen)
    → HasLayer t n (record s { is_cut = true })
cut_layer t n m from s w many = record {
  bus = w.bus;
  paths = w.paths;
  layer = looser t s.trail s.is_cut n s.layer.kept.items w.paths w.layer;
  cut = λ is width. many width;
}

pub cut_longer : (t : Task) (n m from : ℕ) (s : Search) → IsUnderWay t n m from s
    → HasLonger t n (record s { is_cut = true })
cut_longer t n m from s w = record {
  longer = w.longer;
  layer = cut_here t s.trail s.is_cut n m from s.layer.kept.items w.paths s.longer.kept.items w.longer
      w.layer.kept w.made;
}
