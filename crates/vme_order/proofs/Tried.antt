-- What was tried in vain, and what is left to try.
use Rattle.std.proofs.Common.{◌≡◌, ◌≢◌, ◌⊎◌, inl, inr, ◌<◌, ◌≤◌, ◌+◌, ◌||◌, ℕ, suc, Bool, true, false, eqb, List, [], ◌∷◌, Option, Some, None, Result, Ok, Err, is_ok, length, refl, sym, ◌∙◌, subst, ap, arith}
use Rattle.std.proofs.lemmas.Bool.{cases_lt}
use Rattle.std.proofs.lemmas.Bool.Decides.{nat_tests}
use Rattle.std.specs.List.{slice_get}
use Rattle.std.specs.Option.{option_map_or}
use Rattle.vme_model.specs.declared.deliveries.Delivery.{Delivery}
use Rattle.vme_model.specs.declared.refusals.Refused.{Refused}
use Rattle.vme_model.specs.declared.signals.Version.{Version}
use Rattle.vme_model.specs.declared.signals.Edge.{Edge}
use Rattle.vme_model.specs.Deliveries.{delivery, with_delivery}
use Rattle.vme_model.specs.Plan.{Plan}
use Rattle.vme_model.specs.Verdict.{IsLegal, verdict_but_full}
use Rattle.vme_moments.specs.declared.Seen.{Seen}
use Rattle.vme_moments.specs.Orders.{IsFree, IsBeginning, IsLegalBeginning, IsLesser, edges_at, has}
use Rattle.vme_bus.specs.declared.states.BusState.{BusState}
use Rattle.vme_bus.specs.States.{IsStateOf, OfHistory}
use Rattle.vme_bus.specs.Steps.{answer_but_full, kept_but_full}
use Rattle.vme_bus.proofs.OneKind.{state_shared}
use Rattle.vme_order.specs.Searching.{Task, IsLegalIn, LeadsTo, IsOneKind, GoesOn, IsBarren, IsTried, AreTried, AreLinked}

-- ---- fronts of a beginning

legal_rest : (version : Version) (p : Plan) (es : List Edge) (o : Option Seen)
    → IsLegal version p (option_map_or (λ s. s.edge ∷ es) o es) → IsLegal version p es
legal_rest version p es None h = h
legal_rest version p es (Some s) h = h.1

rest_legal : (t : Task) (j : ℕ) (places : List ℕ) → IsLegalIn t (j ∷ places) → IsLegalIn t places
rest_legal t j places h = record {
  begins = h.begins.1;
  legal = legal_rest t.version t.plan (edges_at t.seen places) (slice_get t.seen j) h.legal;
}

pub front_legal : (t : Task) (places q : List ℕ) → GoesOn places q → IsLegalIn t places → IsLegalIn t q
front_legal t [] q h legal = subst (IsLegalIn t) h legal
front_legal t (j ∷ places) q (inl h) legal = subst (IsLegalIn t) h legal
front_legal t (j ∷ places) q (inr h) legal = front_legal t places q h (rest_legal t j places legal)

goes_on_same : (q : List ℕ) → GoesOn q q
goes_on_same [] = refl
goes_on_same (j ∷ q) = inl refl

further_at : (a : ℕ) (places q : List ℕ) → (places ≡ q) ⊎ ((j : ℕ) × GoesOn places (j ∷ q))
    → (j : ℕ) × GoesOn (a ∷ places) (j ∷ q)
further_at a places q (inl h) = (a, inl (ap (λ l. a ∷ l) h))
further_at a places q (inr h) = (h.0, inr h.1)

-- what goes on from places is these alone, or goes on with one more
further : (places q : List ℕ) → GoesOn places q → (places ≡ q) ⊎ ((j : ℕ) × GoesOn places (j ∷ q))
further [] q h = inl h
further (a ∷ places) q (inl h) = inl h
further (a ∷ places) q (inr h) = inr (further_at a places q (further places q h))

goes_on_rest : (j : ℕ) (q places : List ℕ) → GoesOn places (j ∷ q) → GoesOn places q
goes_on_rest j q [] h = absurd (no_places j q h)
  where
  no_places : (j : ℕ) (q : List ℕ) → (let e : List ℕ = [] in e ≡ j ∷ q) → ⊥
  no_places j q h = cc
goes_on_rest j q (a ∷ places) (inl h) =
    inr (subst (λ l. GoesOn places l) (tails a j places q h) (goes_on_same places))
  where
  tails : (a j : ℕ) (places q : List ℕ) → (a ∷ places) ≡ (j ∷ q) → places ≡ q
  tails a j places q h = cc
goes_on_rest j q (a ∷ places) (inr h) = inr (goes_on_rest j q places h)

-- ---- what nothing longer comes of

barren_at : (t : Task) (n : ℕ) (q places : List ℕ) → length q ≤ n
    → ((j : ℕ) → j < length t.seen → IsBarren t n (j ∷ q)) → IsLegalIn t places
    → (places ≡ q) ⊎ ((j : ℕ) × GoesOn places (j ∷ q)) → length places ≤ n
barren_at t n q places short each legal (inl h) = subst (λ l. length l ≤ n) (sym h) short
barren_at t n q places short each legal (inr h) =
    each h.0 (front_legal t places (h.0 ∷ q) h.1 legal).begins.0.within places legal h.1

-- nothing longer comes of a beginning where nothing comes of it with any further place
barren_by_each : (t : Task) (n : ℕ) (q : List ℕ) → length q ≤ n
    → ((j : ℕ) → j < length t.seen → IsBarren t n (j ∷ q)) → IsBarren t n q
barren_by_each t n q short each places legal on =
    barren_at t n q places short each legal (further places q on)

same_free : (t : Task) (q r : List ℕ) (j : ℕ) → ((i : ℕ) → has q i ≡ has r i)
    → IsFree t.slacks t.seen q j → IsFree t.slacks t.seen r j
same_free t q r j same free = record {
  within = free.within;
  new = sym (same j) ∙ free.new;
  behind = λ i before. sym (same i) ∙ free.behind i before;
}

-- a place that cannot come next
pub unfree_barren : (t : Task) (n : ℕ) (path q : List ℕ) (j : ℕ)
    → (IsFree t.slacks t.seen path j → ⊥) → IsOneKind t q path → IsBarren t n (j ∷ q)
unfree_barren t n path q j unfree kind places legal on =
    absurd (unfree (same_free t q path j kind.places (front_legal t places (j ∷ q) on legal).begins.0))

-- the state of a path is the state of what is of its kind
pub kind_leads : (t : Task) (q path : List ℕ) (b : BusState) → LeadsTo t path b → IsOneKind t q path
    → LeadsTo t q b
kind_leads t q path b leads kind =
    state_shared t.version t.plan (edges_at t.seen path) (edges_at t.seen q) kind.state b
    kind.other leads kind.first

-- the edge at a place, before those at others
edge_first : (t : Task) (j : ℕ) (s : Seen) (q : List ℕ) → slice_get t.seen j ≡ Some s
    → edges_at t.seen (j ∷ q) ≡ s.edge ∷ edges_at t.seen q
edge_first t j s q is =
    ap (λ o. option_map_or (λ m. m.edge ∷ edges_at t.seen q) o (edges_at t.seen q)) is

allowed_or_not : (version : Version) (p : Plan) (h : List Edge) (e : Edge) (r : Refused)
    → answer_but_full version p h e ≡ Err r → verdict_but_full version p h e ≡ Ok tt → ⊥
allowed_or_not version p h e r refused allowed =
    let ok : with_delivery (Ok tt) (delivery p h e) ≡ Err r =
        subst (λ v. with_delivery v (delivery p h e) ≡ Err r) allowed refused in
    no_both (delivery p h e) r ok
  where
  no_both : (d : Option Delivery) (r : Refused)
      → (let o : Result (Option Delivery) Refused = Ok d in o ≡ Err r) → ⊥
  no_both d r h = cc

-- a place whose edge is refused
pub refused_barren : (t : Task) (n : ℕ) (path q : List ℕ) (j : ℕ) (s : Seen) (b : BusState)
    (r : Refused) → slice_get t.seen j ≡ Some s
    → OfHistory b (λ version p h. Err r ≡ answer_but_full version p h s.edge)
    → LeadsTo t path b → IsOneKind t q path → IsBarren t n (j ∷ q)
refused_barren t n path q j s b r is refused leads kind places legal on =
    let allowed : IsLegal t.version t.plan (s.edge ∷ edges_at t.seen q) =
        subst (λ es. IsLegal t.version t.plan es) (edge_first t j s q is)
        (front_legal t places (j ∷ q) on legal).legal in
    absurd (allowed_or_not t.version t.plan (edges_at t.seen q) s.edge r
    (sym (refused t.version t.plan (edges_at t.seen q) (kind_leads t q path b leads kind))) allowed.0)

-- ---- a place whose edge is accepted

accepted_verdict : (v : Result (Unit {0}) Refused) (d f : Option Delivery) → Ok f ≡ with_delivery v d
    → v ≡ Ok tt
accepted_verdict (Ok tt) d f h = refl
accepted_verdict (Err r) d f h = absurd (no_both f r h)
  where
  no_both : (d : Option Delivery) (r : Refused)
      → (let o : Result (Option Delivery) Refused = Ok d in o ≡ Err r) → ⊥
  no_both d r h = cc

-- the state after an accepted edge is that of the longer history
pub accepted_leads : (t : Task) (q : List ℕ) (j : ℕ) (s : Seen) (b c : BusState)
    (f : Option Delivery) → slice_get t.seen j ≡ Some s
    → OfHistory b (λ version p h. Ok f ≡ answer_but_full version p h s.edge)
    → OfHistory b (λ version p h. IsStateOf version p (kept_but_full version p h s.edge) c)
    → LeadsTo t q b → LeadsTo t (j ∷ q) c
accepted_leads t q j s b c f is accepted state leads =
    let h : List Edge = edges_at t.seen q in
    let ok : verdict_but_full t.version t.plan h s.edge ≡ Ok tt =
        accepted_verdict (verdict_but_full t.version t.plan h s.edge) (delivery t.plan h s.edge) f
        (accepted t.version t.plan h leads) in
    let longer : kept_but_full t.version t.plan h s.edge ≡ s.edge ∷ h = rw ok refl in
    subst (λ es. IsStateOf t.version t.plan es c) (longer ∙ sym (edge_first t j s q is))
    (state t.version t.plan h leads)

-- what is of one kind stays so with an accepted edge
pub accepted_links : (t : Task) (path q : List ℕ) (j : ℕ) (s : Seen) (b c : BusState)
    (f : Option Delivery) → slice_get t.seen j ≡ Some s
    → OfHistory b (λ version p h. Ok f ≡ answer_but_full version p h s.edge)
    → OfHistory b (λ version p h. IsStateOf version p (kept_but_full version p h s.edge) c)
    → LeadsTo t path b → IsOneKind t q path → IsOneKind t (j ∷ q) (j ∷ path)
accepted_links t path q j s b c f is accepted state leads kind = record {
  count = ap (λ n. suc n) kind.count;
  places = λ i. ap (λ z. eqb j i || z) (kind.places i);
  state = c;
  first = accepted_leads t q j s b c f is accepted state (kind_leads t q path b leads kind);
  other = accepted_leads t path j s b c f is accepted state leads;
}

-- the path stays legal
pub accepted_legal : (t : Task) (path : List ℕ) (j : ℕ) (s : Seen) (b : BusState)
    (f : Option Delivery) → slice_get t.seen j ≡ Some s
    → OfHistory b (λ version p h. Ok f ≡ answer_but_full version p h s.edge)
    → LeadsTo t path b → IsFree t.slacks t.seen path j → IsLegalIn t path → IsLegalIn t (j ∷ path)
accepted_legal t path j s b f is accepted leads free legal = record {
  begins = (free, legal.begins);
  legal =
      let h : List Edge = edges_at t.seen path in
      let ok : verdict_but_full t.version t.plan h s.edge ≡ Ok tt =
          accepted_verdict (verdict_but_full t.version t.plan h s.edge)
          (delivery t.plan h s.edge) f (accepted t.version t.plan h leads) in
      subst (λ es. IsLegal t.version t.plan es) (sym (edge_first t j s path is)) (ok, legal.legal);
}

-- ---- the places that were tried

tried_at : (t : Task) (n next new : ℕ) (path q : List ℕ) (j : ℕ) → IsTried t n next path
    → ((q : List ℕ) (j : ℕ) → IsOneKind t q path → next ≤ j → j < new → IsBarren t n (j ∷ q))
    → IsOneKind t q path → j < new → (j < next) ⊎ (next ≤ j) → IsBarren t n (j ∷ q)
tried_at t n next new path q j tried more kind lt (inl h) = tried q j kind h
tried_at t n next new path q j tried more kind lt (inr h) = more q j kind h lt

-- more places were tried of one path
tried_more : (t : Task) (n next new : ℕ) (path : List ℕ) → IsTried t n next path
    → ((q : List ℕ) (j : ℕ) → IsOneKind t q path → next ≤ j → j < new → IsBarren t n (j ∷ q))
    → IsTried t n new path
tried_more t n next new path tried more q j kind lt =
    tried_at t n next new path q j tried more kind lt (cases_lt j next)

pub more_tried : (t : Task) (n next new : ℕ) (path : List ℕ) → AreTried t n next path
    → ((q : List ℕ) (j : ℕ) → IsOneKind t q path → next ≤ j → j < new → IsBarren t n (j ∷ q))
    → AreTried t n new path
more_tried t n next new [] tried more = tried_more t n next new [] tried more
more_tried t n next new (k ∷ path) tried more =
    (tried_more t n next new (k ∷ path) tried.0 more, tried.1)

tried_here : (t : Task) (n next : ℕ) (path : List ℕ) → AreTried t n next path → IsTried t n next path
tried_here t n next [] tried = tried
tried_here t n next (k ∷ path) tried = tried.0

-- nothing longer than more comes, either
tried_longer : (t : Task) (m n next : ℕ) (path : List ℕ) → m ≤ n → IsTried t m next path
    → IsTried t n next path
tried_longer t m n next path h tried q j kind lt places legal on =
    let short : length places ≤ m = tried q j kind lt places legal on in omega arith

pub all_longer : (t : Task) (m n next : ℕ) (path : List ℕ) → m ≤ n → AreTried t m next path
    → AreTried t n next path
all_longer t m n next [] h tried = tried_longer t m n next [] h tried
all_longer t m n next (k ∷ path) h tried =
    (tried_longer t m n next (k ∷ path) h tried.0, all_longer t m n k path h tried.1)

-- a path goes on with a place
pub tried_entered : (t : Task) (n next j : ℕ) (path : List ℕ) → next ≤ j → AreTried t n j path
    → AreTried t n 0 (j ∷ path)
tried_entered t n next j path h tried = (λ q k kind lt. absurd (omega arith), tried)

-- nothing longer comes of what is of the kind of a path, of which no place is left to try
pub kind_barren : (t : Task) (n next : ℕ) (path q : List ℕ) → AreTried t n next path
    → ((j : ℕ) → next ≤ j → IsFree t.slacks t.seen path j → ⊥) → IsOneKind t q path
    → length q ≤ n → IsBarren t n q
kind_barren t n next path q tried none kind short =
    barren_by_each t n q short (λ j lt. barren_next t n next path q j tried none kind (cases_lt j next))
  where
  barren_next : (t : Task) (n next : ℕ) (path q : List ℕ) (j : ℕ) → AreTried t n next path
      → ((j : ℕ) → next ≤ j → IsFree t.slacks t.seen path j → ⊥) → IsOneKind t q path
      → (j < next) ⊎ (next ≤ j) → IsBarren t n (j ∷ q)
  barren_next t n next path q j tried none kind (inl h) = tried_here t n next path tried q j kind h
  barren_next t n next path q j tried none kind (inr h) =
      unfree_barren t n path q j (none j h) kind

-- ---- what is lesser was tried

lesser_nothing : (front : List ℕ) → IsLesser front [] → ⊥
lesser_nothing [] h = h
lesser_nothing (a ∷ front) h = h

-- of what goes on from a lesser list than a path, nothing longer comes
pub lesser_tried : (t : Task) (n next : ℕ) (path : List ℕ) → AreTried t n next path
    → AreLinked t path → (front : List ℕ) → IsLesser front path → IsBarren t n front
lesser_tried t n next [] tried linked front lesser = absurd (lesser_nothing front lesser)
lesser_tried t n next (j ∷ path) tried linked [] lesser = absurd lesser
lesser_tried t n next (j ∷ path) tried linked (a ∷ front) (inl h) places legal on =
    lesser_tried t n j path tried.1 linked.1 front h places legal
    (goes_on_rest a front places on)
lesser_tried t n next (j ∷ path) tried linked (a ∷ front) (inr h) places legal on =
    tried_here t n j path tried.1 path a (linked_same t path linked.1) h.1 places legal
    (subst (λ l. GoesOn places (a ∷ l)) h.0 on)
  where
  linked_same : (t : Task) (path : List ℕ) → AreLinked t path → IsOneKind t path path
  linked_same t [] linked = linked
  linked_same t (j ∷ path) linked = linked.0
