-- Beginnings of one kind.
use Rattle.std.proofs.Common.{◌≡◌, ◌⊎◌, inl, inr, ◌<◌, ◌≤◌, ◌+◌, ◌-◌, ◌∷◌, ℕ, Bool, true, false, List, length, refl, sym, ◌∙◌, subst, ap, arith, slice_index_or}
use Rattle.std.proofs.lemmas.Bool.{cases_lt}
use Rattle.vme_moments.specs.Orders.{IsFree, edges_at, has}
use Rattle.vme_bus.specs.declared.states.BusState.{BusState}
use Rattle.vme_bus.specs.Kinds.{kind_of}
use Rattle.vme_bus.proofs.OneKind.{kind_shared}
use Rattle.vme_order.specs.declared.dead.Dead.{Dead}
use Rattle.vme_order.specs.declared.dead.Kind.{Kind}
use Rattle.vme_order.specs.Searching.{Task, LeadsTo, IsOneKind, IsOfKind, IsBarren, AreBarren, AreTried, Keeps}
use Rattle.vme_order.proofs.Tried.{kind_barren, kind_leads}

above : (l i : ℕ) → l ≤ i → l + (i - l) ≡ i
above l i h = omega arith

-- two beginnings of one kind have the same places
within : (t : Task) (q r : List ℕ) (kind : Kind) (i : ℕ) → IsOfKind t q kind → IsOfKind t r kind
    → kind.least ≤ i → (i - kind.least < 128) ⊎ (128 ≤ i - kind.least) → has q i ≡ has r i
within t q r kind i hq hr h (inl near) =
    let same : has q (kind.least + (i - kind.least)) ≡ has r (kind.least + (i - kind.least)) =
        sym (hq.window (i - kind.least) near) ∙ hr.window (i - kind.least) near in
    subst (λ (n : ℕ). has q n ≡ has r n) (above kind.least i h) same
within t q r kind i hq hr h (inr far) =
    let beyond : kind.least + 128 ≤ i = omega arith in
    hq.beyond i beyond ∙ sym (hr.beyond i beyond)

same_places : (t : Task) (q r : List ℕ) (kind : Kind) (i : ℕ) → IsOfKind t q kind
    → IsOfKind t r kind → (i < kind.least) ⊎ (kind.least ≤ i) → has q i ≡ has r i
same_places t q r kind i hq hr (inl h) = hq.below i h ∙ sym (hr.below i h)
same_places t q r kind i hq hr (inr h) =
    within t q r kind i hq hr h (cases_lt (i - kind.least) 128)

pub one_kind : (t : Task) (q r : List ℕ) (kind : Kind) → IsOfKind t q kind → IsOfKind t r kind
    → IsOneKind t q r
one_kind t q r kind hq hr = record {
  count = hq.count ∙ sym hr.count;
  places = λ i. same_places t q r kind i hq hr (cases_lt i kind.least);
  state = hr.state;
  first = kind_shared t.version t.plan (edges_at t.seen r) (edges_at t.seen q) hr.state hq.state
      (hr.bus ∙ sym hq.bus) hr.leads hq.leads;
  other = hr.leads;
}

-- what is of one kind with a beginning has that beginning's kind
pub shared_kind : (t : Task) (q r : List ℕ) (kind : Kind) → IsOneKind t q r → IsOfKind t r kind
    → IsOfKind t q kind
shared_kind t q r kind one hr = record {
  state = hr.state;
  leads = kind_leads t q r hr.state hr.leads one;
  bus = hr.bus;
  count = one.count ∙ hr.count;
  below = λ i lt. one.places i ∙ hr.below i lt;
  window = λ k lt. hr.window k lt ∙ sym (one.places (kind.least + k));
  beyond = λ i le. one.places i ∙ hr.beyond i le;
}

-- what is of a kind that is remembered
pub remembered_barren : (t : Task) (n : ℕ) (d : Dead) (kind : Kind) (q r : List ℕ)
    → AreBarren t n d → Keeps d kind → IsOfKind t r kind → IsOneKind t q r → IsBarren t n q
remembered_barren t n d kind q r barren kept hr one =
    barren kind q kept (shared_kind t q r kind one hr)

noted : (t : Task) (n : ℕ) (old : Dead) (kind other : Kind) (q : List ℕ) → AreBarren t n old
    → ((p : List ℕ) → IsOfKind t p kind → IsBarren t n p) → (other ≡ kind) ⊎ Keeps old other
    → IsOfKind t q other → IsBarren t n q
noted t n old kind other q barren all (inl is) hq =
    all q (subst (λ (k : Kind). IsOfKind t q k) is hq)
noted t n old kind other q barren all (inr kept) hq = barren other q kept hq

-- the same with one more kind
pub noted_barren : (t : Task) (n : ℕ) (old new : Dead) (kind : Kind) → AreBarren t n old
    → ((p : List ℕ) → IsOfKind t p kind → IsBarren t n p)
    → ((other : Kind) → Keeps new other → (other ≡ kind) ⊎ Keeps old other) → AreBarren t n new
noted_barren t n old new kind barren all kept other q keeps hq =
    noted t n old kind other q barren all (kept other keeps) hq

as_short : (q r : List ℕ) (n : ℕ) → length q ≡ length r → length r ≤ n → length q ≤ n
as_short q r n same short = omega arith

-- nothing longer comes of what is of the kind of a path, of which no place is left to try
pub path_barren : (t : Task) (n next : ℕ) (path : List ℕ) (kind : Kind) → AreTried t n next path
    → ((j : ℕ) → next ≤ j → IsFree t.slacks t.seen path j → ⊥) → IsOfKind t path kind
    → length path ≤ n → (q : List ℕ) → IsOfKind t q kind → IsBarren t n q
path_barren t n next path kind tried none hp short q hq =
    let one : IsOneKind t q path = one_kind t q path kind hq hp in
    kind_barren t n next path q tried none one (as_short q path n one.count short)
