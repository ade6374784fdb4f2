-- What a search begins with, and what is answered.
use Rattle.std.proofs.Common.{◌≡◌, ◌⊎◌, inl, inr, ◌<◌, ◌≤◌, ◌+◌, ℕ, zero, suc, Bool, true, false, List, [], ◌∷◌}
use Rattle.std.proofs.Common.{All, Option, Some, Result, Ok, Err, IfOk, length, reverse, refl, sym, ◌∙◌}
use Rattle.std.proofs.Common.{subst, ap, arith}
use Rattle.std.specs.List.{slice_get}
use Rattle.std.specs.Result.{is_err}
use Rattle.std.proofs.lemmas.Bool.{cases_lt}
use Rattle.vme_model.specs.declared.deliveries.Delivery.{Delivery}
use Rattle.vme_model.specs.declared.refusals.Refused.{Refused}
use Rattle.vme_model.specs.declared.signals.Version.{Version}
use Rattle.vme_model.specs.declared.signals.Edge.{Edge}
use Rattle.vme_model.specs.Plan.{Plan}
use Rattle.vme_moments.specs.declared.Seen.{Seen}
use Rattle.vme_moments.specs.declared.slacks.Slacks.{Slacks}
use Rattle.vme_moments.specs.Orders.{AreNext, IsFree, IsLongest, edges_at}
use Rattle.vme_bus.specs.declared.states.BusState.{BusState}
use Rattle.vme_bus.specs.declared.kinds.BusKind.{BusKind}
use Rattle.vme_bus.specs.Kinds.{kind_of}
use Rattle.vme_bus.specs.States.{IsStateOf, OfHistory}
use Rattle.vme_bus.specs.Steps.{answer_but_full, kept_but_full}
use Rattle.vme_order_search.specs.declared.layers.Beginning.{Beginning}
use Rattle.vme_order_search.specs.declared.OrderFault.{OrderFault}
use Rattle.vme_order_search.specs.declared.search.Found.{Found}
use Rattle.vme_order_search.specs.declared.search.Search.{Search}
use Rattle.vme_order_search.specs.declared.trails.Trail.{Trail}
use Rattle.vme_order_search.specs.Places.{AreTaken, AreUnfree, holds}
use Rattle.vme_order_search.specs.Trails.{Ends}
use Rattle.vme_order_search.specs.Searching.{Task, GoesOn, HasEnded, HasLayer, HasLonger, IsAnswer, IsBusOf, IsKeptAs, IsLayer, IsLegalIn, IsNextOf, IsStoodFor, Leads, LeadsTo}
use Rattle.vme_order_search.proofs.Ends.{all_fit, empty_layer, first_of, nothing_longer, reverse_within}
use Rattle.vme_order_search.proofs.Legal.{accepted_leads, accepted_legal, refused_here}

-- ---- the first layer

first_stands : (t : Task) (b : Beginning) (start : BusState) (q : List ℕ) → LeadsTo t [] start
    → kind_of start ≡ b.bus → ((i : ℕ) → holds b.taken i ≡ false) → length q ≡ 0
    → IsStoodFor t (b ∷ []) (λ i. []) q
first_stands t b start [] leads kind none count = record {
  place = 0;
  by = b;
  is = refl;
  stands = record { leads = (start, leads, kind); taken = none; most = inl refl };
}
first_stands t b start (j ∷ q) leads kind none count = absurd (omega arith)

first_kept : (t : Task) (trail : Trail) (b c : Beginning) (start : BusState) (i : ℕ)
    → LeadsTo t [] start → kind_of start ≡ b.bus → ((i : ℕ) → holds b.taken i ≡ false)
    → Ends trail b.step [] → slice_get (b ∷ []) i ≡ Some c → IsKeptAs t trail 0 c []
first_kept t trail b c start zero leads kind none ends is =
    subst (λ (x : Beginning). IsKeptAs t trail 0 x []) (same b c is) (record {
      legal = record { begins = tt; legal = leads.legal };
      count = refl;
      ends = ends;
      taken = none;
      leads = (start, leads, kind);
    })
  where
    same : (b c : Beginning) → Some b ≡ Some c → b ≡ c
    same b c h = cc
first_kept t trail b c start (suc i) leads kind none ends is = absurd (no_one c i is)
  where
    no_one : (c : Beginning) (i : ℕ) → slice_get {X = Beginning} [] i ≡ Some c → ⊥
    no_one c i h = cc

-- the layer of the empty beginning
pub first_layer : (t : Task) (trail : Trail) (cut : Bool) (bs : List Beginning) (b : Beginning)
    (start : BusState) → bs ≡ b ∷ [] → LeadsTo t [] start → kind_of start ≡ b.bus
    → ((i : ℕ) → holds b.taken i ≡ false) → Ends trail b.step []
    → IsLayer t trail cut 0 bs (λ i. [])
first_layer t trail cut bs b start is leads kind none ends =
    subst (λ l. IsLayer t trail cut 0 l (λ i. [])) (sym is) (record {
      kept = record {
        each = λ i c there. first_kept t trail b c start i leads kind none ends there;
        ascending = λ i j lt low. absurd (let e : j < 1 = low in omega arith);
      };
      all = λ q legal count. inl (first_stands t b start q leads kind none count);
    })

-- ---- the edge at a place

-- a state of the bus is given the kind of a beginning
pub given_leads : (t : Task) (old b : BusState) (kind : BusKind) (q : List ℕ)
    → ((version : Version) (p : Plan) (h k : List Edge) (x : BusState) → IsStateOf version p h old
    → IsStateOf version p k x → kind_of x ≡ kind → IsStateOf version p k b)
    → IsBusOf t old → Leads t q kind → LeadsTo t q b
given_leads t old b kind q given bus leads =
    given t.version t.plan (edges_at t.seen bus.0) (edges_at t.seen q) leads.0 bus.1 leads.1 leads.2

pub goes_on : (t : Task) (place : ℕ) (s : Seen) (front : Beginning) (old b c : BusState)
    (f : Option Delivery)
    → ((version : Version) (p : Plan) (h k : List Edge) (x : BusState) → IsStateOf version p h old
    → IsStateOf version p k x → kind_of x ≡ front.bus → IsStateOf version p k b)
    → IsBusOf t old → slice_get t.seen place ≡ Some s
    → OfHistory b (λ version p h. Ok f ≡ answer_but_full version p h s.edge)
    → OfHistory b (λ version p h. IsStateOf version p (kept_but_full version p h s.edge) c)
    → IsNextOf t front place → GoesOn t front place c
goes_on t place s front old b c f given bus is accepted state next q leads takes =
    let there : LeadsTo t q b = given_leads t old b front.bus q given bus leads in (
      accepted_leads t q place s b c f is accepted state there,
      λ legal. accepted_legal t q place s b f is accepted there (next q takes) legal,
    )

pub never_legal : (t : Task) (place : ℕ) (s : Seen) (front : Beginning) (old b : BusState)
    (r : Refused)
    → ((version : Version) (p : Plan) (h k : List Edge) (x : BusState) → IsStateOf version p h old
    → IsStateOf version p k x → kind_of x ≡ front.bus → IsStateOf version p k b)
    → IsBusOf t old → slice_get t.seen place ≡ Some s
    → OfHistory b (λ version p h. Err r ≡ answer_but_full version p h s.edge) → (q : List ℕ)
    → Leads t q front.bus → IsLegalIn t (place ∷ q) → ⊥
never_legal t place s front old b r given bus is refused q leads legal =
    refused_here t q place s b r is refused (given_leads t old b front.bus q given bus leads) legal

-- ---- the end

most_by : (t : Task) (n : ℕ) (s : Search) → HasEnded t n s
    → (s.is_cut ≡ false) ⊎ (n ≡ length t.seen) → (n < length t.seen) ⊎ (length t.seen ≤ n)
    → (q : List ℕ) → IsLegalIn t q → length q ≤ n
most_by t n s ended (inl whole) (inl lt) = nothing_longer t n (ended.ended lt whole)
most_by t n s ended (inl whole) (inr le) =
    all_fit t n (let few : n ≤ length t.seen = ended.few in let e : n ≡ length t.seen = omega arith in e)
most_by t n s ended (inr is) x = all_fit t n is

pub answer : (t : Task) (n : ℕ) (s : Search) (b : Beginning) (f : Found) → HasEnded t n s
    → (s.is_cut ≡ false) ⊎ (n ≡ length t.seen) → slice_get s.layer.kept.items 0 ≡ Some b
    → ((path : List ℕ) → Ends s.trail b.step path → reverse f.order.items ≡ path)
    → ((places : List ℕ) → AreTaken places b.taken → AreNext t.slacks t.seen places f.next.items)
    → All (λ p. p < length t.seen) f.next.items → IsAnswer t f
answer t n s b f ended whole is order next within =
    let first : IsKeptAs t s.trail n b (ended.layer.paths 0) = ended.layer.layer.kept.each 0 b is in
    let path : reverse f.order.items ≡ ended.layer.paths 0 = order (ended.layer.paths 0) first.ends in
    let longest : IsLongest t.version t.plan t.slacks t.seen (reverse f.order.items) =
    subst (λ l. IsLongest t.version t.plan t.slacks t.seen l) (sym path)
    (first_of t s.trail n s.layer.kept.items s.is_cut ended.layer.paths b is ended.layer.layer
    (most_by t n s ended whole (cases_lt n (length t.seen)))) in
    record {
      longest = longest;
      next = subst (λ l. AreNext t.slacks t.seen l f.next.items) (sym path)
          (next (ended.layer.paths 0) first.taken);
      within = reverse_within t.slacks t.seen f.order.items longest.legal.begins;
      next_within = within;
    }

-- no beginning has one place more
pub ended_here : (t : Task) (n : ℕ) (s : Search) → HasLayer t n s → HasLonger t n s
    → n < length t.seen → s.longer.kept.items ≡ [] → HasEnded t n s
ended_here t n s layer more lt empty = record {
  layer = layer;
  few = (let e : n ≤ length t.seen = omega arith in e);
  ended = λ lt whole. empty_layer t s.trail (n + 1) s.longer.kept.items s.is_cut more.longer empty whole
      more.layer;
}

-- all places are in
pub ended_whole : (t : Task) (n : ℕ) (s : Search) → HasLayer t n s → n ≡ length t.seen → HasEnded t n s
ended_whole t n s layer is = record {
  layer = layer;
  few = (let e : n ≤ length t.seen = omega arith in e);
  ended = λ lt whole. absurd (omega arith);
}

-- ---- answers of a step

pub an_error : (r : Result (Option Delivery) Refused) → is_err r ≡ true
    → (e : Refused) × (r ≡ Err e)
an_error (Ok f) h = absurd (no_both h)
  where
    no_both : false ≡ true → ⊥
    no_both h = cc
an_error (Err e) h = (e, refl)

pub no_error : (r : Result (Option Delivery) Refused) → is_err r ≡ false
    → (f : Option Delivery) × (r ≡ Ok f)
no_error (Ok f) h = (f, refl)
no_error (Err e) h = absurd (no_both h)
  where
    no_both : true ≡ false → ⊥
    no_both h = cc

-- ---- what holds of the same slacks and the same list

pub unfree_in : (t : Task) (x : Slacks) (ms : List Seen) (q : List ℕ) (from end : ℕ) → t.seen ≡ ms
    → t.slacks ≡ x → AreUnfree x ms q from end → AreUnfree t.slacks t.seen q from end
unfree_in t x ms q from end seen slacks h =
    subst (λ l. AreUnfree t.slacks l q from end) (sym seen)
    (subst (λ y. AreUnfree y ms q from end) (sym slacks) h)

pub free_in : (t : Task) (x : Slacks) (ms : List Seen) (q : List ℕ) (place : ℕ) → t.seen ≡ ms
    → t.slacks ≡ x → IsFree x ms q place → IsFree t.slacks t.seen q place
free_in t x ms q place seen slacks h =
    subst (λ l. IsFree t.slacks l q place) (sym seen)
    (subst (λ y. IsFree y ms q place) (sym slacks) h)

pub next_in : (t : Task) (x : Slacks) (ms : List Seen) (q next : List ℕ) → t.seen ≡ ms → t.slacks ≡ x
    → AreNext x ms q next → AreNext t.slacks t.seen q next
next_in t x ms q next seen slacks h =
    subst (λ l. AreNext t.slacks l q next) (sym seen) (subst (λ y. AreNext y ms q next) (sym slacks) h)

pub within_in : (t : Task) (ms : List Seen) (next : List ℕ) → t.seen ≡ ms
    → All (λ p. p < length ms) next → All (λ p. p < length t.seen) next
within_in t ms next seen h = subst (λ l. All (λ p. p < length l) next) (sym seen) h

pub whole_in : (t : Task) (n : ℕ) (ms : List Seen) (cut : Bool) → t.seen ≡ ms
    → (cut ≡ false) ⊎ (n ≡ length ms) → (cut ≡ false) ⊎ (n ≡ length t.seen)
whole_in t n ms cut seen (inl h) = inl h
whole_in t n ms cut seen (inr h) = inr (h ∙ ap length (sym seen))

-- ---- what an answer says

pub ok_within : (t : Task) (r : Result Found OrderFault) → IfOk r (IsAnswer t)
    → IfOk r (λ f. All (λ p. p < length t.seen) f.order.items)
ok_within t (Ok f) h = h.within
ok_within t (Err e) h = tt

pub ok_next_within : (t : Task) (r : Result Found OrderFault) → IfOk r (IsAnswer t)
    → IfOk r (λ f. All (λ p. p < length t.seen) f.next.items)
ok_next_within t (Ok f) h = h.next_within
ok_next_within t (Err e) h = tt

pub ok_longest : (t : Task) (r : Result Found OrderFault) → IfOk r (IsAnswer t)
    → IfOk r (λ f. IsLongest t.version t.plan t.slacks t.seen (reverse f.order.items))
ok_longest t (Ok f) h = h.longest
ok_longest t (Err e) h = tt

pub ok_next : (t : Task) (r : Result Found OrderFault) → IfOk r (IsAnswer t)
    → IfOk r (λ f. AreNext t.slacks t.seen (reverse f.order.items) f.next.items)
ok_next t (Ok f) h = h.next
ok_next t (Err e) h = tt
