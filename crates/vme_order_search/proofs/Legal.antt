-- Legal beginnings, and one place more.
use Rattle.std.proofs.Common.{◌≡◌, ◌⊎◌, inl, inr, ◌<◌, ◌≤◌, ◌||◌, ℕ, Bool, true, false, eqb, List}
use Rattle.std.proofs.Common.{[], ◌∷◌, Option, Some, None, Result, Ok, Err, length, refl, sym, ◌∙◌, subst}
use Rattle.std.proofs.Common.{ap, arith}
use Rattle.std.specs.Prelude.{◌==◌}
use Rattle.std.proofs.lemmas.Bool.Decides.{nat_tests}
use Rattle.std.specs.List.{AllByRecursion, IsDistinct, list_any, slice_get}
use Rattle.std.specs.Option.{option_map_or}
use Rattle.std.proofs.lemmas.Map.Steps.{length-le_from_distinct_below}
use Rattle.vme_model.specs.declared.deliveries.Delivery.{Delivery}
use Rattle.vme_model.specs.declared.refusals.Refused.{Refused}
use Rattle.vme_model.specs.declared.signals.Version.{Version}
use Rattle.vme_model.specs.declared.signals.Edge.{Edge}
use Rattle.vme_model.specs.Deliveries.{delivery, with_delivery}
use Rattle.vme_model.specs.Plan.{Plan}
use Rattle.vme_model.specs.Verdict.{IsLegal, verdict_but_full}
use Rattle.vme_moments.specs.declared.Seen.{Seen}
use Rattle.vme_moments.specs.declared.slacks.Slacks.{Slacks}
use Rattle.vme_moments.specs.Orders.{IsBeginning, IsFree, edges_at, has}
use Rattle.vme_bus.specs.declared.states.BusState.{BusState}
use Rattle.vme_bus.specs.States.{IsStateOf, OfHistory}
use Rattle.vme_bus.specs.Steps.{answer_but_full, kept_but_full}
use Rattle.vme_order_search.specs.Searching.{Task, IsLegalIn, LeadsTo}

-- ---- the front of a legal beginning

legal_rest : (version : Version) (p : Plan) (es : List Edge) (o : Option Seen)
    → IsLegal version p (option_map_or (λ s. s.edge ∷ es) o es) → IsLegal version p es
legal_rest version p es None h = h
legal_rest version p es (Some s) h = h.1

pub front_legal : (t : Task) (j : ℕ) (q : List ℕ) → IsLegalIn t (j ∷ q) → IsLegalIn t q
front_legal t j q h = record {
  begins = h.begins.1;
  legal = legal_rest t.version t.plan (edges_at t.seen q) (slice_get t.seen j) h.legal;
}

pub last_free : (t : Task) (j : ℕ) (q : List ℕ) → IsLegalIn t (j ∷ q) → IsFree t.slacks t.seen q j
last_free t j q h = h.begins.0

-- ---- one place more

-- the edge at a place, before those at others
edge_first : (t : Task) (j : ℕ) (s : Seen) (q : List ℕ) → slice_get t.seen j ≡ Some s
    → edges_at t.seen (j ∷ q) ≡ s.edge ∷ edges_at t.seen q
edge_first t j s q is =
    ap (λ o. option_map_or (λ m. m.edge ∷ edges_at t.seen q) o (edges_at t.seen q)) is

allowed_or_not : (version : Version) (p : Plan) (h : List Edge) (e : Edge) (r : Refused)
    → answer_but_full version p h e ≡ Err r → verdict_but_full version p h e ≡ Ok tt → ⊥
allowed_or_not version p h e r refused allowed =
    let ok : with_delivery (Ok tt) (delivery p h e) ≡ Err r =
    subst (λ v. with_delivery v (delivery p h e) ≡ Err r) allowed refused in
    no_both (delivery p h e) r ok
  where
    no_both : (d : Option Delivery) (r : Refused)
        → (let o : Result (Option Delivery) Refused = Ok d in o ≡ Err r) → ⊥
    no_both d r h = cc

-- a place whose edge is refused
pub refused_here : (t : Task) (q : List ℕ) (j : ℕ) (s : Seen) (b : BusState) (r : Refused)
    → slice_get t.seen j ≡ Some s
    → OfHistory b (λ version p h. Err r ≡ answer_but_full version p h s.edge)
    → LeadsTo t q b → IsLegalIn t (j ∷ q) → ⊥
refused_here t q j s b r is refused leads legal =
    let allowed : IsLegal t.version t.plan (s.edge ∷ edges_at t.seen q) =
    subst (λ es. IsLegal t.version t.plan es) (edge_first t j s q is) legal.legal in
    allowed_or_not t.version t.plan (edges_at t.seen q) s.edge r
    (sym (refused t.version t.plan (edges_at t.seen q) leads)) allowed.0

accepted_verdict : (v : Result (Unit {0}) Refused) (d f : Option Delivery) → Ok f ≡ with_delivery v d
    → v ≡ Ok tt
accepted_verdict (Ok tt) d f h = refl
accepted_verdict (Err r) d f h = absurd (no_both f r h)
  where
    no_both : (d : Option Delivery) (r : Refused)
        → (let o : Result (Option Delivery) Refused = Ok d in o ≡ Err r) → ⊥
    no_both d r h = cc

accepted_ok : (t : Task) (q : List ℕ) (e : Edge) (b : BusState) (f : Option Delivery)
    → OfHistory b (λ version p h. Ok f ≡ answer_but_full version p h e) → LeadsTo t q b
    → verdict_but_full t.version t.plan (edges_at t.seen q) e ≡ Ok tt
accepted_ok t q e b f accepted leads =
    let h : List Edge = edges_at t.seen q in
    accepted_verdict (verdict_but_full t.version t.plan h e) (delivery t.plan h e) f
    (accepted t.version t.plan h leads)

-- the state after an accepted edge is that of the longer list
pub accepted_leads : (t : Task) (q : List ℕ) (j : ℕ) (s : Seen) (b c : BusState)
    (f : Option Delivery) → slice_get t.seen j ≡ Some s
    → OfHistory b (λ version p h. Ok f ≡ answer_but_full version p h s.edge)
    → OfHistory b (λ version p h. IsStateOf version p (kept_but_full version p h s.edge) c)
    → LeadsTo t q b → LeadsTo t (j ∷ q) c
accepted_leads t q j s b c f is accepted state leads =
    let h : List Edge = edges_at t.seen q in
    let ok : verdict_but_full t.version t.plan h s.edge ≡ Ok tt =
    accepted_ok t q s.edge b f accepted leads in
    let longer : kept_but_full t.version t.plan h s.edge ≡ s.edge ∷ h = rw ok refl in
    subst (λ es. IsStateOf t.version t.plan es c) (longer ∙ sym (edge_first t j s q is))
    (state t.version t.plan h leads)

-- the longer list is legal
pub accepted_legal : (t : Task) (q : List ℕ) (j : ℕ) (s : Seen) (b : BusState)
    (f : Option Delivery) → slice_get t.seen j ≡ Some s
    → OfHistory b (λ version p h. Ok f ≡ answer_but_full version p h s.edge)
    → LeadsTo t q b → IsFree t.slacks t.seen q j → IsLegalIn t q → IsLegalIn t (j ∷ q)
accepted_legal t q j s b f is accepted leads free legal = record {
  begins = (free, legal.begins);
  legal = subst (λ es. IsLegal t.version t.plan es) (sym (edge_first t j s q is))
      (accepted_ok t q s.edge b f accepted leads, legal.legal);
}

-- ---- a beginning has each place once

not_one : (i j : ℕ) (b : Bool) → ((i == j) || b) ≡ false → eqb j i ≡ false
not_one i j b h = grind (arith, nat_tests)

none_more : (i j : ℕ) (b : Bool) → ((i == j) || b) ≡ false → b ≡ false
none_more i j b h = grind (arith, nat_tests)

others : (j : ℕ) (places : List ℕ) → has places j ≡ false
    → AllByRecursion (λ y. eqb j y ≡ false) places
others j [] h = tt
others j (i ∷ places) h =
    (not_one i j (has places j) h, others j places (none_more i j (has places j) h))

distinct : (x : Slacks) (ms : List Seen) (places : List ℕ) → IsBeginning x ms places
    → IsDistinct eqb places
unfolding IsDistinct
distinct x ms [] h = tt
distinct x ms (j ∷ places) h = (others j places h.0.new, distinct x ms places h.1)

first_or_rest : (q i : ℕ) (b : Bool) → (eqb q i || b) ≡ true → (q ≡ i) ⊎ (b ≡ true)
first_or_rest q i true h = inr refl
first_or_rest q i false h = inl (grind (arith, nat_tests))

within_by : (x : Slacks) (ms : List Seen) (i : ℕ) (places : List ℕ) (q : ℕ)
    → IsFree x ms places i → (list_any (eqb q) places ≡ true → q < length ms)
    → (q ≡ i) ⊎ (list_any (eqb q) places ≡ true) → q < length ms
within_by x ms i places q free rest (inl e) =
    let within : i < length ms = free.within in omega arith
within_by x ms i places q free rest (inr h) = rest h

all_within : (x : Slacks) (ms : List Seen) (places : List ℕ) (q : ℕ) → IsBeginning x ms places
    → list_any (eqb q) places ≡ true → q < length ms
all_within x ms [] q h is = absurd (no_both is)
  where
    no_both : false ≡ true → ⊥
    no_both h = cc
all_within x ms (i ∷ places) q h is =
    within_by x ms i places q h.0 (all_within x ms places q h.1)
    (first_or_rest q i (list_any (eqb q) places) is)

-- no beginning has more places than there are
pub beginning_fits : (x : Slacks) (ms : List Seen) (places : List ℕ) → IsBeginning x ms places
    → length places ≤ length ms
beginning_fits x ms places h =
    length-le_from_distinct_below places (length ms) (distinct x ms places h)
    (λ q is. all_within x ms places q h is)
