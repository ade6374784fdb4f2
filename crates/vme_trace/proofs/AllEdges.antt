-- Every well-formed edge stands in the list of them all.
use Rattle.std.proofs.Common.{◌≡◌, ◌⊎◌, ◌&&◌, ℕ, suc, zero, ◌≤◌, Bool, true, false, ltb, leb, List, [], ◌∷◌, ◌++◌, map, filter, find, Option, Some, None, refl, sym, ◌∙◌, ap, arith, inl, inr}
use Rattle.std.proofs.lemmas.Bool.{cases_Bool}
use Rattle.std.proofs.lemmas.Bool.Decides.{nat_tests}
use Rattle.std.proofs.lemmas.Option.{same_Some}
use Rattle.std.specs.List.{flat_map, list_all}
use Rattle.vme_model.specs.declared.signals.Driver.{Driver}
use Rattle.vme_model.specs.declared.signals.Driver.TheVariants.{Controller, Slot}
use Rattle.vme_model.specs.declared.signals.Wire.{Wire}
use Rattle.vme_model.specs.declared.signals.Wire.TheVariants.{Bg, Bclr, Iack, Berr, Br, BgOut, Bbsy, Addr, AddressStrobe, DataStrobe, Irq, IackOut, Dtack}
use Rattle.vme_model.specs.declared.signals.Cycle.{Cycle}
use Rattle.vme_model.specs.declared.signals.Cycle.TheVariants.{Acknowledge, Access}
use Rattle.vme_model.specs.declared.signals.Edge.{Edge}
use Rattle.vme_model.specs.Signals.{is_well_formed, has_wire, has_value}
use Rattle.vme_model.specs.Plan.{up_to}
use Rattle.vme_model.specs.Text.{all_drivers, all_wires, all_values, all_edges}
use Rattle.vme_trace.proofs.Lines.{true_false}

abbrev pub In : {A : Type 0} → A → List A → Type 0
In x [] = ⊥
In x (y ∷ ys) = (y ≡ x) ⊎ In x ys

in_left : {A : Type 0} (x : A) (xs ys : List A) → In x xs → In x (xs ++ ys)
in_left x [] ys h = absurd h
in_left x (y ∷ xs) ys (inl h) = inl h
in_left x (y ∷ xs) ys (inr h) = inr (in_left x xs ys h)

in_right : {A : Type 0} (x : A) (xs ys : List A) → In x ys → In x (xs ++ ys)
in_right x [] ys h = h
in_right x (y ∷ xs) ys h = inr (in_right x xs ys h)

in_map : {A B : Type 0} (f : A → B) (x : A) (xs : List A) → In x xs → In (f x) (map f xs)
in_map f x [] h = absurd h
in_map f x (y ∷ xs) (inl h) = inl (ap f h)
in_map f x (y ∷ xs) (inr h) = inr (in_map f x xs h)

in_flat_map : {A B : Type 0} (f : A → List B) (x : A) (y : B) (xs : List A) → In x xs → In y (f x) → In y (flat_map f xs)
in_flat_map f x y [] h k = absurd h
in_flat_map f x y (z ∷ xs) (inl h) k = in_left y (f z) (flat_map f xs) (rw h k)
in_flat_map f x y (z ∷ xs) (inr h) k = in_right y (f z) (flat_map f xs) (in_flat_map f x y xs h k)

in_filter : {A : Type 0} (p : A → Bool) (x : A) (xs : List A) → In x xs → p x ≡ true → In x (filter p xs)
in_filter p x [] h t = absurd h
in_filter p x (y ∷ xs) (inl h) t = let q : p y ≡ true = ap p h ∙ t in rw q (inl h)
in_filter p x (y ∷ xs) (inr h) t =
    elim (cases_Bool (p y)) [
      | inl q ↦ rw q (inr (in_filter p x xs h t))
      | inr q ↦ rw q (in_filter p x xs h t)
    ]

pub none_some : {A : Type 0} (x : A) → ◌≡◌ {A = Option A} None (Some x) → ⊥
none_some x h = absurd (let e : ⊥ = cc in e)

both_left : (a b : Bool) → (a && b) ≡ true → a ≡ true
both_left true b h = refl
both_left false b h = h

both_right : (a b : Bool) → (a && b) ≡ true → b ≡ true
both_right true b h = h
both_right false b h = absurd (true_false (sym h))

pub filter_in : {A : Type 0} (p : A → Bool) (x : A) (xs : List A) → In x (filter p xs) → p x ≡ true
filter_in p x [] h = absurd h
filter_in p x (y ∷ xs) h =
    elim (cases_Bool (p y)) [
      | inl q ↦
          let k : (y ≡ x) ⊎ In x (filter p xs) = rw q at h in
          elim k [ inl e ↦ ap p (sym e) ∙ q | inr i ↦ filter_in p x xs i ]
      | inr q ↦ filter_in p x xs (rw q at h)
    ]

pub in_all : {A : Type 0} (p : A → Bool) (x : A) (xs : List A) → list_all p xs ≡ true → In x xs → p x ≡ true
in_all p x [] h k = absurd k
in_all p x (y ∷ xs) h (inl k) = ap p (sym k) ∙ both_left (p y) (list_all p xs) h
in_all p x (y ∷ xs) h (inr k) = in_all p x xs (both_right (p y) (list_all p xs) h) k

pub find_in : {A : Type 0} (p : A → Bool) (x : A) (xs : List A) → find p xs ≡ Some x → In x xs × (p x ≡ true)
find_in p x [] h = absurd (none_some x h)
find_in p x (y ∷ xs) h =
    elim (cases_Bool (p y)) [
      | inl q ↦ let e : y ≡ x = same_Some _ _ (rw q at h) in (inl e, ap p (sym e) ∙ q)
      | inr q ↦ let k = find_in p x xs (rw q at h) in (inr k.0, k.1)
    ]

pub find_none : {A : Type 0} (p : A → Bool) (x : A) (xs : List A) → find p xs ≡ None → In x xs → p x ≡ false
find_none p x [] h k = absurd k
find_none p x (y ∷ xs) h k =
    elim (cases_Bool (p y)) [
      | inl q ↦ absurd (none_some y (sym (let e : Some y ≡ None = rw q at h in e)))
      | inr q ↦ elim k [ inl e ↦ ap p (sym e) ∙ q | inr i ↦ find_none p x xs (rw q at h) i ]
    ]

-- ---- each well-formed edge

in_up_to : (n s : ℕ) → 1 ≤ s → s ≤ n → In s (up_to n)
in_up_to zero s low high = absurd (omega arith)
in_up_to (suc n) s low high =
    elim (cases_Bool (leb s n)) [
      | inl q ↦ let h : s ≤ n = grind (arith, nat_tests) in in_left s (up_to n) (suc n ∷ []) (in_up_to n s low h)
      | inr q ↦ let h : suc n ≡ s = grind (arith, nat_tests) in in_right s (up_to n) (suc n ∷ []) (inl h)
    ]

pub in_slots : (s : ℕ) → (leb 1 s && leb s 21) ≡ true → In s (up_to 21)
in_slots s h =
    let a : leb 1 s ≡ true = both_left (leb 1 s) (leb s 21) h in
    let b : leb s 21 ≡ true = both_right (leb 1 s) (leb s 21) h in
    in_up_to 21 s (grind (arith, nat_tests)) (grind (arith, nat_tests))

pub in_levels : (s : ℕ) → (leb 1 s && leb s 7) ≡ true → In s (up_to 7)
in_levels s h =
    let a : leb 1 s ≡ true = both_left (leb 1 s) (leb s 7) h in
    let b : leb s 7 ≡ true = both_right (leb 1 s) (leb s 7) h in
    in_up_to 7 s (grind (arith, nat_tests)) (grind (arith, nat_tests))

-- the driver is in the list of all drivers if it has some wire
in_drivers : (d : Driver) (w : Wire) → has_wire d w ≡ true → In d all_drivers
in_drivers Controller w h = inl refl
in_drivers (Slot s) (Bg n) h = absurd (true_false (sym h))
in_drivers (Slot s) Bclr h = absurd (true_false (sym h))
in_drivers (Slot s) Iack h = absurd (true_false (sym h))
in_drivers (Slot s) Berr h = absurd (true_false (sym h))
in_drivers (Slot s) w h = inr (in_map (λ t. Slot t) s (up_to 21) (in_slots s h))

in_grants : (n : ℕ) → ltb n 4 ≡ true → In (Bg n) all_wires
in_grants zero h = inl refl
in_grants (suc zero) h = inr (inl refl)
in_grants (suc (suc zero)) h = inr (inr (inl refl))
in_grants (suc (suc (suc zero))) h = inr (inr (inr (inl refl)))
in_grants (suc (suc (suc (suc n)))) h = absurd (true_false (sym (let e : ltb (suc (suc (suc (suc n)))) 4 ≡ false = grind (arith, nat_tests) in sym e ∙ h)))

in_wires : (d : Driver) (w : Wire) → has_wire d w ≡ true → In w all_wires
in_wires Controller (Bg n) h = in_grants n h
in_wires (Slot s) (Bg n) h = absurd (true_false (sym h))
in_wires d Bclr h = inr (inr (inr (inr (inl refl))))
in_wires d Iack h = inr (inr (inr (inr (inr (inl refl)))))
in_wires d Berr h = inr (inr (inr (inr (inr (inr (inl refl))))))
in_wires d Br h = inr (inr (inr (inr (inr (inr (inr (inl refl)))))))
in_wires d BgOut h = inr (inr (inr (inr (inr (inr (inr (inr (inl refl))))))))
in_wires d Bbsy h = inr (inr (inr (inr (inr (inr (inr (inr (inr (inl refl)))))))))
in_wires d Addr h = inr (inr (inr (inr (inr (inr (inr (inr (inr (inr (inl refl))))))))))
in_wires d AddressStrobe h = inr (inr (inr (inr (inr (inr (inr (inr (inr (inr (inr (inl refl)))))))))))
in_wires d DataStrobe h = inr (inr (inr (inr (inr (inr (inr (inr (inr (inr (inr (inr (inl refl))))))))))))
in_wires d Irq h = inr (inr (inr (inr (inr (inr (inr (inr (inr (inr (inr (inr (inr (inl refl)))))))))))))
in_wires d IackOut h = inr (inr (inr (inr (inr (inr (inr (inr (inr (inr (inr (inr (inr (inr (inl refl))))))))))))))
in_wires d Dtack h = inr (inr (inr (inr (inr (inr (inr (inr (inr (inr (inr (inr (inr (inr (inr (inl refl)))))))))))))))

abbrev shown : List (Option Cycle)
shown = map (λ t. Some (Access t)) (up_to 21)

abbrev acknowledged : List (Option Cycle)
acknowledged = map (λ v. Some (Acknowledge v)) (up_to 7)

in_values : (w : Wire) (fall : Bool) (value : Option Cycle) → has_value w fall value ≡ true → In value all_values
in_values w fall None h = inl refl
in_values Addr true (Some (Acknowledge v)) h = inr (in_left (Some (Acknowledge v)) acknowledged shown (in_map (λ x. Some (Acknowledge x)) v (up_to 7) (in_levels v h)))
in_values Addr true (Some (Access t)) h = inr (in_right (Some (Access t)) acknowledged shown (in_map (λ x. Some (Access x)) t (up_to 21) (in_slots t h)))
in_values w fall (Some c) h = absurd (true_false (sym h))

abbrev pub edge : Driver → Wire → Bool → Option Cycle → Edge
edge d w f v = record { driver = d; wire = w; fall = f; value = v }

abbrev pub both_ways : Driver → Wire → Option Cycle → List Edge
both_ways d w v = edge d w true v ∷ edge d w false v ∷ []

either_way : (d : Driver) (w : Wire) (f : Bool) (v : Option Cycle) → In (edge d w f v) (both_ways d w v)
either_way d w true v = inl refl
either_way d w false v = inr (inl refl)

candidate : (ds : List Driver) (ws : List Wire) (vs : List (Option Cycle)) (d : Driver) (w : Wire) (f : Bool) (v : Option Cycle) → In d ds → In w ws → In v vs
    → In (edge d w f v) (flat_map (λ d. flat_map (λ w. flat_map (λ v. both_ways d w v) vs) ws) ds)
candidate ds ws vs d w f v hd hw hv =
    in_flat_map (λ d. flat_map (λ w. flat_map (λ v. both_ways d w v) vs) ws) d (edge d w f v) ds hd
    (in_flat_map (λ w. flat_map (λ v. both_ways d w v) vs) w (edge d w f v) ws hw
    (in_flat_map (λ v. both_ways d w v) v (edge d w f v) vs hv (either_way d w f v)))

abbrev candidates : List Edge
candidates = flat_map (λ d. flat_map (λ w. flat_map (λ v. both_ways d w v) all_values) all_wires) all_drivers

pub every_edge : (e : Edge) → is_well_formed e ≡ true → In e all_edges
unfolding all_edges
every_edge e h =
    let wire = both_left (has_wire e.driver e.wire) (has_value e.wire e.fall e.value) h in
    let value = both_right (has_wire e.driver e.wire) (has_value e.wire e.fall e.value) h in
    in_filter is_well_formed e candidates
    (candidate all_drivers all_wires all_values e.driver e.wire e.fall e.value (in_drivers e.driver e.wire wire)
    (in_wires e.driver e.wire wire) (in_values e.wire e.fall e.value value)) h

pub formed : (e : Edge) → In e all_edges → is_well_formed e ≡ true
unfolding all_edges
formed e h = filter_in is_well_formed e candidates h
