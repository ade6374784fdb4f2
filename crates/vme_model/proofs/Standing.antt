-- The bus stands where it is reported to stand, and either all accesses are open or none is.
use Rattle.std.proofs.Common.{◌≡◌, ◌∙◌, ℕ, zero, suc, ◌<◌, Bool, true, false, List, [], ◌∷◌, ◌++◌, Some, None, Ok, refl, sym, ap, subst, arith}
use Rattle.std.specs.Prelude.{◌&&◌, not, if◌then◌else◌, find, map}
use Rattle.std.specs.List.{All, Contains}
use Rattle.std.proofs.lemmas.List.Elements.{All-contains, All-append, All-cons, All-nil}
use Rattle.vme_model.specs.declared.refusals.Refused.TheVariants.{NoSuchDriver, NotSettled, TraceFull}
use Rattle.vme_model.specs.declared.conditions.Condition.TheVariants.{HasDriver}
use Rattle.vme_model.specs.declared.signals.Driver.{Driver}
use Rattle.vme_model.specs.declared.signals.Driver.TheVariants.{Slot}
use Rattle.vme_model.specs.declared.signals.Wire.TheVariants.{Addr, Bbsy, BgOut}
use Rattle.vme_model.specs.declared.signals.Cycle.TheVariants.{Access}
use Rattle.vme_model.specs.declared.signals.Edge.{Edge}
use Rattle.vme_model.specs.Signals.{has_wire, is_slot}
use Rattle.vme_model.specs.Plan.{Plan, active, grant_chain, has_driver}
use Rattle.vme_model.specs.History.{drive, input}
use Rattle.vme_model.specs.Readings.{readings}
use Rattle.vme_model.specs.Guards.{asks, holds}
use Rattle.vme_model.specs.Rules.{bus_numbers}
use Rattle.vme_model.specs.Settling.{settling}
use Rattle.vme_model.specs.GrantSafety.{Travels, Holds}
use Rattle.vme_model.specs.Verdict.{State, check, ruled, settled, room_guard, verdict}
use Rattle.vme_model.specs.Open.{showing}
use Rattle.vme_model.specs.Stands.{holder, is_granted_at, grant_places, grant_at}
use Rattle.vme_model.proofs.Bools.{and_left, and_right, never}
use Rattle.vme_model.proofs.OpenEdges.{here, there, by_map, by_flat_map}

-- what a search finds passes and is in the list, and it finds nothing only if nothing passes
found_step : {X : Type 0} (test : X → Bool) (y x : X) (ys : List X) (b : Bool) → test y ≡ b → (if b then Some y else find test ys) ≡ Some x → (find test ys ≡ Some x → (test x ≡ true) × Contains ys x)
    → (test x ≡ true) × Contains (y ∷ ys) x
found_step test y x ys true e h next =
    let same : y ≡ x = cc in (subst (λ z. test z ≡ true) same e, subst (λ z. Contains (y ∷ ys) z) same (here y ys))
found_step test y x ys false e h next = ((next h).0, there y x ys (next h).1)

found : {X : Type 0} (test : X → Bool) (xs : List X) (x : X) → find test xs ≡ Some x → (test x ≡ true) × Contains xs x
found test [] x h = absurd (cc)
found test (y ∷ ys) x h = found_step test y x ys (test y) refl h (found test ys x)

none_here : {X : Type 0} (test : X → Bool) (y : X) (ys : List X) (b : Bool) → test y ≡ b → (if b then Some y else find test ys) ≡ None → test y ≡ false
none_here test y ys true e h = absurd (cc)
none_here test y ys false e h = e

none_later : {X : Type 0} (test : X → Bool) (y : X) (ys : List X) (b : Bool) → (if b then Some y else find test ys) ≡ None → find test ys ≡ None
none_later test y ys true h = absurd (cc)
none_later test y ys false h = h

none_passes : {X : Type 0} (test : X → Bool) (xs : List X) → find test xs ≡ None → All (λ x. test x ≡ false) xs
none_passes test [] h = All-nil (λ x. test x ≡ false)
none_passes test (y ∷ ys) h =
    All-cons (λ x. test x ≡ false) y ys (none_here test y ys (test y) refl h) (none_passes test ys (none_later test y ys (test y) h))

pub holder_holds : (p : Plan) (h : List Edge) (s : ℕ) → holder p h ≡ Some s → Holds h s
holder_holds p h s e = (found (λ t. drive h (Slot t) Bbsy) _ s e).0

-- a place of a grant is a slot of its chain
abbrev IsPlace : Plan → ℕ × ℕ → Type 0
IsPlace p m = (m.0 < 4) × Contains (active p (grant_chain m.0)) m.1

places_of : (p : Plan) (n : ℕ) → n < 4 → (xs : List ℕ) → ((s : ℕ) → Contains xs s → Contains (active p (grant_chain n)) s) → All (IsPlace p) (map (λ s. (n, s)) xs)
places_of p n lt [] f = All-nil (IsPlace p)
places_of p n lt (x ∷ xs) f = All-cons (IsPlace p) (n, x) (map (λ s. (n, s)) xs) (lt, f x (here x xs)) (places_of p n lt xs (λ s c. f s (there x s xs c)))

chain_places : (p : Plan) (n : ℕ) → n < 4 → All (IsPlace p) (map (λ s. (n, s)) (active p (grant_chain n)))
chain_places p n lt = places_of p n lt (active p (grant_chain n)) (λ s c. c)

abbrev at_level : Plan → ℕ → List (ℕ × ℕ)
at_level p n = map (λ s. (n, s)) (active p (grant_chain n))

all_places : (p : Plan) → All (IsPlace p) (grant_places p)
all_places p =
    All-append (IsPlace p) (at_level p 0) (at_level p 1 ++ (at_level p 2 ++ (at_level p 3 ++ []))) (chain_places p 0 (omega arith))
    (All-append (IsPlace p) (at_level p 1) (at_level p 2 ++ (at_level p 3 ++ [])) (chain_places p 1 (omega arith))
    (All-append (IsPlace p) (at_level p 2) (at_level p 3 ++ []) (chain_places p 2 (omega arith))
    (All-append (IsPlace p) (at_level p 3) [] (chain_places p 3 (omega arith)) (All-nil (IsPlace p)))))

was_high : (b : Bool) → not b ≡ true → b ≡ false
was_high true e = absurd (cc)
was_high false e = refl

pub grant_travels : (p : Plan) (h : List Edge) (n s : ℕ) → grant_at p h ≡ Some (n, s) → Travels p h n s
grant_travels p h n s e =
    let f = found (is_granted_at p h) (grant_places p) (n, s) e in
    let in_chain = All-contains (IsPlace p) (grant_places p) (n, s) (all_places p) f.1 in
    let front = and_left (input p h (grant_chain n) s && not (drive h (Slot s) BgOut)) (not (drive h (Slot s) Bbsy)) f.0 in
    record {
      level = in_chain.0;
      member = in_chain.1;
      granted = and_left (input p h (grant_chain n) s) (not (drive h (Slot s) BgOut)) front;
      unpassed = was_high (drive h (Slot s) BgOut) (and_right (input p h (grant_chain n) s) (not (drive h (Slot s) BgOut)) front);
      untaken = was_high (drive h (Slot s) Bbsy) (and_right (input p h (grant_chain n) s && not (drive h (Slot s) BgOut)) (not (drive h (Slot s) Bbsy)) f.0);
    }

is_bus_number : (n : ℕ) → n < 4 → Contains bus_numbers n
is_bus_number zero h = (0, omega arith, refl)
is_bus_number (suc zero) h = (1, omega arith, refl)
is_bus_number (suc (suc zero)) h = (2, omega arith, refl)
is_bus_number (suc (suc (suc zero))) h = (3, omega arith, refl)
is_bus_number (suc (suc (suc (suc n)))) h = absurd (omega arith)

three : (a b c : Bool) → a ≡ true → b ≡ false → c ≡ false → (a && not b && not c) ≡ true
three a b c e f g = rw (e, f, g) refl

stop : (p : Plan) (h : List Edge) (n s : ℕ) → Travels p h n s → Contains (grant_places p) (n, s)
stop p h n s t = by_flat_map (at_level p) bus_numbers n (n, s) (is_bus_number n t.level) (by_map (λ x. (n, x)) (active p (grant_chain n)) s t.member)

pub none_travels : (p : Plan) (h : List Edge) → grant_at p h ≡ None → (n s : ℕ) → Travels p h n s → ⊥
none_travels p h e n s t =
    never (sym (All-contains (λ m. is_granted_at p h m ≡ false) (grant_places p) (n, s) (none_passes (is_granted_at p h) (grant_places p) e) (stop p h n s t))
    ∙ three (input p h (grant_chain n) s) (drive h (Slot s) BgOut) (drive h (Slot s) Bbsy) t.granted t.unpassed t.untaken)

-- the verdict on an access depends on its slot only in that there can be such a slot
pub accesses_alike : (b : State) (d : Driver) (s t : ℕ) → is_slot s ≡ true → is_slot t ≡ true → verdict b (showing d (Access s)) ≡ verdict b (showing d (Access t))
accesses_alike b d s t hs ht =
    ap (λ x. check (holds (asks HasDriver ((has_wire d Addr && x) && has_driver b.plan d Addr))) NoSuchDriver
    (ruled b.version (readings b.plan b.history d) Addr true (Some (Access s))
    (check (settled b.version b.plan b.history (showing d (Access s))) (NotSettled (settling b.version b.plan b.history Addr true).0)
    (check (holds (room_guard b)) TraceFull (Ok tt))))) (hs ∙ sym ht)
