-- When two edges are the same.
use Rattle.std.proofs.Common.{◌≡◌, ℕ, Bool, true, false, ◌&&◌, cond, refl, sym, ap, subst, arith, Option, Some, None}
use Rattle.std.specs.Prelude.{◌==◌}
use Rattle.std.proofs.lemmas.Bool.Decides.{nat_tests}
use Rattle.vme_model.specs.declared.signals.Driver.{Driver}
use Rattle.vme_model.specs.declared.signals.Driver.TheVariants.{Controller, Slot}
use Rattle.vme_model.specs.declared.signals.Wire.{Wire}
use Rattle.vme_model.specs.declared.signals.Wire.TheVariants.{Bg, Bclr, Iack, Berr, Br, BgOut, Bbsy, Addr, AddressStrobe, DataStrobe, Irq, IackOut, Dtack}
use Rattle.vme_model.specs.declared.signals.Cycle.{Cycle}
use Rattle.vme_model.specs.declared.signals.Cycle.TheVariants.{Acknowledge, Access}
use Rattle.vme_model.specs.declared.signals.Edge.{Edge}
use Rattle.vme_model.specs.Signals.{is_same_driver, is_same_wire}
use Rattle.vme_lock.specs.Logs.{is_same_value, is_same_turn, is_same_edge}

pub never : true ≡ false → ⊥
never e = let P : Bool → Type 0 = λ b. cond b (Unit {0}) ⊥ in subst P e tt

split : (a b : Bool) → (a && b) ≡ true → (a ≡ true) × (b ≡ true)
split true b e = (refl, e)
split false b e = absurd (never (sym e))

number : (m n : ℕ) → (m == n) ≡ true → m ≡ n
number m n e = grind (arith, nat_tests)

own_number : (n : ℕ) → (n == n) ≡ true
own_number n = grind (arith, nat_tests)

pub one_driver : (a b : Driver) → is_same_driver a b ≡ true → a ≡ b
one_driver Controller Controller e = refl
one_driver (Slot s) (Slot t) e = ap (λ k. Slot k) (number s t e)
one_driver _ _ e = absurd (never (sym e))

one_wire : (a b : Wire) → is_same_wire a b ≡ true → a ≡ b
one_wire (Bg m) (Bg n) e = ap (λ k. Bg k) (number m n e)
one_wire Bclr Bclr e = refl
one_wire Iack Iack e = refl
one_wire Berr Berr e = refl
one_wire Br Br e = refl
one_wire BgOut BgOut e = refl
one_wire Bbsy Bbsy e = refl
one_wire Addr Addr e = refl
one_wire AddressStrobe AddressStrobe e = refl
one_wire DataStrobe DataStrobe e = refl
one_wire Irq Irq e = refl
one_wire IackOut IackOut e = refl
one_wire Dtack Dtack e = refl
one_wire _ _ e = absurd (never (sym e))

one_turn : (a b : Bool) → is_same_turn a b ≡ true → a ≡ b
one_turn true true e = refl
one_turn false false e = refl
one_turn _ _ e = absurd (never (sym e))

one_value : (a b : Option Cycle) → is_same_value a b ≡ true → a ≡ b
one_value None None e = refl
one_value (Some (Acknowledge m)) (Some (Acknowledge n)) e = ap (λ k. Some (Acknowledge k)) (number m n e)
one_value (Some (Access s)) (Some (Access t)) e = ap (λ k. Some (Access k)) (number s t e)
one_value _ _ e = absurd (never (sym e))

pub one_edge : (x y : Edge) → is_same_edge x y ≡ true → x ≡ y
one_edge x y e =
    let c = split (is_same_driver x.driver y.driver && is_same_wire x.wire y.wire && is_same_turn x.fall y.fall) _ e in
    let b = split (is_same_driver x.driver y.driver && is_same_wire x.wire y.wire) _ c.0 in
    let a = split (is_same_driver x.driver y.driver) _ b.0 in
    together x y (one_driver x.driver y.driver a.0) (one_wire x.wire y.wire a.1) (one_turn x.fall y.fall b.1) (one_value x.value y.value c.1)
  where
    together : (x y : Edge) → x.driver ≡ y.driver → x.wire ≡ y.wire → x.fall ≡ y.fall → x.value ≡ y.value → x ≡ y
    together x y a b c d = rw (a, b, c, d) refl

own_driver : (d : Driver) → is_same_driver d d ≡ true
own_driver Controller = refl
own_driver (Slot s) = own_number s

own_wire : (w : Wire) → is_same_wire w w ≡ true
own_wire (Bg m) = own_number m
own_wire w = refl

own_turn : (b : Bool) → is_same_turn b b ≡ true
own_turn true = refl
own_turn false = refl

own_value : (v : Option Cycle) → is_same_value v v ≡ true
own_value None = refl
own_value (Some (Acknowledge m)) = own_number m
own_value (Some (Access s)) = own_number s

pub own_edge : (e : Edge) → is_same_edge e e ≡ true
own_edge e = rw (own_driver e.driver, own_wire e.wire, own_turn e.fall, own_value e.value) refl
