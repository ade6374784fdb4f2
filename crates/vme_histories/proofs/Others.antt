-- What an edge of another driver leaves unchanged.
use Rattle.std.proofs.Common.{◌≡◌, ◌∙◌, refl, ap, ℕ, Bool, true, false, List, ◌∷◌, arith}
use Rattle.std.specs.Prelude.{◌&&◌, ◌||◌, ◌+◌, if◌then◌else◌}
use Rattle.vme_model.specs.declared.signals.Driver.{Driver}
use Rattle.vme_model.specs.declared.signals.Wire.{Wire}
use Rattle.vme_model.specs.declared.signals.Wire.TheVariants.{Bg, Bclr, Iack, Berr, Br, BgOut, Bbsy, Addr, AddressStrobe, DataStrobe, Irq, IackOut, Dtack}
use Rattle.vme_model.specs.declared.signals.Edge.{Edge}
use Rattle.vme_model.specs.Signals.{is_same_driver, is_same_wire, is_edge_of, is_fall_of}
use Rattle.vme_model.specs.History.{drive, cycles, has_strobed}
use Rattle.vme_model.proofs.Bools.{same_number}

-- one wire
pub same_wire : (a b : Wire) → is_same_wire a b ≡ true → a ≡ b
same_wire (Bg m) (Bg n) e = ap (λ x. Bg x) (same_number m n e)
same_wire Bclr Bclr e = refl
same_wire Iack Iack e = refl
same_wire Berr Berr e = refl
same_wire Br Br e = refl
same_wire BgOut BgOut e = refl
same_wire Bbsy Bbsy e = refl
same_wire Addr Addr e = refl
same_wire AddressStrobe AddressStrobe e = refl
same_wire DataStrobe DataStrobe e = refl
same_wire Irq Irq e = refl
same_wire IackOut IackOut e = refl
same_wire Dtack Dtack e = refl
same_wire a b e = absurd (cc)

no_and : (a b : Bool) → b ≡ false → (a && b) ≡ false
no_and true b e = e
no_and false b e = refl

not_of : (d : Driver) (w : Wire) (e : Edge) → is_same_driver e.driver d ≡ false → is_edge_of d w e ≡ false
not_of d w e other = no_and (is_same_wire e.wire w) (is_same_driver e.driver d) other

pub not_fall : (d : Driver) (w : Wire) (e : Edge) → is_same_driver e.driver d ≡ false → is_fall_of d w e ≡ false
not_fall d w e other = no_and e.fall (is_edge_of d w e) (not_of d w e other)

pub drive_same : (h : List Edge) (e : Edge) (d : Driver) (w : Wire) → is_same_driver e.driver d ≡ false → drive (e ∷ h) d w ≡ drive h d w
drive_same h e d w other = ap (λ b. if b then e.fall else drive h d w) (not_of d w e other)

pub cycles_same : (h : List Edge) (e : Edge) (d : Driver) → is_same_driver e.driver d ≡ false → cycles (e ∷ h) d ≡ cycles h d
cycles_same h e d other =
    ap (λ b. if b then 0 else (if is_fall_of d AddressStrobe e then 1 else 0) + cycles h d) (not_fall d Bbsy e other)
    ∙ ap (λ b. (if b then 1 else 0) + cycles h d) (not_fall d AddressStrobe e other)
    ∙ none (cycles h d)
  where
    none : (n : ℕ) → 0 + n ≡ n
    none n = omega arith

pub strobed_same : (h : List Edge) (e : Edge) (d : Driver) → is_same_driver e.driver d ≡ false → has_strobed (e ∷ h) d ≡ has_strobed h d
strobed_same h e d other =
    ap (λ b. if b then false else is_fall_of d DataStrobe e || has_strobed h d) (not_fall d AddressStrobe e other)
    ∙ ap (λ b. b || has_strobed h d) (not_fall d DataStrobe e other)
