-- each wire is of one part, and has a number of its own
use Rattle.std.proofs.Common.{◌≡◌, refl, sym, ◌∙◌, ap, ℕ, zero, suc, true, false, Some, arith}
use Rattle.std.specs.Prelude.{slice_get}
use Rattle.vme_model.specs.declared.signals.Driver.TheVariants.{Controller, Slot}
use Rattle.vme_model.specs.declared.signals.Part.{Part}
use Rattle.vme_model.specs.declared.signals.Part.TheVariants as part
use Rattle.vme_model.specs.declared.signals.Wire.{Wire}
use Rattle.vme_model.specs.declared.signals.Wire.TheVariants.{Bg, Bclr, Iack, Berr, Br, BgOut, Bbsy, Addr, AddressStrobe, DataStrobe, Irq, IackOut, Dtack}
use Rattle.vme_model.specs.Signals.{part_of, is_same_part, is_of, has_wire, wire_number}
use Rattle.vme_model.specs.Text.{HasWord, all_wires}

same_part : (p q : Part) → is_same_part p q ≡ true → p ≡ q
same_part part.Controller part.Controller e = refl
same_part part.Controller part.Requester e = absurd (cc)
same_part part.Controller part.Master e = absurd (cc)
same_part part.Controller part.Interrupter e = absurd (cc)
same_part part.Requester part.Controller e = absurd (cc)
same_part part.Requester part.Requester e = refl
same_part part.Requester part.Master e = absurd (cc)
same_part part.Requester part.Interrupter e = absurd (cc)
same_part part.Master part.Controller e = absurd (cc)
same_part part.Master part.Requester e = absurd (cc)
same_part part.Master part.Master e = refl
same_part part.Master part.Interrupter e = absurd (cc)
same_part part.Interrupter part.Controller e = absurd (cc)
same_part part.Interrupter part.Requester e = absurd (cc)
same_part part.Interrupter part.Master e = absurd (cc)
same_part part.Interrupter part.Interrupter e = refl

pub one_part : (p q : Part) (w : Wire) → is_of p w ≡ true → is_of q w ≡ true → p ≡ q
one_part p q w a b = same_part p (part_of w) a ∙ sym (same_part q (part_of w) b)

-- a wire of one part is of no other
pub of_no_other : (p q : Part) (w : Wire) → is_of p w ≡ true → is_same_part q p ≡ false → is_of q w ≡ false
of_no_other p q w a other = sym (ap (is_same_part q) (same_part p (part_of w) a)) ∙ other

pub controllers_has : (w : Wire) → has_wire Controller w ≡ true → is_of part.Controller w ≡ true
controllers_has (Bg n) has = refl
controllers_has Bclr has = refl
controllers_has Iack has = refl
controllers_has Berr has = refl
controllers_has Br has = absurd (cc)
controllers_has BgOut has = absurd (cc)
controllers_has Bbsy has = absurd (cc)
controllers_has Addr has = absurd (cc)
controllers_has AddressStrobe has = absurd (cc)
controllers_has DataStrobe has = absurd (cc)
controllers_has Irq has = absurd (cc)
controllers_has IackOut has = absurd (cc)
controllers_has Dtack has = absurd (cc)

pub boards_has : (s : ℕ) (w : Wire) → has_wire (Slot s) w ≡ true → is_of part.Controller w ≡ false
boards_has s (Bg n) has = absurd (cc)
boards_has s Bclr has = absurd (cc)
boards_has s Iack has = absurd (cc)
boards_has s Berr has = absurd (cc)
boards_has s Br has = refl
boards_has s BgOut has = refl
boards_has s Bbsy has = refl
boards_has s Addr has = refl
boards_has s AddressStrobe has = refl
boards_has s DataStrobe has = refl
boards_has s Irq has = refl
boards_has s IackOut has = refl
boards_has s Dtack has = refl

pub at_its_number : (w : Wire) → HasWord w → slice_get all_wires (wire_number w) ≡ Some w
at_its_number (Bg zero) has = refl
at_its_number (Bg (suc zero)) has = refl
at_its_number (Bg (suc (suc zero))) has = refl
at_its_number (Bg (suc (suc (suc zero)))) has = refl
at_its_number (Bg (suc (suc (suc (suc n))))) has = absurd (omega (arith, has))
at_its_number Bclr has = refl
at_its_number Iack has = refl
at_its_number Berr has = refl
at_its_number Br has = refl
at_its_number BgOut has = refl
at_its_number Bbsy has = refl
at_its_number Addr has = refl
at_its_number AddressStrobe has = refl
at_its_number DataStrobe has = refl
at_its_number Irq has = refl
at_its_number IackOut has = refl
at_its_number Dtack has = refl
