-- What an edge of one part leaves as it is of the others: `BusState::move_requester` and its like.
use Rattle.std.proofs.Common.{◌≡◌, refl, sym, ap, ℕ, Bool, true, false}
use Rattle.std.specs.Prelude.{◌==◌, not, if◌then◌else◌, Option}
use Rattle.vme_model.specs.declared.boards.Release.{Release}
use Rattle.vme_model.specs.declared.signals.Cycle.{Cycle}
use Rattle.vme_model.specs.declared.signals.Wire.{Wire}
use Rattle.vme_model.specs.declared.signals.Wire.TheVariants.{Bg, Bclr, Iack, Berr, Br, BgOut, Bbsy, Addr, AddressStrobe, DataStrobe, Irq, IackOut, Dtack}
use Rattle.vme_model.specs.Signals.{is_same_wire, is_of}
use Rattle.vme_histories.specs.Shown.{addressing_after}
use Rattle.vme_histories.proofs.Others.{same_wire}
use Rattle.vme_model.specs.declared.signals.Part.TheVariants as parts
use Rattle.vme_bus.specs.declared.sets.SlotSet.{SlotSet}
use Rattle.vme_bus.specs.Sets.{has}
use Rattle.vme_bus.specs.Moves.{MovesPlace, MovesSlots, FollowsWire, turned_by, served_by, strobed_by, cycles_by, shown_by}

-- a wire of a part is not one that the part lacks
pub apart : (part : Wire → Bool) (w own : Wire) → part w ≡ true → part own ≡ false → is_same_wire w own ≡ false
apart part w own has lacks = by_test (is_same_wire w own) refl
  where
    by_test : (b : Bool) → is_same_wire w own ≡ b → is_same_wire w own ≡ false
    by_test false is = is
    by_test true is = absurd (let e = ap part (same_wire w own is) in cc)

module _ (part : Wire → Bool) (w own : Wire) (has_it : part w ≡ true) (lacks : part own ≡ false) where
  turns_not : (low : Bool) → turned_by own w low ≡ low
  turns_not low = ap (λ b. if b then not low else low) (apart part w own has_it lacks)

  here : (b low : Bool) → low ≡ (if b then turned_by own w low else low)
  here true low = sym (turns_not low)
  here false low = refl

  pub wire_stays : (s : ℕ) (set : SlotSet) → FollowsWire own s w set set
  wire_stays s set t = here (s == t) (has set t)

  pub inputs_stay : (slots set : SlotSet) → MovesSlots (turned_by own w) slots set set
  inputs_stay slots set t = here (has slots t) (has set t)

place_stays : (f : Bool → Bool) → ((b : Bool) → f b ≡ b) → (s : ℕ) (set : SlotSet) → MovesPlace f s set set
place_stays f same s set t = at (s == t) (has set t)
  where
    at : (b low : Bool) → low ≡ (if b then f low else low)
    at true low = sym (same low)
    at false low = refl

served_same : (w : Wire) (fall serves b : Bool) → is_of parts.Interrupter w ≡ false → served_by w fall serves b ≡ b
served_same (Bg n) true serves b other = refl
served_same (Bg n) false serves b other = refl
served_same Bclr true serves b other = refl
served_same Bclr false serves b other = refl
served_same Iack true serves b other = refl
served_same Iack false serves b other = refl
served_same Berr true serves b other = refl
served_same Berr false serves b other = refl
served_same Br true serves b other = refl
served_same Br false serves b other = refl
served_same BgOut true serves b other = refl
served_same BgOut false serves b other = refl
served_same Bbsy true serves b other = refl
served_same Bbsy false serves b other = refl
served_same Addr true serves b other = refl
served_same Addr false serves b other = refl
served_same AddressStrobe true serves b other = refl
served_same AddressStrobe false serves b other = refl
served_same DataStrobe true serves b other = refl
served_same DataStrobe false serves b other = refl
served_same Irq true serves b other = absurd (cc)
served_same Irq false serves b other = absurd (cc)
served_same IackOut true serves b other = absurd (cc)
served_same IackOut false serves b other = absurd (cc)
served_same Dtack true serves b other = absurd (cc)
served_same Dtack false serves b other = absurd (cc)

pub served_stays : (w : Wire) (fall serves : Bool) → is_of parts.Interrupter w ≡ false → (s : ℕ) (set : SlotSet) → MovesPlace (served_by w fall serves) s set set
served_stays w fall serves other = place_stays (served_by w fall serves) (λ b. served_same w fall serves b other)

strobed_same : (w : Wire) (fall b : Bool) → is_of parts.Master w ≡ false → strobed_by w fall b ≡ b
strobed_same (Bg n) true b other = refl
strobed_same (Bg n) false b other = refl
strobed_same Bclr true b other = refl
strobed_same Bclr false b other = refl
strobed_same Iack true b other = refl
strobed_same Iack false b other = refl
strobed_same Berr true b other = refl
strobed_same Berr false b other = refl
strobed_same Br true b other = refl
strobed_same Br false b other = refl
strobed_same BgOut true b other = refl
strobed_same BgOut false b other = refl
strobed_same Bbsy true b other = refl
strobed_same Bbsy false b other = refl
strobed_same Addr true b other = absurd (cc)
strobed_same Addr false b other = absurd (cc)
strobed_same AddressStrobe true b other = absurd (cc)
strobed_same AddressStrobe false b other = absurd (cc)
strobed_same DataStrobe true b other = absurd (cc)
strobed_same DataStrobe false b other = absurd (cc)
strobed_same Irq true b other = refl
strobed_same Irq false b other = refl
strobed_same IackOut true b other = refl
strobed_same IackOut false b other = refl
strobed_same Dtack true b other = refl
strobed_same Dtack false b other = refl

pub strobed_stays : (w : Wire) (fall : Bool) → is_of parts.Master w ≡ false → (s : ℕ) (set : SlotSet) → MovesPlace (strobed_by w fall) s set set
strobed_stays w fall other = place_stays (strobed_by w fall) (λ b. strobed_same w fall b other)

pub shown_stays : (w : Wire) (v shown : Option Cycle) → is_of parts.Master w ≡ false → shown ≡ shown_by w v shown
shown_stays (Bg n) v shown other = refl
shown_stays Bclr v shown other = refl
shown_stays Iack v shown other = refl
shown_stays Berr v shown other = refl
shown_stays Br v shown other = refl
shown_stays BgOut v shown other = refl
shown_stays Bbsy v shown other = refl
shown_stays Addr v shown other = absurd (cc)
shown_stays AddressStrobe v shown other = absurd (cc)
shown_stays DataStrobe v shown other = absurd (cc)
shown_stays Irq v shown other = refl
shown_stays IackOut v shown other = refl
shown_stays Dtack v shown other = refl

pub addressing_stays : (w : Wire) (fall : Bool) (s : ℕ) (on : Option ℕ) → is_of parts.Master w ≡ false → on ≡ addressing_after on s w fall
addressing_stays (Bg n) fall s on other = refl
addressing_stays Bclr fall s on other = refl
addressing_stays Iack fall s on other = refl
addressing_stays Berr fall s on other = refl
addressing_stays Br fall s on other = refl
addressing_stays BgOut fall s on other = refl
addressing_stays Bbsy fall s on other = refl
addressing_stays Addr fall s on other = absurd (cc)
addressing_stays AddressStrobe fall s on other = absurd (cc)
addressing_stays DataStrobe fall s on other = absurd (cc)
addressing_stays Irq fall s on other = refl
addressing_stays IackOut fall s on other = refl
addressing_stays Dtack fall s on other = refl

-- a requester's edge counts alike under every release
pub cycles_alike : (w : Wire) (fall : Bool) (r q : Release) (n : ℕ) → is_of parts.Requester w ≡ true → cycles_by w fall r n ≡ cycles_by w fall q n
cycles_alike (Bg m) true r q n known = absurd (cc)
cycles_alike (Bg m) false r q n known = absurd (cc)
cycles_alike Bclr true r q n known = absurd (cc)
cycles_alike Bclr false r q n known = absurd (cc)
cycles_alike Iack true r q n known = absurd (cc)
cycles_alike Iack false r q n known = absurd (cc)
cycles_alike Berr true r q n known = absurd (cc)
cycles_alike Berr false r q n known = absurd (cc)
cycles_alike Br true r q n known = refl
cycles_alike Br false r q n known = refl
cycles_alike BgOut true r q n known = refl
cycles_alike BgOut false r q n known = refl
cycles_alike Bbsy true r q n known = refl
cycles_alike Bbsy false r q n known = refl
cycles_alike Addr true r q n known = absurd (cc)
cycles_alike Addr false r q n known = absurd (cc)
cycles_alike AddressStrobe true r q n known = absurd (cc)
cycles_alike AddressStrobe false r q n known = absurd (cc)
cycles_alike DataStrobe true r q n known = absurd (cc)
cycles_alike DataStrobe false r q n known = absurd (cc)
cycles_alike Irq true r q n known = absurd (cc)
cycles_alike Irq false r q n known = absurd (cc)
cycles_alike IackOut true r q n known = absurd (cc)
cycles_alike IackOut false r q n known = absurd (cc)
cycles_alike Dtack true r q n known = absurd (cc)
cycles_alike Dtack false r q n known = absurd (cc)

-- an interrupter's counts nothing
pub cycles_stay : (w : Wire) (fall : Bool) (r : Release) (n : ℕ) → is_of parts.Interrupter w ≡ true → n ≡ cycles_by w fall r n
cycles_stay (Bg m) true r n known = absurd (cc)
cycles_stay (Bg m) false r n known = absurd (cc)
cycles_stay Bclr true r n known = absurd (cc)
cycles_stay Bclr false r n known = absurd (cc)
cycles_stay Iack true r n known = absurd (cc)
cycles_stay Iack false r n known = absurd (cc)
cycles_stay Berr true r n known = absurd (cc)
cycles_stay Berr false r n known = absurd (cc)
cycles_stay Br true r n known = absurd (cc)
cycles_stay Br false r n known = absurd (cc)
cycles_stay BgOut true r n known = absurd (cc)
cycles_stay BgOut false r n known = absurd (cc)
cycles_stay Bbsy true r n known = absurd (cc)
cycles_stay Bbsy false r n known = absurd (cc)
cycles_stay Addr true r n known = absurd (cc)
cycles_stay Addr false r n known = absurd (cc)
cycles_stay AddressStrobe true r n known = absurd (cc)
cycles_stay AddressStrobe false r n known = absurd (cc)
cycles_stay DataStrobe true r n known = absurd (cc)
cycles_stay DataStrobe false r n known = absurd (cc)
cycles_stay Irq true r n known = refl
cycles_stay Irq false r n known = refl
cycles_stay IackOut true r n known = refl
cycles_stay IackOut false r n known = refl
cycles_stay Dtack true r n known = refl
cycles_stay Dtack false r n known = refl
