-- The words of edges that stand in tables.
use Rattle.std.proofs.Common.{◌≡◌, ◌+◌, ℕ, zero, suc, ◌<◌, ◌≤◌, length, [], ◌∷◌, ◌++◌, Bool, true, false, take, get_or, codes, ltb, cond, refl, arith}
use Rattle.std.specs.Str.{bytes_eq}
use Rattle.std.proofs.lemmas.Bool.{agree_below_at}
use Rattle.std.proofs.lemmas.Slice.Eq.{bytes_eq-Decides}
use Rattle.std.specs.Prelude.{IsTrue, nat_le}
use Rattle.std.proofs.lemmas.Bool.Decides.{nat_tests}
use Rattle.vme_model.specs.declared.signals.Driver.{Driver}
use Rattle.vme_model.specs.declared.signals.Driver.TheVariants.{Controller, Slot}
use Rattle.vme_model.specs.declared.signals.Wire.{Wire}
use Rattle.vme_model.specs.declared.signals.Wire.TheVariants.{Bg, Bclr, Iack, Berr, Br, BgOut, Bbsy, Addr, AddressStrobe, DataStrobe, Irq, IackOut, Dtack}
use Rattle.vme_model.specs.Signals.{is_slot, driver_number}
use Rattle.vme_model.specs.Text.{HasWord, driver_text, number, sign, wire_text}
use Rattle.vme_model.proofs.Bools.{and_left, and_right}
use Rattle.vme_trace.specs.Fronts.{IsDriver}
use Rattle.vme_drive.specs.Spelled.{move_place}
use Rattle.vme_drive.specs.declared.edges.TheConstants.{DRIVERS, WORDS, SIZES}

-- the row of a wire and a direction begins with its word and its sign
pub row_is_word : (w : Wire) (fall : Bool) → HasWord w → take (get_or SIZES (move_place w fall) 0) (get_or WORDS (move_place w fall) []) ≡ wire_text w ++ sign fall
row_is_word (Bg zero) true has = refl
row_is_word (Bg zero) false has = refl
row_is_word (Bg (suc zero)) true has = refl
row_is_word (Bg (suc zero)) false has = refl
row_is_word (Bg (suc (suc zero))) true has = refl
row_is_word (Bg (suc (suc zero))) false has = refl
row_is_word (Bg (suc (suc (suc zero)))) true has = refl
row_is_word (Bg (suc (suc (suc zero)))) false has = refl
row_is_word (Bg (suc (suc (suc (suc n))))) fall has = absurd (omega arith)
row_is_word Bclr true has = refl
row_is_word Bclr false has = refl
row_is_word Iack true has = refl
row_is_word Iack false has = refl
row_is_word Berr true has = refl
row_is_word Berr false has = refl
row_is_word Br true has = refl
row_is_word Br false has = refl
row_is_word BgOut true has = refl
row_is_word BgOut false has = refl
row_is_word Bbsy true has = refl
row_is_word Bbsy false has = refl
row_is_word Addr true has = refl
row_is_word Addr false has = refl
row_is_word AddressStrobe true has = refl
row_is_word AddressStrobe false has = refl
row_is_word DataStrobe true has = refl
row_is_word DataStrobe false has = refl
row_is_word Irq true has = refl
row_is_word Irq false has = refl
row_is_word IackOut true has = refl
row_is_word IackOut false has = refl
row_is_word Dtack true has = refl
row_is_word Dtack false has = refl

-- and behind them stands a line feed
pub row_is_last : (w : Wire) (fall : Bool) → HasWord w → take (get_or SIZES (move_place w fall) 0 + 1) (get_or WORDS (move_place w fall) []) ≡ (wire_text w ++ sign fall) ++ 10 ∷ []
row_is_last (Bg zero) true has = refl
row_is_last (Bg zero) false has = refl
row_is_last (Bg (suc zero)) true has = refl
row_is_last (Bg (suc zero)) false has = refl
row_is_last (Bg (suc (suc zero))) true has = refl
row_is_last (Bg (suc (suc zero))) false has = refl
row_is_last (Bg (suc (suc (suc zero)))) true has = refl
row_is_last (Bg (suc (suc (suc zero)))) false has = refl
row_is_last (Bg (suc (suc (suc (suc n))))) fall has = absurd (omega arith)
row_is_last Bclr true has = refl
row_is_last Bclr false has = refl
row_is_last Iack true has = refl
row_is_last Iack false has = refl
row_is_last Berr true has = refl
row_is_last Berr false has = refl
row_is_last Br true has = refl
row_is_last Br false has = refl
row_is_last BgOut true has = refl
row_is_last BgOut false has = refl
row_is_last Bbsy true has = refl
row_is_last Bbsy false has = refl
row_is_last Addr true has = refl
row_is_last Addr false has = refl
row_is_last AddressStrobe true has = refl
row_is_last AddressStrobe false has = refl
row_is_last DataStrobe true has = refl
row_is_last DataStrobe false has = refl
row_is_last Irq true has = refl
row_is_last Irq false has = refl
row_is_last IackOut true has = refl
row_is_last IackOut false has = refl
row_is_last Dtack true has = refl
row_is_last Dtack false has = refl

-- how many bytes the name of a board's driver has with its blank
abbrev pub name_size : ℕ → ℕ
name_size s = cond (ltb s 10) 2 3

-- the row of a driver begins with its name and a blank
row_is_name : (s : ℕ) → s < 22 → 0 < s → take (name_size s) (get_or DRIVERS s []) ≡ number s ++ codes " "
row_is_name zero h some = absurd (omega arith)
row_is_name (suc s) h some =
    (bytes_eq-Decides (take (name_size (suc s)) (get_or DRIVERS (suc s) [])) (number (suc s) ++ codes " ")).0
    (agree_below_at (λ i. bytes_eq (take (name_size (suc i)) (get_or DRIVERS (suc i) [])) (number (suc i) ++ codes " ")) (λ i. true) 21 s refl (omega arith))

pub row_is_driver : (d : Driver) → IsDriver d → take (name_size (driver_number d)) (get_or DRIVERS (driver_number d) []) ≡ driver_text d ++ codes " "
row_is_driver Controller known = refl
row_is_driver (Slot s) known =
    let k = bounds s known in
    row_is_name s k.0 k.1
  where
    bounds : (s : ℕ) → IsTrue (is_slot s) → (s < 22) × (0 < s)
    bounds s known =
        let low = and_left (nat_le 1 s) (nat_le s 21) known in
        let high = and_right (nat_le 1 s) (nat_le s 21) known in
        (grind (arith, nat_tests), grind (arith, nat_tests))

-- no word is long
pub size_fits : (w : Wire) (fall : Bool) → HasWord w → get_or SIZES (move_place w fall) 0 ≤ 8
size_fits (Bg zero) true has = (omega arith)
size_fits (Bg zero) false has = (omega arith)
size_fits (Bg (suc zero)) true has = (omega arith)
size_fits (Bg (suc zero)) false has = (omega arith)
size_fits (Bg (suc (suc zero))) true has = (omega arith)
size_fits (Bg (suc (suc zero))) false has = (omega arith)
size_fits (Bg (suc (suc (suc zero)))) true has = (omega arith)
size_fits (Bg (suc (suc (suc zero)))) false has = (omega arith)
size_fits (Bg (suc (suc (suc (suc n))))) fall has = absurd (omega arith)
size_fits Bclr true has = (omega arith)
size_fits Bclr false has = (omega arith)
size_fits Iack true has = (omega arith)
size_fits Iack false has = (omega arith)
size_fits Berr true has = (omega arith)
size_fits Berr false has = (omega arith)
size_fits Br true has = (omega arith)
size_fits Br false has = (omega arith)
size_fits BgOut true has = (omega arith)
size_fits BgOut false has = (omega arith)
size_fits Bbsy true has = (omega arith)
size_fits Bbsy false has = (omega arith)
size_fits Addr true has = (omega arith)
size_fits Addr false has = (omega arith)
size_fits AddressStrobe true has = (omega arith)
size_fits AddressStrobe false has = (omega arith)
size_fits DataStrobe true has = (omega arith)
size_fits DataStrobe false has = (omega arith)
size_fits Irq true has = (omega arith)
size_fits Irq false has = (omega arith)
size_fits IackOut true has = (omega arith)
size_fits IackOut false has = (omega arith)
size_fits Dtack true has = (omega arith)
size_fits Dtack false has = (omega arith)

pub word_fits : (w : Wire) (fall : Bool) → HasWord w → length (wire_text w ++ sign fall) ≤ 8
word_fits (Bg zero) true has = (omega arith)
word_fits (Bg zero) false has = (omega arith)
word_fits (Bg (suc zero)) true has = (omega arith)
word_fits (Bg (suc zero)) false has = (omega arith)
word_fits (Bg (suc (suc zero))) true has = (omega arith)
word_fits (Bg (suc (suc zero))) false has = (omega arith)
word_fits (Bg (suc (suc (suc zero)))) true has = (omega arith)
word_fits (Bg (suc (suc (suc zero)))) false has = (omega arith)
word_fits (Bg (suc (suc (suc (suc n))))) fall has = absurd (omega arith)
word_fits Bclr true has = (omega arith)
word_fits Bclr false has = (omega arith)
word_fits Iack true has = (omega arith)
word_fits Iack false has = (omega arith)
word_fits Berr true has = (omega arith)
word_fits Berr false has = (omega arith)
word_fits Br true has = (omega arith)
word_fits Br false has = (omega arith)
word_fits BgOut true has = (omega arith)
word_fits BgOut false has = (omega arith)
word_fits Bbsy true has = (omega arith)
word_fits Bbsy false has = (omega arith)
word_fits Addr true has = (omega arith)
word_fits Addr false has = (omega arith)
word_fits AddressStrobe true has = (omega arith)
word_fits AddressStrobe false has = (omega arith)
word_fits DataStrobe true has = (omega arith)
word_fits DataStrobe false has = (omega arith)
word_fits Irq true has = (omega arith)
word_fits Irq false has = (omega arith)
word_fits IackOut true has = (omega arith)
word_fits IackOut false has = (omega arith)
word_fits Dtack true has = (omega arith)
word_fits Dtack false has = (omega arith)
