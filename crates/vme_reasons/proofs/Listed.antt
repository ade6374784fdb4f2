-- The words of a line, as far as they were told.
use Rattle.std.proofs.Common.{◌≡◌, ◌∙◌, ℕ, suc, ◌+◌, ◌<◌, ◌≤◌, Bool, true, false, List, [], ◌∷◌, ◌++◌, length, take, map, get_or, Ok, refl, sym, ap, arith, append-nil}
use Rattle.std.specs.Prelude.{◌&&◌, if◌then◌else◌, filter}
use Rattle.std.proofs.lemmas.Bool.Decides.{nat_tests}
use Rattle.std.proofs.lemmas.List.{map-append, take_all}
use Rattle.std.proofs.lemmas.List.Elements.{filter_more}
use Rattle.vme_model.specs.declared.refusals.Refused.TheVariants.{NoSuchDriver}
use Rattle.vme_model.specs.declared.signals.Driver.{Driver}
use Rattle.vme_model.specs.declared.signals.Driver.TheVariants.{Controller, Slot}
use Rattle.vme_model.specs.declared.signals.Wire.{Wire}
use Rattle.vme_model.specs.declared.signals.Wire.TheVariants.{Bg, Bclr, Iack, Berr, Br, BgOut, Bbsy, Addr, AddressStrobe, DataStrobe, Irq, IackOut, Dtack}
use Rattle.vme_model.specs.declared.signals.Edge.{Edge}
use Rattle.vme_model.specs.Signals.{has_wire, has_value, is_well_formed}
use Rattle.vme_model.specs.Plan.{has_driver}
use Rattle.vme_model.specs.Offers.{wires}
use Rattle.vme_model.specs.Verdict.{State, verdict}
use Rattle.vme_model.specs.Stands.{listed}
use Rattle.vme_model.specs.Text.{HasWord}
use Rattle.vme_model.proofs.AllowedEdges.{checked}
use Rattle.vme_model.proofs.Bools.{and_left}

-- the words of those that pass, of some
abbrev pub words_of : {X : Type 0} → (X → List ℕ) → (X → Bool) → List X → List (List ℕ)
words_of text test xs = map text (filter test xs)

one_more : {X : Type 0} (text : X → List ℕ) (test : X → Bool) (xs : List X) (i : ℕ) (d : X) (b : Bool) → i < length xs → test (get_or xs i d) ≡ b
    → words_of text test (take (i + 1) xs) ≡ words_of text test (take i xs) ++ map text (if b then get_or xs i d ∷ [] else [])
one_more text test xs i d b l is =
    ap (map text) (filter_more test xs i d l) ∙ map-append text (filter test (take i xs)) (if test (get_or xs i d) then get_or xs i d ∷ [] else [])
    ∙ ap (λ (a : Bool). words_of text test (take i xs) ++ map text (if a then get_or xs i d ∷ [] else [])) is

pub word_more : {X : Type 0} (text : X → List ℕ) (test : X → Bool) (xs : List X) (i : ℕ) (d : X) → i < length xs → test (get_or xs i d) ≡ true
    → words_of text test (take (i + 1) xs) ≡ words_of text test (take i xs) ++ text (get_or xs i d) ∷ []
word_more text test xs i d l is = one_more text test xs i d true l is

pub word_past : {X : Type 0} (text : X → List ℕ) (test : X → Bool) (xs : List X) (i : ℕ) (d : X) → i < length xs → test (get_or xs i d) ≡ false
    → words_of text test (take (i + 1) xs) ≡ words_of text test (take i xs)
word_past text test xs i d l is = one_more text test xs i d false l is ∙ append-nil (words_of text test (take i xs))

pub all_words : {X : Type 0} (text : X → List ℕ) (test : X → Bool) (xs : List X) → words_of text test (take (length xs) xs) ≡ words_of text test xs
all_words text test xs = ap (words_of text test) (take_all (length xs) xs (omega arith))

-- a driver has at most nine wires
pub few_wires : (d : Driver) → length (wires d) ≤ 9
few_wires Controller = omega arith
few_wires (Slot s) = omega arith

-- a wire that some driver has, has a word
pub has_word : (d : Driver) (w : Wire) → has_wire d w ≡ true → HasWord w
has_word Controller (Bg n) h = grind (nat_tests, arith)
has_word (Slot s) (Bg n) h = absurd (cc)
has_word d Bclr h = tt
has_word d Iack h = tt
has_word d Berr h = tt
has_word d Br h = tt
has_word d BgOut h = tt
has_word d Bbsy h = tt
has_word d Addr h = tt
has_word d AddressStrobe h = tt
has_word d DataStrobe h = tt
has_word d Irq h = tt
has_word d IackOut h = tt
has_word d Dtack h = tt

-- so has that of an edge that would be accepted
pub open_has_word : (b : State) (e : Edge) → verdict b e ≡ Ok tt → HasWord e.wire
open_has_word b e ok =
    has_word e.driver e.wire (and_left (has_wire e.driver e.wire) (has_value e.wire e.fall e.value) (and_left (is_well_formed e) (has_driver b.plan e.driver e.wire) (checked _ NoSuchDriver _ ok).0))
