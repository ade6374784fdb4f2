-- The words of a line, as far as they were printed.
use Rattle.std.proofs.Common.{◌≡◌, ◌∙◌, ℕ, ◌+◌, ◌<◌, Bool, true, false, List, [], ◌∷◌, ◌++◌, length, take, drop, get_or, Ok, sym, ap, arith, append-nil, take-append-drop}
use Rattle.std.specs.Prelude.{◌==◌, if◌then◌else◌, filter, nat_lt}
use Rattle.std.specs.List.{flat_map}
use Rattle.std.proofs.lemmas.Bool.Decides.{nat_tests}
use Rattle.std.proofs.lemmas.List.{drop_more, take_more}
use Rattle.std.proofs.lemmas.List.Concat.{flat_map-append}
use Rattle.std.proofs.lemmas.List.Elements.{filter-append}
use Rattle.vme_model.specs.declared.refusals.Refused.TheVariants.{NoSuchDriver}
use Rattle.vme_model.specs.declared.signals.Driver.{Driver}
use Rattle.vme_model.specs.declared.signals.Driver.TheVariants.{Controller, Slot}
use Rattle.vme_model.specs.declared.signals.Wire.{Wire}
use Rattle.vme_model.specs.declared.signals.Wire.TheVariants.{Bg, Bclr, Iack, Berr, Br, BgOut, Bbsy, Addr, AddressStrobe, DataStrobe, Irq, IackOut, Dtack}
use Rattle.vme_model.specs.declared.signals.Edge.{Edge}
use Rattle.vme_model.specs.Signals.{has_wire, has_value, is_well_formed}
use Rattle.vme_model.specs.Plan.{has_driver}
use Rattle.vme_model.specs.Verdict.{State, verdict}
use Rattle.vme_model.specs.Text.{HasWord}
use Rattle.vme_model.proofs.AllowedEdges.{checked}
use Rattle.vme_model.proofs.Bools.{and_left}
use Rattle.vme_explain.specs.Standing.{lines_for}

-- a wire that some driver has, has a word
pub has_word : (d : Driver) (w : Wire) → has_wire d w ≡ true → HasWord w
has_word Controller (Bg n) h = grind (nat_tests, arith)
has_word (Slot s) (Bg n) h = absurd (cc)
has_word d Bclr h = tt
has_word d Iack h = tt
has_word d Berr h = tt
has_word d Br h = tt
has_word d BgOut h = tt
has_word d Bbsy h = tt
has_word d Addr h = tt
has_word d AddressStrobe h = tt
has_word d DataStrobe h = tt
has_word d Irq h = tt
has_word d IackOut h = tt
has_word d Dtack h = tt

-- so has that of an edge that would be accepted
pub open_has_word : (b : State) (e : Edge) → verdict b e ≡ Ok tt → HasWord e.wire
open_has_word b e ok =
    has_word e.driver e.wire (and_left (has_wire e.driver e.wire) (has_value e.wire e.fall e.value) (and_left (is_well_formed e) (has_driver b.plan e.driver e.wire) (checked _ NoSuchDriver _ ok).0))

-- the lines of some drivers, from one of which there is something to push_witness
lines-append : (text : Driver → List ℕ) (ds es : List Driver) → lines_for text (ds ++ es) ≡ lines_for text ds ++ lines_for text es
lines-append text ds es =
    ap (flat_map (λ d. text d ++ 10 ∷ [])) (filter-append (λ d. nat_lt 0 (length (text d))) ds es)
    ∙ flat_map-append (λ d. text d ++ 10 ∷ []) (filter (λ d. nat_lt 0 (length (text d))) ds) (filter (λ d. nat_lt 0 (length (text d))) es)

one_line : (text : Driver → List ℕ) (d : Driver) (b : Bool) → nat_lt 0 (length (text d)) ≡ b → lines_for text (d ∷ []) ≡ (if b then text d ++ 10 ∷ [] else [])
one_line text d true is = ap (λ (b : Bool). flat_map (λ e. text e ++ 10 ∷ []) (if b then d ∷ [] else [])) is ∙ append-nil (text d ++ 10 ∷ [])
one_line text d false is = ap (λ (b : Bool). flat_map (λ e. text e ++ 10 ∷ []) (if b then d ∷ [] else [])) is

next_line : (text : Driver → List ℕ) (ds : List Driver) (i : ℕ) (d : Driver) (b : Bool) → i < length ds → nat_lt 0 (length (text (get_or ds i d))) ≡ b
    → lines_for text (take (i + 1) ds) ≡ lines_for text (take i ds) ++ (if b then text (get_or ds i d) ++ 10 ∷ [] else [])
next_line text ds i d b l is =
    ap (lines_for text) (take_more ds i d l) ∙ lines-append text (take i ds) (get_or ds i d ∷ []) ∙ ap (λ l. lines_for text (take i ds) ++ l) (one_line text (get_or ds i d) b is)

pub line_more : (text : Driver → List ℕ) (ds : List Driver) (i : ℕ) (d : Driver) → i < length ds → nat_lt 0 (length (text (get_or ds i d))) ≡ true
    → lines_for text (take (i + 1) ds) ≡ lines_for text (take i ds) ++ (text (get_or ds i d) ++ 10 ∷ [])
line_more text ds i d l is = next_line text ds i d true l is

pub line_past : (text : Driver → List ℕ) (ds : List Driver) (i : ℕ) (d : Driver) → i < length ds → nat_lt 0 (length (text (get_or ds i d))) ≡ false
    → lines_for text (take (i + 1) ds) ≡ lines_for text (take i ds)
line_past text ds i d l is = next_line text ds i d false l is ∙ append-nil (lines_for text (take i ds))

pub is_no_length : (n : ℕ) → (n == 0) ≡ true → nat_lt 0 n ≡ false
is_no_length n none = grind (nat_tests, arith)

pub is_some_length : (n : ℕ) → (n == 0) ≡ false → nat_lt 0 n ≡ true
is_some_length n some = grind (nat_tests, arith)

pub lines_from : (text : Driver → List ℕ) (ds : List Driver) (i : ℕ) (d : Driver) → i < length ds → nat_lt 0 (length (text (get_or ds i d))) ≡ true
    → lines_for text ds ≡ lines_for text (take i ds) ++ ((text (get_or ds i d) ++ 10 ∷ []) ++ lines_for text (drop (i + 1) ds))
lines_from text ds i d l is =
    ap (lines_for text) (sym (take-append-drop i ds) ∙ ap (λ l. take i ds ++ l) (drop_more ds i d l))
    ∙ lines-append text (take i ds) (get_or ds i d ∷ drop (i + 1) ds)
    ∙ ap (λ (b : Bool). lines_for text (take i ds) ++ flat_map (λ e. text e ++ 10 ∷ []) (if b then get_or ds i d ∷ filter (λ e. nat_lt 0 (length (text e))) (drop (i + 1) ds)
    else filter (λ e. nat_lt 0 (length (text e))) (drop (i + 1) ds))) is
