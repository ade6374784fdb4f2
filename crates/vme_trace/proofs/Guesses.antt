-- The guess is right at every line that spells an edge.
use Rattle.std.proofs.Common.{◌≡◌, ◌≢◌, ◌≤◌, ◌⊎◌, ◌&&◌, not, leb, subst, ℕ, Bool, true, false, eqb, cond, List, [], ◌∷◌, length, Option, Some, None, refl, sym, ◌∙◌, ap, arith, inl, inr}
use Rattle.std.proofs.lemmas.Bool.Decides.{nat_tests}
use Rattle.std.proofs.lemmas.Option.{same_Some}
use Rattle.std.proofs.lemmas.Slice.Eq.{bytes_eq-Decides}
use Rattle.std.specs.List.{list_all}
use Rattle.std.specs.Str.{bytes_eq}
use Rattle.vme_model.specs.declared.signals.Driver.{Driver}
use Rattle.vme_model.specs.declared.signals.Driver.TheVariants.{Controller, Slot}
use Rattle.vme_model.specs.declared.signals.Wire.{Wire}
use Rattle.vme_model.specs.declared.signals.Wire.TheVariants.{Bg, Bclr, Iack, Berr, Br, BgOut, Bbsy, Addr, AddressStrobe, DataStrobe, Irq, IackOut, Dtack}
use Rattle.vme_model.specs.declared.signals.Cycle.{Cycle}
use Rattle.vme_model.specs.declared.signals.Cycle.TheVariants.{Acknowledge, Access}
use Rattle.vme_model.specs.declared.signals.Edge.{Edge}
use Rattle.vme_model.specs.Signals.{is_same_driver, is_same_wire, is_well_formed}
use Rattle.vme_model.specs.Text.{spelling, Spells, all_edges, edge_of}
use Rattle.vme_trace.specs.Decoding.{guess}
use Rattle.vme_trace.specs.Taking.{IsOneLine}
use Rattle.vme_trace.proofs.Edges.{In, none_some, in_all, find_in, find_none, every_edge, formed}

abbrev same_cycle : Cycle → Cycle → Bool
same_cycle (Acknowledge a) (Acknowledge b) = eqb a b
same_cycle (Access a) (Access b) = eqb a b
same_cycle _ _ = false

abbrev same_value : Option Cycle → Option Cycle → Bool
same_value None None = true
same_value (Some a) (Some b) = same_cycle a b
same_value _ _ = false

abbrev same_fall : Bool → Bool → Bool
same_fall true b = b
same_fall false true = false
same_fall false false = true

abbrev same_edge : Edge → Edge → Bool
same_edge d e = is_same_driver d.driver e.driver && (is_same_wire d.wire e.wire && (same_fall d.fall e.fall && same_value d.value e.value))

abbrev is_edge : Option Edge → Edge → Bool
is_edge None e = false
is_edge (Some d) e = same_edge d e

-- every well-formed edge is guessed at its spelling: computed for each of them
all_guessed : list_all (λ e. is_edge (guess (spelling e)) e) all_edges ≡ true
unfolding guess all_edges
all_guessed = refl

true_false : true ≡ false → ⊥
true_false h = let P : Bool → Type 0 = λ b. cond b (Unit {0}) ⊥ in subst P h tt

both : (a b : Bool) → (a && b) ≡ true → (a ≡ true) × (b ≡ true)
both true true h = (refl, refl)
both true false h = absurd (true_false (sym h))
both false b h = absurd (true_false (sym h))

same_number : (a b : ℕ) → eqb a b ≡ true → a ≡ b
same_number a b h = grind (arith, nat_tests)

drivers_same : (a b : Driver) → is_same_driver a b ≡ true → a ≡ b
drivers_same Controller Controller h = refl
drivers_same (Slot s) (Slot t) h = ap (λ n. Slot n) (same_number s t h)
drivers_same _ _ h = absurd (true_false (sym h))

wires_same : (a b : Wire) → is_same_wire a b ≡ true → a ≡ b
wires_same (Bg m) (Bg n) h = ap (λ k. Bg k) (same_number m n h)
wires_same Bclr Bclr h = refl
wires_same Iack Iack h = refl
wires_same Berr Berr h = refl
wires_same Br Br h = refl
wires_same BgOut BgOut h = refl
wires_same Bbsy Bbsy h = refl
wires_same Addr Addr h = refl
wires_same AddressStrobe AddressStrobe h = refl
wires_same DataStrobe DataStrobe h = refl
wires_same Irq Irq h = refl
wires_same IackOut IackOut h = refl
wires_same Dtack Dtack h = refl
wires_same _ _ h = absurd (true_false (sym h))

falls_same : (a b : Bool) → same_fall a b ≡ true → a ≡ b
falls_same true true h = refl
falls_same false false h = refl
falls_same true false h = absurd (true_false (sym h))
falls_same false true h = absurd (true_false (sym h))

values_same : (a b : Option Cycle) → same_value a b ≡ true → a ≡ b
values_same None None h = refl
values_same (Some (Acknowledge u)) (Some (Acknowledge v)) h = ap (λ n. Some (Acknowledge n)) (same_number u v h)
values_same (Some (Access s)) (Some (Access t)) h = ap (λ n. Some (Access n)) (same_number s t h)
values_same _ _ h = absurd (true_false (sym h))

parts_same : (d e : Edge) → d.driver ≡ e.driver → d.wire ≡ e.wire → d.fall ≡ e.fall → d.value ≡ e.value → d ≡ e
parts_same d e a b c v = rw (a, b, c, v) refl

edges_same : (d e : Edge) → same_edge d e ≡ true → d ≡ e
edges_same d e h =
    let a = both (is_same_driver d.driver e.driver) _ h in
    let b = both (is_same_wire d.wire e.wire) _ a.1 in
    let c = both (same_fall d.fall e.fall) _ b.1 in
    parts_same d e (drivers_same d.driver e.driver a.0) (wires_same d.wire e.wire b.0) (falls_same d.fall e.fall c.0) (values_same d.value e.value c.1)

is_edge_some : (o : Option Edge) (e : Edge) → is_edge o e ≡ true → o ≡ Some e
is_edge_some None e h = absurd (true_false (sym h))
is_edge_some (Some d) e h = ap (λ x. Some x) (edges_same d e h)

guessed : (e : Edge) → In e all_edges → guess (spelling e) ≡ Some e
guessed e h = is_edge_some (guess (spelling e)) e (in_all (λ e. is_edge (guess (spelling e)) e) e all_edges all_guessed h)

same_bytes : (xs ys : List ℕ) → bytes_eq xs ys ≡ true → xs ≡ ys
same_bytes xs ys h = (bytes_eq-Decides xs ys).0 h

bytes_same : (xs : List ℕ) → bytes_eq xs xs ≡ true
bytes_same xs = (bytes_eq-Decides xs xs).1 refl

abbrev test : List ℕ → Edge → Bool
test line e = bytes_eq line (spelling e)

pub reads : (line : List ℕ) (e : Edge) → edge_of line ≡ Some e → Spells line e
unfolding edge_of
reads line e h =
    let k = find_in (test line) e all_edges h in
    (formed e k.0, same_bytes line (spelling e) k.1)

-- what a line spells is guessed
pub guess_right : (line : List ℕ) (e : Edge) → Spells line e → guess line ≡ Some e
guess_right line e h = rw h.1 (guessed e (every_edge e h.0))

some_or_none : {A : Type 0} (o : Option A) → ((x : A) × (o ≡ Some x)) ⊎ (o ≡ None)
some_or_none None = inr refl
some_or_none (Some x) = inl (x, refl)

pub spelled : (line : List ℕ) (e : Edge) → Spells line e → edge_of line ≡ Some e
unfolding edge_of
spelled line e h =
    elim (some_or_none (edge_of line)) [
      | inl found ↦ found.1 ∙ sym (guess_right line found.0 (reads line found.0 found.1)) ∙ guess_right line e h
      | inr none ↦
          let f : test line e ≡ false = find_none (test line) e all_edges none (every_edge e h.0) in
          absurd (true_false (sym (ap (λ l. bytes_eq l (spelling e)) h.1 ∙ bytes_same (spelling e)) ∙ f))
    ]

pub one_edge : (line : List ℕ) (d e : Edge) → Spells line d → Spells line e → d ≡ e
one_edge line d e h k = same_Some _ _ (sym (spelled line d h) ∙ spelled line e k)

-- no edge is found where the guess is none, or is not spelled so
pub no_guess : (line : List ℕ) → guess line ≡ None → edge_of line ≡ None
no_guess line h =
    elim (some_or_none (edge_of line)) [
      | inl found ↦ absurd (none_some found.0 (sym h ∙ guess_right line found.0 (reads line found.0 found.1)))
      | inr none ↦ none
    ]

wrong_guess : (line : List ℕ) (g : Edge) → guess line ≡ Some g → (Spells line g → ⊥) → edge_of line ≡ None
wrong_guess line g h not =
    elim (some_or_none (edge_of line)) [
      | inl found ↦
          let right = reads line found.0 found.1 in
          let same : found.0 ≡ g = same_Some _ _ (sym (guess_right line found.0 right) ∙ h) in
          let P : Edge → Type 0 = Spells line in
          absurd (not (subst P same right))
      | inr none ↦ none
    ]

pub right_guess : (line : List ℕ) (g : Edge) → is_well_formed g ≡ true → bytes_eq line (spelling g) ≡ true → edge_of line ≡ Some g
right_guess line g h k = spelled line g (h, same_bytes line (spelling g) k)

pub not_formed : (line : List ℕ) (g : Edge) → guess line ≡ Some g → is_well_formed g ≡ false → edge_of line ≡ None
not_formed line g h k = wrong_guess line g h (λ s. true_false (sym s.0 ∙ k))

pub not_spelled : (line : List ℕ) (g : Edge) → guess line ≡ Some g → bytes_eq line (spelling g) ≡ false → edge_of line ≡ None
not_spelled line g h k =
    wrong_guess line g h (λ s. true_false (sym (ap (λ l. bytes_eq l (spelling g)) s.1 ∙ bytes_same (spelling g)) ∙ k))

-- a line is not longer than a reader takes, and has no line feed
abbrev is_one_line : List ℕ → Bool
is_one_line [] = true
is_one_line (b ∷ bs) = not (eqb b 10) && is_one_line bs

abbrev fits : Edge → Bool
fits e = is_one_line (spelling e) && leb (length (spelling e)) 64

-- so does the spelling of every well-formed edge: computed for each of them
all_fit : list_all fits all_edges ≡ true
unfolding all_edges
all_fit = refl

no_feed : (b : ℕ) → not (eqb b 10) ≡ true → b ≢ 10
no_feed b h = grind (arith, nat_tests)

one_line : (line : List ℕ) → is_one_line line ≡ true → IsOneLine line
one_line [] h = tt
one_line (b ∷ bs) h = let k = both (not (eqb b 10)) (is_one_line bs) h in (no_feed b k.0, one_line bs k.1)

at_most : (n : ℕ) → leb n 64 ≡ true → n ≤ 64
at_most n h = grind (arith, nat_tests)

pub spelling_fits : (e : Edge) → is_well_formed e ≡ true → IsOneLine (spelling e) × (length (spelling e) ≤ 64)
spelling_fits e h =
    let k = both (is_one_line (spelling e)) (leb (length (spelling e)) 64) (in_all fits e all_edges all_fit (every_edge e h)) in
    (one_line (spelling e) k.0, at_most (length (spelling e)) k.1)
