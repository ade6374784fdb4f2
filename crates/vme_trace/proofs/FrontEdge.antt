-- What stands at the front of a text is found there, whatever follows.
use Rattle.std.proofs.Common.{◌≡◌, ◌≢◌, subst, ℕ, suc, zero, Bool, true, false, ltb, cond, List, [], ◌∷◌, ◌++◌, Option, Some, None, IfNone, option_and_then, refl, sym, ◌∙◌, ap, arith, inl, inr, append_assoc}
use Rattle.std.proofs.lemmas.Bool.{and_parts}
use Rattle.std.proofs.lemmas.Bool.Decides.{nat_tests}
use Rattle.std.proofs.lemmas.Option.{none-some}
use Rattle.vme_model.specs.declared.signals.Driver.{Driver}
use Rattle.vme_model.specs.declared.signals.Driver.TheVariants.{Controller, Slot}
use Rattle.vme_model.specs.declared.signals.Wire.{Wire}
use Rattle.vme_model.specs.declared.signals.Wire.TheVariants.{Bg, Bclr, Iack, Berr, Addr}
use Rattle.vme_model.specs.declared.signals.Cycle.{Cycle}
use Rattle.vme_model.specs.declared.signals.Cycle.TheVariants.{Acknowledge, Access}
use Rattle.vme_model.specs.declared.signals.Edge.{Edge}
use Rattle.vme_model.specs.Signals.{is_slot, has_wire, has_value, is_well_formed}
use Rattle.vme_model.specs.Plan.{up_to}
use Rattle.vme_model.specs.Text.{driver_text, wire_text, sign, argument, spelling}
use Rattle.vme_trace.specs.Fronts.{First, IsFrontLine, first_driver, first_control_wire, first_bus_wire, first_transfer_wire, first_interrupt_wire, first_board_wire, first_wire, first_sign, first_level, first_slot, first_cycle, first_end, as_value, first_value}
use Rattle.vme_trace.proofs.AllEdges.{In, in_slots, in_levels, edge}
use Rattle.vme_trace.proofs.Lines.{true_false}

-- P holds for each
abbrev AllOf : (ℕ → Type 0) → List ℕ → Type 0
AllOf P [] = Unit {0}
AllOf P (x ∷ xs) = P x × AllOf P xs

all_in : (P : ℕ → Type 0) (x : ℕ) (xs : List ℕ) → AllOf P xs → In x xs → P x
all_in P x [] h k = absurd k
all_in P x (y ∷ xs) h (inl e) = subst P e h.0
all_in P x (y ∷ xs) h (inr k) = all_in P x xs h.1 k

-- ---- each part

abbrev FindsSlot : ℕ → Type 0
FindsSlot s = (rest : List ℕ) → first_driver (driver_text (Slot s) ++ 32 ∷ rest) ≡ Some (Slot s, rest)

slots_found : AllOf FindsSlot (up_to 21)
unfolding first_driver
slots_found = (
  λ rest. refl,
  (
    λ rest. refl,
    (
      λ rest. refl,
      (
        λ rest. refl,
        (
          λ rest. refl,
          (
            λ rest. refl,
            (
              λ rest. refl,
              (
                λ rest. refl,
                (
                  λ rest. refl,
                  (
                    λ rest. refl,
                    (
                      λ rest. refl,
                      (
                        λ rest. refl,
                        (
                          λ rest. refl,
                          (
                            λ rest. refl,
                            (λ rest. refl, (λ rest. refl, (λ rest. refl, (λ rest. refl, (λ rest. refl, (λ rest. refl, (λ rest. refl, tt))))))),
                          ),
                        ),
                      ),
                    ),
                  ),
                ),
              ),
            ),
          ),
        ),
      ),
    ),
  ),
)

-- a board that has some wire is the board of a slot
is_slot_of : (s : ℕ) (w : Wire) → has_wire (Slot s) w ≡ true → is_slot s ≡ true
is_slot_of s (Bg n) h = absurd (true_false (sym h))
is_slot_of s Bclr h = absurd (true_false (sym h))
is_slot_of s Iack h = absurd (true_false (sym h))
is_slot_of s Berr h = absurd (true_false (sym h))
is_slot_of s w h = h

driver_found : (d : Driver) (w : Wire) → has_wire d w ≡ true → (rest : List ℕ) → first_driver (driver_text d ++ 32 ∷ rest) ≡ Some (d, rest)
unfolding first_driver
driver_found Controller w h rest = refl
driver_found (Slot s) w h rest = all_in FindsSlot s (up_to 21) slots_found (in_slots s (is_slot_of s w h)) rest

grant_found : (n : ℕ) → ltb n 4 ≡ true → (rest : List ℕ) → first_control_wire (wire_text (Bg n) ++ rest) ≡ Some (Bg n, rest)
unfolding first_control_wire
grant_found zero h rest = refl
grant_found (suc zero) h rest = refl
grant_found (suc (suc zero)) h rest = refl
grant_found (suc (suc (suc zero))) h rest = refl
grant_found (suc (suc (suc (suc n)))) h rest = absurd (true_false (sym (let e : ltb (suc (suc (suc (suc n)))) 4 ≡ false = grind (arith, nat_tests) in sym e ∙ h)))

wire_found : (d : Driver) (w : Wire) → has_wire d w ≡ true → (rest : List ℕ) → first_wire d (wire_text w ++ rest) ≡ Some (w, rest)
unfolding first_wire first_control_wire first_board_wire first_bus_wire first_transfer_wire first_interrupt_wire
wire_found Controller (Bg n) h rest = grant_found n h rest
wire_found Controller Bclr h rest = refl
wire_found Controller Iack h rest = refl
wire_found Controller Berr h rest = refl
wire_found Controller w h rest = absurd (true_false (sym h))
wire_found (Slot s) (Bg n) h rest = absurd (true_false (sym h))
wire_found (Slot s) Bclr h rest = absurd (true_false (sym h))
wire_found (Slot s) Iack h rest = absurd (true_false (sym h))
wire_found (Slot s) Berr h rest = absurd (true_false (sym h))
wire_found (Slot s) w h rest = refl

sign_found : (fall : Bool) (rest : List ℕ) → first_sign (sign fall ++ rest) ≡ Some (fall, rest)
unfolding first_sign
sign_found true rest = refl
sign_found false rest = refl

abbrev FindsLevel : ℕ → Type 0
FindsLevel v = (rest : List ℕ) → first_cycle (argument (Some (Acknowledge v)) ++ 10 ∷ rest) ≡ Some (Acknowledge v, rest)

levels_found : AllOf FindsLevel (up_to 7)
unfolding first_cycle first_level
levels_found = (λ rest. refl, (λ rest. refl, (λ rest. refl, (λ rest. refl, (λ rest. refl, (λ rest. refl, (λ rest. refl, tt)))))))

abbrev FindsAccess : ℕ → Type 0
FindsAccess s = (rest : List ℕ) → first_cycle (argument (Some (Access s)) ++ 10 ∷ rest) ≡ Some (Access s, rest)

accesses_found : AllOf FindsAccess (up_to 21)
unfolding first_cycle first_slot
accesses_found = (
  λ rest. refl,
  (
    λ rest. refl,
    (
      λ rest. refl,
      (
        λ rest. refl,
        (
          λ rest. refl,
          (
            λ rest. refl,
            (
              λ rest. refl,
              (
                λ rest. refl,
                (
                  λ rest. refl,
                  (
                    λ rest. refl,
                    (
                      λ rest. refl,
                      (
                        λ rest. refl,
                        (
                          λ rest. refl,
                          (
                            λ rest. refl,
                            (λ rest. refl, (λ rest. refl, (λ rest. refl, (λ rest. refl, (λ rest. refl, (λ rest. refl, (λ rest. refl, tt))))))),
                          ),
                        ),
                      ),
                    ),
                  ),
                ),
              ),
            ),
          ),
        ),
      ),
    ),
  ),
)

chosen : {A : Type 0} (b : Bool) (x y : A) → b ≡ true → cond b x y ≡ x
chosen true x y h = refl
chosen false x y h = absurd (true_false (sym h))

end_found : (w : Wire) (fall : Bool) → has_value w fall None ≡ true → (rest : List ℕ) → first_value w fall (10 ∷ rest) ≡ Some (None, rest)
unfolding first_value first_end
end_found w fall h rest = chosen (has_value w fall None) _ _ h

value_found : (w : Wire) (fall : Bool) (value : Option Cycle) → has_value w fall value ≡ true → (rest : List ℕ)
    → first_value w fall (argument value ++ 10 ∷ rest) ≡ Some (value, rest)
unfolding first_value
value_found w fall None h rest = end_found w fall h rest
value_found Addr true (Some (Acknowledge v)) h rest = ap as_value (all_in FindsLevel v (up_to 7) levels_found (in_levels v h) rest)
value_found Addr true (Some (Access s)) h rest = ap as_value (all_in FindsAccess s (up_to 21) accesses_found (in_slots s h) rest)
value_found w fall (Some c) h rest = absurd (true_false (sym h))

-- ---- the parts of a line, one after another

infixl 10 ◌>>=◌
abbrev ◌>>=◌ : {A B : Type 0} → Option A → (A → Option B) → Option B
found >>= f = option_and_then f found

unfoldable pub first_edge : List ℕ → First Edge
first_edge text = do
  driver ← first_driver text
  wire ← first_wire driver.0 driver.1
  fall ← first_sign wire.1
  value ← first_value wire.0 fall.0 fall.1
  Some (edge driver.0 wire.0 fall.0 value.0, value.1)

laid_out : (a b c d rest : List ℕ) → (((((a ++ 32 ∷ []) ++ b) ++ c) ++ d) ++ 10 ∷ []) ++ rest ≡ a ++ 32 ∷ (b ++ (c ++ (d ++ 10 ∷ rest)))
laid_out a b c d rest = simp append_assoc refl

chained : (d : Driver) (w : Wire) (fall : Bool) (value : Option Cycle) (rest : List ℕ) → has_wire d w ≡ true → has_value w fall value ≡ true
    → first_edge (driver_text d ++ 32 ∷ (wire_text w ++ (sign fall ++ (argument value ++ 10 ∷ rest)))) ≡ Some (edge d w fall value, rest)
unfolding first_edge
chained d w fall value rest hw hv =
    rw (driver_found d w hw (wire_text w ++ (sign fall ++ (argument value ++ 10 ∷ rest))))
    (rw (wire_found d w hw (sign fall ++ (argument value ++ 10 ∷ rest)))
    (rw (sign_found fall (argument value ++ 10 ∷ rest)) (rw (value_found w fall value hv rest) refl)))

-- the edge of a front line is found
pub front_found : (e : Edge) (text rest : List ℕ) → IsFrontLine e text rest → first_edge text ≡ Some (e, rest)
front_found e text rest front =
    let k = and_parts (has_wire e.driver e.wire) (has_value e.wire e.fall e.value) front.formed in
    ap first_edge (front.is ∙ laid_out (driver_text e.driver) (wire_text e.wire) (sign e.fall) (argument e.value) rest)
    ∙ chained e.driver e.wire e.fall e.value rest k.0 k.1

-- ---- if a part is missing, there is no edge

pub no_driver : (text : List ℕ) → first_driver text ≡ None → first_edge text ≡ None
unfolding first_edge
no_driver text a = rw a refl

module _ (text behind : List ℕ) (d : Driver) (a : first_driver text ≡ Some (d, behind)) where
  pub no_wire : first_wire d behind ≡ None → first_edge text ≡ None
  unfolding first_edge
  no_wire b = rw a (rw b refl)

  module _ (more : List ℕ) (w : Wire) (b : first_wire d behind ≡ Some (w, more)) where
    pub no_sign : first_sign more ≡ None → first_edge text ≡ None
    unfolding first_edge
    no_sign c = rw a (rw b (rw c refl))

    pub no_value : (last : List ℕ) (fall : Bool) → first_sign more ≡ Some (fall, last) → first_value w fall last ≡ None → first_edge text ≡ None
    unfolding first_edge
    no_value last fall c v = rw a (rw b (rw c (rw v refl)))

-- no line of an edge stands at the front then
pub missed : (text : List ℕ) → first_edge text ≡ None → (e : Edge) (rest : List ℕ) → is_well_formed e ≡ true → text ≢ (spelling e ++ 10 ∷ []) ++ rest
missed text none e rest formed =
    λ is. none-some {A = Edge × List ℕ} (e, rest) (sym none ∙ front_found e text rest (record { formed = formed; is = is }))

pub if_none : {A : Type 0} (found : Option A) (P : Type 0) → P → IfNone found P
if_none None P h = h
if_none (Some x) P h = tt
