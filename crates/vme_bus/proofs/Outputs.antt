-- What the low segments say of the settling rules: `BusState::are_grants_through`, `is_acknowledge_clear`.
use Rattle.std.proofs.Common.{◌≡◌, ◌∙◌, refl, sym, ap, ℕ, Bool, true, false, List, [], ◌∷◌, ◌<◌, ◌≤◌, arith}
use Rattle.std.specs.Prelude.{◌&&◌, ◌||◌, ◌==◌, Option, Some, None, is_some, not, nat_lt}
use Rattle.std.specs.List.{list_any, list_all, All, Contains}
use Rattle.std.specs.Option.{option_map_or}
use Rattle.std.proofs.lemmas.Bool.Decides.{nat_tests}
use Rattle.std.proofs.lemmas.List.Elements.{All-nil, All-cons, All-contains}
use Rattle.std.proofs.lemmas.Nat.Bits.{bit_at_ones, bit_at_ones_above}
use Rattle.std.specs.Int.{bit_at}
use Rattle.vme_model.specs.declared.boards.Row.{Row}
use Rattle.vme_model.specs.declared.sets.ChainId.TheVariants as chain
use Rattle.vme_model.specs.declared.signals.Version.{Version}
use Rattle.vme_model.specs.declared.signals.Edge.{Edge}
use Rattle.vme_model.specs.declared.signals.Driver.TheVariants.{Controller, Slot}
use Rattle.vme_model.specs.declared.signals.Wire.{Wire}
use Rattle.vme_model.specs.declared.signals.Wire.TheVariants.{BgOut, Iack, IackOut}
use Rattle.vme_model.specs.Plan.{Plan, board, drives, active, is_active}
use Rattle.vme_model.specs.Accepted.{IsAccepted}
use Rattle.vme_model.specs.History.{drive}
use Rattle.vme_model.specs.Settling.{are_grants_through, is_chain_clear}
use Rattle.vme_model.specs.Verdict.{IsLegal}
use Rattle.vme_model.proofs.Bools.{and_left, and_right, is_false}
use Rattle.vme_model.proofs.Below.{contained}
use Rattle.vme_histories.proofs.AllowedBoards.{stands}
use Rattle.vme_histories.proofs.Drivers.{never_drove}
use Rattle.vme_bus.specs.declared.sets.SlotSet.{SlotSet}
use Rattle.vme_bus.specs.Sets.{has}
use Rattle.vme_bus.specs.States.{HoldsWire, HoldsOutputs}
use Rattle.vme_bus.proofs.Masks.{with_false}
use Rattle.vme_bus.proofs.Lines.{HoldsBoards, Tells, lit}

-- the set of all slots that a backplane can have
pub slots_are : (s : ℕ) → (bit_at 4194303 s == 1) ≡ nat_lt s 22
slots_are s = by_place (nat_lt s 22) refl
  where
    by_place : (b : Bool) → nat_lt s 22 ≡ b → (bit_at 4194303 s == 1) ≡ b
    by_place true is = let l : s < 22 = grind (arith, nat_tests) in ap (λ x. x == 1) (bit_at_ones 22 s l)
    by_place false is = let l : 22 ≤ s = grind (arith, nat_tests) in ap (λ x. x == 1) (bit_at_ones_above 22 s l)

-- of the slots among the low segments, those whose wire is low
pub outputs_held : (version : Version) (p : Plan) (h : List Edge) (w : Wire) (all set : SlotSet) → IsAccepted p → IsLegal version p h → HoldsOutputs h w all
    → ((s : ℕ) → has set s ≡ (has all s && nat_lt s 22)) → HoldsWire h w set
outputs_held version p h w all set ok legal held both s = both s ∙ by_place (nat_lt s 22) refl
  where
    open_ : (b : Bool) → (b && true) ≡ b
    open_ true = refl
    open_ false = refl

    no_board : 22 ≤ s → (o : Option Row) → board p s ≡ o → drive h (Slot s) w ≡ false
    no_board far None is = never_drove version p h (Slot s) w legal (ap (λ (o : Option Row). option_map_or (drives w) o false) is)
    no_board far (Some r) is = let near = (stands p s r ok is).near in absurd (omega arith)

    by_place : (b : Bool) → nat_lt s 22 ≡ b → (has all s && b) ≡ drive h (Slot s) w
    by_place true is = let l : s < 22 = grind (arith, nat_tests) in open_ (has all s) ∙ held s l
    by_place false is = let l : 22 ≤ s = grind (arith, nat_tests) in with_false (has all s) ∙ sym (no_board l (board p s) refl)

none_any : (f : Row → Bool) (rows : List Row) → list_all (λ r. not (f r)) rows ≡ not (list_any f rows)
none_any f [] = refl
none_any f (r ∷ rows) = step (f r) (list_any f rows) (list_all (λ q. not (f q)) rows) (none_any f rows)
  where
    step : (a b c : Bool) → c ≡ not b → (not a && c) ≡ not (a || b)
    step true b c e = refl
    step false b c e = e

-- the boards that pass a grant on
abbrev passes_grant : List Edge → Row → Bool
passes_grant h r = drive h (Slot r.slot) BgOut

passing_held : (version : Version) (p : Plan) (h : List Edge) (set : SlotSet) → IsAccepted p → IsLegal version p h → HoldsWire h BgOut set → HoldsBoards p (passes_grant h) set
passing_held version p h set ok legal held s = held s ∙ by_board (board p s) refl
  where
    by_board : (o : Option Row) → board p s ≡ o → drive h (Slot s) BgOut ≡ option_map_or (passes_grant h) o false
    by_board None is = never_drove version p h (Slot s) BgOut legal (ap (λ (o : Option Row). option_map_or (drives BgOut) o false) is)
    by_board (Some r) is = ap (λ x. drive h (Slot x) BgOut) (sym (stands p s r ok is).slot)

pub through : (version : Version) (p : Plan) (h : List Edge) (set : SlotSet) → IsAccepted p → IsLegal version p h → HoldsWire h BgOut set → Tells set (λ b. not b ≡ are_grants_through p h)
through version p h set ok legal held b some none = ap not (lit p (passes_grant h) set ok (passing_held version p h set ok legal held) b some none) ∙ sym (none_any (passes_grant h) p.rows)

-- the acknowledge chain
all_pass : (f : ℕ → Bool) (xs : List ℕ) → list_all f xs ≡ true → All (λ x. f x ≡ true) xs
all_pass f [] e = All-nil (λ x. f x ≡ true)
all_pass f (x ∷ xs) e = All-cons (λ x. f x ≡ true) x xs (and_left (f x) (list_all f xs) e) (all_pass f xs (and_right (f x) (list_all f xs) e))

each_passes : (f : ℕ → Bool) (xs : List ℕ) → ((x : ℕ) → f x ≡ true) → list_all f xs ≡ true
each_passes f [] e = refl
each_passes f (x ∷ xs) e = both (f x) (list_all f xs) (e x) (each_passes f xs e)
  where
    both : (a b : Bool) → a ≡ true → b ≡ true → (a && b) ≡ true
    both a b e f = grind arith

abbrev is_high_at : List Edge → ℕ → Bool
is_high_at h s = not (drive h (Slot s) IackOut)

outputs_high : (version : Version) (p : Plan) (h : List Edge) (set : SlotSet) → IsAccepted p → IsLegal version p h → HoldsWire h IackOut set
    → Tells set (λ b. not b ≡ list_all (is_high_at h) (active p chain.Iack))
outputs_high version p h set ok legal held false some none = sym (each_passes (is_high_at h) (active p chain.Iack) each)
  where
    each : (s : ℕ) → not (drive h (Slot s) IackOut) ≡ true
    each s = ap not (is_false (drive h (Slot s) IackOut) (λ on. let bad : false ≡ true = none s (held s ∙ on) in cc))
outputs_high version p h set ok legal held true some none = by_all (list_all (is_high_at h) (active p chain.Iack)) refl
  where
    one : ℕ
    one = (some refl).0

    low : drive h (Slot one) IackOut ≡ true
    low = sym (held one) ∙ (some refl).1

    driven : option_map_or (drives IackOut) (board p one) false ≡ false → ⊥
    driven lacks = let bad : false ≡ true = sym (never_drove version p h (Slot one) IackOut legal lacks) ∙ low in cc

    works : (o : Option Row) → board p one ≡ o → (b : Bool) → option_map_or (λ r. is_some r.interrupter) o false ≡ b → Contains (active p chain.Iack) one
    works None is b e = absurd (driven (ap (λ (o : Option Row). option_map_or (drives IackOut) o false) is))
    works (Some r) is false e = absurd (driven (ap (λ (o : Option Row). option_map_or (drives IackOut) o false) is ∙ e))
    works (Some r) is true e =
        let k = stands p one r ok is in
        contained (is_active p.rows chain.Iack) p.slots one (ap (λ (o : Option Row). option_map_or (λ r. is_some r.interrupter) o false) is ∙ e) k.from_one k.to_last

    by_all : (b : Bool) → list_all (is_high_at h) (active p chain.Iack) ≡ b → false ≡ b
    by_all false is = refl
    by_all true is =
        let high = All-contains (λ s. is_high_at h s ≡ true) (active p chain.Iack) one (all_pass (is_high_at h) (active p chain.Iack) is) (works (board p one) refl _ refl) in
        let bad : false ≡ true = sym (ap not low) ∙ high in cc

pub clear : (version : Version) (p : Plan) (h : List Edge) (set : SlotSet) (head : Bool) → IsAccepted p → IsLegal version p h → HoldsWire h IackOut set → head ≡ drive h Controller Iack
    → Tells set (λ b. (not head && not b) ≡ is_chain_clear p h chain.Iack)
clear version p h set head ok legal held at_head b some none =
    ap (λ x. not x && not b) at_head
    ∙ ap (λ x. not (drive h Controller Iack) && x) (outputs_high version p h set ok legal held b some none)
