-- Which slots work a grant chain, and in which order.
use Rattle.std.proofs.Common.{◌≡◌, ◌∙◌, ℕ, Bool, true, false, List, [], ◌∷◌, Option, Some, None, ◌<◌, ◌≤◌, ◌+◌, refl, sym, ap, arith}
use Rattle.std.specs.Prelude.{◌&&◌, ◌==◌, IsTrue, is_some, nat_lt, find, reverse, unwrap_or, if◌then◌else◌}
use Rattle.std.proofs.lemmas.Bool.Decides.{nat_tests}
use Rattle.std.specs.Option.{option_map_or, option_and_then}
use Rattle.vme_model.specs.declared.boards.Row.{Row}
use Rattle.vme_model.specs.declared.sets.BusLevels.{BusLevels}
use Rattle.vme_model.specs.declared.sets.ChainId.{ChainId}
use Rattle.vme_model.specs.Sets.{has_bus_level}
use Rattle.vme_captures.specs.declared.signals.Pin.{Pin}
use Rattle.vme_captures.specs.declared.signals.Side.{Side}
use Rattle.vme_captures.specs.declared.signals.Side.TheVariants.{In, Out}
use Rattle.vme_captures.specs.Wires.{input_wire, wire_of, wire_on}
use Rattle.vme_model.specs.declared.sets.ChainId.TheVariants.{Iack}
use Rattle.vme_model.specs.Signals.{is_slot}
use Rattle.vme_model.specs.Plan.{Plan, is_active, active, board, grant_chain, requests_on, upstream}
use Rattle.vme_model.specs.Accepted.{IsAccepted}
use Rattle.vme_model.proofs.Ranges.{in_range}
use Rattle.vme_histories.proofs.AllowedBoards.{stands}
use Rattle.vme_bus.proofs.Boards.{all_below}
use Rattle.vme_standings.specs.declared.phases.GrantPhase.TheVariants.{Granting, Held}
use Rattle.vme_standings.specs.declared.phases.GrantPhases.{GrantPhases}
use Rattle.vme_standings.specs.Grants.{can_release, is_taken, may_end}
use Rattle.vme_standings.specs.Boards.{has_requester}
use Rattle.vme_standings.specs.Fronts.{input_place, place_of}
use Rattle.std.proofs.lemmas.Nat.Bits.{bit_at-zero}
use Rattle.vme_bus.specs.Sets.{has}
use Rattle.vme_standings.specs.Phases.{has_phase, no_slots}
use Rattle.vme_standings.specs.GrantChains.{is_follower, is_of_level, place_before}

-- a board of a level is in one of the slots that a backplane can have
pub level_below : (p : Plan) → IsAccepted p → (c s : ℕ) → (nat_lt s 22 && is_of_level p c s) ≡ is_of_level p c s
level_below p ok c s = all_below p ok s (requests_on c)

assoc : (a b c : Bool) → (a && (b && c)) ≡ ((a && b) && c)
assoc true b c = refl
assoc false b c = refl

pub level_below_and : (p : Plan) → IsAccepted p → (c s : ℕ) (b : Bool) → (nat_lt s 22 && (is_of_level p c s && b)) ≡ (is_of_level p c s && b)
level_below_and p ok c s b =
    assoc (nat_lt s 22) (is_of_level p c s) b ∙ ap (λ x. x && b) (level_below p ok c s)

pub follower_below : (p : Plan) → IsAccepted p → (c place s : ℕ) → (nat_lt s 22 && is_follower p c place s) ≡ is_follower p c place s
follower_below p ok c place s =
    assoc (nat_lt s 22) (is_of_level p c s) (place_before p c s == place)
    ∙ ap (λ b. b && (place_before p c s == place)) (level_below p ok c s)

-- no board stands beyond the last slot
pub no_board : (p : Plan) → IsAccepted p → (s : ℕ) → 22 ≤ s → board p s ≡ None
no_board p ok s far = by_board (board p s) refl
  where
    by_board : (o : Option Row) → board p s ≡ o → o ≡ None
    by_board None is = refl
    by_board (Some r) is = let near = (stands p s r ok is).near in absurd (omega arith)

-- a test that no number beyond passes is the test below
pub below : (t : ℕ → Bool) → ((s : ℕ) → 22 ≤ s → t s ≡ false) → (s : ℕ) → (nat_lt s 22 && t s) ≡ t s
below t beyond s = by_place (nat_lt s 22) refl
  where
    by_place : (b : Bool) → nat_lt s 22 ≡ b → (b && t s) ≡ t s
    by_place true is = refl
    by_place false is = let far : 22 ≤ s = grind (arith, nat_tests) in sym (beyond s far)

pub releaser_below : (p : Plan) → IsAccepted p → (requests : BusLevels) (phases : GrantPhases) (s : ℕ) → (nat_lt s 22 && can_release p requests phases s) ≡ can_release p requests phases s
releaser_below p ok requests phases s =
    below (can_release p requests phases)
    (λ t far. ap (λ o. option_map_or (λ q. may_end requests q.release) (option_and_then (λ r. r.requester) o) false && has_phase phases (Held t t)) (no_board p ok t far)) s

-- the segment before one is of a lower slot
less_of : (s x t : ℕ) (b : Bool) (rest : Option ℕ) → nat_lt x s ≡ b → (rest ≡ Some t → nat_lt t s ≡ true) → (if b then Some x else rest) ≡ Some t → nat_lt t s ≡ true
less_of s x t true rest is next e = let same : x ≡ t = cc in ap (λ n. nat_lt n s) (sym same) ∙ is
less_of s x t false rest is next e = next e

pub found_less : (s : ℕ) (xs : List ℕ) (t : ℕ) → find (λ t. nat_lt t s) xs ≡ Some t → nat_lt t s ≡ true
found_less s [] t e = absurd (cc)
found_less s (x ∷ xs) t e = less_of s x t (nat_lt x s) (find (λ t. nat_lt t s) xs) refl (found_less s xs t) e

from_one : (p : Plan) → IsAccepted p → (c s : ℕ) (o : Option Row) → board p s ≡ o → option_map_or (requests_on c) o false ≡ true → 1 ≤ s
from_one p ok c s None is e = absurd (cc)
from_one p ok c s (Some r) is e = (stands p s r ok is).from_one

before_of : (s : ℕ) (o : Option ℕ) → 1 ≤ s → ((t : ℕ) → o ≡ Some t → nat_lt t s ≡ true) → unwrap_or o 0 < s
before_of s None from less = omega arith
before_of s (Some t) from less = let is = less t refl in grind (arith, nat_tests)

pub before_less : (p : Plan) → IsAccepted p → (c s : ℕ) → is_of_level p c s ≡ true → place_before p c s < s
before_less p ok c s e =
    before_of s (upstream p (grant_chain c) s) (from_one p ok c s (board p s) refl e)
    (λ t is. found_less s (reverse (active p (grant_chain c))) t is)

-- no slot beyond has a board
pub board_below : (p : Plan) → IsAccepted p → (s : ℕ) → (nat_lt s 22 && is_some (board p s)) ≡ is_some (board p s)
board_below p ok s =
    below (λ t. is_some (board p t)) (λ t far. ap (λ o. is_some o) (no_board p ok t far)) s

pub asker_below : (p : Plan) → IsAccepted p → (s : ℕ) → (nat_lt s 22 && has_requester p s) ≡ has_requester p s
asker_below p ok s =
    below (has_requester p) (λ t far. ap (λ o. is_some (option_and_then (λ r. r.requester) o)) (no_board p ok t far)) s

pub taker_below : (p : Plan) → IsAccepted p → (requests : BusLevels) (phases : GrantPhases) (s : ℕ) → (nat_lt s 22 && is_taken p requests phases s) ≡ is_taken p requests phases s
taker_below p ok requests phases s =
    below (is_taken p requests phases)
    (λ t far. ap (λ o. option_map_or (λ q. has_bus_level requests q.level && has_phase phases (Granting q.level (place_before p q.level t))) (option_and_then (λ r. r.requester) o) false)
    (no_board p ok t far)) s

near_of : (s : ℕ) (o : Option ℕ) → s ≤ 22 → ((t : ℕ) → o ≡ Some t → nat_lt t s ≡ true) → place_of o < 22
near_of s None near less = omega arith
near_of s (Some t) near less = let is = less t refl in grind (arith, nat_tests)

-- the segment at a slot's input is one of a backplane
pub input_near : (p : Plan) (s : ℕ) → s ≤ 22 → input_place p s < 22
input_near p s near =
    near_of s (upstream p Iack s) near (λ t is. found_less s (reverse (active p Iack)) t is)

wire_of_near : (s : ℕ) (o : Option ℕ) → s < 22 → ((t : ℕ) → o ≡ Some t → nat_lt t s ≡ true) → unwrap_or o 0 < 22
wire_of_near s None near less = omega arith
wire_of_near s (Some t) near less = let is = less t refl in grind (arith, nat_tests)

input_wire_near : (p : Plan) (c : ChainId) (s : ℕ) → s < 22 → unwrap_or (upstream p c s) 0 < 22
input_wire_near p c s near =
    wire_of_near s (upstream p c s) near (λ t is. found_less s (reverse (active p c)) t is)

output_wire_near : (p : Plan) (c : ChainId) (s : ℕ) (b : Bool) → s < 22 → unwrap_or (if b then record { chain = c; place = Some s } else input_wire p c s).place 0 < 22
output_wire_near p c s true near = near
output_wire_near p c s false near = input_wire_near p c s near

side_near : (p : Plan) (c : ChainId) (s : ℕ) (side : Side) → s < 22 → unwrap_or (wire_on p c s side).place 0 < 22
side_near p c s In near = input_wire_near p c s near
side_near p c s Out near = output_wire_near p c s (is_active p.rows c s) near

-- a pin's wire is one of a backplane
pub wire_near : (p : Plan) (q : Pin) → IsTrue (is_slot q.slot) → unwrap_or (wire_of p q).place 0 < 22
wire_near p q is =
    let near : q.slot < 22 = grind (arith, nat_tests) in side_near p q.chain q.slot q.side near

-- no slot beyond the last has a board
pub no_board_at : (p : Plan) → IsAccepted p → (slot s : ℕ) → 22 ≤ slot → ((s == slot) && is_some (board p s)) ≡ false
no_board_at p ok slot s far = by_place (s == slot) refl
  where
    by_place : (b : Bool) → (s == slot) ≡ b → (b && is_some (board p s)) ≡ false
    by_place true is =
        let beyond : 22 ≤ s = grind (arith, nat_tests) in ap (λ o. is_some o) (no_board p ok s beyond)
    by_place false is = refl

pub board_there : (p : Plan) (slot s : ℕ) → (is_some (board p slot) && (s == slot)) ≡ ((s == slot) && is_some (board p s))
board_there p slot s = by_place (s == slot) refl
  where
    off : (b : Bool) → (b && false) ≡ false
    off b = grind arith

    on : (b : Bool) → (b && true) ≡ b
    on b = grind arith

    by_place : (b : Bool) → (s == slot) ≡ b → (is_some (board p slot) && b) ≡ (b && is_some (board p s))
    by_place true is =
        let e : slot ≡ s = grind (arith, nat_tests) in
        on (is_some (board p slot)) ∙ ap (λ n. is_some (board p n)) e
    by_place false is = off (is_some (board p slot))

-- the empty set holds no slot
pub none_held : (s : ℕ) → has no_slots s ≡ false
none_held s = ap (λ n. n == 1) (bit_at-zero s)

-- no slot beyond the backplane has a board
none_within : (p : Plan) → IsAccepted p → (s : ℕ) → p.slots < s → (f : Row → Bool) → option_map_or f (board p s) false ≡ false
none_within p ok s far f = by_board (board p s) refl
  where
    by_board : (o : Option Row) → board p s ≡ o → option_map_or f o false ≡ false
    by_board None is = refl
    by_board (Some r) is = let last = (stands p s r ok is).to_last in absurd (omega arith)

-- a test below the end of the backplane is the test
pub all_within : (p : Plan) → IsAccepted p → (s : ℕ) (f : Row → Bool) → (nat_lt s (p.slots + 1) && option_map_or f (board p s) false) ≡ option_map_or f (board p s) false
all_within p ok s f = by_place (nat_lt s (p.slots + 1)) refl
  where
    by_place : (b : Bool) → nat_lt s (p.slots + 1) ≡ b → (b && option_map_or f (board p s) false) ≡ option_map_or f (board p s) false
    by_place true is = refl
    by_place false is = let far : p.slots < s = grind (arith, nat_tests) in let none = none_within p ok s far f in cc

pub slots_near : (p : Plan) → IsAccepted p → p.slots + 1 ≤ 22
slots_near p ok = let range = in_range p ok in let most = range.most in omega arith
