-- The segments of a grant chain, by their order: the one before a board, the last one, and the next
-- one behind another.
use Rattle.std.proofs.Common.{◌≡◌, ◌⊎◌, ◌∙◌, refl, ap, subst, ℕ, zero, suc, Bool, true, false, List, ◌<◌, ◌≤◌, arith, inl, inr, ⊎_elim}
use Rattle.std.specs.Prelude.{◌==◌, ◌||◌, Option, Some, None, unwrap_or}
use Rattle.std.specs.Option.{option_map_or, option_and_then}
use Rattle.std.proofs.lemmas.Bool.Decides.{nat_tests}
use Rattle.vme_model.specs.declared.boards.Row.{Row}
use Rattle.vme_model.specs.declared.boards.RequesterRow.{RequesterRow}
use Rattle.vme_model.specs.declared.signals.Edge.{Edge}
use Rattle.vme_model.specs.Plan.{Plan, board, upstream, last_active, grant_chain, requests_on}
use Rattle.vme_model.specs.Accepted.{IsAccepted}
use Rattle.vme_model.proofs.Bools.{and_left, and_right, same_number}
use Rattle.vme_model.proofs.Below.{IsBelow}
use Rattle.vme_model.proofs.Ranges.{IsInRange, in_range}
use Rattle.vme_model.proofs.Members.{within, is_at, one_chain}
use Rattle.vme_model.proofs.Grants.{is_end, grant_wires}
use Rattle.vme_model.proofs.GrantPhases.{segment_of}
use Rattle.vme_standings.specs.GrantChains.{end_place, is_follower, is_of_level, place_before, requester_at}
use Rattle.vme_standings.specs.LowSegments.{is_segment}
use Rattle.vme_standings.specs.InPhase.{is_place_low}
use Rattle.vme_standings.proofs.Tests.{both, or_true}

-- the greatest segment of the chain below a number
pub record IsBefore (p : Plan) (c s x : ℕ) : Type 0 where
  pub seg : is_segment p c x ≡ true
  pub below : x < s
  pub greatest : (t : ℕ) → is_segment p c t ≡ true → t < s → t ≤ x

-- a segment is the controller's, or that of a board of the level
pub segment_is : (p : Plan) (c t : ℕ) → is_segment p c t ≡ true → (t ≡ 0) ⊎ (is_of_level p c t ≡ true)
segment_is p c t seg = by_test (t == 0) refl seg
  where
    by_test : (b : Bool) → (t == 0) ≡ b → (b || is_of_level p c t) ≡ true → (t ≡ 0) ⊎ (is_of_level p c t ≡ true)
    by_test true is e = inl (same_number t 0 is)
    by_test false is e = inr e

pub board_segment : (p : Plan) (c t : ℕ) → is_of_level p c t ≡ true → is_segment p c t ≡ true
board_segment p c t on = or_true (t == 0) (is_of_level p c t) on

pub above_zero : (p : Plan) (c t : ℕ) → is_segment p c t ≡ true → 0 < t → is_of_level p c t ≡ true
above_zero p c t seg from = ⊎_elim (λ (e : t ≡ 0). absurd (omega arith)) (λ (on : is_of_level p c t ≡ true). on) (segment_is p c t seg)

-- the requester of a board of the level
pub record HasRequester (p : Plan) (c s : ℕ) : Type 0 where
  pub row : RequesterRow
  pub found : requester_at p s ≡ Some row
  pub level : row.level ≡ c

pub has_requester : (p : Plan) (c s : ℕ) → is_of_level p c s ≡ true → HasRequester p c s
has_requester p c s on = by_board (board p s) refl on
  where
    by_requester : (r : Row) (o : Option RequesterRow) → board p s ≡ Some r → r.requester ≡ o → option_map_or (λ q. q.level == c) o false ≡ true → HasRequester p c s
    by_requester r None at is e = absurd (cc)
    by_requester r (Some q) at is e = record { row = q; found = ap (λ (o : Option Row). option_and_then (λ (x : Row). x.requester) o) at ∙ is; level = same_number q.level c e }

    by_board : (o : Option Row) → board p s ≡ o → option_map_or (requests_on c) o false ≡ true → HasRequester p c s
    by_board None at e = absurd (cc)
    by_board (Some r) at e = by_requester r r.requester at refl e

module _ (p : Plan) (ok : IsAccepted p) where
  abbrev range : IsInRange p
  range = in_range p ok

  pub from_one : (c s : ℕ) → is_of_level p c s ≡ true → 0 < s
  from_one c s on = let w = within p range c s on in let from = w.0 in omega arith

  pub near : (c s : ℕ) → is_of_level p c s ≡ true → s < 22
  near c s on = let w = within p range c s on in let to = w.1 in let most = range.most in omega arith

  pub segment_near : (c s : ℕ) → is_segment p c s ≡ true → s < 22
  segment_near c s seg = ⊎_elim (λ (e : s ≡ 0). omega (arith, e)) (λ (on : is_of_level p c s ≡ true). near c s on) (segment_is p c s seg)

  -- a board is of one level
  pub one_level : (m n s t : ℕ) → is_of_level p m s ≡ true → is_segment p n t ≡ true → t ≡ s → m ≡ n
  one_level m n s t on seg same =
      let from = from_one m s on in
      one_chain p m n s on (subst (λ x. is_of_level p n x ≡ true) same (above_zero p n t seg (omega (arith, from, same))))

  module _ (c : ℕ) (few : c < 4) where
    before_of : (s : ℕ) (o : Option ℕ) → 0 < s → IsBelow (is_of_level p c) s o → IsBefore p c s (unwrap_or o 0)
    before_of s None from b = record {
      seg = refl;
      below = from;
      greatest = λ t seg less. ⊎_elim (λ (e : t ≡ 0). omega arith) (λ (on : is_of_level p c t ≡ true). absurd (b t on less)) (segment_is p c t seg);
    }
    before_of s (Some x) from b = record {
      seg = board_segment p c x b.passes;
      below = b.below;
      greatest = λ t seg less. ⊎_elim (λ (e : t ≡ 0). omega arith) (λ (on : is_of_level p c t ≡ true). b.greatest t on less) (segment_is p c t seg);
    }

    pub before : (s : ℕ) → is_of_level p c s ≡ true → IsBefore p c s (place_before p c s)
    before s on = before_of s (upstream p (grant_chain c) s) (from_one c s on) (is_at true p range c s few on).before

    end_is : IsBefore p c (suc p.slots) (end_place p c)
    end_is = before_of (suc p.slots) (last_active p (grant_chain c)) (omega arith) (is_end p range c few)

    pub end_segment : is_segment p c (end_place p c) ≡ true
    end_segment = end_is.seg

    pub end_last : (t : ℕ) → is_segment p c t ≡ true → t ≤ end_place p c
    end_last t seg = end_is.greatest t seg (⊎_elim
        (λ (e : t ≡ 0). omega arith)
        (λ (on : is_of_level p c t ≡ true). let w = within p range c t on in let to = w.1 in omega arith)
        (segment_is p c t seg))

    -- the segment that comes next behind another
    pub record IsNext (x w : ℕ) : Type 0 where
      pub slot : ℕ
      pub follows : is_follower p c x slot ≡ true
      pub to : slot ≤ w

    next_of : (n x w : ℕ) → w ≤ n → is_segment p c x ≡ true → is_of_level p c w ≡ true → x < w → IsNext x w
    next_of zero x w most seg on less = absurd (omega arith)
    next_of (suc n) x w most seg on less = by_test (place_before p c w == x) refl (next_of n x (place_before p c w))
      where
        by_test : (b : Bool) → (place_before p c w == x) ≡ b
            → (place_before p c w ≤ n → is_segment p c x ≡ true → is_of_level p c (place_before p c w) ≡ true → x < place_before p c w → IsNext x (place_before p c w))
            → IsNext x w
        by_test true is further = record { slot = w; follows = both (is_of_level p c w) (place_before p c w == x) on is; to = omega arith }
        by_test false is further =
            let b = before w on in
            let above : x ≤ place_before p c w = b.greatest x seg less in
            let other : x < place_before p c w = grind (arith, nat_tests) in
            let y = further (omega (arith, b.below, most)) seg (above_zero p c (place_before p c w) b.seg (omega arith)) other in
            record { slot = y.slot; follows = y.follows; to = omega (arith, y.to, b.below) }

    pub next : (x w : ℕ) → is_segment p c x ≡ true → is_of_level p c w ≡ true → x < w → IsNext x w
    next x w seg on less = next_of w x w (omega arith) seg on less

    -- what a follower says
    pub follower_on : (x t : ℕ) → is_follower p c x t ≡ true → is_of_level p c t ≡ true
    follower_on x t f = and_left (is_of_level p c t) _ f

    pub follower_before : (x t : ℕ) → is_follower p c x t ≡ true → IsBefore p c t x
    follower_before x t f =
        subst (IsBefore p c t) (same_number (place_before p c t) x (and_right (is_of_level p c t) _ f)) (before t (follower_on x t f))

    -- a segment as the grant phases of a legal list read it
    pub place_low : (h : List Edge) (s : ℕ) → is_of_level p c s ≡ true → segment_of (grant_wires p h) c (upstream p (grant_chain c) s) ≡ is_place_low h c (place_before p c s)
    place_low h s on = by_place (upstream p (grant_chain c) s) (is_at true p range c s few on).before
      where
        by_place : (o : Option ℕ) → IsBelow (is_of_level p c) s o → segment_of (grant_wires p h) c o ≡ is_place_low h c (unwrap_or o 0)
        by_place None b = refl
        by_place (Some zero) b = let from = from_one c 0 b.passes in absurd (omega arith)
        by_place (Some (suc t)) b = refl

    pub end_low : (h : List Edge) → segment_of (grant_wires p h) c (last_active p (grant_chain c)) ≡ is_place_low h c (end_place p c)
    end_low h = by_place (last_active p (grant_chain c)) (is_end p range c few)
      where
        by_place : (o : Option ℕ) → IsBelow (is_of_level p c) (suc p.slots) o → segment_of (grant_wires p h) c o ≡ is_place_low h c (unwrap_or o 0)
        by_place None b = refl
        by_place (Some zero) b = let from = from_one c 0 b.passes in absurd (omega arith)
        by_place (Some (suc t)) b = refl
