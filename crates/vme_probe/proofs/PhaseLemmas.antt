-- Which phase it is in which a board's input is low, or its output: `hindered_laws`.
use Rattle.std.proofs.Common.{◌≡◌, ◌∙◌, ◌&&◌, ◌||◌, ◌⊎◌, ◌<◌, ◌≤◌, ℕ, zero, suc, Bool, true, false, not, [], Option, Some, None, is_some, refl, sym, ap, subst, inl, inr, arith}
use Rattle.std.proofs.lemmas.Bool.{and_parts, cases_Bool}
use Rattle.std.proofs.lemmas.Bool.Decides.{nat_tests}
use Rattle.std.specs.Prelude.{nat_lt, nat_le, ◌==◌, if◌then◌else◌, cond, unwrap_or}
use Rattle.std.specs.Option.{option_and_then, option_map_or}
use Rattle.vme_model.specs.declared.boards.RequesterRow.{RequesterRow}
use Rattle.vme_model.specs.declared.boards.Row.{Row}
use Rattle.vme_model.specs.Accepted.{IsAccepted}
use Rattle.vme_model.specs.Plan.{Plan, board, grant_chain, is_active, upstream}
use Rattle.vme_model.proofs.Below.{IsBelow, is_below}
use Rattle.vme_model.proofs.Bools.{same_number}
use Rattle.vme_model.proofs.Members.{level_of, within}
use Rattle.vme_model.proofs.Ranges.{in_range}
use Rattle.vme_captures.specs.declared.signals.Side.{Side}
use Rattle.vme_captures.specs.declared.signals.Side.TheVariants.{In, Out}
use Rattle.vme_captures.specs.Wires.{input_wire, wire_on}
use Rattle.vme_standings.specs.declared.phases.GrantPhase.{GrantPhase}
use Rattle.vme_standings.specs.declared.phases.GrantPhase.TheVariants.{Idle, Granting, Held, Expired}
use Rattle.vme_standings.specs.Cuts.{is_past_all}
use Rattle.vme_standings.specs.GrantChains.{end_place, is_of_level, place_before, requester_at}
use Rattle.vme_standings.specs.InPhase.{is_named}
use Rattle.vme_standings.specs.LowSegments.{is_in_run, is_low_in, is_segment}
use Rattle.vme_standings.specs.Phases.{is_held_by}
use Rattle.vme_standings.proofs.GrantPlaces.{IsBefore, before, board_segment, end_last, end_segment, from_one, has_requester}
use Rattle.vme_standings.proofs.Tests.{both, is_false, never}

-- ---- what is low

pub run : (p : Plan) (c s : ℕ) (q : GrantPhase) → is_low_in p c s q ≡ true → is_in_run p c s q ≡ true
run p c s q h = (and_parts (is_segment p c s) (is_in_run p c s q) h).1

pub no_run : (p : Plan) (c s : ℕ) (q : GrantPhase) → is_segment p c s ≡ true → is_low_in p c s q ≡ false → is_in_run p c s q ≡ false
no_run p c s q seg h = is_false (is_in_run p c s q) (λ low. never (is_low_in p c s q) (both (is_segment p c s) (is_in_run p c s q) seg low) h)

-- one of two tests fails, and the first holds
pub second_fails : (a b : Bool) → (a && b) ≡ false → a ≡ true → b ≡ false
second_fails true b h e = h
second_fails false b h e = absurd (never false e refl)

further : (first x y : ℕ) → nat_le first x ≡ true → x < y → nat_le first y ≡ true
further first x y h less = grind (arith, nat_tests)

less_is : (x y : ℕ) → x < y → nat_lt x y ≡ true
less_is x y less = grind (arith, nat_tests)

at_most : (x y : ℕ) → nat_le x y ≡ true → x ≤ y
at_most x y h = grind (arith, nat_tests)

above : (x y : ℕ) → nat_le x y ≡ false → y < x
above x y h = grind (arith, nat_tests)

-- a holder of the level names a segment of its chain
pub held_segment : (p : Plan) (c b first : ℕ) → is_of_level p c b ≡ true → is_named p (Held b first) ≡ true → is_segment p c first ≡ true
held_segment p c b first on named =
    let r = has_requester p c b on in
    subst (λ k. is_segment p k first ≡ true) r.level
    (subst (λ o. option_map_or (λ q. is_segment p q.level first) o false ≡ true) r.found
    (and_parts (option_map_or (λ q. is_segment p q.level first) (requester_at p b) false) (nat_le first b) named).0)

-- ---- the level of a requester

pub record OfLevel (p : Plan) (s : ℕ) (r : RequesterRow) : Type 0 where
  pub few : r.level < 4
  pub on : is_of_level p r.level s ≡ true

same_row : (a b : RequesterRow) → Some a ≡ Some b → a ≡ b
same_row a b h = cc

pub of_requester : (p : Plan) → IsAccepted p → (s : ℕ) (r : RequesterRow) → requester_at p s ≡ Some r → OfLevel p s r
of_requester p ok s r found =
    let l = level_of p (in_range p ok) [] s (of_board (board p s) (ap is_some found)) in
    let h = has_requester p l.level s l.member in
    let same : h.row ≡ r = same_row h.row r (sym h.found ∙ found) in
    let is : l.level ≡ r.level = sym h.level ∙ ap (λ k. k.level) same in
    record {
      few = subst (λ n. n < 4) is l.in_range;
      on = subst (λ n. is_of_level p n s ≡ true) is l.member;
    }
  where
    of_board : (o : Option Row) → is_some (option_and_then (λ k. k.requester) o) ≡ true → option_map_or (λ k. is_some k.requester) o false ≡ true
    of_board None h = h
    of_board (Some k) h = h

-- ---- the wires of pins

chain_below : (p : Plan) → IsAccepted p → (c s : ℕ) → c < 4 → IsBelow (is_of_level p c) s (upstream p (grant_chain c) s)
chain_below p ok zero s few = is_below (is_of_level p 0) p.slots s (within p (in_range p ok) 0)
chain_below p ok (suc zero) s few = is_below (is_of_level p 1) p.slots s (within p (in_range p ok) 1)
chain_below p ok (suc (suc zero)) s few = is_below (is_of_level p 2) p.slots s (within p (in_range p ok) 2)
chain_below p ok (suc (suc (suc zero))) s few = is_below (is_of_level p 3) p.slots s (within p (in_range p ok) 3)
chain_below p ok (suc (suc (suc (suc n)))) s few = absurd (omega arith)

works_is : (p : Plan) (c s : ℕ) → c < 4 → is_active p.rows (grant_chain c) s ≡ true → is_of_level p c s ≡ true
works_is p zero s few h = h
works_is p (suc zero) s few h = h
works_is p (suc (suc zero)) s few h = h
works_is p (suc (suc (suc zero))) s few h = h
works_is p (suc (suc (suc (suc n)))) s few h = absurd (omega arith)

-- the wire of a pin of a grant chain is one of its segments
pub wire_segment : (p : Plan) → IsAccepted p → (c s : ℕ) (side : Side) → c < 4 → is_segment p c (unwrap_or (wire_on p (grant_chain c) s side).place 0) ≡ true
wire_segment p ok c s In few = at (upstream p (grant_chain c) s) (chain_below p ok c s few)
  where
    at : (o : Option ℕ) → IsBelow (is_of_level p c) s o → is_segment p c (unwrap_or o 0) ≡ true
    at None none = refl
    at (Some u) great = board_segment p c u great.passes
wire_segment p ok c s Out few = by_board (is_active p.rows (grant_chain c) s) refl
  where
    at : (o : Option ℕ) → IsBelow (is_of_level p c) s o → is_segment p c (unwrap_or o 0) ≡ true
    at None none = refl
    at (Some u) great = board_segment p c u great.passes

    by_board : (b : Bool) → is_active p.rows (grant_chain c) s ≡ b
        → is_segment p c (unwrap_or (cond b (record { chain = grant_chain c; place = Some s }) (input_wire p (grant_chain c) s)).place 0) ≡ true
    by_board true is = board_segment p c s (works_is p c s few is)
    by_board false is = at (upstream p (grant_chain c) s) (chain_below p ok c s few)

-- ---- a board and its input

module _ (p : Plan) (ok : IsAccepted p) (c : ℕ) (few : c < 4) where
  module _ (s : ℕ) (on : is_of_level p c s ≡ true) where
    abbrev place : ℕ
    place = place_before p c s

    abbrev input : IsBefore p c s place
    input = before p ok c few s on

    -- its input is low and its output is high: the grant waits there, or the board holds the bus
    pub waits_here : (q : GrantPhase) → is_named p q ≡ true → is_held_by (λ b. b == s) q ≡ false → is_in_run p c place q ≡ true → is_in_run p c s q ≡ false → q ≡ Granting c place
    waits_here (Idle n) named free low high = absurd (never false low refl)
    waits_here (Granting n last) named free low high =
        let l = and_parts (n == c) (nat_le place last) low in
        let same = same_number n c l.0 in
        let less : last < s = above s last (second_fails (n == c) (nat_le s last) high l.0) in
        let from : place ≤ last = at_most place last l.1 in
        let most : last ≤ place = input.greatest last (subst (λ k. is_segment p k last ≡ true) same named) less in
        let is : last ≡ place = omega (arith, from, most) in
        ap (λ k. Granting k last) same ∙ ap (λ t. Granting c t) is
    waits_here (Held b first) named free low high =
        let l = and_parts (is_of_level p c b) (nat_le first place && nat_lt place b) low in
        let k = and_parts (nat_le first place) (nat_lt place b) l.1 in
        let past : nat_lt s b ≡ false = second_fails (nat_le first s) (nat_lt s b) (second_fails (is_of_level p c b) (nat_le first s && nat_lt s b) high l.0) (further first place s k.0 input.below) in
        absurd (elim (cases_Bool (nat_lt b s)) [
          | inl less ↦ behind (input.greatest b (board_segment p c b l.0) (below b s less)) k.1
          | inr least ↦ differ past least free
        ])
      where
        below : (x y : ℕ) → nat_lt x y ≡ true → x < y
        below x y h = grind (arith, nat_tests)

        behind : b ≤ place → nat_lt place b ≡ true → ⊥
        behind h k = absurd (let less = below place b k in omega (arith, h, less))

        differ : nat_lt s b ≡ false → nat_lt b s ≡ false → (b == s) ≡ false → ⊥
        differ h k e = grind (arith, nat_tests)
    waits_here (Expired n first) named free low high =
        let l = and_parts (n == c) (nat_le first place) low in
        absurd (never (nat_le first s) (further first place s l.1 input.below) (second_fails (n == c) (nat_le first s) high l.0))

    -- who holds the bus lets its input rise first
    pub gives_up : (q : GrantPhase) → is_named p q ≡ true → is_held_by (λ b. b == s) q ≡ true → is_in_run p c place q ≡ false → q ≡ Held s s
    gives_up (Idle n) named held high = absurd (never false held refl)
    gives_up (Granting n last) named held high = absurd (never false held refl)
    gives_up (Expired n first) named held high = absurd (never false held refl)
    gives_up (Held b first) named held high =
        let same : b ≡ s = same_number b s held in
        let own : is_of_level p c b ≡ true = subst (λ k. is_of_level p c k ≡ true) (sym same) on in
        let less : nat_lt place b ≡ true = less_is place b (subst (λ k. place < k) (sym same) input.below) in
        let late : place < first = above first place (first_fails (nat_le first place) (nat_lt place b) (second_fails (is_of_level p c b) (nat_le first place && nat_lt place b) high own) less) in
        let most : first ≤ b = at_most first b (and_parts (option_map_or (λ q. is_segment p q.level first) (requester_at p b) false) (nat_le first b) named).1 in
        let is : first ≡ s = last first (held_segment p c b first own named) late (subst (λ k. first ≤ k) same most) in
        ap (λ k. Held k first) same ∙ ap (λ t. Held s t) is
      where
        first_fails : (x y : Bool) → (x && y) ≡ false → y ≡ true → x ≡ false
        first_fails true y h e = absurd (never y e h)
        first_fails false y h e = refl

        last : (t : ℕ) → is_segment p c t ≡ true → place < t → t ≤ s → t ≡ s
        last t seg late most = elim (cases_Bool (nat_lt t s)) [
          | inl less ↦ absurd (let l : t ≤ place = input.greatest t seg (let x : t < s = grind (arith, nat_tests) in x) in omega (arith, l, late))
          | inr least ↦ grind (arith, nat_tests)
        ]

    -- its output rises behind its input: a board behind it holds the bus, or nobody took the grant
    pub goes_out : (q : GrantPhase) → is_named p q ≡ true → is_in_run p c s q ≡ true → is_in_run p c place q ≡ false
        → ((b : ℕ) × (q ≡ Held b s) × (is_of_level p c b ≡ true) × (s < b)) ⊎ (q ≡ Expired c s)
    goes_out (Idle n) named low high = absurd (never false low refl)
    goes_out (Granting n last) named low high =
        let l = and_parts (n == c) (nat_le s last) low in
        absurd (never (nat_le place last) (shorter (at_most s last l.1)) (second_fails (n == c) (nat_le place last) high l.0))
      where
        shorter : s ≤ last → nat_le place last ≡ true
        shorter h = let less = input.below in grind (arith, nat_tests)
    goes_out (Held b first) named low high =
        let l = and_parts (is_of_level p c b) (nat_le first s && nat_lt s b) low in
        let k = and_parts (nat_le first s) (nat_lt s b) l.1 in
        let less : s < b = below s b k.1 in
        let late : place < first = above first place (first_fails (nat_le first place) (nat_lt place b) (second_fails (is_of_level p c b) (nat_le first place && nat_lt place b) high l.0)
        (less_is place b (omega (arith, less, input.below)))) in
        let is : first ≡ s = next first (held_segment p c b first l.0 named) late (at_most first s k.0) in
        inl (b, ap (λ t. Held b t) is, l.0, less)
      where
        below : (x y : ℕ) → nat_lt x y ≡ true → x < y
        below x y h = grind (arith, nat_tests)

        first_fails : (x y : Bool) → (x && y) ≡ false → y ≡ true → x ≡ false
        first_fails true y h e = absurd (never y e h)
        first_fails false y h e = refl

        next : (t : ℕ) → is_segment p c t ≡ true → place < t → t ≤ s → t ≡ s
        next t seg late most = elim (cases_Bool (nat_lt t s)) [
          | inl less ↦ absurd (let l : t ≤ place = input.greatest t seg (let x : t < s = grind (arith, nat_tests) in x) in omega (arith, l, late))
          | inr least ↦ grind (arith, nat_tests)
        ]
    goes_out (Expired n first) named low high =
        let l = and_parts (n == c) (nat_le first s) low in
        let same = same_number n c l.0 in
        let late : place < first = above first place (second_fails (n == c) (nat_le first place) high l.0) in
        let is : first ≡ s = next first (board_segment p c first (subst (λ k. is_of_level p k first ≡ true) same named)) late (at_most first s l.1) in
        inr (ap (λ k. Expired k first) same ∙ ap (λ t. Expired c t) is)
      where
        next : (t : ℕ) → is_segment p c t ≡ true → place < t → t ≤ s → t ≡ s
        next t seg late most = elim (cases_Bool (nat_lt t s)) [
          | inl less ↦ absurd (let l : t ≤ place = input.greatest t seg (let x : t < s = grind (arith, nat_tests) in x) in omega (arith, l, late))
          | inr least ↦ grind (arith, nat_tests)
        ]

  -- the controller's segment is low, and some board took the grant or it has passed the last
  pub begins_over : (q : GrantPhase) → is_named p q ≡ true → is_in_run p c 0 q ≡ true → is_past_all p c q ≡ true
      → ((b : ℕ) × (q ≡ Held b 0) × (is_of_level p c b ≡ true) × (0 < b)) ⊎ (q ≡ Granting c (end_place p c))
  begins_over (Idle n) named low past = absurd (never false low refl)
  begins_over (Granting n last) named low past =
      let l = and_parts (n == c) (nat_le 0 last) low in
      let same = same_number n c l.0 in
      let to = (and_parts (n == c) (nat_le (end_place p c) last) (and_parts (is_segment p c (end_place p c)) (n == c && nat_le (end_place p c) last) past).1).1 in
      let most : last ≤ end_place p c = end_last p ok c few last (subst (λ k. is_segment p k last ≡ true) same named) in
      let from : end_place p c ≤ last = at_most (end_place p c) last to in
      let is : last ≡ end_place p c = omega (arith, most, from) in
      inr (ap (λ k. Granting k last) same ∙ ap (λ t. Granting c t) is)
  begins_over (Held b first) named low past =
      let l = and_parts (is_of_level p c b) (nat_le first 0 && nat_lt 0 b) low in
      let none : first ≤ 0 = at_most first 0 (and_parts (nat_le first 0) (nat_lt 0 b) l.1).0 in
      let is : first ≡ 0 = omega (arith, none) in
      inl (b, ap (λ t. Held b t) is, l.0, from_one p ok c b l.0)
  begins_over (Expired n first) named low past =
      let l = and_parts (n == c) (nat_le first 0) low in
      let from = from_one p ok n first named in
      let none : first ≤ 0 = at_most first 0 l.1 in
      absurd (omega (arith, from, none))
