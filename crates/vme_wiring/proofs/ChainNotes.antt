-- The chains after an edge.
use Rattle.std.proofs.Common.{◌≡◌, ◌≢◌, ◌∙◌, refl, sym, ap, subst, ℕ, suc, Bool, true, false, List, ◌∷◌, ◌<◌, ◌≤◌, arith}
use Rattle.std.specs.Prelude.{◌==◌, if◌then◌else◌, not, Option, Some, None, is_some, map}
use Rattle.std.specs.List.{slice_get}
use Rattle.std.specs.Option.{option_map_or}
use Rattle.std.proofs.lemmas.Bool.Decides.{nat_tests}
use Rattle.vme_model.specs.declared.boards.Row.{Row}
use Rattle.vme_model.specs.declared.boards.RequesterRow.{RequesterRow}
use Rattle.vme_model.specs.declared.sets.ChainId.{ChainId}
use Rattle.vme_model.specs.declared.sets.ChainId.TheVariants as chain
use Rattle.vme_model.specs.declared.signals.Driver.TheVariants.{Controller, Slot}
use Rattle.vme_model.specs.declared.signals.Wire.{Wire}
use Rattle.vme_model.specs.declared.signals.Wire.TheVariants.{Bg, Bclr, Iack, Berr, BgOut, IackOut}
use Rattle.vme_model.specs.declared.signals.Cycle.{Cycle}
use Rattle.vme_model.specs.declared.signals.Edge.{Edge}
use Rattle.vme_model.specs.Signals.{has_wire}
use Rattle.vme_model.specs.Plan.{Plan, board, active, is_active, works, grant_chain}
use Rattle.vme_model.specs.History.{drive}
use Rattle.vme_chain.specs.Segments.{Segments, segments_of, output_number}
use Rattle.vme_histories.specs.Levels.{request_level}
use Rattle.vme_wiring.specs.Chained.{chains_of, chain_at, moved, with_output, after_board, after_controller, IsBefore, CanMove, CanMoveHead}
use Rattle.vme_wiring.specs.declared.chains.Chains.{Chains}
use Rattle.vme_histories.proofs.Others.{drive_same}
use Rattle.vme_wiring.proofs.SegmentMoves.{IsOne, HasPlace, placed, map_others}
use Rattle.vme_histories.proofs.AllowedBoards.{Stands, IsDriven, at, at_head, own_after}

-- what the slots of a chain drive on it
abbrev outputs : List Edge → Wire → ℕ → Bool
outputs h w t = drive h (Slot t) w

apart : (s t : ℕ) → t ≢ s → (s == t) ≡ false
apart s t differ = first (s == t) refl
  where
    first : (b : Bool) → (s == t) ≡ b → b ≡ false
    first true e = absurd (differ (grind (arith, nat_tests)))
    first false e = refl

others_as_before : (h : List Edge) (s : ℕ) (w : Wire) (fall : Bool) (v : Option Cycle) (t : ℕ) → t ≢ s → outputs (at s w fall v ∷ h) w t ≡ outputs h w t
others_as_before h s w fall v t differ = drive_same h (at s w fall v) (Slot t) w (apart s t differ)

abbrev segments : List ℕ → Bool → List Bool → Segments
segments active head low = record { active = active; low = head ∷ low }

abbrev on_chain : Plan → ChainId → ℕ → Bool
on_chain p c s = is_active p.rows c s

-- a slot that works the chain moves its segment alone
module _ (p : Plan) (h : List Edge) (c : ChainId) (s : ℕ) (w : Wire) (fall : Bool) (v : Option Cycle) where
  abbrev after : List Edge
  after = at s w fall v ∷ h

  one : IsOne (on_chain p c) (outputs h w) (outputs after w) s fall
  one = record {
    others = λ t works differ. others_as_before h s w fall v t differ;
    one = own_after h s s w fall v refl;
  }

  place_of : 1 ≤ s → s ≤ p.slots → on_chain p c s ≡ true → HasPlace (outputs h w) (outputs after w) (active p c) s fall
  place_of from to works = placed (on_chain p c) (outputs h w) (outputs after w) p.slots s fall one from to works

  pub moved_segments : (head : Bool) → 1 ≤ s → s ≤ p.slots → on_chain p c s ≡ true →
      segments (active p c) head (map (outputs after w) (active p c)) ≡ moved (segments (active p c) head (map (outputs h w) (active p c))) (output_number (active p c) s) fall
  moved_segments head from to works =
      let k = place_of from to works in
      let low = map (outputs h w) (active p c) in
      let number : output_number (active p c) s ≡ suc k.place = let b = k.is_at.is_below in omega (arith, b) in
      ap (segments (active p c) head) k.is_at.moved
      ∙ ap (λ i. moved (segments (active p c) head low) i fall) (sym number)

  pub before_segments : (head : Bool) → 1 ≤ s → s ≤ p.slots → on_chain p c s ≡ true → slice_get (head ∷ map (outputs h w) (active p c)) (output_number (active p c) s) ≡ Some (drive h (Slot s) w)
  before_segments head from to works =
      let k = place_of from to works in
      let number : output_number (active p c) s ≡ suc k.place = let b = k.is_at.is_below in omega (arith, b) in
      ap (slice_get (head ∷ map (outputs h w) (active p c))) number ∙ k.is_at.before

  -- a slot that does not work the chain moves no segment
  pub other_segments : on_chain p c s ≡ false → map (outputs after w) (active p c) ≡ map (outputs h w) (active p c)
  other_segments idle =
      map_others (on_chain p c) (outputs h w) (outputs after w) p.slots
      (λ t l works. others_as_before h s w fall v t (λ same. absurd (differ (subst (λ x. on_chain p c x ≡ true) same works))))
    where
      differ : on_chain p c s ≡ true → ⊥
      differ works = let e : false ≡ true = sym idle ∙ works in cc

-- the chain of a board's requester, and the others
works_at : (p : Plan) (c : ChainId) (s : ℕ) (r : Row) → board p s ≡ Some r → on_chain p c s ≡ works c r
works_at p c s r found = ap (λ o. option_map_or (works c) o false) found

abbrev is_on : Option RequesterRow → ℕ → Bool
is_on o n = option_map_or (λ q. q.level == n) o false

on_level : (o : Option RequesterRow) (n m : ℕ) → is_some o ≡ true → option_map_or (λ q. q.level) o 0 ≡ n → is_on o m ≡ (n == m)
on_level None n m some e = absurd (cc)
on_level (Some q) n m some e = ap (λ x. x == m) e

module _ (p : Plan) (h : List Edge) (s : ℕ) (r : Row) (fall : Bool) (v : Option Cycle) (k : Stands p s r) (d : IsDriven p h s r BgOut fall v) where
  abbrev passed : List Edge
  passed = at s BgOut fall v ∷ h

  level_is : (n m : ℕ) → request_level r ≡ n → is_on r.requester m ≡ (n == m)
  level_is n m e = on_level r.requester n m d.drives e

  -- a chain's segments, if it is the one that the board works, and if not
  mine : (c : ChainId) → on_chain p c s ≡ true → (head : Bool) →
      segments (active p c) head (map (outputs passed BgOut) (active p c)) ≡ moved (segments (active p c) head (map (outputs h BgOut) (active p c))) (output_number (active p c) r.slot) fall
  mine c works head =
      moved_segments p h c s BgOut fall v head k.from_one k.to_last works
      ∙ ap (λ t. moved (segments (active p c) head (map (outputs h BgOut) (active p c))) (output_number (active p c) t) fall) (sym k.slot)

  works_is : (n m : ℕ) (c : ChainId) → request_level r ≡ n → works c r ≡ is_on r.requester m → on_chain p c s ≡ (n == m)
  works_is n m c e is = works_at p c s r k.found ∙ is ∙ level_is n m e

  segments_are : (n m : ℕ) (c : ChainId) → request_level r ≡ n → works c r ≡ is_on r.requester m → (head : Bool) →
      segments (active p c) head (map (outputs passed BgOut) (active p c))
      ≡ (if n == m then moved (segments (active p c) head (map (outputs h BgOut) (active p c))) (output_number (active p c) r.slot) fall
      else segments (active p c) head (map (outputs h BgOut) (active p c)))
  segments_are n m c e is head = by_level (n == m) (works_is n m c e is)
    where
      by_level : (b : Bool) → on_chain p c s ≡ b →
          segments (active p c) head (map (outputs passed BgOut) (active p c))
          ≡ (if b then moved (segments (active p c) head (map (outputs h BgOut) (active p c))) (output_number (active p c) r.slot) fall
          else segments (active p c) head (map (outputs h BgOut) (active p c)))
      by_level true works = mine c works head
      by_level false idle = ap (segments (active p c) head) (other_segments p h c s BgOut fall v idle)

  passes_by : (n : ℕ) → request_level r ≡ n → n < 4 → chains_of p passed ≡ with_output (grant_chain n) r.slot fall (chains_of p h)
  passes_by (suc (suc (suc (suc n)))) e l = absurd (omega arith)
  passes_by n e l = cc (
    segments_are n 0 chain.Bg0 e refl (drive h Controller (Bg 0)),
    segments_are n 1 chain.Bg1 e refl (drive h Controller (Bg 1)),
    segments_are n 2 chain.Bg2 e refl (drive h Controller (Bg 2)),
    segments_are n 3 chain.Bg3 e refl (drive h Controller (Bg 3)),
  )

  can_pass : (n : ℕ) → request_level r ≡ n → n < 4 → IsBefore (grant_chain n) (output_number (chain_at (grant_chain n) (chains_of p h)).active r.slot) fall (chains_of p h)
  can_pass n e l =
      ap (λ t. slice_get (chain_at (grant_chain n) (chains_of p h)).low (output_number (chain_at (grant_chain n) (chains_of p h)).active t)) k.slot
      ∙ cases n l e ∙ ap (λ b. Some b) d.before
    where
      cases : (m : ℕ) → m < 4 → request_level r ≡ m →
          slice_get (chain_at (grant_chain m) (chains_of p h)).low (output_number (chain_at (grant_chain m) (chains_of p h)).active s) ≡ Some (drive h (Slot s) BgOut)
      cases (suc (suc (suc (suc m)))) l e = absurd (omega arith)
      cases m l e = before_segments p h (grant_chain m) s BgOut fall v (drive h Controller (Bg m)) k.from_one k.to_last (works_is m m (grant_chain m) e refl)

-- the chains after an edge of a board
pub chained : (p : Plan) (h : List Edge) (s : ℕ) (r : Row) (w : Wire) (fall : Bool) (v : Option Cycle) → Stands p s r → IsDriven p h s r w fall v →
    chains_of p (at s w fall v ∷ h) ≡ after_board r w fall (chains_of p h)
chained p h s r BgOut fall v k d = passes_by p h s r fall v k d (request_level r) refl k.request
chained p h s r IackOut fall v k d =
    let f : Segments → Chains = λ x. record (chains_of p h) { iack = x } in
    ap f (moved_segments p h chain.Iack s IackOut fall v (drive h Controller Iack) k.from_one k.to_last (works_at p chain.Iack s r k.found ∙ d.drives)
    ∙ ap (λ t. moved (segments_of p h chain.Iack) (output_number (active p chain.Iack) t) fall) (sym k.slot))
chained p h s r (Bg n) fall v k d = let none = d.drives in absurd (cc)
chained p h s r Bclr fall v k d = let none = d.drives in absurd (cc)
chained p h s r Iack fall v k d = let none = d.drives in absurd (cc)
chained p h s r Berr fall v k d = let none = d.drives in absurd (cc)
chained p h s r w fall v k d = refl

pub can_move : (p : Plan) (h : List Edge) (s : ℕ) (r : Row) (w : Wire) (fall : Bool) (v : Option Cycle) → Stands p s r → IsDriven p h s r w fall v → CanMove r w fall (chains_of p h)
can_move p h s r BgOut fall v k d = can_pass p h s r fall v k d (request_level r) refl k.request
can_move p h s r IackOut fall v k d =
    ap (λ t. slice_get (segments_of p h chain.Iack).low (output_number (active p chain.Iack) t)) k.slot
    ∙ before_segments p h chain.Iack s IackOut fall v (drive h Controller Iack) k.from_one k.to_last (works_at p chain.Iack s r k.found ∙ d.drives)
    ∙ ap (λ b. Some b) d.before
can_move p h s r w fall v k d = tt

-- the chains after an edge of the controller
pub chained_head : (p : Plan) (h : List Edge) (w : Wire) (fall : Bool) (v : Option Cycle) → has_wire Controller w ≡ true → chains_of p (at_head w fall v ∷ h) ≡ after_controller w fall (chains_of p h)
chained_head p h (Bg (suc (suc (suc (suc n))))) fall v has = absurd (grind (arith, nat_tests))
chained_head p h (Bg n) fall v has = refl
chained_head p h Bclr fall v has = refl
chained_head p h Iack fall v has = refl
chained_head p h Berr fall v has = refl
chained_head p h w fall v has = absurd (cc)

pub can_move_head : (p : Plan) (h : List Edge) (w : Wire) (fall : Bool) → has_wire Controller w ≡ true → drive h Controller w ≡ not fall → CanMoveHead w fall (chains_of p h)
can_move_head p h (Bg (suc (suc (suc (suc n))))) fall has before = absurd (grind (arith, nat_tests))
can_move_head p h (Bg n) fall has before = ap (λ b. Some b) before
can_move_head p h Iack fall has before = ap (λ b. Some b) before
can_move_head p h Bclr fall has before = tt
can_move_head p h Berr fall has before = tt
can_move_head p h w fall has before = absurd (cc)
