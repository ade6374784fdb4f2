-- Which edge moves a segment of a grant chain.
use Rattle.std.proofs.Common.{◌≡◌, ◌∙◌, refl, sym, ap, subst, ℕ, zero, suc, Bool, true, false, List, [], ◌<◌, arith}
use Rattle.std.specs.Prelude.{◌==◌, if◌then◌else◌, Option, Some, None, option_map}
use Rattle.std.specs.Option.{option_map_or}
use Rattle.vme_model.specs.declared.boards.Row.{Row}
use Rattle.vme_model.specs.declared.boards.RequesterRow.{RequesterRow}
use Rattle.vme_model.specs.declared.sets.ChainId.TheVariants as chain
use Rattle.vme_model.specs.declared.signals.Driver.{Driver}
use Rattle.vme_model.specs.declared.signals.Driver.TheVariants.{Controller, Slot}
use Rattle.vme_model.specs.declared.signals.Wire.{Wire}
use Rattle.vme_model.specs.declared.signals.Wire.TheVariants as wire
use Rattle.vme_model.specs.declared.signals.Edge.{Edge}
use Rattle.vme_model.specs.Signals.{has_wire}
use Rattle.vme_model.specs.Plan.{Plan, board, board_of, grant_chain, has_driver}
use Rattle.vme_model.specs.Accepted.{IsAccepted}
use Rattle.vme_model.specs.History.{segment}
use Rattle.vme_model.proofs.Bools.{same_number}
use Rattle.vme_model.proofs.Ranges.{in_range}
use Rattle.vme_model.proofs.Members.{has_board, level_of}
use Rattle.vme_model.proofs.Grants.{as_segment}
use Rattle.vme_histories.proofs.AllowedBoards.{stands}
use Rattle.vme_captures.specs.declared.signals.Segment.{Segment}
use Rattle.vme_captures.specs.Changes.{grant_output, segment_of}
use Rattle.vme_standings.specs.GrantChains.{is_of_level}
use Rattle.vme_standings.specs.LowSegments.{is_segment}
use Rattle.vme_standings.specs.InPhase.{IsOfGrant, grant_segment, is_place_low}
use Rattle.vme_standings.proofs.SeenEdges.{chain_is, place_is}
use Rattle.vme_standings.proofs.PhaseSteps.{under}
use Rattle.vme_standings.proofs.GrantPlaces.{board_segment, from_one}

-- a segment as the chains have it
pub place_segment : (p : Plan) (h : List Edge) (c s : ℕ) → c < 4 → segment h (grant_segment c s).chain (grant_segment c s).place ≡ is_place_low h c s
place_segment p h c zero few = as_segment p h c None few
place_segment p h c (suc s) few = as_segment p h c (Some (suc s)) few

-- four levels have four chains
chain_level : (a b : ℕ) → a < 4 → b < 4 → grant_chain a ≡ grant_chain b → a ≡ b
chain_level zero zero l k e = refl
chain_level zero (suc zero) l k e = absurd (cc)
chain_level zero (suc (suc zero)) l k e = absurd (cc)
chain_level zero (suc (suc (suc zero))) l k e = absurd (cc)
chain_level (suc zero) zero l k e = absurd (cc)
chain_level (suc zero) (suc zero) l k e = refl
chain_level (suc zero) (suc (suc zero)) l k e = absurd (cc)
chain_level (suc zero) (suc (suc (suc zero))) l k e = absurd (cc)
chain_level (suc (suc zero)) zero l k e = absurd (cc)
chain_level (suc (suc zero)) (suc zero) l k e = absurd (cc)
chain_level (suc (suc zero)) (suc (suc zero)) l k e = refl
chain_level (suc (suc zero)) (suc (suc (suc zero))) l k e = absurd (cc)
chain_level (suc (suc (suc zero))) zero l k e = absurd (cc)
chain_level (suc (suc (suc zero))) (suc zero) l k e = absurd (cc)
chain_level (suc (suc (suc zero))) (suc (suc zero)) l k e = absurd (cc)
chain_level (suc (suc (suc zero))) (suc (suc (suc zero))) l k e = refl
chain_level (suc (suc (suc (suc a)))) b l k e = absurd (omega arith)
chain_level a (suc (suc (suc (suc b)))) l k e = absurd (omega arith)

segment_same : (a b s t : ℕ) → a < 4 → b < 4 → Some (grant_segment a s) ≡ Some (grant_segment b t) → (a ≡ b) × (s ≡ t)
segment_same a b zero zero l k e = (chain_level a b l k (chain_is (grant_segment a 0) (grant_segment b 0) e), refl)
segment_same a b zero (suc t) l k e = absurd (none_some t (place_is (grant_segment a 0) (grant_segment b (suc t)) e))
  where
    none_some : (t : ℕ) → None ≡ Some (suc t) → ⊥
    none_some t x = cc
segment_same a b (suc s) zero l k e = absurd (some_none s (place_is (grant_segment a (suc s)) (grant_segment b 0) e))
  where
    some_none : (t : ℕ) → Some (suc t) ≡ None → ⊥
    some_none t x = cc
segment_same a b (suc s) (suc t) l k e =
    (chain_level a b l k (chain_is (grant_segment a (suc s)) (grant_segment b (suc t)) e), same (suc s) (suc t) (place_is (grant_segment a (suc s)) (grant_segment b (suc t)) e))
  where
    same : (m n : ℕ) → Some m ≡ Some n → m ≡ n
    same m n x = cc

chain_of : (c s : ℕ) → (grant_segment c s).chain ≡ grant_chain c
chain_of c zero = refl
chain_of c (suc s) = refl

no_grant : (a b c : Bool) → chain.Iack ≡ (if a then chain.Bg0 else (if b then chain.Bg1 else (if c then chain.Bg2 else chain.Bg3))) → ⊥
no_grant true b c e = absurd (cc)
no_grant false true c e = absurd (cc)
no_grant false false true e = absurd (cc)
no_grant false false false e = absurd (cc)

no_acknowledge : (c s : ℕ) (place : Option ℕ) → Some (record { chain = chain.Iack; place = place }) ≡ Some (grant_segment c s) → ⊥
no_acknowledge c s place e =
    no_grant (c == 0) (c == 1) (c == 2) (chain_is (record { chain = chain.Iack; place = place }) (grant_segment c s) e ∙ chain_of c s)

module _ (p : Plan) (ok : IsAccepted p) where
  -- the output of a board is its segment
  pub output_is : (m s : ℕ) → is_of_level p m s ≡ true → grant_output (board p s) ≡ Some (grant_segment m s)
  output_is m s on =
      let b = has_board p m s on in
      ap (λ (o : Option Row). grant_output o) b.is_board ∙ by_requester b.row b.row.requester b.requests ∙ by_slot s b.row.slot (stands p s b.row ok b.is_board).slot (from_one p ok m s on)
    where
      by_requester : (r : Row) (o : Option RequesterRow) → option_map_or (λ q. q.level == m) o false ≡ true
          → option_map {U = Segment} (λ (q : RequesterRow). record { chain = grant_chain q.level; place = Some r.slot }) o ≡ Some (record { chain = grant_chain m; place = Some r.slot })
      by_requester r None e = absurd (cc)
      by_requester r (Some q) e = ap (λ l. Some (record { chain = grant_chain l; place = Some r.slot })) (same_number q.level m e)

      by_slot : (t slot : ℕ) → slot ≡ t → 0 < t → Some (record { chain = grant_chain m; place = Some slot }) ≡ Some (grant_segment m t)
      by_slot zero slot e from = absurd (omega arith)
      by_slot (suc t) slot e from = ap (λ x. Some (record { chain = grant_chain m; place = Some x })) e

  -- who moves a segment drives it
  pub record OfGrant (e : Edge) (c place : ℕ) : Type 0 where
    pub edge : IsOfGrant e c place
    pub member : is_segment p c place ≡ true

  pub of_grant : (e : Edge) (c place : ℕ) → c < 4 → has_wire e.driver e.wire ≡ true → has_driver p e.driver e.wire ≡ true → segment_of e.wire (board_of p e.driver) ≡ Some (grant_segment c place)
      → OfGrant e c place
  of_grant e c place few has exists is = by_wire e.driver e.wire refl refl has exists is
    where
      of_controller : (n place : ℕ) → e.driver ≡ Controller → e.wire ≡ wire.Bg n → (n ≡ c) × (0 ≡ place) → OfGrant e c place
      of_controller n zero driver w same = record { edge = (driver, w ∙ ap (λ l. wire.Bg l) same.0); member = refl }
      of_controller n (suc t) driver w same = let no = same.1 in absurd (omega arith)

      of_board : (m s place : ℕ) → is_of_level p m s ≡ true → e.driver ≡ Slot s → e.wire ≡ wire.BgOut → (m ≡ c) × (s ≡ place) → OfGrant e c place
      of_board m s zero on driver w same = let from = from_one p ok m s on in let no = same.1 in absurd (omega arith)
      of_board m s (suc t) on driver w same = record {
        edge = (driver ∙ ap (λ x. Slot x) same.1, w);
        member = board_segment p c (suc t) (subst (λ x. is_of_level p c x ≡ true) same.1 (subst (λ l. is_of_level p l s ≡ true) same.0 on));
      }

      by_wire : (d : Driver) (w : Wire) → e.driver ≡ d → e.wire ≡ w → has_wire d w ≡ true → has_driver p d w ≡ true → segment_of w (board_of p d) ≡ Some (grant_segment c place) → OfGrant e c place
      by_wire Controller (wire.Bg n) driver w has exists x = of_controller n place driver w (segment_same n c 0 place (under n 4 has) few x)
      by_wire (Slot s) (wire.Bg n) driver w has exists x = absurd (cc)
      by_wire (Slot s) wire.BgOut driver w has exists x =
          let l = level_of p (in_range p ok) [] s exists in
          of_board l.level s place l.member driver w (segment_same l.level c s place l.in_range few (sym (output_is l.level s l.member) ∙ x))
      by_wire Controller wire.BgOut driver w has exists x = absurd (cc)
      by_wire d wire.Iack driver w has exists x = absurd (no_acknowledge c place None x)
      by_wire d wire.IackOut driver w has exists x = by_board (board_of p d) x
        where
          by_board : (o : Option Row) → option_map {U = Segment} (λ (b : Row). record { chain = chain.Iack; place = Some b.slot }) o ≡ Some (grant_segment c place) → OfGrant e c place
          by_board None y = absurd (cc)
          by_board (Some r) y = absurd (no_acknowledge c place (Some r.slot) y)
      by_wire d w driver is has exists x = absurd (cc)
