-- What comes behind free swaps: it stays legal, delivers the same, and leaves the bus standing alike.
use Rattle.std.proofs.Common.{◌≡◌, ◌∙◌, refl, sym, subst, Bool, true, false, List, [], ◌∷◌, ◌++◌, arith}
use Rattle.std.specs.Prelude.{◌↔◌, if◌then◌else◌, Option, Some, None, is_some, IsPermutation}
use Rattle.std.proofs.lemmas.List.Sorted.{IsPermutation-refl, IsPermutation-cons, IsPermutation-swap, IsPermutation-trans}
use Rattle.vme_model.specs.declared.deliveries.Delivery.{Delivery}
use Rattle.vme_model.specs.declared.signals.Version.{Version}
use Rattle.vme_model.specs.declared.signals.Edge.{Edge}
use Rattle.vme_model.specs.declared.signals.Wire.TheVariants.{Dtack}
use Rattle.vme_model.specs.Plan.{Plan, board_of}
use Rattle.vme_model.specs.Accepted.{IsAccepted}
use Rattle.vme_model.specs.History.{shown, addressing}
use Rattle.vme_model.specs.Deliveries.{delivery, delivered, delivered_by, followed_by}
use Rattle.vme_model.specs.GrantSafety.{is_fall_on}
use Rattle.vme_model.specs.Verdict.{IsLegal}
use Rattle.vme_swaps.specs.Alike.{StandAlike}
use Rattle.vme_swaps.specs.Swaps.{IsFree, IsSwap, LeadThrough, AreOneButForSwaps}
use Rattle.vme_swaps.proofs.Alike.{delivery_alike, allowed_alike, alike_behind, alike_refl, alike_trans}
use Rattle.vme_swaps.proofs.Apart.{one_answers, turned}
use Rattle.vme_swaps.proofs.Free.{allowed, delivery_beside, free_back}

-- what two histories have in common
pub record AreSame (version : Version) (p : Plan) (g h : List Edge) : Type 0 where
  pub legal : IsLegal version p h
  pub delivered : delivered p g ≡ delivered p h
  pub alike : StandAlike p g h
  pub edges : IsPermutation g h

-- at most one of two delivers
swap_followed : (ds : List Delivery) (x y : Option Delivery) → (is_some x ≡ true → is_some y ≡ true → ⊥) → followed_by (followed_by ds x) y ≡ followed_by (followed_by ds y) x
swap_followed ds None None one = refl
swap_followed ds None (Some y) one = refl
swap_followed ds (Some x) None one = refl
swap_followed ds (Some x) (Some y) one = absurd (one refl refl)

delivers : (p : Plan) (h : List Edge) (e : Edge) → is_some (delivery p h e) ≡ true → is_fall_on Dtack e ≡ true
delivers p h e = by_test (is_fall_on Dtack e)
  where
    by_test : (t : Bool) → is_some (if t then delivered_by (shown p h) (addressing p h) (board_of p e.driver) else None) ≡ true → t ≡ true
    by_test true some = refl
    by_test false some = absurd (cc)

swapped_edges : (a b : Edge) (h : List Edge) → IsPermutation (b ∷ a ∷ h) (a ∷ b ∷ h)
swapped_edges a b h = IsPermutation-swap (b ∷ a ∷ h) (a ∷ b ∷ h) 0 1 (omega arith) (omega arith) refl

module _ (version : Version) (p : Plan) where
  pub same_deliveries : (h : List Edge) (a b : Edge) → IsAccepted p → IsLegal version p (b ∷ a ∷ h) → IsLegal version p (a ∷ b ∷ h)
      → delivered p (b ∷ a ∷ h) ≡ delivered p (a ∷ b ∷ h)
  same_deliveries h a b accepted legal swapped =
      let k = allowed version p h a b accepted legal swapped in
      let one = λ (x : is_some (delivery p h a) ≡ true) (y : is_some (delivery p h b) ≡ true). one_answers version p h a b k (delivers p h a x) (delivers p h b y) in
      (λ i. followed_by (followed_by (delivered p h) (delivery p h a)) (delivery_beside version p h b a (turned version p h a b k) i))
      ∙ swap_followed (delivered p h) (delivery p h a) (delivery p h b) one
      ∙ (λ i. followed_by (followed_by (delivered p h) (delivery p h b)) (sym (delivery_beside version p h a b k) i))

  pub same_at_once : (h : List Edge) (a b : Edge) → IsAccepted p → IsFree version p h a b → AreSame version p (b ∷ a ∷ h) (a ∷ b ∷ h)
  same_at_once h a b accepted f = record {
    legal = f.swapped;
    delivered = same_deliveries h a b accepted f.legal f.swapped;
    alike = f.alike;
    edges = swapped_edges a b h;
  }

  pub same_behind : (later g h : List Edge) → IsAccepted p → IsLegal version p (later ++ g) → AreSame version p g h → AreSame version p (later ++ g) (later ++ h)
  same_behind [] g h accepted legal s = s
  same_behind (e ∷ later) g h accepted legal s =
      let r = same_behind later g h accepted legal.1 s in
      record {
        legal = (allowed_alike version p (later ++ g) (later ++ h) e accepted legal.1 legal.0 r.legal r.alike, r.legal);
        delivered = λ i. followed_by (r.delivered i) (delivery_alike p (later ++ g) (later ++ h) r.alike e i);
        alike = alike_behind version p (later ++ g) (later ++ h) e accepted legal.1 legal.0 r.legal r.alike;
        edges = IsPermutation-cons e (later ++ g) (later ++ h) r.edges;
      }

  pub legal_behind : (h : List Edge) (a b : Edge) (later : List Edge) → IsAccepted p → IsFree version p h a b
      → IsLegal version p (later ++ b ∷ a ∷ h) ↔ IsLegal version p (later ++ a ∷ b ∷ h)
  legal_behind h a b later accepted f = (
    λ legal. (same_behind later (b ∷ a ∷ h) (a ∷ b ∷ h) accepted legal (same_at_once h a b accepted f)).legal,
    λ legal. (same_behind later (a ∷ b ∷ h) (b ∷ a ∷ h) accepted legal (same_at_once h b a accepted (free_back version p h a b f))).legal,
  )

  by_swap : (g h : List Edge) → IsAccepted p → IsLegal version p g → IsSwap version p g h → AreSame version p g h
  by_swap g h accepted legal s =
      let y = s.later ++ s.first ∷ s.second ∷ s.before in
      let here = same_behind s.later _ (s.first ∷ s.second ∷ s.before) accepted (subst (IsLegal version p) s.from legal) (same_at_once s.before s.first s.second accepted s.free) in
      subst (λ k. AreSame version p g k) (sym s.to) (subst (λ k. AreSame version p k y) (sym s.from) here)

  by_swaps : (through : List (List Edge)) (g h : List Edge) → IsAccepted p → IsLegal version p g → LeadThrough version p g through h → AreSame version p g h
  by_swaps [] g h accepted legal same = subst (λ k. AreSame version p g k) same (record {
    legal = legal;
    delivered = refl;
    alike = alike_refl p g;
    edges = IsPermutation-refl g;
  })
  by_swaps (k ∷ ks) g h accepted legal lead =
      let one = by_swap g k accepted legal lead.0 in
      let more = by_swaps ks k h accepted one.legal lead.1 in
      record {
        legal = more.legal;
        delivered = one.delivered ∙ more.delivered;
        alike = alike_trans p g k h one.alike more.alike;
        edges = IsPermutation-trans g k h one.edges more.edges;
      }

  pub same_by_swaps : (g h : List Edge) → IsAccepted p → IsLegal version p g → AreOneButForSwaps version p g h → AreSame version p g h
  same_by_swaps g h accepted legal one = by_swaps one.through g h accepted legal one.swaps

  -- swaps go back, one after another

  swap_back : (g h : List Edge) → IsSwap version p g h → IsSwap version p h g
  swap_back g h s = record {
    later = s.later;
    before = s.before;
    first = s.second;
    second = s.first;
    free = free_back version p s.before s.first s.second s.free;
    from = s.to;
    to = s.from;
  }

  one_further : (through : List (List Edge)) (g h k : List Edge) → LeadThrough version p g through h → IsSwap version p h k → LeadThrough version p g (through ++ k ∷ []) k
  one_further [] g h k same s = (subst (λ x. IsSwap version p x k) (sym same) s, refl)
  one_further (m ∷ ms) g h k lead s = (lead.0, one_further ms m h k lead.1 s)

  lead_back : (through : List (List Edge)) (g h : List Edge) → LeadThrough version p g through h → AreOneButForSwaps version p h g
  lead_back [] g h same = record { through = []; swaps = sym same }
  lead_back (k ∷ ks) g h lead =
      let r = lead_back ks k h lead.1 in
      record {
        through = r.through ++ g ∷ [];
        swaps = one_further r.through h k g r.swaps (swap_back g k lead.0);
      }

  pub swaps_back : (g h : List Edge) → AreOneButForSwaps version p g h → AreOneButForSwaps version p h g
  swaps_back g h one = lead_back one.through g h one.swaps
