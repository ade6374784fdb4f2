-- What the phase of the grants says about a history, and about the edge made after it.
use Rattle.std.proofs.Common.{◌≡◌, ◌⊎◌, ℕ, zero, suc, ◌<◌, Bool, true, false, List, Option, Some, None, sym, ap, ◌∙◌, subst, arith, inl, inr}
use Rattle.std.specs.Prelude.{nat_lt, reverse, filter}
use Rattle.vme_model.specs.declared.signals.Version.{Version}
use Rattle.vme_model.specs.declared.signals.Edge.{Edge}
use Rattle.vme_model.specs.declared.signals.Cycle.{Cycle}
use Rattle.vme_model.specs.declared.signals.Driver.{Driver}
use Rattle.vme_model.specs.declared.signals.Driver.TheVariants.{Controller, Slot}
use Rattle.vme_model.specs.declared.signals.Wire.{Wire}
use Rattle.vme_model.specs.declared.signals.Wire.TheVariants.{Bg, BgOut, Bbsy}
use Rattle.vme_model.specs.Signals.{is_two, is_same_wire}
use Rattle.vme_model.specs.Plan.{Plan, upstream, last_active, grant_chain}
use Rattle.vme_model.specs.History.{drive}
use Rattle.vme_model.specs.GrantSafety.{Travels, OneTravels, NoneTravelsWhileBusy, OneHolds, IsRightfulTake, TakesRightfully, slots_below, IsSegment, IsLow, IsBefore, OneChainLow, NoGap, IsEndLow, BeginsAtController, ReleasesAfterGrants, was_withdrawn, IsAwaited, NoneLost, TravelsOrEnds}
use Rattle.vme_model.proofs.Bools.{never, and_left, and_right, not_true, same_number}
use Rattle.vme_model.proofs.Below.{low_part, part_of, IsBelow, is_below}
use Rattle.vme_model.proofs.Ranges.{IsInRange}
use Rattle.vme_model.proofs.Members.{on, one_chain, within, is_at, member_of, is_member, active_is, level_of}
use Rattle.vme_model.proofs.GrantPhases.{segment_of, quiet, leaves_clear, Stands, stands_once, stands_while_free, holds_once, IsPart, Before, one_chain_low, none_between, starts_or_ends, IsWithdrawn, Found, not_lost, stands_or_ends, rightful}
use Rattle.vme_model.proofs.AllowedEdges.{Passed}
use Rattle.vme_model.proofs.Grants.{grant_wires, Now, all_free, holder, as_segment, grant_is, place, is_end}

stands : (version : Version) (p : Plan) → IsInRange p → (h : List Edge) (n s : ℕ) → Travels p h n s → Stands (on p) p.slots (is_two version) (grant_wires p h) n s (upstream p (grant_chain n) s)
stands version p range h n s t = record {
  place = is_at (is_two version) p range n s t.level (member_of p n s t.level t.member);
  low = sym (as_segment p h n (upstream p (grant_chain n) s) t.level) ∙ t.granted;
  unpassed = t.unpassed;
  untaken = t.untaken;
}

travels : (version : Version) (p : Plan) → IsInRange p → (h : List Edge) (n s : ℕ) → n < 4 → Stands (on p) p.slots (is_two version) (grant_wires p h) n s
    (upstream p (grant_chain n) s) → Travels p h n s
travels version p range h n s l f = record {
  level = l;
  member = is_member p range n s l f.place.member;
  granted = as_segment p h n (upstream p (grant_chain n) s) l ∙ f.low;
  unpassed = f.unpassed;
  untaken = f.untaken;
}

is_part : (version : Version) (p : Plan) (n : ℕ) (a : Option ℕ) → IsSegment p n a → (n < 4) × IsPart (on p) p.slots (is_two version) n a
is_part version p n None l = (l, tt)
is_part version p n (Some s) l = (l.0, member_of p n s l.0 l.1)

is_before : (version : Version) (p : Plan) (a b : Option ℕ) → IsBefore a b → Before (on p) p.slots (is_two version) a b
is_before version p None None l = l
is_before version p None (Some t) l = l
is_before version p (Some s) None l = l
is_before version p (Some s) (Some t) l = l

-- a low segment, as the phases read it
record Low (version : Version) (p : Plan) (h : List Edge) (n : ℕ) (a : Option ℕ) : Type 0 where
  level : n < 4
  part : IsPart (on p) p.slots (is_two version) n a
  low : segment_of (grant_wires p h) n a ≡ true

low_of : (version : Version) (p : Plan) (h : List Edge) (n : ℕ) (a : Option ℕ) → IsLow p h n a → Low version p h n a
low_of version p h n a l =
    let q = is_part version p n a l.part in
    record { level = q.0; part = q.1; low = sym (as_segment p h n a q.0) ∙ l.low }

-- what stands before each slot of a chain
all_below : (p : Plan) → IsInRange p → (n : ℕ) → n < 4 → (s : ℕ) → IsBelow (on p n) s (upstream p (grant_chain n) s)
all_below p range zero l s = is_below (on p 0) p.slots s (within p range 0)
all_below p range (suc zero) l s = is_below (on p 1) p.slots s (within p range 1)
all_below p range (suc (suc zero)) l s = is_below (on p 2) p.slots s (within p range 2)
all_below p range (suc (suc (suc zero))) l s = is_below (on p 3) p.slots s (within p range 3)
all_below p range (suc (suc (suc (suc n)))) l s = absurd (omega arith)

pub one_travels : (version : Version) (p : Plan) → IsInRange p → (h : List Edge) → Now version p h → OneTravels p h
one_travels version p range h now m n s t a b =
    stands_once (on p) p.slots (is_two version) (one_chain p) (grant_wires p h) m s n t _ _ (stands version p range h m s a) (stands version p range h n t b) now

pub none_while_busy : (version : Version) (p : Plan) → IsInRange p → (h : List Edge) → Now version p h → NoneTravelsWhileBusy p h
none_while_busy version p range h now n s busy a =
    let b = holder p range h busy in
    stands_while_free (on p) p.slots (is_two version) (one_chain p) (grant_wires p h) n s b.0 _ (stands version p range h n s a) b.1 now

pub one_holder : (version : Version) (p : Plan) (h : List Edge) → Now version p h → OneHolds h
one_holder version p h now s t a b = holds_once (on p) p.slots (is_two version) (grant_wires p h) s t a b now

pub one_chain_low_of : (version : Version) (p : Plan) (h : List Edge) → Now version p h → OneChainLow p h
one_chain_low_of version p h now m n a b x y =
    let lx = low_of version p h m a x in
    let ly = low_of version p h n b y in
    one_chain_low (on p) p.slots (is_two version) (one_chain p) (grant_wires p h) m n a b lx.part ly.part lx.low ly.low now

pub no_gap : (version : Version) (p : Plan) (h : List Edge) → Now version p h → NoGap p h
no_gap version p h now n a b c l l' q x y =
    let lx = low_of version p h n a x in
    let ly = low_of version p h n c y in
    let lq = is_part version p n b q in
    record {
      part = q;
      low = as_segment p h n b lq.0 ∙ none_between (on p) p.slots (is_two version) (one_chain p) (grant_wires p h) n a b c (is_before version p a b l) (is_before version p b c l') lx.part lq.1
          ly.part lx.low ly.low now;
    }

pub begins_at_controller : (version : Version) (p : Plan) → IsInRange p → (h : List Edge) → Now version p h → BeginsAtController version p h
begins_at_controller version p range h now n a free x =
    let lx = low_of version p h n a x in
    begins lx.level (starts_or_ends (on p) p.slots (is_two version) (one_chain p) (grant_wires p h) n a _ (is_end p range n lx.level) (within p range) (all_free p range h free) lx.part lx.low now)
  where
    begins : n < 4 → (drive h Controller (Bg n) ≡ true) ⊎ ((is_two version ≡ true) × (segment_of (grant_wires p h) n (last_active p (grant_chain n)) ≡ true)) → IsLow p h n None
        ⊎ ((is_two version ≡ true) × IsEndLow p h n)
    begins l (inl e) = inl (record { part = l; low = as_segment p h n None l ∙ e })
    begins l (inr e) = inr (e.0, as_segment p h n (last_active p (grant_chain n)) l ∙ e.1)

pub none_lost : (version : Version) (p : Plan) → IsInRange p → (h : List Edge) → Now version p h → NoneLost version p h
none_lost version p range h now n free x =
    let lx = low_of version p h n None x in
    there lx.level (not_lost (on p) p.slots (is_two version) (grant_wires p h) n (upstream p (grant_chain n)) (all_below p range n lx.level) (all_free p range h free) lx.low now)
  where
    there : n < 4 → Found (on p) p.slots (is_two version) (grant_wires p h) n (upstream p (grant_chain n)) ⊎ IsWithdrawn (on p) p.slots (is_two version) (grant_wires p h) n → IsAwaited p h n
        ⊎ ((is_two version ≡ true) × (was_withdrawn p h n ≡ true))
    there l (inl f) = inl (record {
      slot = f.slot;
      waiter = f.waiter;
      travels = travels version p range h n f.slot l f.stands;
      above = f.above;
      member = is_member p range n f.waiter l f.waiter_on;
      waits = f.waits;
    })
    there l (inr w) = inr (w.version, w.withdrew)

pub travels_or_ends : (version : Version) (p : Plan) → IsInRange p → (h : List Edge) → Now version p h → TravelsOrEnds p h
travels_or_ends version p range h now n free x =
    let lx = low_of version p h n None x in
    there lx.level (stands_or_ends (on p) p.slots (is_two version) (grant_wires p h) n (upstream p (grant_chain n)) (last_active p (grant_chain n)) (all_below p range n lx.level)
    (is_end p range n lx.level) (all_free p range h free) lx.low now)
  where
    there : n < 4 → ((s : ℕ) × Stands (on p) p.slots (is_two version) (grant_wires p h) n s (upstream p (grant_chain n) s)) ⊎ (segment_of (grant_wires p h) n (last_active p (grant_chain n)) ≡ true)
        → ((s : ℕ) × Travels p h n s) ⊎ IsEndLow p h n
    there l (inl f) = inl (f.0, travels version p range h n f.0 l f.1)
    there l (inr e) = inr (as_segment p h n (last_active p (grant_chain n)) l ∙ e)

below_is : (p : Plan) (n k : ℕ) → n < 4 → slots_below p (grant_chain n) k ≡ low_part (on p n) k p.slots
below_is p n k l = ap (λ xs. reverse (filter (λ t. nat_lt t k) xs)) (active_is p n l) ∙ part_of (on p n) k p.slots

take_is : (version : Version) (p : Plan) → IsInRange p → (h : List Edge) (s : ℕ) (v : Option Cycle) → Passed version p h (Slot s) Bbsy true v → Now version p h → IsRightfulTake p h s
take_is version p range h s v a now =
    let l = level_of p range h s a.exists in
    let r = and_left _ _ a.rule in
    let f = rightful (on p) p.slots (is_two version) (one_chain p) (grant_wires p h) l.level s _ (place version p range h s l) (grant_is p h s l true (and_left _ _ r))
    (not_true _ (and_right _ _ r)) a.before now in
    record {
      level = l.level;
      in_range = l.in_range;
      member = is_member p range l.level s l.in_range l.member;
      granted = f.granted;
      untaken = f.untaken;
      passed = f.passers ∙ ap quiet (sym (below_is p l.level s l.in_range));
      requests = and_right _ _ a.rule;
    }

clear_of : (version : Version) (p : Plan) → IsInRange p → (h : List Edge) (s : ℕ) (v : Option Cycle) → Passed version p h (Slot s) Bbsy false v → Now version p h
    → (n : ℕ) (a : Option ℕ) → IsLow p h n a → ⊥
clear_of version p range h s v a now n b x =
    let l = level_of p range h s a.exists in
    let r = and_left _ _ (and_left _ _ a.rule) in
    let c = leaves_clear (on p) p.slots (is_two version) (one_chain p) (grant_wires p h) l.level s _ (place version p range h s l) (grant_is p h s l false (not_true _ (and_right _ _ r))) a.before now
    in
    let lx = low_of version p h n b x in
    high b c lx.low
  where
    high : (b : Option ℕ) → ((n : ℕ) → drive h Controller (Bg n) ≡ false) × ((t : ℕ) → drive h (Slot t) BgOut ≡ false) → segment_of (grant_wires p h) n b ≡ true → ⊥
    high None c e = cc (c.0 n)
    high (Some t) c e = cc (c.1 t)

pub takes_rightfully : (version : Version) (p : Plan) → IsInRange p → (h : List Edge) (d : Driver) (w : Wire) (fall : Bool) (v : Option Cycle) → Passed version p h d w fall v → Now version p h
    → TakesRightfully p h (record { driver = d; wire = w; fall = fall; value = v })
takes_rightfully version p range h (Slot s) Bbsy true v a now k e = subst (IsRightfulTake p h) (same_number s k e) (take_is version p range h s v a now)
takes_rightfully version p range h Controller w true v a now k e = absurd (never (and_right (is_same_wire w Bbsy) false e))
takes_rightfully version p range h (Slot s) w true v a now k e = absurd (never e)
takes_rightfully version p range h d w false v a now k e = absurd (never e)

pub releases_after_grants : (version : Version) (p : Plan) → IsInRange p → (h : List Edge) (d : Driver) (w : Wire) (fall : Bool) (v : Option Cycle) → Passed version p h d w fall v → Now version p h
    → ReleasesAfterGrants p h (record { driver = d; wire = w; fall = fall; value = v })
releases_after_grants version p range h (Slot s) Bbsy false v a now k n b e x = clear_of version p range h s v a now n b x
releases_after_grants version p range h d w true v a now k n b e x = never e
releases_after_grants version p range h Controller w false v a now k n b e x = never (and_right (is_same_wire w Bbsy) false e)
releases_after_grants version p range h (Slot s) w false v a now k n b e x = never e
