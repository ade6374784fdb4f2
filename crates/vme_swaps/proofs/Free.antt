-- Two edges that are allowed in both orders are free, unless one of them is an answer that serves the
-- request that the other makes.
use Rattle.std.proofs.Common.{◌≡◌, ◌∙◌, refl, sym, ap, subst, is_ok, Bool, true, false, List, ◌∷◌}
use Rattle.std.specs.Prelude.{◌&&◌, ◌||◌, ◌↔◌, not, if◌then◌else◌, Option, Some, None, Ok, Err, IsTrue}
use Rattle.std.specs.Option.{option_map_or}
use Rattle.vme_model.specs.declared.boards.Row.{Row}
use Rattle.vme_model.specs.declared.boards.InterrupterRow.{InterrupterRow}
use Rattle.vme_model.specs.declared.boards.IrqKind.{IrqKind}
use Rattle.vme_model.specs.declared.refusals.Refused.{Refused}
use Rattle.vme_model.specs.declared.signals.Version.{Version}
use Rattle.vme_model.specs.declared.signals.Edge.{Edge}
use Rattle.vme_model.specs.declared.signals.Driver.{Driver}
use Rattle.vme_model.specs.declared.signals.Wire.{Wire}
use Rattle.vme_model.specs.declared.signals.Wire.TheVariants.{Irq, Dtack}
use Rattle.vme_model.specs.Signals.{is_fall_of, is_same_wire, is_same_driver}
use Rattle.vme_model.specs.Plan.{Plan, board_of}
use Rattle.vme_model.specs.Accepted.{IsAccepted}
use Rattle.vme_model.specs.History.{shown, addressing, served_since_request, serves}
use Rattle.vme_model.specs.declared.deliveries.Delivery.{Delivery}
use Rattle.vme_model.specs.Deliveries.{delivery, delivered_by, with_delivery}
use Rattle.vme_model.specs.GrantSafety.{is_fall_on}
use Rattle.vme_model.specs.Verdict.{IsLegal, Judgement, verdict_but_full}
use Rattle.vme_model.proofs.Bools.{and_left, and_right, not_true}
use Rattle.vme_histories.proofs.Others.{same_wire}
use Rattle.vme_bus.specs.declared.states.BusState.{BusState}
use Rattle.vme_bus.specs.States.{IsStateOf}
use Rattle.vme_bus.specs.Steps.{answer_but_full, kept_but_full}
use Rattle.vme_swaps.specs.Alike.{StandAlike}
use Rattle.vme_swaps.specs.declared.swaps.StepBack.TheVariants.{Passes, Waits, Races}
use Rattle.vme_swaps.specs.Swaps.{IsFree, StepsBack}
use Rattle.vme_swaps.specs.Served.{is_serving, serves_request}
use Rattle.vme_swaps.proofs.Alike.{served_on, served_by, shown_kept, addressing_kept, alike_sym}
use Rattle.vme_swaps.proofs.Apart.{AreAllowed, turned, both, same_self, edge_of, driver_of, falls, swap_since, address_stays, same_low, same_shown, same_level, same_cycles, same_strobed}

fall_on : (d : Driver) (w : Wire) (e : Edge) → is_fall_of d w e ≡ true → is_fall_on w e ≡ true
fall_on d w e is = both e.fall (is_same_wire e.wire w) (falls d w e is) (and_left (is_same_wire e.wire w) (is_same_driver e.driver d) (edge_of d w e is))

-- beside an answer what is shown stays, so that it delivers and serves the same
shown_beside : (version : Version) (p : Plan) (h : List Edge) (a b : Edge) → AreAllowed version p h a b → is_fall_on Dtack a ≡ true → shown p (b ∷ h) ≡ shown p h
shown_beside version p h a b k is = shown_kept p h b (address_stays version p h a b k is)

pub delivery_beside : (version : Version) (p : Plan) (h : List Edge) (a b : Edge) → AreAllowed version p h a b → delivery p (b ∷ h) a ≡ delivery p h a
delivery_beside version p h a b k = by_test (is_fall_on Dtack a) refl
  where
    by_test : (t : Bool) → is_fall_on Dtack a ≡ t →
        (if t then delivered_by (shown p (b ∷ h)) (addressing p (b ∷ h)) (board_of p a.driver) else None)
        ≡ (if t then delivered_by (shown p h) (addressing p h) (board_of p a.driver) else None)
    by_test true is =
        let off = address_stays version p h a b k is in
        λ i. delivered_by (shown_kept p h b off i) (addressing_kept p h b off i) (board_of p a.driver)
    by_test false is = refl

serves_beside : (version : Version) (p : Plan) (h : List Edge) (a b : Edge) → AreAllowed version p h a b → (d : Driver) (kind : IrqKind)
    → (is_fall_of d Dtack a && serves kind (shown p (b ∷ h))) ≡ (is_fall_of d Dtack a && serves kind (shown p h))
serves_beside version p h a b k d kind = by_test (is_fall_of d Dtack a) refl
  where
    by_test : (t : Bool) → is_fall_of d Dtack a ≡ t → (t && serves kind (shown p (b ∷ h))) ≡ (t && serves kind (shown p h))
    by_test true is = ap (serves kind) (shown_beside version p h a b k (fall_on d Dtack a is))
    by_test false is = refl

-- a request and an answer of one board, where the answer does not serve it
abbrev IsUnserved : Plan → List Edge → Driver → Edge → Edge → Bool → Type 0
IsUnserved p h d request answer serves = is_fall_of d Irq request ≡ true → is_fall_of d Dtack answer ≡ true → serves ≡ true → ⊥

unserved : (p : Plan) (h : List Edge) (request answer : Edge) → (serves_request p h answer request ≡ true → ⊥) → (d : Driver)
    → IsUnserved p h d request answer (is_serving (board_of p d) (shown p h))
unserved p h request answer none d is_request is_answer serving =
    let at = driver_of d Dtack answer (edge_of d Dtack answer is_answer) in
    none (both _ _ (fall_on d Dtack answer is_answer)
    (both _ _ ((λ i. is_fall_of (at i) Irq request) ∙ is_request) ((λ i. is_serving (board_of p (at i)) (shown p h)) ∙ serving)))

module _ (version : Version) (p : Plan) (h : List Edge) (a b : Edge) (k : AreAllowed version p h a b) where
  abbrev AreUnserved : Driver → Bool → Type 0
  AreUnserved d serves = IsUnserved p h d a b serves × IsUnserved p h d b a serves

  served_same : (d : Driver) (kind : IrqKind) → AreUnserved d (serves kind (shown p h)) → served_since_request p (b ∷ a ∷ h) d kind ≡ served_since_request p (a ∷ b ∷ h) d kind
  served_same d kind (x, y) =
      let of_a = serves_beside version p h a b k d kind in
      let of_b = serves_beside version p h b a (turned version p h a b k) d kind in
      let serve = serves kind (shown p h) in
      let left : served_since_request p (b ∷ a ∷ h) d kind ≡ (if is_fall_of d Irq b then false else (is_fall_of d Dtack b && serve) || served_since_request p (a ∷ h) d kind) =
      λ i. if is_fall_of d Irq b then false else of_b i || served_since_request p (a ∷ h) d kind in
      let right : served_since_request p (a ∷ b ∷ h) d kind ≡ (if is_fall_of d Irq a then false else (is_fall_of d Dtack a && serve) || served_since_request p (b ∷ h) d kind) =
      λ i. if is_fall_of d Irq a then false else of_a i || served_since_request p (b ∷ h) d kind in
      left
      ∙ swap_since (is_fall_of d Irq a) (is_fall_of d Dtack a && serve) (is_fall_of d Irq b) (is_fall_of d Dtack b && serve)
      (λ e f. x e (and_left (is_fall_of d Dtack b) serve f) (and_right (is_fall_of d Dtack b) serve f))
      (λ e f. y e (and_left (is_fall_of d Dtack a) serve f) (and_right (is_fall_of d Dtack a) serve f))
      (served_since_request p h d kind)
      ∙ sym right

  served_at : (d : Driver) (o : Option Row) → AreUnserved d (is_serving o (shown p h)) → served_by p (b ∷ a ∷ h) d o ≡ served_by p (a ∷ b ∷ h) d o
  served_at d None un = refl
  served_at d (Some r) un = by_interrupter r.interrupter un
    where
      by_interrupter : (o : Option InterrupterRow) → AreUnserved d (option_map_or (λ i. serves i.kind (shown p h)) o false) → served_on p (b ∷ a ∷ h) d o ≡ served_on p (a ∷ b ∷ h) d o
      by_interrupter None un = refl
      by_interrupter (Some i) un = served_same d i.kind un

  pub free_unless : (serves_request p h a b ≡ true → ⊥) → (serves_request p h b a ≡ true → ⊥) → IsFree version p h a b
  free_unless none also = record {
    legal = (k.second, (k.first, k.legal));
    swapped = (k.first_behind, (k.second_alone, k.legal));
    first = delivery_beside version p h a b k;
    second = sym (delivery_beside version p h b a (turned version p h a b k));
    alike = record {
      low = same_low version p h a b k;
      shown = same_shown version p h a b k;
      last_level = same_level version p h a b k;
      cycles = same_cycles version p h a b k;
      strobed = same_strobed version p h a b k;
      served = λ d. served_at d (board_of p d) (unserved p h a b also d, unserved p h b a none d);
    };
  }

  -- where an answer serves the request, the bus stands otherwise
  pub unlike : serves_request p h a b ≡ true → StandAlike p (b ∷ a ∷ h) (a ∷ b ∷ h) → ⊥
  unlike is alike = at_board (board_of p a.driver) (and_right _ _ (and_right _ _ is)) (alike.served a.driver)
    where
      answers : is_fall_on Dtack a ≡ true
      answers = and_left (is_fall_on Dtack a) _ is

      requests : is_fall_of a.driver Irq b ≡ true
      requests = and_left (is_fall_of a.driver Irq b) (is_serving (board_of p a.driver) (shown p h)) (and_right (is_fall_on Dtack a) _ is)

      way : a.fall ≡ true
      way = and_left a.fall (is_same_wire a.wire Dtack) answers

      own : is_same_wire a.wire Dtack ≡ true
      own = and_right a.fall (is_same_wire a.wire Dtack) answers

      by_kind : (kind : IrqKind) → serves kind (shown p h) ≡ true → served_since_request p (b ∷ a ∷ h) a.driver kind ≡ served_since_request p (a ∷ b ∷ h) a.driver kind → ⊥
      by_kind kind serving same =
          let wire = same_wire a.wire Dtack own in
          let stays = shown_beside version p h a b k answers in
          let self = same_self a.driver in
          let left : served_since_request p (b ∷ a ∷ h) a.driver kind ≡ false =
          λ i. if requests i then false else (is_fall_of a.driver Dtack b && serves kind (shown p (a ∷ h))) || served_since_request p (a ∷ h) a.driver kind in
          let right : served_since_request p (a ∷ b ∷ h) a.driver kind ≡ (serves kind (shown p h) || served_since_request p (b ∷ h) a.driver kind) =
          λ i. if way i && (is_same_wire (wire i) Irq && is_same_driver a.driver a.driver) then false
          else ((way i && (is_same_wire (wire i) Dtack && self i)) && serves kind (stays i)) || served_since_request p (b ∷ h) a.driver kind in
          let served : (serves kind (shown p h) || served_since_request p (b ∷ h) a.driver kind) ≡ true = λ i. serving i || served_since_request p (b ∷ h) a.driver kind in
          let bad : false ≡ true = sym left ∙ same ∙ right ∙ served in cc

      at_board : (o : Option Row) → is_serving o (shown p h) ≡ true → served_by p (b ∷ a ∷ h) a.driver o ≡ served_by p (a ∷ b ∷ h) a.driver o → ⊥
      at_board None serving same = cc
      at_board (Some r) serving same = by_interrupter r.interrupter serving same
        where
          by_interrupter : (o : Option InterrupterRow) → option_map_or (λ i. serves i.kind (shown p h)) o false ≡ true
              → served_on p (b ∷ a ∷ h) a.driver o ≡ served_on p (a ∷ b ∷ h) a.driver o → ⊥
          by_interrupter None serving same = cc
          by_interrupter (Some i) serving same = by_kind i.kind serving same

-- a free swap goes back
pub free_back : (version : Version) (p : Plan) (h : List Edge) (a b : Edge) → IsFree version p h a b → IsFree version p h b a
free_back version p h a b f = record {
  legal = f.swapped;
  swapped = f.legal;
  first = sym f.second;
  second = sym f.first;
  alike = alike_sym p (b ∷ a ∷ h) (a ∷ b ∷ h) f.alike;
}

pub allowed : (version : Version) (p : Plan) (h : List Edge) (a b : Edge) → IsAccepted p → IsLegal version p (b ∷ a ∷ h) → IsLegal version p (a ∷ b ∷ h) → AreAllowed version p h a b
allowed version p h a b accepted legal swapped = record {
  accepted = accepted;
  legal = legal.1.1;
  first = legal.1.0;
  second = legal.0;
  second_alone = swapped.1.0;
  first_behind = swapped.0;
}

-- the decision
pub decided : (version : Version) (p : Plan) (h : List Edge) (a b : Edge) (s : Bool) → IsAccepted p → IsLegal version p (b ∷ a ∷ h) → IsLegal version p (a ∷ b ∷ h)
    → s ≡ (serves_request p h a b || serves_request p h b a) → IsTrue (not s) ↔ IsFree version p h a b
decided version p h a b s accepted legal swapped is = (forth s is, back s is)
  where
    k : AreAllowed version p h a b
    k = allowed version p h a b accepted legal swapped

    neither : (x y : Bool) → false ≡ (x || y) → (x ≡ true → ⊥) × (y ≡ true → ⊥)
    neither true y e = absurd (cc)
    neither false true e = absurd (cc)
    neither false false e = (λ f. cc, λ f. cc)

    forth : (t : Bool) → t ≡ (serves_request p h a b || serves_request p h b a) → not t ≡ true → IsFree version p h a b
    forth true e n = absurd (cc)
    forth false e n = let two = neither (serves_request p h a b) (serves_request p h b a) e in free_unless version p h a b k two.0 two.1

    one_of : (x y : Bool) → true ≡ (x || y) → (x ≡ true → ⊥) → (y ≡ true → ⊥) → ⊥
    one_of true y e first second = first refl
    one_of false true e first second = second refl
    one_of false false e first second = cc

    back : (t : Bool) → t ≡ (serves_request p h a b || serves_request p h b a) → IsFree version p h a b → not t ≡ true
    back false e f = refl
    back true e f = absurd (one_of (serves_request p h a b) (serves_request p h b a) e
        (λ x. unlike version p h a b k x f.alike)
        (λ y. unlike version p h b a (turned version p h a b k) y (alike_sym p (b ∷ a ∷ h) (a ∷ b ∷ h) f.alike)))

-- two orders that are both legal lead to the same, exactly if no answer serves the request
pub differs : (version : Version) (p : Plan) (h : List Edge) (a b : Edge) → IsAccepted p → IsLegal version p (b ∷ a ∷ h) → IsLegal version p (a ∷ b ∷ h)
    → IsFree version p h a b ↔ ((serves_request p h a b || serves_request p h b a) ≡ false)
differs version p h a b accepted legal swapped =
    let s = serves_request p h a b || serves_request p h b a in
    let d = decided version p h a b s accepted legal swapped refl in
    (λ f. not_true s (d.1 f), λ e. d.0 (ap not e))

-- how the second goes back over the first

module _ (version : Version) (p : Plan) (h : List Edge) (a b : Edge) where
  -- the second is refused in front of the first
  pub waits : (r : Refused) → verdict_but_full version p h b ≡ Err r → StepsBack version p h a b (Waits r)
  waits r is = (λ free. (let alone = free.swapped.1.0 in absurd (cc (alone, is))), is)

  module _ (accepted : IsAccepted p) (legal : IsLegal version p (b ∷ a ∷ h)) (alone : verdict_but_full version p h b ≡ Ok tt) where
    -- the first is refused behind it
    pub races : (r : Refused) → Err r ≡ verdict_but_full version p (b ∷ h) a → StepsBack version p h a b (Races (Err r))
    races r is = (λ free. (let behind = free.swapped.0 in absurd (cc (behind, is))), alone, is)

    -- both orders are legal
    module _ (behind : Ok tt ≡ verdict_but_full version p (b ∷ h) a) (served : Bool)
        (is : served ≡ (serves_request p h a b || serves_request p h b a)) where
      free_so : IsTrue (not served) ↔ IsFree version p h a b
      free_so = decided version p h a b served accepted legal (sym behind, (alone, legal.1.1)) is

      pub passes : served ≡ false → StepsBack version p h a b Passes
      passes so = free_so.0 (ap not so)

      pub races_served : served ≡ true → StepsBack version p h a b (Races (Ok tt))
      races_served so = (λ free. (let other = free_so.1 free in absurd (cc (other, so))), alone, behind)

-- ---- by the whole answers

refused_by : (j : Judgement) (d : Option Delivery) (r : Refused) → Err r ≡ with_delivery j d → j ≡ Err r
refused_by (Ok u) d r is = absurd (cc)
refused_by (Err s) d r is = (let same : s ≡ r = cc in ap (λ x. Err x) same)

pub refused_so : (version : Version) (p : Plan) (h : List Edge) (e : Edge) (r : Refused)
    → Err r ≡ answer_but_full version p h e → verdict_but_full version p h e ≡ Err r
refused_so version p h e r is = refused_by (verdict_but_full version p h e) (delivery p h e) r is

accepted_by : (j : Judgement) (d x : Option Delivery) → Ok x ≡ with_delivery j d → j ≡ Ok tt
accepted_by (Ok u) d x is = refl
accepted_by (Err s) d x is = absurd (cc)

pub accepted_so : (version : Version) (p : Plan) (h : List Edge) (e : Edge) (x : Option Delivery)
    → Ok x ≡ answer_but_full version p h e → verdict_but_full version p h e ≡ Ok tt
accepted_so version p h e x is = accepted_by (verdict_but_full version p h e) (delivery p h e) x is

-- the state behind an edge that is accepted
pub taken_so : (version : Version) (p : Plan) (h : List Edge) (e : Edge) (s : BusState)
    → verdict_but_full version p h e ≡ Ok tt → IsStateOf version p (kept_but_full version p h e) s
    → IsStateOf version p (e ∷ h) s
taken_so version p h e s is state =
    subst (λ (j : Judgement). IsStateOf version p (if is_ok j then e ∷ h else h) s) is state
