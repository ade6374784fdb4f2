-- The cycles of a legal list do not overlap.
use Rattle.std.proofs.Common.{◌≡◌, ℕ, Bool, true, false, List, [], ◌∷◌, Option, Some, None, unwrap_or, refl, sym, ◌∙◌, ap, subst, arith}
use Rattle.std.specs.Prelude.{◌&&◌, ◌==◌, if◌then◌else◌}
use Rattle.std.proofs.lemmas.Bool.Decides.{nat_tests}
use Rattle.vme_model.specs.declared.signals.Version.{Version}
use Rattle.vme_model.specs.declared.signals.Cycle.{Cycle}
use Rattle.vme_model.specs.declared.signals.Driver.{Driver}
use Rattle.vme_model.specs.declared.signals.Driver.TheVariants.{Controller, Slot}
use Rattle.vme_model.specs.declared.signals.Wire.{Wire}
use Rattle.vme_model.specs.declared.signals.Wire.TheVariants.{AddressStrobe}
use Rattle.vme_model.specs.declared.signals.Edge.{Edge}
use Rattle.vme_model.specs.Signals.{has_wire, is_same_driver, is_same_wire}
use Rattle.vme_model.specs.Plan.{Plan}
use Rattle.vme_model.specs.Accepted.{IsAccepted}
use Rattle.vme_model.specs.GrantSafety.{is_fall_on}
use Rattle.vme_model.specs.History.{drive}
use Rattle.vme_model.specs.Numbered.{Numbered, edges_in}
use Rattle.vme_model.specs.Verdict.{IsLegal}
use Rattle.vme_model.proofs.AllowedEdges.{all_passed}
use Rattle.vme_model.proofs.Bools.{never}
use Rattle.vme_model.proofs.CyclePhases.{Quiet, Fresh, Asking, Done}
use Rattle.vme_model.proofs.Cycles.{Going, going_of}
use Rattle.vme_model.proofs.Ranges.{IsInRange, in_range}
use Rattle.vme_cycles.specs.Transactions.{cycle_of, is_rise_on}
use Rattle.vme_cycles.proofs.NamedEdges.{edge, IsNext, AtEach}

-- ---- drivers

pub self : (n : ℕ) → (n == n) ≡ true
self n = grind (arith, nat_tests)

same_self : (d : Driver) → is_same_driver d d ≡ true
same_self Controller = refl
same_self (Slot s) = self s

same_of : (d other : Driver) → d ≡ other → is_same_driver d other ≡ true
same_of d other is = subst (λ (x : Driver). is_same_driver d x ≡ true) is (same_self d)

-- the controller has no address strobe
not_controller : (d : Driver) (w : Wire) → has_wire d w ≡ true → (is_same_wire w AddressStrobe && is_same_driver d Controller) ≡ false
not_controller Controller AddressStrobe has = absurd (cc has)
not_controller (Slot s) AddressStrobe has = refl
not_controller d w has = refl

-- ---- one edge

low_after : (same fall own before : Bool) (who d : Driver) (o : Option Driver) → (who ≡ d → own ≡ true) → (o ≡ Some d → before ≡ true)
    → (if same then (if fall then Some who else None) else o) ≡ Some d → (if same && own then fall else before) ≡ true
low_after true true own before who d o mine rest is = rw (mine (ap (λ x. unwrap_or x who) is)) refl
low_after true false own before who d o mine rest is = absurd (cc)
low_after false fall own before who d o mine rest is = rest is

pub low_other : (own before : Bool) → (if own then false else before) ≡ true → (own ≡ false) × (before ≡ true)
low_other true before h = absurd (cc)
low_other false before h = (refl, h)

pub still_low : (own before : Bool) → before ≡ true → (if own then true else before) ≡ true
still_low true before h = refl
still_low false before h = h

-- the board of the cycle that is under way holds its strobe low
under_way_low : (k : Numbered) (d : Driver) → cycle_of k ≡ Some d → drive (edges_in k) d AddressStrobe ≡ true
under_way_low [] d is = absurd (cc)
under_way_low ((n, e) ∷ k) d is =
    low_after (is_same_wire e.wire AddressStrobe) e.fall (is_same_driver e.driver d) (drive (edges_in k) d AddressStrobe) e.driver d (cycle_of k) (same_of e.driver d) (under_way_low k d) is

module _ (v : Version) (p : Plan) (range : IsInRange p) where
  -- at most one address strobe is low
  pub one_strobe : (h : List Edge) → IsLegal v p h → (s t : ℕ) → drive h (Slot s) AddressStrobe ≡ true → drive h (Slot t) AddressStrobe ≡ true → s ≡ t
  one_strobe h l s t a b = at (going_of v p range h l)
    where
      at : Going p h → s ≡ t
      at (Quiet, q) = absurd (never (sym (q.strobe_high s) ∙ a))
      at (Fresh r, q) = q.opened.strobe_only s a ∙ sym (q.opened.strobe_only t b)
      at (Asking r g hi, q) = q.opened.strobe_only s a ∙ sym (q.opened.strobe_only t b)
      at (Done r, q) = q.opened.strobe_only s a ∙ sym (q.opened.strobe_only t b)

  controller_high : (h : List Edge) → IsLegal v p h → drive h Controller AddressStrobe ≡ false
  controller_high [] l = refl
  controller_high (e ∷ h) l =
      ap (λ (b : Bool). if b then e.fall else drive h Controller AddressStrobe) (not_controller e.driver e.wire (all_passed v p h e.driver e.wire e.fall e.value l.0).wire) ∙ controller_high h l.1

  pub own_low : (h : List Edge) (t : ℕ) (c : Option Cycle) → drive (edge (Slot t) AddressStrobe true c ∷ h) (Slot t) AddressStrobe ≡ true
  own_low h t c = ap (λ (b : Bool). if b then true else drive h (Slot t) AddressStrobe) (self t)

  -- whose strobe is low, its cycle is under way
  abbrev IsLowsOwn : Numbered → Type 0
  IsLowsOwn k = (s : ℕ) → drive (edges_in k) (Slot s) AddressStrobe ≡ true → cycle_of k ≡ Some (Slot s)

  after_edge : (k : Numbered) (n : ℕ) (d : Driver) (w : Wire) (fall : Bool) (c : Option Cycle) → IsNext v p k (edge d w fall c) → IsLowsOwn k → IsLowsOwn ((n, edge d w fall c) ∷ k)
  after_edge k n (Slot t) AddressStrobe true c l before s low =
      ap (λ x. Some (Slot x)) (one_strobe (edge (Slot t) AddressStrobe true c ∷ edges_in k) l t s (own_low (edges_in k) t c) low)
  after_edge k n (Slot t) AddressStrobe false c l before s low =
      let q = low_other (t == s) (drive (edges_in k) (Slot s) AddressStrobe) low in
      let a = all_passed v p (edges_in k) (Slot t) AddressStrobe false c l.0 in
      absurd (never (sym q.0 ∙ subst (λ x. (t == x) ≡ true) (one_strobe (edges_in k) l.1 t s a.before q.1) (self t)))
  after_edge k n Controller AddressStrobe fall c l before s low = absurd (cc (all_passed v p (edges_in k) Controller AddressStrobe fall c l.0).wire)
  after_edge k n d w fall c l before s low = before s low

  pub low_is_under_way : (k : Numbered) → IsLegal v p (edges_in k) → IsLowsOwn k
  low_is_under_way [] l s low = absurd (cc)
  low_is_under_way ((n, e) ∷ k) l s low = after_edge k n e.driver e.wire e.fall e.value l (low_is_under_way k l.1) s low

  -- no strobe is low before one falls
  all_high : (k : Numbered) (t : ℕ) (c : Option Cycle) → IsNext v p k (edge (Slot t) AddressStrobe true c) → (o : Option Driver) → cycle_of k ≡ o → cycle_of k ≡ None
  all_high k t c l None is = is
  all_high k t c l (Some Controller) is = absurd (never (sym (controller_high (edges_in k) l.1) ∙ under_way_low k Controller is))
  all_high k t c l (Some (Slot s)) is =
      let h = edges_in k in
      let e = edge (Slot t) AddressStrobe true c in
      let low = under_way_low k (Slot s) is in
      let same = one_strobe (e ∷ h) l t s (own_low h t c) (still_low (t == s) (drive h (Slot s) AddressStrobe) low) in
      let a = all_passed v p h (Slot t) AddressStrobe true c l.0 in
      absurd (never (sym a.before ∙ subst (λ x. drive h (Slot x) AddressStrobe ≡ true) (sym same) low))

  begins_alone : AtEach v p (λ k e. is_fall_on AddressStrobe e ≡ true → cycle_of k ≡ None)
  begins_alone k (Slot t) AddressStrobe true c l is = all_high k t c l (cycle_of k) refl
  begins_alone k Controller AddressStrobe true c l is = absurd (cc (all_passed v p (edges_in k) Controller AddressStrobe true c l.0).wire)
  begins_alone k d w true c l is = absurd (cc)
  begins_alone k d w false c l is = absurd (cc)

  ends_own : AtEach v p (λ k e. is_rise_on AddressStrobe e ≡ true → cycle_of k ≡ Some e.driver)
  ends_own k (Slot t) AddressStrobe false c l is = low_is_under_way k l.1 t (all_passed v p (edges_in k) (Slot t) AddressStrobe false c l.0).before
  ends_own k Controller AddressStrobe false c l is = absurd (cc (all_passed v p (edges_in k) Controller AddressStrobe false c l.0).wire)
  ends_own k d w true c l is = absurd (cc)
  ends_own k d w false c l is = absurd (cc)

pub cycle_begins_alone : (v : Version) (p : Plan) (k : Numbered) (n : ℕ) (e : Edge) → IsAccepted p → IsNext v p k e → is_fall_on AddressStrobe e ≡ true → cycle_of k ≡ None
cycle_begins_alone v p k n e fit l is = begins_alone v p (in_range p fit) k e.driver e.wire e.fall e.value l is

pub cycle_ends_by_its_board : (v : Version) (p : Plan) (k : Numbered) (n : ℕ) (e : Edge) → IsAccepted p → IsNext v p k e → is_rise_on AddressStrobe e ≡ true → cycle_of k ≡ Some e.driver
cycle_ends_by_its_board v p k n e fit l is = ends_own v p (in_range p fit) k e.driver e.wire e.fall e.value l is
