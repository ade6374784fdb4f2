-- The laws of how far an acknowledge has come, behind an edge that the probes see.
use Rattle.std.proofs.Common.{◌≡◌, ◌∙◌, refl, sym, ap, subst, ℕ, Bool, true, false, List, ◌∷◌, ◌<◌, arith, inl}
use Rattle.std.specs.Prelude.{◌==◌, ◌&&◌, not, if◌then◌else◌, Option, Some, None}
use Rattle.std.proofs.lemmas.Bool.Decides.{nat_tests}
use Rattle.vme_model.specs.declared.sets.ChainId.TheVariants as chain
use Rattle.vme_model.specs.declared.signals.Version.{Version}
use Rattle.vme_model.specs.declared.signals.Cycle.{Cycle}
use Rattle.vme_model.specs.declared.signals.Cycle.TheVariants.{Acknowledge}
use Rattle.vme_model.specs.declared.signals.Driver.{Driver}
use Rattle.vme_model.specs.declared.signals.Driver.TheVariants.{Controller, Slot}
use Rattle.vme_model.specs.declared.signals.Wire.{Wire}
use Rattle.vme_model.specs.declared.signals.Wire.TheVariants.{Iack, Berr, AddressStrobe, DataStrobe, IackOut, Dtack}
use Rattle.vme_model.specs.declared.signals.Edge.{Edge}
use Rattle.vme_model.specs.Signals.{is_same_driver}
use Rattle.vme_model.specs.Plan.{Plan, board_of}
use Rattle.vme_model.specs.Accepted.{IsAccepted}
use Rattle.vme_model.specs.History.{line, shown}
use Rattle.vme_model.specs.Settling.{is_chain_clear}
use Rattle.vme_model.specs.Verdict.{IsLegal}
use Rattle.vme_model.proofs.Bools.{and_left, and_right, not_true}
use Rattle.vme_model.proofs.AllowedEdges.{all_passed}
use Rattle.vme_histories.proofs.AllowedBoards.{at, at_head}
use Rattle.vme_bus.specs.Sets.{has}
use Rattle.vme_captures.specs.declared.signals.Change.{Change}
use Rattle.vme_captures.specs.declared.signals.Line.TheVariants as on_line
use Rattle.vme_captures.specs.declared.signals.Pin.{Pin}
use Rattle.vme_captures.specs.declared.signals.Signal.TheVariants as signal
use Rattle.vme_captures.specs.Changes.{seen}
use Rattle.vme_captures.specs.Wires.{wire_of}
use Rattle.vme_standings.specs.declared.fronts.Fronts.{Fronts}
use Rattle.vme_standings.specs.Requests.{IsBy}
use Rattle.vme_standings.specs.Fronts.{place_of, input_place, is_reached, may_fall_at, IsWaiting}
use Rattle.vme_standings.specs.FrontCovers.{CoversFronts, IsUnderWay, acknowledge_segment, IsOfSegment, last_place}
use Rattle.vme_standings.proofs.Tests.{never}
use Rattle.vme_standings.proofs.WhoDrives.{fall_by, fell, rose}
use Rattle.vme_standings.proofs.RequestLaws.{interrupter_in}
use Rattle.vme_standings.proofs.RequestRows.{passed_as}
use Rattle.vme_standings.proofs.RequestSteps.{same_driver}
use Rattle.vme_standings.proofs.SeenLines.{differs, dtack_falls, way}
use Rattle.vme_standings.proofs.SeenEdges.{line_is, segment_is, berr_is, of_segment}
use Rattle.vme_standings.proofs.FrontLaws.{head_asked, head_waits, head_covers, pass_asked, pass_on, pass_reaches, pass_covers, other_covers, answer_reached, answer_covers, error_ends, error_covers}

-- an edge by its parts
pub as_edge : (e : Edge) (d : Driver) (w : Wire) (fall : Bool) → e.driver ≡ d → e.wire ≡ w → e.fall ≡ fall → e ≡ record { driver = d; wire = w; fall = fall; value = e.value }
as_edge e d w fall driver wire way =
    ap (λ x. record { driver = x; wire = e.wire; fall = e.fall; value = e.value }) driver
    ∙ ap (λ x. record { driver = d; wire = x; fall = e.fall; value = e.value }) wire
    ∙ ap (λ x. record { driver = d; wire = w; fall = x; value = e.value }) way

module _ (version : Version) (p : Plan) (ok : IsAccepted p) (h : List Edge) (e : Edge) (legal : IsLegal version p (e ∷ h)) where
  legal_as : (x : Edge) → e ≡ x → IsLegal version p (x ∷ h)
  legal_as x same = subst (λ y. IsLegal version p (y ∷ h)) same legal

  covers_as : (x : Edge) (f : Fronts) → e ≡ x → CoversFronts p (x ∷ h) f → CoversFronts p (e ∷ h) f
  covers_as x f same = subst (λ y. CoversFronts p (y ∷ h) f) (sym same)

  -- an edge that neither moves AS* nor falls on the chain
  pub quiet_covers : (old : Fronts) → CoversFronts p h old → (e.wire ≡ AddressStrobe → ⊥) → (e.wire ≡ Iack → e.fall ≡ false) → (e.wire ≡ IackOut → e.fall ≡ false) → CoversFronts p (e ∷ h) old
  quiet_covers old covers = by_edge e.driver e.wire e.fall e.value legal
    where
      by_edge : (d : Driver) (w : Wire) (fall : Bool) (v : Option Cycle) → IsLegal version p (record { driver = d; wire = w; fall = fall; value = v } ∷ h)
          → (w ≡ AddressStrobe → ⊥) → (w ≡ Iack → fall ≡ false) → (w ≡ IackOut → fall ≡ false) → CoversFronts p (record { driver = d; wire = w; fall = fall; value = v } ∷ h) old
      by_edge d AddressStrobe fall v l a b c = absurd (a refl)
      by_edge d Iack true v l a b c = absurd (never true refl (b refl))
      by_edge d IackOut true v l a b c = absurd (never true refl (c refl))
      by_edge d Iack false v l a b c = λ low. absurd (never (line p h AddressStrobe) low (not_true (line p h AddressStrobe) (all_passed version p h d Iack false v l.0).rule))
      by_edge d IackOut false v l a b c = λ low. absurd (never (line p h AddressStrobe) low (not_true (line p h AddressStrobe) (all_passed version p h d IackOut false v l.0).rule))
      by_edge d w fall v l a b c = other_covers version p ok h old covers d w fall v (λ is. absurd (cc)) (λ is. absurd (cc)) (λ is. absurd (cc))

  -- a segment of the chain rises while AS* is high
  pub segment_rises : e.fall ≡ false → (place : Option ℕ) → IsOfSegment e place → line p h AddressStrobe ≡ false
  segment_rises rise None o =
      not_true (line p h AddressStrobe) (all_passed version p h Controller Iack false e.value (legal_as (at_head Iack false e.value) (as_edge e Controller Iack false o.0 o.1 rise)).0).rule
  segment_rises rise (Some s) o =
      not_true (line p h AddressStrobe) (all_passed version p h (Slot s) IackOut false e.value (legal_as (at s IackOut false e.value) (as_edge e (Slot s) IackOut false o.0 o.1 rise)).0).rule

  -- a segment of the chain falls
  module _ (fall : e.fall ≡ true) where
    head_is : IsOfSegment e None → e ≡ at_head Iack true e.value
    head_is o = as_edge e Controller Iack true o.0 o.1 fall

    board_is : (s : ℕ) → IsOfSegment e (Some s) → e ≡ at s IackOut true e.value
    board_is s o = as_edge e (Slot s) IackOut true o.0 o.1 fall

    pub segment_asked : (place : Option ℕ) → IsOfSegment e place → (n : ℕ) × IsUnderWay p h n
    segment_asked None o = head_asked version p ok h e.value (legal_as (at_head Iack true e.value) (head_is o))
    segment_asked (Some s) o = pass_asked version p ok h s e.value (legal_as (at s IackOut true e.value) (board_is s o))

    module _ (old : Fronts) (covers : CoversFronts p h old) where
      pub segment_able : (place : Option ℕ) → IsOfSegment e place → may_fall_at old p (place_of place) ≡ true
      segment_able None o = head_waits version p ok h e.value (legal_as (at_head Iack true e.value) (head_is o)) old covers
      segment_able (Some s) o =
          let l = legal_as (at s IackOut true e.value) (board_is s o) in
          ap (λ b. if b then old.waiting else has old.ends (input_place p s)) (not_first s (interrupter_in p ok s (pass_on version p ok h s e.value l)).from)
          ∙ (pass_reaches version p ok h s e.value l old covers).ends
        where
          not_first : (t : ℕ) → 0 < t → (t == 0) ≡ false
          not_first t from = grind (arith, nat_tests)

      pub segment_covers : (new : Fronts) (place : Option ℕ) → IsOfSegment e place → has new.ends (place_of place) ≡ true → CoversFronts p (e ∷ h) new
      segment_covers new None o ends =
          covers_as (at_head Iack true e.value) new (head_is o) (head_covers version p ok h e.value (legal_as (at_head Iack true e.value) (head_is o)) old covers new ends)
      segment_covers new (Some s) o ends =
          covers_as (at s IackOut true e.value) new (board_is s o) (pass_covers version p ok h s e.value (legal_as (at s IackOut true e.value) (board_is s o)) old covers new ends)

module _ (version : Version) (p : Plan) (ok : IsAccepted p) (pins : List Pin) (h : List Edge) (e : Edge) (v : Change) (legal : IsLegal version p (e ∷ h)) (s : seen p pins h e ≡ Some v) where
  -- AS* falls, or rises
  pub strobe_clear : v.signal ≡ signal.Line on_line.AddressStrobe → v.fall ≡ true → is_chain_clear p h chain.Iack ≡ true
  strobe_clear is fall =
      let l = fell version p ok h e legal AddressStrobe (differs p ok pins h e v s (signal.Line on_line.AddressStrobe) is) (way p ok pins h e v s true fall) in
      (fall_by version p ok h e legal AddressStrobe (λ t. is_chain_clear p h chain.Iack ≡ true) l.0 l.1
      (λ t driver wire w. (passed_as version p h e t AddressStrobe true legal driver wire w).settles)).fact

  pub strobe_falls : (new : Fronts) → v.signal ≡ signal.Line on_line.AddressStrobe → v.fall ≡ true → IsWaiting new → CoversFronts p (e ∷ h) new
  strobe_falls new is fall waits low =
      let l = fell version p ok h e legal AddressStrobe (differs p ok pins h e v s (signal.Line on_line.AddressStrobe) is) (way p ok pins h e v s true fall) in
      inl ((fall_by version p ok h e legal AddressStrobe (λ t. is_chain_clear p (e ∷ h) chain.Iack ≡ true) l.0 l.1 clear).fact, waits.waiting)
    where
      clear : (t : ℕ) → is_same_driver e.driver (Slot t) ≡ true → e.wire ≡ AddressStrobe → e.fall ≡ true → is_chain_clear p (e ∷ h) chain.Iack ≡ true
      clear t driver wire w =
          subst (λ x. is_chain_clear p (record { driver = e.driver; wire = x; fall = e.fall; value = e.value } ∷ h) chain.Iack ≡ true) (sym wire)
          (passed_as version p h e t AddressStrobe true legal driver wire w).settles

  pub strobe_rises : (new : Fronts) → v.signal ≡ signal.Line on_line.AddressStrobe → v.fall ≡ false → CoversFronts p (e ∷ h) new
  strobe_rises new is fall low =
      let l = rose version p ok h e legal AddressStrobe (differs p ok pins h e v s (signal.Line on_line.AddressStrobe) is) (way p ok pins h e v s false fall) in
      absurd (never (line p (e ∷ h) AddressStrobe) low l.1)

  -- a probed segment of the chain
  pub segment_by : (q : Pin) (place : Option ℕ) → v.signal ≡ signal.Pin q → wire_of p q ≡ acknowledge_segment place → IsOfSegment e place
  segment_by q place is wire =
      of_segment p ok e place (all_passed version p h e.driver e.wire e.fall e.value legal.0).wire (segment_is p pins h e v s q is ∙ ap (λ x. Some x) wire)

  pub falls : v.fall ≡ true → e.fall ≡ true
  falls fall = way p ok pins h e v s true fall

  pub rises : v.fall ≡ false → e.fall ≡ false
  rises fall = way p ok pins h e v s false fall

  -- DTACK* falls while an acknowledge is shown
  module _ (is : v.signal ≡ signal.Line on_line.Dtack) (fall : v.fall ≡ true) (n : ℕ) (shows : shown p h ≡ Some (Acknowledge n)) where
    pub answer_asked : IsUnderWay p h n
    answer_asked =
        let l = dtack_falls p ok pins h e v s is fall in
        record {
          shows = shows;
          strobed = (fall_by version p ok h e legal Dtack (λ t. line p h DataStrobe ≡ true) l.0 l.1 (λ t driver wire w.
              and_left (line p h DataStrobe) (line p h AddressStrobe) (and_left (line p h DataStrobe && line p h AddressStrobe) _
              (passed_as version p h e t Dtack true legal driver wire w).rule))).fact;
          unanswered = l.0;
        }

  module _ (is : v.signal ≡ signal.Line on_line.Dtack) (fall : v.fall ≡ true) (n : ℕ) (shows : shown p h ≡ Some (Acknowledge n)) (old : Fronts) (covers : CoversFronts p h old) where
    answer_is : (t : ℕ) → is_same_driver e.driver (Slot t) ≡ true → e.wire ≡ Dtack → e.fall ≡ true → e ≡ at t Dtack true e.value
    answer_is t driver wire w = as_edge e (Slot t) Dtack true (same_driver e.driver t driver) wire w

    pub answer_by : IsBy e (λ t. is_reached old p t ≡ true)
    answer_by =
        let l = dtack_falls p ok pins h e v s is fall in
        fall_by version p ok h e legal Dtack (λ t. is_reached old p t ≡ true) l.0 l.1
        (λ t driver wire w. answer_reached version p ok h t e.value (legal_as version p ok h e legal (at t Dtack true e.value) (answer_is t driver wire w)) n shows old covers)

    pub answer_keeps : (new : Fronts) → ((t : ℕ) → e.driver ≡ Slot t → has new.ends (input_place p t) ≡ true) → CoversFronts p (e ∷ h) new
    answer_keeps new among =
        let l = dtack_falls p ok pins h e v s is fall in
        (fall_by version p ok h e legal Dtack (λ t. CoversFronts p (e ∷ h) new) l.0 l.1
        (λ t driver wire w.
        let same = answer_is t driver wire w in
        covers_as version p ok h e legal (at t Dtack true e.value) new same
        (answer_covers version p ok h t e.value (legal_as version p ok h e legal (at t Dtack true e.value) same) n shows old covers new (among t (same_driver e.driver t driver))))).fact

  -- BERR* falls
  module _ (is : v.signal ≡ signal.Line on_line.Berr) where
    pub error_is : (e.driver ≡ Controller) × (e.wire ≡ Berr)
    error_is = berr_is e.driver e.wire (board_of p e.driver) (all_passed version p h e.driver e.wire e.fall e.value legal.0).wire (line_is p pins h e v s on_line.Berr is)

    pub error_by : e.driver ≡ Controller
    error_by = error_is.0

    pub error_asked : v.fall ≡ true → (n : ℕ) → shown p h ≡ Some (Acknowledge n) → IsUnderWay p h n
    error_asked fall n shows =
        let passed = all_passed version p h Controller Berr true e.value (legal_as version p ok h e legal (at_head Berr true e.value)
        (as_edge e Controller Berr true error_is.0 error_is.1 (falls fall))).0 in
        record {
          shows = shows;
          strobed = and_left (line p h DataStrobe) (not (line p h Dtack)) passed.rule;
          unanswered = not_true (line p h Dtack) (and_right (line p h DataStrobe) (not (line p h Dtack)) passed.rule);
        }

    module _ (fall : v.fall ≡ true) (n : ℕ) (shows : shown p h ≡ Some (Acknowledge n)) (old : Fronts) (covers : CoversFronts p h old) where
      same_error : e ≡ at_head Berr true e.value
      same_error = as_edge e Controller Berr true error_is.0 error_is.1 (falls fall)

      pub error_at_end : has old.ends (last_place p) ≡ true
      error_at_end = error_ends version p ok h e.value (legal_as version p ok h e legal (at_head Berr true e.value) same_error) n shows old covers

      pub error_keeps : (new : Fronts) → has new.ends (last_place p) ≡ true → CoversFronts p (e ∷ h) new
      error_keeps new ends =
          covers_as version p ok h e legal (at_head Berr true e.value) new same_error
          (error_covers version p ok h e.value (legal_as version p ok h e legal (at_head Berr true e.value) same_error) n shows old covers new ends)
