-- What is known of the whole bus covers it behind a change of a segment of the acknowledge chain, and
-- whoever made it is among those who may have.
use Rattle.std.proofs.Common.{◌≡◌, ◌∙◌, refl, sym, ap, subst, ℕ, zero, suc, Bool, true, false, List, ◌∷◌, arith}
use Rattle.std.specs.Prelude.{◌==◌, ◌&&◌, if◌then◌else◌, not, Option, Some, None, is_some}
use Rattle.std.specs.Option.{option_map_or}
use Rattle.std.proofs.lemmas.Bool.Decides.{nat_tests}
use Rattle.vme_model.specs.declared.sets.ChainId.TheVariants as chain
use Rattle.vme_model.specs.declared.signals.Version.{Version}
use Rattle.vme_model.specs.declared.signals.Cycle.TheVariants as cycle
use Rattle.vme_model.specs.declared.signals.Driver.TheVariants.{Slot}
use Rattle.vme_model.specs.declared.signals.Wire.{Wire}
use Rattle.vme_model.specs.declared.signals.Wire.TheVariants as wire
use Rattle.vme_model.specs.declared.signals.Edge.{Edge}
use Rattle.vme_model.specs.Signals.{is_same_driver}
use Rattle.vme_model.specs.Plan.{Plan}
use Rattle.vme_model.specs.Accepted.{IsAccepted}
use Rattle.vme_model.specs.History.{interrupt_line}
use Rattle.vme_model.specs.Verdict.{IsLegal}
use Rattle.vme_model.proofs.Bools.{same_number}
use Rattle.vme_bus.specs.declared.sets.SlotSet.{SlotSet}
use Rattle.vme_bus.specs.Sets.{has}
use Rattle.vme_captures.specs.declared.signals.Change.{Change}
use Rattle.vme_captures.specs.declared.signals.Line.TheVariants as on_line
use Rattle.vme_captures.specs.declared.signals.Pin.{Pin}
use Rattle.vme_captures.specs.declared.signals.Signal.TheVariants as signal
use Rattle.vme_captures.specs.declared.signals.Value.{Value}
use Rattle.vme_captures.specs.Changes.{seen}
use Rattle.vme_captures.specs.Wires.{wire_of}
use Rattle.vme_standings.specs.declared.moving.Moved.TheVariants as moved
use Rattle.vme_standings.specs.declared.fronts.Fronts.{Fronts}
use Rattle.vme_standings.specs.declared.requests.Requests.{Requests}
use Rattle.vme_standings.specs.declared.standings.Drivers.{Drivers}
use Rattle.vme_standings.specs.declared.standings.Probed.{Probed}
use Rattle.vme_standings.specs.declared.standings.Shown.{Shown}
use Rattle.vme_standings.specs.declared.standings.Shown.TheVariants as known
use Rattle.vme_standings.specs.declared.standings.Standings.{Standings}
use Rattle.vme_standings.specs.Behind.{AddressersBehind, AnswerersBehind, FrontsBehind, FrontsPassed, IsBehind, PassedAt, PhasesBehind, RequestsBehind, RequestsPassed, shown_behind, strobed_behind}
use Rattle.vme_standings.specs.Covers.{Among, Covers, says, segment_at}
use Rattle.vme_standings.specs.Driving.{BoardsMake, ControllerMakes, MayPassAt, PassesShown, is_acknowledged, is_board_at, is_left_low, is_under_way}
use Rattle.vme_standings.specs.FrontCovers.{CoversFronts, IsOfSegment, IsUnderWay, acknowledge_segment}
use Rattle.vme_standings.specs.Fronts.{input_place, may_fall_at, place_of}
use Rattle.vme_standings.specs.Interrupters.{is_on_low_line}
use Rattle.vme_standings.specs.Moving.{moved_by}
use Rattle.vme_standings.specs.Requests.{AreOnLevel, CoversRequests, is_on_level}
use Rattle.vme_standings.specs.RequestSets.{CannotPass, may_be}
use Rattle.vme_standings.proofs.FrontSeen.{segment_able, segment_asked, segment_by, segment_covers, segment_rises}
use Rattle.vme_standings.proofs.JoinedCycle.{is_asked}
use Rattle.vme_standings.proofs.JoinedGrants.{self_board}
use Rattle.vme_standings.proofs.JoinedHidden.{low_line_is}
use Rattle.vme_standings.proofs.JoinedSeen.{Step, by_board, by_controller, kept_drivers, kept_fronts, kept_phases, kept_requests, kept_shown, kept_strobed, levels_now}
use Rattle.vme_standings.proofs.RequestLaws.{interrupter_in}
use Rattle.vme_standings.proofs.RequestPasses.{can_pass, pass_keeps}
use Rattle.vme_standings.proofs.RequestRows.{interrupts_there}
use Rattle.vme_standings.proofs.SeenLines.{way}
use Rattle.vme_standings.proofs.Tests.{both}

-- the driver of a segment by its place
abbrev pub driver_at : ℕ → Option ℕ
driver_at t = (segment_at chain.Iack t).place

place_same : (t : ℕ) → place_of (driver_at t) ≡ t
place_same zero = refl
place_same (suc t) = refl

-- what is known to be shown, of an acknowledge
pub acknowledge_known : (n : ℕ) (k : Option Shown) → option_map_or (says (cycle.Acknowledge n)) k false ≡ true → k ≡ Some (known.Acknowledge n)
acknowledge_known n (Some (known.Acknowledge m)) e = ap (λ x. Some (known.Acknowledge x)) (same_number m n e)
acknowledge_known n (Some (known.Access (Some t))) e = absurd (cc)
acknowledge_known n (Some (known.Access None)) e = absurd (cc)
acknowledge_known n None e = absurd (cc)

module _ (probed : Probed) (p : Plan) (ok : IsAccepted p) (pins : List Pin) (h : List Edge) (e : Edge) (v : Change) (legal : IsLegal probed.version p (e ∷ h)) (s : seen p pins h e ≡ Some v)
    (st : Standings) (covers : Covers p pins h st)
    (q : Pin) (place : ℕ) (is : v.signal ≡ signal.Pin q) (at : wire_of p q ≡ segment_at chain.Iack place) (m : moved_by p (signal.Pin q) ≡ moved.Acknowledge place) where
  abbrev version : Version
  version = probed.version

  as_place : (t : ℕ) → segment_at chain.Iack t ≡ acknowledge_segment (driver_at t)
  as_place zero = refl
  as_place (suc t) = refl

  edge : IsOfSegment e (driver_at place)
  edge = segment_by version p ok pins h e v legal s q (driver_at place) is (at ∙ as_place place)

  other : (x : Wire) → (wire.Iack ≡ x → ⊥) → (wire.IackOut ≡ x → ⊥) → e.wire ≡ x → ⊥
  other x a b same = by_place place edge
    where
      by_place : (t : ℕ) → IsOfSegment e (driver_at t) → ⊥
      by_place zero o = a (sym o.1 ∙ same)
      by_place (suc t) o = b (sym o.1 ∙ same)

  rest : (f : Bool) (val : Option Value) → v.fall ≡ f → (new : Standings) → IsBehind p probed st (record { signal = signal.Pin q; fall = f; value = val }) new → CoversFronts p (e ∷ h) new.fronts
      → CoversRequests p (e ∷ h) (may_be new.requests) → Covers p pins (e ∷ h) new
  rest f val fall new b fronts requests = record {
    levels = levels_now probed p ok pins h e v legal s st covers (signal.Pin q) f val is fall new b;
    shown = kept_shown probed p ok pins h e v legal s st covers new.shown (subst (λ y. new.shown ≡ shown_behind y f val st.shown) m b.shown) (other wire.AddressStrobe (λ y. cc) (λ y. cc));
    strobed = kept_strobed probed p ok pins h e v legal s st covers new.strobed (subst (λ y. new.strobed ≡ strobed_behind y f st.strobed) m b.strobed) (other wire.AddressStrobe (λ y. cc) (λ y. cc))
        (λ y. absurd (other wire.DataStrobe (λ z. cc) (λ z. cc) y));
    phases = kept_phases probed p ok pins h e v legal s st covers new.phases (subst (λ y. PhasesBehind p version st y f val new.phases) m b.phases) (λ n y. other (wire.Bg n) (λ z. cc) (λ z. cc) y)
        (other wire.BgOut (λ y. cc) (λ y. cc)) (other wire.Bbsy (λ y. cc) (λ y. cc));
    addressers = kept_drivers probed p ok pins h e v legal s st covers wire.AddressStrobe new.addressers st.addressers
        (subst (λ y. AddressersBehind p st y f val new.addressers) m b.addressers) covers.addressers (other wire.AddressStrobe (λ y. cc) (λ y. cc));
    answerers = kept_drivers probed p ok pins h e v legal s st covers wire.Dtack new.answerers st.answerers (subst (λ y. AnswerersBehind p st y f val new.answerers) m b.answerers) covers.answerers
        (other wire.Dtack (λ y. cc) (λ y. cc));
    fronts = fronts;
    requests = requests;
  }

  requests_stay : (new : Requests) → new ≡ st.requests → CoversRequests p (e ∷ h) (may_be new)
  requests_stay new same = kept_requests probed p ok pins h e v legal s st covers new same (other wire.Irq (λ y. cc) (λ y. cc)) (λ y. absurd (other wire.Dtack (λ z. cc) (λ z. cc) y))

  zero_test : (a : ℕ) → a ≡ 0 → (a == 0) ≡ true
  zero_test a x = grind (arith, nat_tests)

  -- a segment rises
  module _ (fall : v.fall ≡ false) where
    rise : e.fall ≡ false
    rise = way p ok pins h e v s false fall

    nothing_shown : not (is_some st.shown) ≡ true
    nothing_shown = ap (λ (k : Option Shown). not (is_some k)) (covers.shown.high (segment_rises version p ok h e legal rise (driver_at place) edge))

    pub pass_rises : (val : Option Value) → Step probed p ok pins h e v legal s st covers (signal.Pin q) false val
    pass_rises val = record {
      by = λ d a. by_place d (subst (λ y. ControllerMakes p version st y false d.controller) m a.controller) (subst (λ y. BoardsMake p version st y false val d.boards) m a.boards) place refl;
      covers = λ new b.
          rest false val fall new b
          (kept_fronts probed p ok pins h e v legal s st covers new.fronts (subst (λ y. FrontsBehind p st y false val new.fronts) m b.fronts) (other wire.AddressStrobe (λ y. cc) (λ y. cc)) (λ y. rise)
          (λ y. rise))
          (requests_stay new.requests (subst (λ y. RequestsBehind p st y false val new.requests) m b.requests));
    }
      where
        by_place : (d : Drivers) → ControllerMakes p version st (moved.Acknowledge place) false d.controller → BoardsMake p version st (moved.Acknowledge place) false val d.boards → (t : ℕ)
            → place ≡ t → Among d e.driver
        by_place d head boards zero none =
            let o = subst (λ t. IsOfSegment e (driver_at t)) none edge in
            by_controller probed p ok pins h e v legal s st covers d o.0 (head ∙ both (place == 0) (not (is_some st.shown)) (zero_test place none) nothing_shown)
        by_place d head boards (suc t) own =
            let o = subst (λ t. IsOfSegment e (driver_at t)) own edge in
            by_board probed p ok pins h e v legal s st covers d (suc t) o.0
            (boards (suc t) ∙ both (not (is_some st.shown)) (is_board_at place (suc t)) nothing_shown (ap (λ x. is_board_at x (suc t)) own ∙ self_board t))

  -- a segment falls
  module _ (fall : v.fall ≡ true) where
    fell : e.fall ≡ true
    fell = way p ok pins h e v s true fall

    asked : (n : ℕ) × IsUnderWay p h n
    asked = segment_asked version p ok h e legal fell (driver_at place) edge

    abbrev n : ℕ
    n = asked.0

    abbrev under_way : IsUnderWay p h asked.0
    under_way = asked.1

    known_is : st.shown ≡ Some (known.Acknowledge n)
    known_is = acknowledge_known n st.shown (covers.shown.shown (cycle.Acknowledge n) (is_asked version p ok h legal.1 under_way.strobed).strobe under_way.shows)

    able : may_fall_at st.fronts p place ≡ true
    able = subst (λ t. may_fall_at st.fronts p t ≡ true) (place_same place) (segment_able version p ok h e legal fell st.fronts covers.fronts (driver_at place) edge)

    strobed : is_left_low st on_line.DataStrobe ≡ true
    strobed = covers.levels.shared on_line.DataStrobe refl ∙ under_way.strobed

    unanswered : is_left_low st on_line.Dtack ≡ false
    unanswered = covers.levels.shared on_line.Dtack refl ∙ under_way.unanswered

    low_is : is_on_level p n place ≡ true → is_on_low_line st.lines p place ≡ interrupt_line p h n
    low_is on = low_line_is p ok h st.lines covers.levels.shared n place on

    -- its board, if it has the line of the acknowledge
    own_slot : (t : ℕ) → place ≡ t → is_on_level p n place ≡ true → (is_same_driver e.driver (Slot place) ≡ true) × (e.wire ≡ wire.IackOut)
    own_slot zero none on = let i = (interrupter_in p ok place (interrupts_there p n place on)).from in absurd (omega (arith, i, none))
    own_slot (suc t) own on =
        let o = subst (λ x. IsOfSegment e (driver_at x)) own edge in
        (ap (λ d. is_same_driver d (Slot place)) o.0 ∙ ap (λ x. suc t == x) own ∙ self (suc t), o.1)
      where
        self : (k : ℕ) → (k == k) ≡ true
        self k = grind (arith, nat_tests)

    cannot : (boards : SlotSet) → AreOnLevel p n boards → is_on_level p n place ≡ true → CannotPass place boards (interrupt_line p h n) st.requests → ⊥
    cannot boards held on =
        let o = own_slot place refl on in
        can_pass version p h e place n st.requests ok legal o.0 o.1 fell under_way.shows on covers.requests boards held

    may_pass : (may : Bool) → MayPassAt p st.lines n st.requests place may → may ≡ true
    may_pass may w = by_board (has w.boards place) refl may refl
      where
        by_board : (b : Bool) → has w.boards place ≡ b → (k : Bool) → may ≡ k → may ≡ true
        by_board false off k x = w.passes.other off
        by_board true member true x = x
        by_board true member false x =
            let on : is_on_level p n place ≡ true = sym (w.level place) ∙ member in
            absurd (cannot w.boards w.level on (subst (λ b. CannotPass place w.boards b st.requests) (w.lines_are place ∙ low_is on) (w.passes.unable member x)))

    open_test : (a b c d : Bool) → a ≡ true → b ≡ false → c ≡ true → d ≡ true → ((a && not b) && (c && d)) ≡ true
    open_test a b c d f g i j = grind arith

    not_zero : (a t : ℕ) → a ≡ suc t → (a == 0) ≡ false
    not_zero a t x = grind (arith, nat_tests)

    by_place : (val : Option Value) (d : Drivers) → ControllerMakes p version st (moved.Acknowledge place) true d.controller → PassesShown p st place st.shown d.boards → (t : ℕ) → place ≡ t
        → Among d e.driver
    by_place val d head boards zero none =
        let o = subst (λ t. IsOfSegment e (driver_at t)) none edge in
        by_controller probed p ok pins h e v legal s st covers d o.0
        (head ∙ both (place == 0) (is_under_way st && st.fronts.waiting) (zero_test place none)
        (both (is_under_way st) st.fronts.waiting
        (subst (λ (k : Option Shown). (is_acknowledged k && is_left_low st on_line.DataStrobe) ≡ true) (sym known_is) strobed)
        (sym (ap (λ b. if b then st.fronts.waiting else has st.fronts.ends (input_place p place)) (zero_test place none)) ∙ able)))
    by_place val d head boards (suc t) own =
        let o = subst (λ t. IsOfSegment e (driver_at t)) own edge in
        let w = subst (λ (k : Option Shown). PassesShown p st place k d.boards) known_is boards in
        by_board probed p ok pins h e v legal s st covers d (suc t) o.0 (passed w)
      where
        passed : PassesShown p st place (Some (known.Acknowledge n)) d.boards → has d.boards (suc t) ≡ true
        passed (may, at_place, them) =
            them (suc t)
            ∙ both ((is_left_low st on_line.DataStrobe && not (is_left_low st on_line.Dtack)) && (has st.fronts.ends (input_place p place) && may)) (is_board_at place (suc t))
            (open_test (is_left_low st on_line.DataStrobe) (is_left_low st on_line.Dtack) (has st.fronts.ends (input_place p place)) may strobed unanswered
            (sym (ap (λ b. if b then st.fronts.waiting else has st.fronts.ends (input_place p place)) (not_zero place t own)) ∙ able)
            (may_pass may at_place))
            (ap (λ x. is_board_at x (suc t)) own ∙ self_board t)

    fronts_after : (new : Fronts) → FrontsPassed p place st.fronts new → CoversFronts p (e ∷ h) new
    fronts_after new f =
        segment_covers version p ok h e legal fell st.fronts covers.fronts new (driver_at place) edge
        (subst (λ t. has new.ends t ≡ true) (sym (place_same place)) (f.able able).here)

    requests_after : (new : Requests) → RequestsPassed p st place st.shown new → CoversRequests p (e ∷ h) (may_be new)
    requests_after new r = passed (subst (λ (k : Option Shown). RequestsPassed p st place k new) known_is r)
      where
        passed : PassedAt p st.lines n place st.requests new → CoversRequests p (e ∷ h) (may_be new)
        passed a = by_level (is_on_level p n place) refl
          where
            by_level : (b : Bool) → is_on_level p n place ≡ b → CoversRequests p (e ∷ h) (may_be new)
            by_level false off = requests_stay new (a.other off)
            by_level true on =
                let o = own_slot place refl on in
                pass_keeps version p h e place n st.requests ok legal o.0 o.1 fell under_way.shows on covers.requests a.boards (is_on_low_line st.lines p place) new
                (a.able on (λ c. cannot a.boards a.level on (subst (λ b. CannotPass place a.boards b st.requests) (low_is on) c)))

    pub pass_falls : (val : Option Value) → Step probed p ok pins h e v legal s st covers (signal.Pin q) true val
    pass_falls val = record {
      by = λ d a. by_place val d (subst (λ y. ControllerMakes p version st y true d.controller) m a.controller) (subst (λ y. BoardsMake p version st y true val d.boards) m a.boards) place refl;
      covers = λ new b.
          rest true val fall new b
          (fronts_after new.fronts (subst (λ y. FrontsBehind p st y true val new.fronts) m b.fronts))
          (requests_after new.requests (subst (λ y. RequestsBehind p st y true val new.requests) m b.requests));
    }
