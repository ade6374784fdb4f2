-- What is known of the whole bus covers it behind a change that the probes see, and whoever made it
-- is among those who may have: a change of a request line, of BBSY*, or of BCLR*, a rise of AS*, of
-- DTACK*, or of BERR*, or a change of DS*.
use Rattle.std.proofs.Common.{◌≡◌, ◌∙◌, refl, sym, ap, subst, ℕ, Bool, true, false, List, ◌∷◌, ◌<◌, arith}
use Rattle.std.specs.Prelude.{◌&&◌, ◌||◌, if◌then◌else◌, nat_lt, not, Option, Some, None, is_some, option_map}
use Rattle.std.specs.Option.{option_and_then}
use Rattle.vme_model.specs.declared.boards.Row.{Row}
use Rattle.vme_model.specs.declared.boards.InterrupterRow.{InterrupterRow}
use Rattle.vme_model.specs.declared.boards.RequesterRow.{RequesterRow}
use Rattle.std.proofs.lemmas.Bool.Decides.{nat_tests}
use Rattle.vme_model.specs.declared.signals.Version.{Version}
use Rattle.vme_model.specs.declared.signals.Driver.{Driver}
use Rattle.vme_model.specs.declared.signals.Driver.TheVariants.{Controller, Slot}
use Rattle.vme_model.specs.declared.signals.Wire.{Wire}
use Rattle.vme_model.specs.declared.signals.Wire.TheVariants as wire
use Rattle.vme_model.specs.declared.signals.Edge.{Edge}
use Rattle.vme_model.specs.Signals.{is_fall_of, is_same_driver, is_same_wire}
use Rattle.vme_model.specs.Plan.{Plan, board_of, drives}
use Rattle.vme_model.specs.Accepted.{IsAccepted}
use Rattle.vme_model.specs.History.{drive, has_strobed, line, pulls_line}
use Rattle.vme_model.specs.Verdict.{IsLegal}
use Rattle.vme_model.proofs.AllowedEdges.{Passed, all_passed}
use Rattle.vme_model.proofs.Bools.{and_left, and_right, not_true}
use Rattle.vme_model.proofs.CyclePhases.{Quiet, Fresh, Asking, Done}
use Rattle.vme_model.proofs.Cycles.{Going}
use Rattle.vme_model.proofs.Members.{some_row}
use Rattle.vme_model.proofs.PinSets.{has_bus}
use Rattle.vme_model.proofs.Ranges.{IsRowInRange, in_range}
use Rattle.vme_histories.proofs.Others.{same_wire}
use Rattle.vme_bus.specs.declared.sets.SlotSet.{SlotSet}
use Rattle.vme_bus.specs.Sets.{has}
use Rattle.vme_captures.specs.declared.signals.Change.{Change}
use Rattle.vme_captures.specs.declared.signals.Line.{Line}
use Rattle.vme_captures.specs.declared.signals.Line.TheVariants as on_line
use Rattle.vme_captures.specs.declared.signals.Pin.{Pin}
use Rattle.vme_captures.specs.declared.signals.Signal.{Signal}
use Rattle.vme_captures.specs.declared.signals.Signal.TheVariants as signal
use Rattle.vme_captures.specs.declared.signals.Value.{Value}
use Rattle.vme_captures.specs.Changes.{line_of, seen}
use Rattle.vme_captures.specs.Levels.{is_line_left_low}
use Rattle.vme_standings.specs.declared.standings.Drivers.{Drivers}
use Rattle.vme_standings.specs.declared.standings.Probed.{Probed}
use Rattle.vme_standings.specs.declared.standings.Shown.{Shown}
use Rattle.vme_standings.specs.declared.standings.Standings.{Standings}
use Rattle.vme_standings.specs.declared.phases.GrantPhase.{GrantPhase}
use Rattle.vme_standings.specs.declared.phases.GrantPhases.{GrantPhases}
use Rattle.vme_standings.specs.declared.fronts.Fronts.{Fronts}
use Rattle.vme_standings.specs.declared.requests.Requests.{Requests}
use Rattle.vme_standings.specs.Behind.{IsBehind, LinesBehind, LowBehind}
use Rattle.vme_standings.specs.Covers.{Among, AreLevels, Covers, KnowsShown, KnowsStrobed}
use Rattle.vme_standings.specs.Cycles.{CoversDrivers}
use Rattle.vme_standings.specs.Driving.{AreDrivers, CanClear, can_end, can_strobe, is_answered, is_left_low}
use Rattle.vme_standings.specs.FrontCovers.{CoversFronts}
use Rattle.vme_standings.specs.Grants.{are_alike, is_clear_due}
use Rattle.vme_standings.specs.InPhase.{AreAsked, CoversGrants}
use Rattle.vme_standings.specs.Moving.{asked}
use Rattle.vme_standings.specs.Phases.{HasExactly, has_phase}
use Rattle.vme_standings.specs.Requests.{AreOnLevel, CoversRequests, IsBy}
use Rattle.vme_standings.specs.RequestSets.{Falls, Rises, may_be}
use Rattle.vme_standings.proofs.FrontSeen.{error_is, quiet_covers, strobe_rises}
use Rattle.vme_standings.proofs.GrantOthers.{asked_by, asked_covers, cleared_able, cleared_by, cleared_covers, in_table, keeps, of_request, withdrawn_by, withdrawn_covers}
use Rattle.vme_standings.proofs.GrantSeen.{released_by, released_covers, taken_by, taken_covers}
use Rattle.vme_standings.proofs.JoinedCycle.{data_within, driven_by, goes, shown_kept, strobe_alone, strobed_kept}
use Rattle.vme_standings.proofs.JoinedLevels.{drive_stays}
use Rattle.vme_standings.proofs.JoinedSegments.{levels_behind}
use Rattle.vme_standings.proofs.RequestLaws.{InSlot, fall_by as irq_fall_by, fall_keeps, in_slot, is_by, rise_by as irq_rise_by, rise_keeps}
use Rattle.vme_standings.proofs.RequestPasses.{other_keeps}
use Rattle.vme_standings.proofs.RequestRows.{irq_fell, irq_rose, mover, passed_as}
use Rattle.vme_standings.proofs.SeenEdges.{line_is}
use Rattle.vme_standings.proofs.SeenLines.{differs, irq_falls, irq_rises, way}
use Rattle.vme_standings.proofs.Tests.{both, is_false, never}
use Rattle.vme_standings.proofs.WhoDrives.{fall_by, fell, line_shows, rise_leaves, rose, silent_on}

-- what a change makes of what is known: whoever made it is among those who may have, and what is
-- known behind it covers the bus
pub record IsStep (p : Plan) (probed : Probed) (pins : List Pin) (h : List Edge) (e : Edge) (st : Standings) (c : Change) : Type 0 where
  pub by : (d : Drivers) → AreDrivers p probed st c d → Among d e.driver
  pub covers : (new : Standings) → IsBehind p probed st c new → Covers p pins (e ∷ h) new

-- the wire of a shared line
abbrev wire_for : Line → Wire
wire_for (on_line.Br n) = wire.Br
wire_for (on_line.Irq n) = wire.Irq
wire_for on_line.Bbsy = wire.Bbsy
wire_for on_line.AddressStrobe = wire.AddressStrobe
wire_for on_line.DataStrobe = wire.DataStrobe
wire_for on_line.Dtack = wire.Dtack
wire_for on_line.Berr = wire.Berr
wire_for on_line.Bclr = wire.Bclr

-- the wire of a line that every board with a requester has, or the controller
abbrev is_plain : Line → Bool
is_plain (on_line.Br n) = false
is_plain (on_line.Irq n) = false
is_plain _ = true

one_wire : (l : Line) (w : Wire) (x : Wire) (r : Option Row) → wire_for l ≡ w → is_plain l ≡ true → line_of x r ≡ Some l → x ≡ w
one_wire l w wire.Br r same plain is = absurd (no_request (option_and_then (λ (b : Row). b.requester) r) is)
  where
    no_request : (o : Option RequesterRow) → option_map (λ q. on_line.Br q.level) o ≡ Some l → ⊥
    no_request None y = cc
    no_request (Some q) y = let z : on_line.Br q.level ≡ l = cc in never (is_plain l) plain (sym (ap is_plain z))
one_wire l w wire.Irq r same plain is = absurd (no_interrupt (option_and_then (λ (b : Row). b.interrupter) r) is)
  where
    no_interrupt : (o : Option InterrupterRow) → option_map (λ i. on_line.Irq i.level) o ≡ Some l → ⊥
    no_interrupt None y = cc
    no_interrupt (Some i) y = let z : on_line.Irq i.level ≡ l = cc in never (is_plain l) plain (sym (ap is_plain z))
one_wire l w wire.Bclr r same plain is = let z : on_line.Bclr ≡ l = cc in ap wire_for z ∙ same
one_wire l w wire.Berr r same plain is = let z : on_line.Berr ≡ l = cc in ap wire_for z ∙ same
one_wire l w wire.Bbsy r same plain is = let z : on_line.Bbsy ≡ l = cc in ap wire_for z ∙ same
one_wire l w wire.AddressStrobe r same plain is = let z : on_line.AddressStrobe ≡ l = cc in ap wire_for z ∙ same
one_wire l w wire.DataStrobe r same plain is = let z : on_line.DataStrobe ≡ l = cc in ap wire_for z ∙ same
one_wire l w wire.Dtack r same plain is = let z : on_line.Dtack ≡ l = cc in ap wire_for z ∙ same
one_wire l w x r same plain is = absurd (cc)

and_no : (a b : Bool) → b ≡ false → (a && b) ≡ false
and_no a b f = grind arith

-- who lets a line rise, and drove it
pub rise_moves : (version : Version) (p : Plan) → IsAccepted p → (h : List Edge) (e : Edge) → IsLegal version p (e ∷ h) → (w : Wire) → line p h w ≡ true → line p (e ∷ h) w ≡ false
    → IsBy e (λ t. (is_same_driver e.driver (Slot t) ≡ true) × (drive h (Slot t) w ≡ true))
rise_moves version p ok h e legal w low high =
    let f = some_row (pulls_line h w) (IsRowInRange p) p.rows (in_range p ok).rows low in
    let was : drive h (Slot f.0.slot) w ≡ true = and_right (drives w f.0) (drive h (Slot f.0.slot) w) f.1 in
    let m = mover p h e w false (λ t. InSlot t × (drive h (Slot t) w ≡ true)) f.0.slot was (silent_on version p ok (e ∷ h) legal f.0.slot w high) (in_slot p ok f.0.slot f.0 f.2.alone, was) in
    is_by e (λ t. (is_same_driver e.driver (Slot t) ≡ true) × (drive h (Slot t) w ≡ true)) m.slot m.fact.0 m.driver (m.driver, m.fact.1)

module _ (probed : Probed) (p : Plan) (ok : IsAccepted p) (pins : List Pin) (h : List Edge) (e : Edge) (v : Change) (legal : IsLegal probed.version p (e ∷ h)) (s : seen p pins h e ≡ Some v)
    (st : Standings) (covers : Covers p pins h st) where
  abbrev version : Version
  version = probed.version

  abbrev pub Step : Signal → Bool → Option Value → Type 0
  Step x f val = IsStep p probed pins h e st (record { signal = x; fall = f; value = val })

  -- the levels of BR lines that are low
  pub asked_now : AreAsked p h (asked st.lines)
  asked_now n few = has_bus (λ m. is_line_left_low st.lines (on_line.Br m)) n few ∙ covers.levels.shared (on_line.Br n) (is_few n few)
    where
      is_few : (n : ℕ) → n < 4 → nat_lt n 4 ≡ true
      is_few n l = grind (arith, nat_tests)

  pub among : (d : Drivers) → IsBy e (λ t. has d.boards t ≡ true) → Among d e.driver
  among d by = subst (Among d) (sym by.driver) by.fact

  pub by_board : (d : Drivers) (t : ℕ) → e.driver ≡ Slot t → has d.boards t ≡ true → Among d e.driver
  by_board d t driver fact = subst (Among d) (sym driver) fact

  pub by_controller : (d : Drivers) → e.driver ≡ Controller → d.controller ≡ true → Among d e.driver
  by_controller d driver fact = subst (Among d) (sym driver) fact

  pub levels_now : (x : Signal) (f : Bool) (val : Option Value) → v.signal ≡ x → v.fall ≡ f → (new : Standings) → IsBehind p probed st (record { signal = x; fall = f; value = val }) new
      → AreLevels p pins (e ∷ h) new.lines new.low
  levels_now x f val is fall new b =
      levels_behind p ok pins h e v s x is st.lines new.lines st.low new.low covers.levels
      (subst (λ g. LinesBehind x g st.lines new.lines) (sym fall) b.lines) (subst (λ g. LowBehind p x g st.low new.low) (sym fall) b.low)

  -- a part that an edge leaves
  pub kept_shown : (x : Option Shown) → x ≡ st.shown → (e.wire ≡ wire.AddressStrobe → ⊥) → KnowsShown p (e ∷ h) x
  kept_shown x same a = subst (KnowsShown p (e ∷ h)) (sym same) (shown_kept version p ok h e st.shown legal a covers.shown)

  pub kept_strobed : (x : Bool) → x ≡ st.strobed → (e.wire ≡ wire.AddressStrobe → ⊥) → (e.wire ≡ wire.DataStrobe → e.fall ≡ false) → KnowsStrobed (e ∷ h) x
  kept_strobed x same a b = subst (KnowsStrobed (e ∷ h)) (sym same) (strobed_kept h e st.strobed a b covers.strobed)

  pub kept_phases : (x : GrantPhases) → x ≡ st.phases → ((n : ℕ) → e.wire ≡ wire.Bg n → ⊥) → (e.wire ≡ wire.BgOut → ⊥) → (e.wire ≡ wire.Bbsy → ⊥) → CoversGrants p (e ∷ h) x
  kept_phases x same a b c = subst (CoversGrants p (e ∷ h)) (sym same) (keeps p h e st.phases a b c covers.phases)

  pub kept_drivers : (w : Wire) (x old : SlotSet) → x ≡ old → CoversDrivers h w old → (e.wire ≡ w → ⊥) → CoversDrivers (e ∷ h) w x
  kept_drivers w x old same c a =
      subst (CoversDrivers (e ∷ h) w) (sym same)
      (λ t low. c t (sym (drive_stays h e (Slot t) w (λ is. a (same_wire e.wire w (and_left (is_same_wire e.wire w) (is_same_driver e.driver (Slot t)) is)))) ∙ low))

  pub kept_fronts : (x : Fronts) → x ≡ st.fronts → (e.wire ≡ wire.AddressStrobe → ⊥) → (e.wire ≡ wire.Iack → e.fall ≡ false) → (e.wire ≡ wire.IackOut → e.fall ≡ false) → CoversFronts p (e ∷ h) x
  kept_fronts x same a b c = subst (CoversFronts p (e ∷ h)) (sym same) (quiet_covers version p ok h e legal st.fronts covers.fronts a b c)

  pub kept_requests : (x : Requests) → x ≡ st.requests → (e.wire ≡ wire.Irq → ⊥) → (e.wire ≡ wire.Dtack → e.fall ≡ false) → CoversRequests p (e ∷ h) (may_be x)
  kept_requests x same a b = subst (λ y. CoversRequests p (e ∷ h) (may_be y)) (sym same) (other_keeps p h e (may_be st.requests) a b covers.requests)

  -- a BR line
  request_wire : (n : ℕ) → v.signal ≡ signal.Line (on_line.Br n) → e.wire ≡ wire.Br
  request_wire n is = (of_request p e n (line_is p pins h e v s (on_line.Br n) is)).wire

  request_rest : (n : ℕ) (f : Bool) (val : Option Value) → v.signal ≡ signal.Line (on_line.Br n) → v.fall ≡ f → (new : Standings)
      → IsBehind p probed st (record { signal = signal.Line (on_line.Br n); fall = f; value = val }) new
      → new.shown ≡ st.shown → new.strobed ≡ st.strobed → CoversGrants p (e ∷ h) new.phases → new.addressers ≡ st.addressers → new.answerers ≡ st.answerers → new.fronts ≡ st.fronts
      → new.requests ≡ st.requests → Covers p pins (e ∷ h) new
  request_rest n f val is fall new b a1 a2 phases a4 a5 a6 a7 =
      let w = request_wire n is in
      record {
        levels = levels_now (signal.Line (on_line.Br n)) f val is fall new b;
        shown = kept_shown new.shown a1 (λ y. absurd (cc (w, y)));
        strobed = kept_strobed new.strobed a2 (λ y. absurd (cc (w, y))) (λ y. absurd (cc (w, y)));
        phases = phases;
        addressers = kept_drivers wire.AddressStrobe new.addressers st.addressers a4 covers.addressers (λ y. absurd (cc (w, y)));
        answerers = kept_drivers wire.Dtack new.answerers st.answerers a5 covers.answerers (λ y. absurd (cc (w, y)));
        fronts = kept_fronts new.fronts a6 (λ y. absurd (cc (w, y))) (λ y. absurd (cc (w, y))) (λ y. absurd (cc (w, y)));
        requests = kept_requests new.requests a7 (λ y. absurd (cc (w, y))) (λ y. absurd (cc (w, y)));
      }

  pub request_falls : (n : ℕ) (val : Option Value) → v.signal ≡ signal.Line (on_line.Br n) → v.fall ≡ true → Step (signal.Line (on_line.Br n)) true val
  request_falls n val is fall = record {
    by = λ d a. among d (asked_by version p ok pins h e v legal s st.phases covers.phases n is fall d.boards a.boards);
    covers = λ new b.
        request_rest n true val is fall new b b.shown b.strobed
        (asked_covers version p ok pins h e v legal s st.phases covers.phases n is fall b.phases.0 b.phases.1 new.phases b.phases.2)
        b.addressers b.answerers b.fronts b.requests;
  }

  pub request_rises : (n : ℕ) (val : Option Value) → v.signal ≡ signal.Line (on_line.Br n) → v.fall ≡ false → Step (signal.Line (on_line.Br n)) false val
  request_rises n val is fall = record {
    by = λ d a. among d (withdrawn_by version p ok pins h e v legal s st.phases covers.phases n is fall d.boards a.boards);
    covers = λ new b.
        request_rest n false val is fall new b b.shown b.strobed
        (withdrawn_covers version p ok pins h e v legal s st.phases covers.phases n is fall new.phases b.phases)
        b.addressers b.answerers b.fronts b.requests;
  }

  -- an IRQ line
  irq_wire : (n : ℕ) → v.signal ≡ signal.Line (on_line.Irq n) → e.wire ≡ wire.Irq
  irq_wire n is = by_level v.fall refl
    where
      by_level : (f : Bool) → v.fall ≡ f → e.wire ≡ wire.Irq
      by_level true f = let l = irq_falls p ok pins h e v s n is f in (irq_fell p ok h e n l.0 l.1).wire
      by_level false f = let l = irq_rises p ok pins h e v s n is f in (irq_rose p ok h e n l.0 l.1).wire

  irq_rest : (n : ℕ) (f : Bool) (val : Option Value) → v.signal ≡ signal.Line (on_line.Irq n) → v.fall ≡ f → (new : Standings)
      → IsBehind p probed st (record { signal = signal.Line (on_line.Irq n); fall = f; value = val }) new
      → new.shown ≡ st.shown → new.strobed ≡ st.strobed → new.phases ≡ st.phases → new.addressers ≡ st.addressers → new.answerers ≡ st.answerers → new.fronts ≡ st.fronts
      → CoversRequests p (e ∷ h) (may_be new.requests) → Covers p pins (e ∷ h) new
  irq_rest n f val is fall new b a1 a2 a3 a4 a5 a6 requests =
      let w = irq_wire n is in
      record {
        levels = levels_now (signal.Line (on_line.Irq n)) f val is fall new b;
        shown = kept_shown new.shown a1 (λ y. absurd (cc (w, y)));
        strobed = kept_strobed new.strobed a2 (λ y. absurd (cc (w, y))) (λ y. absurd (cc (w, y)));
        phases = kept_phases new.phases a3 (λ n y. absurd (cc (w, y))) (λ y. absurd (cc (w, y))) (λ y. absurd (cc (w, y)));
        addressers = kept_drivers wire.AddressStrobe new.addressers st.addressers a4 covers.addressers (λ y. absurd (cc (w, y)));
        answerers = kept_drivers wire.Dtack new.answerers st.answerers a5 covers.answerers (λ y. absurd (cc (w, y)));
        fronts = kept_fronts new.fronts a6 (λ y. absurd (cc (w, y))) (λ y. absurd (cc (w, y))) (λ y. absurd (cc (w, y)));
        requests = requests;
      }

  pub interrupt_falls : (n : ℕ) (val : Option Value) → v.signal ≡ signal.Line (on_line.Irq n) → v.fall ≡ true → Step (signal.Line (on_line.Irq n)) true val
  interrupt_falls n val is fall = record {
    by = λ d a. among d (irq_fall_by version p pins h e v st.requests st.requests ok legal s covers.requests n d.boards a.boards is fall);
    covers = λ new b.
        irq_rest n true val is fall new b b.shown b.strobed b.phases b.addressers b.answerers b.fronts
        (rise_or_fall new b.requests);
  }
    where
      rise_or_fall : (new : Standings) → (boards : SlotSet) × AreOnLevel p n boards × Falls boards st.requests new.requests → CoversRequests p (e ∷ h) (may_be new.requests)
      rise_or_fall new (boards, held, falls) = fall_keeps version p pins h e v st.requests new.requests ok legal s covers.requests n boards held is fall falls

  pub interrupt_rises : (n : ℕ) (val : Option Value) → v.signal ≡ signal.Line (on_line.Irq n) → v.fall ≡ false → Step (signal.Line (on_line.Irq n)) false val
  interrupt_rises n val is fall = record {
    by = λ d a.
        let r = irq_rise_by version p pins h e v st.requests st.requests ok legal s covers.requests n a.boards.line a.boards.level is fall in
        by_board d r.slot r.driver ((a.boards.able r.slot r.positive r.near).1 r.fact);
    covers = λ new b.
        irq_rest n false val is fall new b b.shown b.strobed b.phases b.addressers b.answerers b.fronts
        (rises new b.requests);
  }
    where
      rises : (new : Standings) → (boards : SlotSet) × AreOnLevel p n boards × Rises boards st.requests new.requests → CoversRequests p (e ∷ h) (may_be new.requests)
      rises new (boards, held, rs) = rise_keeps version p pins h e v st.requests new.requests ok legal s covers.requests n boards held is fall rs

  -- BBSY*
  busy_wire : v.signal ≡ signal.Line on_line.Bbsy → e.wire ≡ wire.Bbsy
  busy_wire is = one_wire on_line.Bbsy wire.Bbsy e.wire (board_of p e.driver) refl refl (line_is p pins h e v s on_line.Bbsy is)

  busy_rest : (f : Bool) (val : Option Value) → v.signal ≡ signal.Line on_line.Bbsy → v.fall ≡ f → (new : Standings)
      → IsBehind p probed st (record { signal = signal.Line on_line.Bbsy; fall = f; value = val }) new
      → new.shown ≡ st.shown → new.strobed ≡ st.strobed → CoversGrants p (e ∷ h) new.phases → new.addressers ≡ st.addressers → new.answerers ≡ st.answerers → new.fronts ≡ st.fronts
      → new.requests ≡ st.requests → Covers p pins (e ∷ h) new
  busy_rest f val is fall new b a1 a2 phases a4 a5 a6 a7 =
      let w = busy_wire is in
      record {
        levels = levels_now (signal.Line on_line.Bbsy) f val is fall new b;
        shown = kept_shown new.shown a1 (λ y. absurd (cc (w, y)));
        strobed = kept_strobed new.strobed a2 (λ y. absurd (cc (w, y))) (λ y. absurd (cc (w, y)));
        phases = phases;
        addressers = kept_drivers wire.AddressStrobe new.addressers st.addressers a4 covers.addressers (λ y. absurd (cc (w, y)));
        answerers = kept_drivers wire.Dtack new.answerers st.answerers a5 covers.answerers (λ y. absurd (cc (w, y)));
        fronts = kept_fronts new.fronts a6 (λ y. absurd (cc (w, y))) (λ y. absurd (cc (w, y))) (λ y. absurd (cc (w, y)));
        requests = kept_requests new.requests a7 (λ y. absurd (cc (w, y))) (λ y. absurd (cc (w, y)));
      }

  pub busy_falls : (val : Option Value) → v.signal ≡ signal.Line on_line.Bbsy → v.fall ≡ true → Step (signal.Line on_line.Bbsy) true val
  busy_falls val is fall = record {
    by = λ d a.
        let t = taken_by version p ok pins h e v legal s (asked st.lines) asked_now st.phases covers.phases is fall in
        by_board d t.slot t.driver (a.boards t.slot ∙ t.fact);
    covers = λ new b.
        busy_rest true val is fall new b b.shown b.strobed
        (taken_covers version p ok pins h e v legal s (asked st.lines) asked_now st.phases covers.phases is fall new.phases b.phases)
        b.addressers b.answerers b.fronts b.requests;
  }

  pub busy_rises : (val : Option Value) → v.signal ≡ signal.Line on_line.Bbsy → v.fall ≡ false → Step (signal.Line on_line.Bbsy) false val
  busy_rises val is fall = record {
    by = λ d a.
        let t = released_by version p ok pins h e v legal s (asked st.lines) asked_now st.phases covers.phases is fall in
        by_board d t.slot t.driver (a.boards t.slot ∙ t.fact);
    covers = λ new b.
        busy_rest false val is fall new b b.shown b.strobed
        (released_covers version p ok pins h e v legal s (asked st.lines) asked_now st.phases covers.phases is fall new.phases b.phases)
        b.addressers b.answerers b.fronts b.requests;
  }

  -- DS*
  module _ (is : v.signal ≡ signal.Line on_line.DataStrobe) where
    data_wire : e.wire ≡ wire.DataStrobe
    data_wire = one_wire on_line.DataStrobe wire.DataStrobe e.wire (board_of p e.driver) refl refl (line_is p pins h e v s on_line.DataStrobe is)

    data_rest : (f : Bool) (val : Option Value) → v.fall ≡ f → (new : Standings) → IsBehind p probed st (record { signal = signal.Line on_line.DataStrobe; fall = f; value = val }) new
        → new.shown ≡ st.shown → KnowsStrobed (e ∷ h) new.strobed → new.phases ≡ st.phases → new.addressers ≡ st.addressers → new.answerers ≡ st.answerers → new.fronts ≡ st.fronts
        → new.requests ≡ st.requests → Covers p pins (e ∷ h) new
    data_rest f val fall new b a1 strobed a3 a4 a5 a6 a7 =
        let w = data_wire in
        record {
          levels = levels_now (signal.Line on_line.DataStrobe) f val is fall new b;
          shown = kept_shown new.shown a1 (λ y. absurd (cc (w, y)));
          strobed = strobed;
          phases = kept_phases new.phases a3 (λ n y. absurd (cc (w, y))) (λ y. absurd (cc (w, y))) (λ y. absurd (cc (w, y)));
          addressers = kept_drivers wire.AddressStrobe new.addressers st.addressers a4 covers.addressers (λ y. absurd (cc (w, y)));
          answerers = kept_drivers wire.Dtack new.answerers st.answerers a5 covers.answerers (λ y. absurd (cc (w, y)));
          fronts = kept_fronts new.fronts a6 (λ y. absurd (cc (w, y))) (λ y. absurd (cc (w, y))) (λ y. absurd (cc (w, y)));
          requests = kept_requests new.requests a7 (λ y. absurd (cc (w, y))) (λ y. absurd (cc (w, y)));
        }

    module _ (fall : v.fall ≡ true) where
      data_falls_from : (line p h wire.DataStrobe ≡ false) × (line p (e ∷ h) wire.DataStrobe ≡ true)
      data_falls_from = fell version p ok h e legal wire.DataStrobe (differs p ok pins h e v s (signal.Line on_line.DataStrobe) is) (way p ok pins h e v s true fall)

      strobing : IsBy e (λ t. (can_strobe st && has st.addressers t) ≡ true)
      strobing =
          fall_by version p ok h e legal wire.DataStrobe (λ t. (can_strobe st && has st.addressers t) ≡ true) data_falls_from.0 data_falls_from.1
          (λ t driver w f.
          let rule = (passed_as version p h e t wire.DataStrobe true legal driver w f).rule in
          let r1 = and_left _ (not (has_strobed h (Slot t))) rule in
          let r2 = and_left _ (not (drive h Controller wire.Berr)) r1 in
          let r3 = and_left _ (not (line p h wire.Dtack)) r2 in
          let own = and_left (drive h (Slot t) wire.AddressStrobe) (drive h (Slot t) wire.Addr) r3 in
          able (is_some st.shown) (is_left_low st on_line.Dtack) (is_left_low st on_line.Berr) st.strobed (has st.addressers t)
          (covers.shown.low (line_shows version p ok h legal.1 t wire.AddressStrobe own))
          (covers.levels.shared on_line.Dtack refl ∙ not_true (line p h wire.Dtack) (and_right _ (not (line p h wire.Dtack)) r2))
          (covers.levels.shared on_line.Berr refl ∙ not_true (drive h Controller wire.Berr) (and_right _ (not (drive h Controller wire.Berr)) r1))
          (covers.strobed t own ∙ not_true (has_strobed h (Slot t)) (and_right _ (not (has_strobed h (Slot t))) rule))
          (covers.addressers t own))
        where
          able : (a b c x y : Bool) → a ≡ true → b ≡ false → c ≡ false → x ≡ false → y ≡ true → ((a && not b && not c && not x) && y) ≡ true
          able a b c x y f g i j k = grind arith

      strobed_now : KnowsStrobed (e ∷ h) true
      strobed_now t low =
          let by = fall_by version p ok h e legal wire.DataStrobe (λ m. (is_fall_of (Slot m) wire.DataStrobe e ≡ true)
          × (drive h (Slot m) wire.AddressStrobe ≡ true)) data_falls_from.0 data_falls_from.1
          (λ m driver w f.
          let rule = (passed_as version p h e m wire.DataStrobe true legal driver w f).rule in
          (is_fall m driver w f, and_left (drive h (Slot m) wire.AddressStrobe) (drive h (Slot m) wire.Addr) (and_left _ _ (and_left _ _ (and_left _ _ rule))))) in
          let was : drive h (Slot t) wire.AddressStrobe ≡ true = sym (drive_stays h e (Slot t) wire.AddressStrobe
          (λ y. absurd (cc (data_wire, same_wire e.wire wire.AddressStrobe (and_left (is_same_wire e.wire wire.AddressStrobe) (is_same_driver e.driver (Slot t)) y))))) ∙ low in
          let one = strobe_alone p h (goes version p ok h legal.1) by.slot t by.fact.1 was in
          sym (subst (λ x. has_strobed (e ∷ h) (Slot x) ≡ true) one
          (now (is_fall_of (Slot by.slot) wire.AddressStrobe e) (is_fall_of (Slot by.slot) wire.DataStrobe e) (has_strobed h (Slot by.slot)) (other by.slot) by.fact.0))
        where
          now : (a b c : Bool) → a ≡ false → b ≡ true → (if a then false else (b || c)) ≡ true
          now a b c f g = grind arith

          is_fall : (m : ℕ) → is_same_driver e.driver (Slot m) ≡ true → e.wire ≡ wire.DataStrobe → e.fall ≡ true → is_fall_of (Slot m) wire.DataStrobe e ≡ true
          is_fall m driver w f =
              ap (λ x. x && (is_same_wire e.wire wire.DataStrobe && is_same_driver e.driver (Slot m))) f
              ∙ ap (λ x. is_same_wire x wire.DataStrobe && is_same_driver e.driver (Slot m)) w ∙ driver

          other : (m : ℕ) → is_fall_of (Slot m) wire.AddressStrobe e ≡ false
          other m = ap (λ x. e.fall && (is_same_wire x wire.AddressStrobe && is_same_driver e.driver (Slot m))) data_wire ∙ and_no e.fall false refl

      pub data_falls : (val : Option Value) → Step (signal.Line on_line.DataStrobe) true val
      data_falls val = record {
        by = λ d a. by_board d strobing.slot strobing.driver (a.boards strobing.slot ∙ strobing.fact);
        covers = λ new b. data_rest true val fall new b b.shown (subst (KnowsStrobed (e ∷ h)) (sym b.strobed) strobed_now) b.phases b.addressers b.answerers b.fronts b.requests;
      }

    pub data_rises : (val : Option Value) → v.fall ≡ false → Step (signal.Line on_line.DataStrobe) false val
    data_rises val fall = record {
      by = λ d a. by_board d ending.slot ending.driver (a.boards ending.slot ∙ ending.fact);
      covers = λ new b.
          data_rest false val fall new b b.shown
          (kept_strobed new.strobed b.strobed (λ y. absurd (cc (data_wire, y))) (λ y. way p ok pins h e v s false fall))
          b.phases b.addressers b.answerers b.fronts b.requests;
    }
      where
        levels : (line p h wire.DataStrobe ≡ true) × (line p (e ∷ h) wire.DataStrobe ≡ false)
        levels = rose version p ok h e legal wire.DataStrobe (differs p ok pins h e v s (signal.Line on_line.DataStrobe) is) (way p ok pins h e v s false fall)

        able : (a b c x y : Bool) → (x || y) ≡ true → a ≡ x → b ≡ y → c ≡ true → ((a || b) && c) ≡ true
        able a b c x y f g i j = grind arith

        ending : IsBy e (λ t. (is_answered st && has st.addressers t) ≡ true)
        ending =
            let by = rise_moves version p ok h e legal wire.DataStrobe levels.0 levels.1 in
            let rule = (passed_as version p h e by.slot wire.DataStrobe false legal by.fact.0 data_wire (way p ok pins h e v s false fall)).rule in
            record {
              slot = by.slot;
              positive = by.positive;
              near = by.near;
              driver = by.driver;
              fact = able (is_left_low st on_line.Dtack) (is_left_low st on_line.Berr) (has st.addressers by.slot) (line p h wire.Dtack) (drive h Controller wire.Berr) rule
                  (covers.levels.shared on_line.Dtack refl) (covers.levels.shared on_line.Berr refl)
                  (covers.addressers by.slot (data_within p h (goes version p ok h legal.1) by.slot by.fact.1).0);
            }

  -- BCLR*
  module _ (is : v.signal ≡ signal.Line on_line.Bclr) where
    clear_wire : e.wire ≡ wire.Bclr
    clear_wire = one_wire on_line.Bclr wire.Bclr e.wire (board_of p e.driver) refl refl (line_is p pins h e v s on_line.Bclr is)

    abbrev now : GrantPhases → GrantPhase → Bool → Bool
    now old q f = has_phase old q && are_alike (is_clear_due p (asked st.lines) q) f

    clear_rest : (f : Bool) (val : Option Value) → v.fall ≡ f → (new : Standings) → IsBehind p probed st (record { signal = signal.Line on_line.Bclr; fall = f; value = val }) new
        → new.shown ≡ st.shown → new.strobed ≡ st.strobed → HasExactly new.phases (λ q. now st.phases q f) → new.addressers ≡ st.addressers → new.answerers ≡ st.answerers → new.fronts ≡ st.fronts
        → new.requests ≡ st.requests → Covers p pins (e ∷ h) new
    clear_rest f val fall new b a1 a2 exact a4 a5 a6 a7 =
        let w = clear_wire in
        record {
          levels = levels_now (signal.Line on_line.Bclr) f val is fall new b;
          shown = kept_shown new.shown a1 (λ y. absurd (cc (w, y)));
          strobed = kept_strobed new.strobed a2 (λ y. absurd (cc (w, y))) (λ y. absurd (cc (w, y)));
          phases = cleared_covers version p ok pins h e v legal s st.phases covers.phases is (asked st.lines) asked_now new.phases
              (subst (λ g. HasExactly new.phases (λ q. now st.phases q g)) (sym fall) exact);
          addressers = kept_drivers wire.AddressStrobe new.addressers st.addressers a4 covers.addressers (λ y. absurd (cc (w, y)));
          answerers = kept_drivers wire.Dtack new.answerers st.answerers a5 covers.answerers (λ y. absurd (cc (w, y)));
          fronts = kept_fronts new.fronts a6 (λ y. absurd (cc (w, y))) (λ y. absurd (cc (w, y))) (λ y. absurd (cc (w, y)));
          requests = kept_requests new.requests a7 (λ y. absurd (cc (w, y))) (λ y. absurd (cc (w, y)));
        }

    clear_by : (f : Bool) → v.fall ≡ f → (can : Bool) → CanClear p (asked st.lines) f st.phases can → can ≡ true
    clear_by f fall can c =
        c.all covers.phases.phase (in_table version p ok h legal.1 covers.phases.phase covers.phases.is_in) covers.phases.member
        (ap (λ g. are_alike (is_clear_due p (asked st.lines) covers.phases.phase) g) (sym fall)
        ∙ cleared_able version p ok pins h e v legal s st.phases covers.phases is (asked st.lines) asked_now)

    clear_driver : e.driver ≡ Controller
    clear_driver = cleared_by version p ok pins h e v legal s is

    pub clear_falls : (val : Option Value) → v.fall ≡ true → Step (signal.Line on_line.Bclr) true val
    clear_falls val fall = record {
      by = λ d a. by_controller d clear_driver (clear_by true fall d.controller a.controller);
      covers = λ new b. clear_rest true val fall new b b.shown b.strobed b.phases b.addressers b.answerers b.fronts b.requests;
    }

    pub clear_rises : (val : Option Value) → v.fall ≡ false → Step (signal.Line on_line.Bclr) false val
    clear_rises val fall = record {
      by = λ d a. by_controller d clear_driver (clear_by false fall d.controller a.controller);
      covers = λ new b. clear_rest false val fall new b b.shown b.strobed b.phases b.addressers b.answerers b.fronts b.requests;
    }

  -- AS* rises
  module _ (is : v.signal ≡ signal.Line on_line.AddressStrobe) (fall : v.fall ≡ false) where
    strobe_wire : e.wire ≡ wire.AddressStrobe
    strobe_wire = one_wire on_line.AddressStrobe wire.AddressStrobe e.wire (board_of p e.driver) refl refl (line_is p pins h e v s on_line.AddressStrobe is)

    strobe_levels : (line p h wire.AddressStrobe ≡ true) × (line p (e ∷ h) wire.AddressStrobe ≡ false)
    strobe_levels = rose version p ok h e legal wire.AddressStrobe (differs p ok pins h e v s (signal.Line on_line.AddressStrobe) is) (way p ok pins h e v s false fall)

    -- the cycle is over
    over : Going p h → (t : ℕ) → drive h (Slot t) wire.AddressStrobe ≡ true → drive h (Slot t) wire.Addr ≡ false → (has_strobed h (Slot t) ≡ true)
        × ((u : ℕ) → drive h (Slot u) wire.DataStrobe ≡ false)
    over (Quiet, i) t on off = absurd (never (drive h (Slot t) wire.AddressStrobe) on (i.strobe_high t))
    over (Fresh m, i) t on off = absurd (never (drive h (Slot m) wire.Addr) i.group_on (subst (λ x. drive h (Slot x) wire.Addr ≡ false) (i.opened.strobe_only t on) off))
    over (Asking m g hi, i) t on off = absurd (never (drive h (Slot m) wire.Addr) i.group_on (subst (λ x. drive h (Slot x) wire.Addr ≡ false) (i.opened.strobe_only t on) off))
    over (Done m, i) t on off = (subst (λ x. has_strobed h (Slot x) ≡ true) (sym (i.opened.strobe_only t on)) i.was_strobed, i.dstrobe_high)

    strobe_ends : IsBy e (λ t. (can_end st && has st.addressers t) ≡ true)
    strobe_ends =
        let by = rise_moves version p ok h e legal wire.AddressStrobe strobe_levels.0 strobe_levels.1 in
        let rule = (passed_as version p h e by.slot wire.AddressStrobe false legal by.fact.0 strobe_wire (way p ok pins h e v s false fall)).rule in
        let o = over (goes version p ok h legal.1) by.slot by.fact.1 (not_true (drive h (Slot by.slot) wire.Addr) rule) in
        record {
          slot = by.slot;
          positive = by.positive;
          near = by.near;
          driver = by.driver;
          fact = able st.strobed (is_left_low st on_line.DataStrobe) (has st.addressers by.slot) (covers.strobed by.slot by.fact.1 ∙ o.0)
              (covers.levels.shared on_line.DataStrobe refl ∙ is_false (line p h wire.DataStrobe)
              (λ low. let t = driven_by version p ok h wire.DataStrobe low in never (drive h (Slot t.0) wire.DataStrobe) t.1 (o.1 t.0)))
              (covers.addressers by.slot by.fact.1);
        }
      where
        able : (a b c : Bool) → a ≡ true → b ≡ false → c ≡ true → ((a && not b) && c) ≡ true
        able a b c f g i = grind arith

    pub strobe_goes_up : (val : Option Value) → Step (signal.Line on_line.AddressStrobe) false val
    strobe_goes_up val = record {
      by = λ d a. by_board d strobe_ends.slot strobe_ends.driver (a.boards strobe_ends.slot ∙ strobe_ends.fact);
      covers = λ new b.
          let w = strobe_wire in
          record {
            levels = levels_now (signal.Line on_line.AddressStrobe) false val is fall new b;
            shown = record {
              high = λ off. b.shown;
              low = λ on. absurd (never (line p (e ∷ h) wire.AddressStrobe) on strobe_levels.1);
              shown = λ c on shows. absurd (never (line p (e ∷ h) wire.AddressStrobe) on strobe_levels.1);
            };
            strobed = λ t low. absurd (never (drive (e ∷ h) (Slot t) wire.AddressStrobe) low (silent_on version p ok (e ∷ h) legal t wire.AddressStrobe strobe_levels.1));
            phases = kept_phases new.phases b.phases (λ n y. absurd (cc (w, y))) (λ y. absurd (cc (w, y))) (λ y. absurd (cc (w, y)));
            addressers = rise_leaves version p ok h e legal wire.AddressStrobe new.addressers strobe_levels.1;
            answerers = kept_drivers wire.Dtack new.answerers st.answerers b.answerers covers.answerers (λ y. absurd (cc (w, y)));
            fronts = strobe_rises version p ok pins h e v legal s new.fronts is fall;
            requests = kept_requests new.requests b.requests (λ y. absurd (cc (w, y))) (λ y. absurd (cc (w, y)));
          };
    }

  -- DTACK* rises
  module _ (is : v.signal ≡ signal.Line on_line.Dtack) (fall : v.fall ≡ false) where
    answer_wire : e.wire ≡ wire.Dtack
    answer_wire = one_wire on_line.Dtack wire.Dtack e.wire (board_of p e.driver) refl refl (line_is p pins h e v s on_line.Dtack is)

    answer_levels : (line p h wire.Dtack ≡ true) × (line p (e ∷ h) wire.Dtack ≡ false)
    answer_levels = rose version p ok h e legal wire.Dtack (differs p ok pins h e v s (signal.Line on_line.Dtack) is) (way p ok pins h e v s false fall)

    answer_ends : IsBy e (λ t. (not (is_left_low st on_line.DataStrobe) && has st.answerers t) ≡ true)
    answer_ends =
        let by = rise_moves version p ok h e legal wire.Dtack answer_levels.0 answer_levels.1 in
        let rule = (passed_as version p h e by.slot wire.Dtack false legal by.fact.0 answer_wire (way p ok pins h e v s false fall)).rule in
        record {
          slot = by.slot;
          positive = by.positive;
          near = by.near;
          driver = by.driver;
          fact = both (not (is_left_low st on_line.DataStrobe)) (has st.answerers by.slot) (ap not (covers.levels.shared on_line.DataStrobe refl) ∙ rule) (covers.answerers by.slot by.fact.1);
        }

    pub answer_goes_up : (val : Option Value) → Step (signal.Line on_line.Dtack) false val
    answer_goes_up val = record {
      by = λ d a. by_board d answer_ends.slot answer_ends.driver (a.boards answer_ends.slot ∙ answer_ends.fact);
      covers = λ new b.
          let w = answer_wire in
          record {
            levels = levels_now (signal.Line on_line.Dtack) false val is fall new b;
            shown = kept_shown new.shown b.shown (λ y. absurd (cc (w, y)));
            strobed = kept_strobed new.strobed b.strobed (λ y. absurd (cc (w, y))) (λ y. absurd (cc (w, y)));
            phases = kept_phases new.phases b.phases (λ n y. absurd (cc (w, y))) (λ y. absurd (cc (w, y))) (λ y. absurd (cc (w, y)));
            addressers = kept_drivers wire.AddressStrobe new.addressers st.addressers b.addressers covers.addressers (λ y. absurd (cc (w, y)));
            answerers = rise_leaves version p ok h e legal wire.Dtack new.answerers answer_levels.1;
            fronts = kept_fronts new.fronts b.fronts (λ y. absurd (cc (w, y))) (λ y. absurd (cc (w, y))) (λ y. absurd (cc (w, y)));
            requests = kept_requests new.requests b.requests (λ y. absurd (cc (w, y))) (λ y. way p ok pins h e v s false fall);
          };
    }

  -- the edge passed its tests, by its parts
  pub passed_by : (d : Driver) (w : Wire) (f : Bool) → e.driver ≡ d → e.wire ≡ w → v.fall ≡ f → Passed version p h d w f e.value
  passed_by d w f driver is fall =
      subst (λ g. Passed version p h d w g e.value) (way p ok pins h e v s f fall)
      (subst (λ x. Passed version p h d x e.fall e.value) is
      (subst (λ x. Passed version p h x e.wire e.fall e.value) driver
      (all_passed version p h e.driver e.wire e.fall e.value legal.0)))

  -- BERR*
  module _ (is : v.signal ≡ signal.Line on_line.Berr) where
    abbrev pub error_now : (e.driver ≡ Controller) × (e.wire ≡ wire.Berr)
    error_now = error_is version p ok pins h e v legal s is

    pub error_rest : (f : Bool) (val : Option Value) → v.fall ≡ f → (new : Standings) → IsBehind p probed st (record { signal = signal.Line on_line.Berr; fall = f; value = val }) new
        → new.shown ≡ st.shown → new.strobed ≡ st.strobed → new.phases ≡ st.phases → new.addressers ≡ st.addressers → new.answerers ≡ st.answerers → CoversFronts p (e ∷ h) new.fronts
        → new.requests ≡ st.requests → Covers p pins (e ∷ h) new
    error_rest f val fall new b a1 a2 a3 a4 a5 fronts a7 =
        let w = error_now.1 in
        record {
          levels = levels_now (signal.Line on_line.Berr) f val is fall new b;
          shown = kept_shown new.shown a1 (λ y. absurd (cc (w, y)));
          strobed = kept_strobed new.strobed a2 (λ y. absurd (cc (w, y))) (λ y. absurd (cc (w, y)));
          phases = kept_phases new.phases a3 (λ n y. absurd (cc (w, y))) (λ y. absurd (cc (w, y))) (λ y. absurd (cc (w, y)));
          addressers = kept_drivers wire.AddressStrobe new.addressers st.addressers a4 covers.addressers (λ y. absurd (cc (w, y)));
          answerers = kept_drivers wire.Dtack new.answerers st.answerers a5 covers.answerers (λ y. absurd (cc (w, y)));
          fronts = fronts;
          requests = kept_requests new.requests a7 (λ y. absurd (cc (w, y))) (λ y. absurd (cc (w, y)));
        }

    pub error_rises : (val : Option Value) → v.fall ≡ false → Step (signal.Line on_line.Berr) false val
    error_rises val fall = record {
      by = λ d a. by_controller d error_now.0
          (a.controller ∙ ap not (covers.levels.shared on_line.DataStrobe refl) ∙ (passed_by Controller wire.Berr false error_now.0 error_now.1 fall).rule);
      covers = λ new b.
          error_rest false val fall new b b.shown b.strobed b.phases b.addressers b.answerers
          (kept_fronts new.fronts b.fronts (λ y. absurd (cc (error_now.1, y))) (λ y. absurd (cc (error_now.1, y))) (λ y. absurd (cc (error_now.1, y))))
          b.requests;
    }
