-- The laws of the grants and BBSY* behind a change of a BR line, of AS* or of BCLR*.
use Rattle.std.proofs.Common.{◌≡◌, ◌∙◌, refl, sym, ap, subst, ℕ, Bool, true, false, List, ◌∷◌, ◌<◌, ◌≤◌, arith}
use Rattle.std.specs.Prelude.{◌==◌, ◌&&◌, ◌||◌, nat_le, nat_lt, not, Option, Some, None, option_map}
use Rattle.std.specs.List.{list_any, list_all}
use Rattle.std.specs.Option.{option_and_then, option_map_or}
use Rattle.std.proofs.lemmas.Bool.Decides.{nat_tests}
use Rattle.vme_model.specs.declared.boards.Row.{Row}
use Rattle.vme_model.specs.declared.boards.InterrupterRow.{InterrupterRow}
use Rattle.vme_model.specs.declared.boards.RequesterRow.{RequesterRow}
use Rattle.vme_model.specs.declared.sets.BusLevels.{BusLevels}
use Rattle.vme_model.specs.declared.signals.Version.{Version}
use Rattle.vme_model.specs.declared.signals.Driver.{Driver}
use Rattle.vme_model.specs.declared.signals.Driver.TheVariants.{Controller, Slot}
use Rattle.vme_model.specs.declared.signals.Wire.{Wire}
use Rattle.vme_model.specs.declared.signals.Wire.TheVariants as wire
use Rattle.vme_model.specs.declared.signals.Edge.{Edge}
use Rattle.vme_model.specs.Signals.{has_wire, is_two}
use Rattle.vme_model.specs.Sets.{has_bus_level}
use Rattle.vme_model.specs.Plan.{Plan, board, board_of, requests_on}
use Rattle.vme_model.specs.Accepted.{IsAccepted}
use Rattle.vme_model.specs.History.{drive, last_level as last_granted, line, request_line}
use Rattle.vme_model.specs.Readings.{readings}
use Rattle.vme_model.specs.Rules.{are_grants_high, bus_numbers, is_pri}
use Rattle.vme_model.specs.Verdict.{IsLegal}
use Rattle.vme_model.proofs.Bools.{and_left, and_right, is_false, not_true, same_number}
use Rattle.vme_model.proofs.AllowedEdges.{all_passed}
use Rattle.vme_model.proofs.Grants.{grants_high}
use Rattle.vme_histories.proofs.AllowedBoards.{at, at_head}
use Rattle.vme_bus.specs.declared.sets.SlotSet.{SlotSet}
use Rattle.vme_bus.specs.Sets.{has}
use Rattle.vme_captures.specs.declared.signals.Change.{Change}
use Rattle.vme_captures.specs.declared.signals.Line.TheVariants as on_line
use Rattle.vme_captures.specs.declared.signals.Pin.{Pin}
use Rattle.vme_captures.specs.declared.signals.Signal.TheVariants as signal
use Rattle.vme_captures.specs.Changes.{line_of, seen}
use Rattle.vme_standings.specs.declared.phases.GrantPhase.{GrantPhase}
use Rattle.vme_standings.specs.declared.phases.GrantPhase.TheVariants.{Idle, Granting, Held, Expired}
use Rattle.vme_standings.specs.declared.phases.GrantPhases.{GrantPhases}
use Rattle.vme_standings.specs.Cuts.{last_level}
use Rattle.vme_standings.specs.Driving.{AreAskers, AreWithdrawers}
use Rattle.vme_standings.specs.GrantChains.{is_of_level, requester_at}
use Rattle.vme_standings.specs.Grants.{IsBehindRequest, are_alike, is_asked_above, is_clear_due, is_outranked}
use Rattle.vme_standings.specs.LowSegments.{is_segment}
use Rattle.vme_standings.specs.Phases.{HasExactly, has_phase, is_held_by, is_in_table}
use Rattle.vme_standings.specs.Requests.{IsBy}
use Rattle.vme_standings.specs.InPhase.{AreAsked, CoversGrants, InPhase}
use Rattle.vme_standings.proofs.Tests.{both, never}
use Rattle.vme_standings.proofs.WhoDrives.{fall_by, fell, holds_bus, line_shows}
use Rattle.vme_standings.proofs.RequestSteps.{same_driver}
use Rattle.vme_standings.proofs.SeenLines.{differs, way}
use Rattle.vme_standings.proofs.SeenEdges.{line_is}
use Rattle.vme_standings.proofs.FrontSeen.{as_edge}
use Rattle.vme_standings.proofs.GrantPlaces.{from_one, near, segment_near}
use Rattle.vme_standings.proofs.PhaseSteps.{equal, few_some, last_few, other_in, run, upto}
use Rattle.vme_standings.proofs.GrantEdges.{four_same, is_few}
use Rattle.vme_standings.proofs.GrantTurns.{free_high}
use Rattle.vme_standings.proofs.GrantHidden.{holder_near, near_row}

-- the phase in which a bus is has a place in the table of phases
pub in_table : (version : Version) (p : Plan) → IsAccepted p → (h : List Edge) → IsLegal version p h → (q : GrantPhase) → InPhase p h q → is_in_table q ≡ true
in_table version p ok h legal (Idle c) i = is_few c (few_some c (last_granted h) i.granted (last_few version p h legal))
in_table version p ok h legal (Granting c last) i =
    both (nat_lt c 4) (nat_lt last 22) (is_few c (few_some c (last_granted h) i.granted (last_few version p h legal))) (near_row last (segment_near p ok c last i.named))
in_table version p ok h legal (Held k first) i =
    let l = holder_near p ok h k first i.granted in
    let to : first ≤ k = upto first k (and_right (option_map_or (λ q. is_segment p q.level first) (requester_at p k) false) (nat_le first k) i.named) in
    both (nat_lt k 22) (nat_lt first 22) (near_row k l) (near_row first (omega (arith, l, to)))
in_table version p ok h legal (Expired c first) i =
    both (nat_lt c 4) (nat_lt first 22) (is_few c (few_some c (last_granted h) i.granted (last_few version p h legal))) (near_row first (near p ok c first i.named))

below : (a b : ℕ) → nat_lt a b ≡ true → a < b
below a b e = grind (arith, nat_tests)

below_22 : (a : ℕ) → nat_lt a 22 ≡ true → a < 32
below_22 a e = let l = below a 22 e in omega (arith, l)

-- what a set has exactly
exact_at : (set : GrantPhases) (test : GrantPhase → Bool) → HasExactly set test → (q : GrantPhase) → is_in_table q ≡ true → has_phase set q ≡ test q
exact_at set test exact (Idle c) is = exact.idle c (below c 4 is)
exact_at set test exact (Granting c t) is = exact.granting c t (below c 4 (and_left (nat_lt c 4) (nat_lt t 22) is)) (below_22 t (and_right (nat_lt c 4) (nat_lt t 22) is))
exact_at set test exact (Held k t) is = exact.held k t (below k 22 (and_left (nat_lt k 22) (nat_lt t 22) is)) (below_22 t (and_right (nat_lt k 22) (nat_lt t 22) is))
exact_at set test exact (Expired c t) is = exact.expired c t (below c 4 (and_left (nat_lt c 4) (nat_lt t 22) is)) (below_22 t (and_right (nat_lt c 4) (nat_lt t 22) is))

-- a board that holds the bus does so in the phase
pub held_from : (p : Plan) (h : List Edge) (t : ℕ) → drive h (Slot t) wire.Bbsy ≡ true → (q : GrantPhase) → InPhase p h q → (first : ℕ) × (q ≡ Held t first)
held_from p h t holds (Idle c) i = absurd (never (drive h (Slot t) wire.Bbsy) holds (i.held t))
held_from p h t holds (Granting c last) i = absurd (never (drive h (Slot t) wire.Bbsy) holds (i.held t))
held_from p h t holds (Held k first) i = (first, ap (λ x. Held x first) (same_number k t (sym (i.held t) ∙ holds)))
held_from p h t holds (Expired c first) i = absurd (never (drive h (Slot t) wire.Bbsy) holds (i.held t))

-- an edge of none of the wires of the phases
pub keeps : (p : Plan) (h : List Edge) (e : Edge) (set : GrantPhases) → ((n : ℕ) → e.wire ≡ wire.Bg n → ⊥) → (e.wire ≡ wire.BgOut → ⊥) → (e.wire ≡ wire.Bbsy → ⊥) → CoversGrants p h set
    → CoversGrants p (e ∷ h) set
keeps p h e set a b c covers = record {
  phase = covers.phase;
  is_in = other_in p h covers.phase e.driver e.wire e.fall e.value a b c covers.is_in;
  member = covers.member;
}

-- a board of the level moves its BR line
pub record OfRequest (p : Plan) (e : Edge) (n : ℕ) : Type 0 where
  pub slot : ℕ
  pub driver : e.driver ≡ Slot slot
  pub wire : e.wire ≡ wire.Br
  pub member : is_of_level p n slot ≡ true

pub of_request : (p : Plan) (e : Edge) (n : ℕ) → line_of e.wire (board_of p e.driver) ≡ Some (on_line.Br n) → OfRequest p e n
of_request p e n is = by_wire e.driver e.wire refl refl is
  where
    by_requester : (t : ℕ) (r : Row) → board p t ≡ Some r → e.driver ≡ Slot t → e.wire ≡ wire.Br → (o : Option RequesterRow) → r.requester ≡ o
        → option_map (λ q. on_line.Br q.level) o ≡ Some (on_line.Br n) → OfRequest p e n
    by_requester t r found driver w None at x = absurd (cc)
    by_requester t r found driver w (Some q) at x =
        let same : q.level ≡ n = cc in
        record {
          slot = t;
          driver = driver;
          wire = w;
          member =
              ap (λ (o : Option Row). option_map_or (requests_on n) o false) found
              ∙ (ap (λ (o : Option RequesterRow). option_map_or (λ y. y.level == n) o false) at ∙ equal q.level n same);
        }

    by_board : (t : ℕ) (o : Option Row) → board p t ≡ o → e.driver ≡ Slot t → e.wire ≡ wire.Br → line_of wire.Br o ≡ Some (on_line.Br n) → OfRequest p e n
    by_board t None found driver w x = absurd (cc)
    by_board t (Some r) found driver w x = by_requester t r found driver w r.requester refl x

    no_interrupt : (o : Option InterrupterRow) → option_map (λ i. on_line.Irq i.level) o ≡ Some (on_line.Br n) → ⊥
    no_interrupt None x = absurd (cc)
    no_interrupt (Some i) x = absurd (cc)

    by_wire : (d : Driver) (w : Wire) → e.driver ≡ d → e.wire ≡ w → line_of w (board_of p d) ≡ Some (on_line.Br n) → OfRequest p e n
    by_wire Controller wire.Br driver w x = absurd (cc)
    by_wire (Slot t) wire.Br driver w x = by_board t (board p t) refl driver w x
    by_wire d wire.Irq driver w x = absurd (no_interrupt (option_and_then (λ (b : Row). b.interrupter) (board_of p d)) x)
    by_wire d w driver is x = absurd (cc)

-- BCLR* is moved by the controller
pub bclr_is : (d : Driver) (w : Wire) (r : Option Row) → has_wire d w ≡ true → line_of w r ≡ Some on_line.Bclr → (d ≡ Controller) × (w ≡ wire.Bclr)
bclr_is Controller wire.Bclr r has is = (refl, refl)
bclr_is d wire.Br r has is = absurd (no_request (option_and_then (λ (b : Row). b.requester) r) is)
  where
    no_request : (o : Option RequesterRow) → option_map (λ q. on_line.Br q.level) o ≡ Some on_line.Bclr → ⊥
    no_request None x = absurd (cc)
    no_request (Some q) x = absurd (cc)
bclr_is d wire.Irq r has is = absurd (no_interrupt (option_and_then (λ (b : Row). b.interrupter) r) is)
  where
    no_interrupt : (o : Option InterrupterRow) → option_map (λ i. on_line.Irq i.level) o ≡ Some on_line.Bclr → ⊥
    no_interrupt None x = absurd (cc)
    no_interrupt (Some i) x = absurd (cc)
bclr_is d w r has is = absurd (cc)

-- while BBSY* is high no bus clear is due
not_due : (a b c d : Bool) → b ≡ false → (((a && b) && c) && d) ≡ false
not_due a b c d off = grind arith

-- a holder is a board of the level last granted
holder_level : (p : Plan) (k first n : ℕ) → last_level p (Held k first) ≡ Some n → is_of_level p n k ≡ true
holder_level p k first n e = by_board (board p k) refl e
  where
    by_requester : (o : Option RequesterRow) → option_map (λ (q : RequesterRow). q.level) o ≡ Some n → option_map_or (λ (q : RequesterRow). q.level == n) o false ≡ true
    by_requester None x = absurd (cc)
    by_requester (Some q) x = let same : q.level ≡ n = cc in equal q.level n same

    by_board : (o : Option Row) → board p k ≡ o → option_map (λ (q : RequesterRow). q.level) (option_and_then (λ (r : Row). r.requester) o) ≡ Some n → option_map_or (requests_on n) o false ≡ true
    by_board None at x = absurd (cc)
    by_board (Some r) at x = by_requester r.requester x

pub cleared_by : (version : Version) (p : Plan) → IsAccepted p → (pins : List Pin) (h : List Edge) (e : Edge) (v : Change) → IsLegal version p (e ∷ h) → seen p pins h e ≡ Some v
    → v.signal ≡ signal.Line on_line.Bclr → e.driver ≡ Controller
cleared_by version p ok pins h e v legal s is =
    (bclr_is e.driver e.wire (board_of p e.driver) (all_passed version p h e.driver e.wire e.fall e.value legal.0).wire (line_is p pins h e v s on_line.Bclr is)).0

module _ (version : Version) (p : Plan) (ok : IsAccepted p) (pins : List Pin) (h : List Edge) (e : Edge) (v : Change) (legal : IsLegal version p (e ∷ h)) (s : seen p pins h e ≡ Some v)
    (old : GrantPhases) (covers : CoversGrants p h old) where
  legal_as : (x : Edge) → e ≡ x → IsLegal version p (x ∷ h)
  legal_as x same = subst (λ y. IsLegal version p (y ∷ h)) same legal

  abbrev in_rows : is_in_table covers.phase ≡ true
  in_rows = in_table version p ok h legal.1 covers.phase covers.is_in

  -- the phase stays, and the new set has it
  keeps_as : (w : Wire) → e.wire ≡ w → ((n : ℕ) → w ≡ wire.Bg n → ⊥) → (w ≡ wire.BgOut → ⊥) → (w ≡ wire.Bbsy → ⊥) → (new : GrantPhases) → has_phase new covers.phase ≡ true → CoversGrants p (e ∷ h) new
  keeps_as w is a b c new on = record {
    phase = covers.phase;
    is_in = other_in p h covers.phase e.driver e.wire e.fall e.value (λ n x. a n (sym is ∙ x)) (λ x. b (sym is ∙ x)) (λ x. c (sym is ∙ x)) covers.is_in;
    member = on;
  }

  -- a BR line
  module _ (n : ℕ) (is : v.signal ≡ signal.Line (on_line.Br n)) where
    abbrev who : OfRequest p e n
    who = of_request p e n (line_is p pins h e v s (on_line.Br n) is)

    abbrev t : ℕ
    t = who.slot

    by_who : (P : ℕ → Type 0) → P t → IsBy e P
    by_who P fact = record { slot = t; positive = from_one p ok n t who.member; near = near p ok n t who.member; driver = who.driver; fact = fact }

    abbrev at_request : (fall : Bool) → v.fall ≡ fall → e ≡ at t wire.Br fall e.value
    at_request fall f = as_edge e (Slot t) wire.Br fall who.driver who.wire (way p ok pins h e v s fall f)

    stays : (new : GrantPhases) → has_phase new covers.phase ≡ true → CoversGrants p (e ∷ h) new
    stays new on = keeps_as wire.Br who.wire (λ k x. absurd (cc)) (λ x. absurd (cc)) (λ x. absurd (cc)) new on

    module _ (fall : v.fall ≡ true) (boards : SlotSet) (askers : AreAskers p n old boards) where
      asks_free : drive h (Slot t) wire.Bbsy ≡ false
      asks_free = not_true (drive h (Slot t) wire.Bbsy) (all_passed version p h (Slot t) wire.Br true e.value (legal_as (at t wire.Br true e.value) (at_request true fall)).0).rule

      among : has boards t ≡ true
      among = askers.all t covers.phase (near p ok n t who.member) in_rows who.member covers.member (sym (covers.is_in.held t) ∙ asks_free)

      pub asked_by : IsBy e (λ b. has boards b ≡ true)
      asked_by = by_who (λ b. has boards b ≡ true) among

      asked_keeps : (new : GrantPhases) → IsBehindRequest boards old new → (q : GrantPhase) → InPhase p h q → is_in_table q ≡ true → has_phase old q ≡ true → has_phase new q ≡ true
      asked_keeps new behind (Idle c) i row on = behind.free.idle c (below c 4 row) ∙ on
      asked_keeps new behind (Granting c x) i row on =
          behind.free.granting c x (below c 4 (and_left (nat_lt c 4) (nat_lt x 22) row)) (below_22 x (and_right (nat_lt c 4) (nat_lt x 22) row)) ∙ on
      asked_keeps new behind (Expired c x) i row on =
          behind.free.expired c x (below c 4 (and_left (nat_lt c 4) (nat_lt x 22) row)) (below_22 x (and_right (nat_lt c 4) (nat_lt x 22) row)) ∙ on
      asked_keeps new behind (Held k x) i row on = by_test (has boards k) refl
        where
          turned : (a b : ℕ) → (a == b) ≡ false → (b == a) ≡ false
          turned a b off = grind (arith, nat_tests)

          by_test : (b : Bool) → has boards k ≡ b → has_phase new (Held k x) ≡ true
          by_test false off = behind.others k x on off
          by_test true held = let l = near p ok n t who.member in behind.several k x t on (omega (arith, l)) among (turned k t (sym (i.held t) ∙ asks_free))

      pub asked_covers : (new : GrantPhases) → IsBehindRequest boards old new → CoversGrants p (e ∷ h) new
      asked_covers new behind = stays new (asked_keeps new behind covers.phase covers.is_in in_rows covers.member)

    module _ (fall : v.fall ≡ false) where
      abbrev may_rise : (is_two version || drive h (Slot t) wire.Bbsy) ≡ true
      may_rise = (all_passed version p h (Slot t) wire.Br false e.value (legal_as (at t wire.Br false e.value) (at_request false fall)).0).rule

      holds_one : (two holds : Bool) → (two || holds) ≡ true → two ≡ false → holds ≡ true
      holds_one two holds e f = grind arith

      pub withdrawn_by : (boards : SlotSet) → AreWithdrawers p version n old boards → IsBy e (λ b. has boards b ≡ true)
      withdrawn_by boards from = by_who (λ b. has boards b ≡ true) (by_version (is_two version) refl)
        where
          by_version : (two : Bool) → is_two version ≡ two → has boards t ≡ true
          by_version true x = from.two x t ∙ who.member
          by_version false x =
              let f = held_from p h t (holds_one (is_two version) (drive h (Slot t) wire.Bbsy) may_rise x) covers.phase covers.is_in in
              from.all x t f.0 (near p ok n t who.member) who.member (subst (λ q. has_phase old q ≡ true) f.1 covers.member)

      pub withdrawn_covers : (new : GrantPhases) → HasExactly new (λ q. (is_two version || is_held_by (is_of_level p n) q) && has_phase old q) → CoversGrants p (e ∷ h) new
      withdrawn_covers new exact =
          stays new (exact_at new (λ q. (is_two version || is_held_by (is_of_level p n) q) && has_phase old q) exact covers.phase in_rows
          ∙ both (is_two version || is_held_by (is_of_level p n) covers.phase) (has_phase old covers.phase) (by_version (is_two version) refl) covers.member)
        where
          by_version : (two : Bool) → is_two version ≡ two → (two || is_held_by (is_of_level p n) covers.phase) ≡ true
          by_version true x = refl
          by_version false x =
              let f = held_from p h t (holds_one (is_two version) (drive h (Slot t) wire.Bbsy) may_rise x) covers.phase covers.is_in in
              ap (is_held_by (is_of_level p n)) f.1 ∙ who.member

  -- AS* falls
  module _ (is : v.signal ≡ signal.Line on_line.AddressStrobe) (fall : v.fall ≡ true) where
    abbrev falls : (line p h wire.AddressStrobe ≡ false) × (line p (e ∷ h) wire.AddressStrobe ≡ true)
    falls = fell version p ok h e legal wire.AddressStrobe (differs p ok pins h e v s (signal.Line on_line.AddressStrobe) is) (way p ok pins h e v s true fall)

    pub strobed_by : IsBy e (λ b. (first : ℕ) × (has_phase old (Held b first) ≡ true))
    strobed_by =
        fall_by version p ok h e legal wire.AddressStrobe (λ b. (first : ℕ) × (has_phase old (Held b first) ≡ true)) falls.0 falls.1
        (λ b driver w f.
        let x = held_from p h b (holds_bus version p ok pins h e legal b driver w f) covers.phase covers.is_in in
        (x.0, subst (λ q. has_phase old q ≡ true) x.1 covers.member))

    pub strobed_covers : (boards : SlotSet) → ((b : ℕ) → e.driver ≡ Slot b → has boards b ≡ true) → (new : GrantPhases) → HasExactly new (λ q. is_held_by (has boards) q && has_phase old q)
        → CoversGrants p (e ∷ h) new
    strobed_covers boards among new exact =
        (fall_by version p ok h e legal wire.AddressStrobe (λ b. CoversGrants p (e ∷ h) new) falls.0 falls.1
        (λ b driver w f.
        let x = held_from p h b (holds_bus version p ok pins h e legal b driver w f) covers.phase covers.is_in in
        keeps_as wire.AddressStrobe w (λ k y. absurd (cc)) (λ y. absurd (cc)) (λ y. absurd (cc)) new
        (exact_at new (λ q. is_held_by (has boards) q && has_phase old q) exact covers.phase in_rows
        ∙ both (is_held_by (has boards) covers.phase) (has_phase old covers.phase) (ap (is_held_by (has boards)) x.1 ∙ among b (same_driver e.driver b driver)) covers.member))).fact

  -- BCLR* falls or rises
  module _ (is : v.signal ≡ signal.Line on_line.Bclr) where
    abbrev pub clear_is : (e.driver ≡ Controller) × (e.wire ≡ wire.Bclr)
    clear_is = bclr_is e.driver e.wire (board_of p e.driver) (all_passed version p h e.driver e.wire e.fall e.value legal.0).wire (line_is p pins h e v s on_line.Bclr is)

    module _ (requests : BusLevels) (asked : AreAsked p h requests) where
      abbrev higher : Bool
      higher = list_any (λ m. nat_lt (last_granted h) m && request_line p h m) bus_numbers

      abbrev due_now : Bool
      due_now = ((is_pri p.arbiter && line p h wire.Bbsy) && are_grants_high (readings p h Controller)) && higher

      outranked : (k x : ℕ) → InPhase p h (Held k x) → is_outranked p requests k ≡ higher
      outranked k x i = by_requester (requester_at p k) refl i.granted
        where
          same_level : (a b : ℕ) → Some a ≡ Some b → a ≡ b
          same_level a b y = cc

          by_requester : (o : Option RequesterRow) → requester_at p k ≡ o → option_map (λ q. q.level) o ≡ Some (last_granted h) → option_map_or (λ q. is_asked_above q.level requests) o false ≡ higher
          by_requester None at y = absurd (cc)
          by_requester (Some q) at y =
              ap (λ l. is_asked_above l requests) (same_level q.level (last_granted h) y)
              ∙ four_same (λ m. nat_lt (last_granted h) m && has_bus_level requests m) (λ m. nat_lt (last_granted h) m && request_line p h m)
              (λ m few. ap (λ b. nat_lt (last_granted h) m && b) (asked m few))

      -- while a board holds the bus its first low segment is the controller's exactly if that is low
      head_high : (k x : ℕ) → InPhase p h (Held k x) → 0 < x → (m : ℕ) → m < 4 → drive h Controller (wire.Bg m) ≡ false
      head_high k x i from m few = run p ok h (Held k x) i m 0 few refl ∙ beyond (is_of_level p m k) x k from
        where
          beyond : (on : Bool) (x k : ℕ) → 0 < x → (on && (nat_le x 0 && nat_lt 0 k)) ≡ false
          beyond on x k from = grind (arith, nat_tests)

      all_high : (g : ℕ → Bool) → ((m : ℕ) → m < 4 → g m ≡ false) → list_all (λ m. not (g m)) bus_numbers ≡ true
      all_high g off = cc (off 0 (omega arith), off 1 (omega arith), off 2 (omega arith), off 3 (omega arith))

      held_low : (k x : ℕ) → InPhase p h (Held k x) → line p h wire.Bbsy ≡ true
      held_low k x i = line_shows version p ok h legal.1 k wire.Bbsy (i.held k ∙ equal k k refl)

      -- it is due in the phase exactly if it is due on the bus
      due : (q : GrantPhase) → InPhase p h q → is_clear_due p requests q ≡ due_now
      due (Idle c) i = sym (not_due (is_pri p.arbiter) (line p h wire.Bbsy) _ higher (free_high version p ok h legal.1 (λ b. i.held b)))
      due (Granting c x) i = sym (not_due (is_pri p.arbiter) (line p h wire.Bbsy) _ higher (free_high version p ok h legal.1 (λ b. i.held b)))
      due (Expired c x) i = sym (not_due (is_pri p.arbiter) (line p h wire.Bbsy) _ higher (free_high version p ok h legal.1 (λ b. i.held b)))
      due (Held k x) i = by_first (nat_lt 0 x) refl
        where
          with_high : (a b c d o : Bool) → b ≡ true → c ≡ true → o ≡ d → ((a && o) && true) ≡ (((a && b) && c) && d)
          with_high a b c d o x y z = grind arith

          with_low : (a b c d o : Bool) → c ≡ false → ((a && o) && false) ≡ (((a && b) && c) && d)
          with_low a b c d o x = grind arith

          head_low : nat_lt 0 x ≡ false → are_grants_high (readings p h Controller) ≡ false
          head_low none = is_false (are_grants_high (readings p h Controller)) (λ all. low_one all)
            where
              inside : (on : Bool) (x k : ℕ) → nat_lt 0 x ≡ false → 0 < k → on ≡ true → (on && (nat_le x 0 && nat_lt 0 k)) ≡ true
              inside on x k off from member = grind (arith, nat_tests)

              low_one : are_grants_high (readings p h Controller) ≡ true → ⊥
              low_one all =
                  let few = last_few version p h legal.1 in
                  let member = holder_level p k x (last_granted h) i.granted in
                  never (drive h Controller (wire.Bg (last_granted h)))
                  (run p ok h (Held k x) i (last_granted h) 0 few refl ∙ inside (is_of_level p (last_granted h) k) x k none (from_one p ok (last_granted h) k member) member)
                  (grants_high (λ m. drive h Controller (wire.Bg m)) all (last_granted h) few)

          by_first : (b : Bool) → nat_lt 0 x ≡ b → ((is_pri p.arbiter && is_outranked p requests k) && b) ≡ due_now
          by_first true from =
              with_high (is_pri p.arbiter) (line p h wire.Bbsy) (are_grants_high (readings p h Controller)) higher (is_outranked p requests k) (held_low k x i)
              (all_high (λ m. drive h Controller (wire.Bg m)) (head_high k x i (below 0 x from))) (outranked k x i)
          by_first false none = with_low (is_pri p.arbiter) (line p h wire.Bbsy) (are_grants_high (readings p h Controller)) higher (is_outranked p requests k) (head_low none)

      alike : (d : Bool) → is_clear_due p requests covers.phase ≡ d → (fall : Bool) → d ≡ fall → are_alike (is_clear_due p requests covers.phase) fall ≡ true
      alike d is fall same = twice (is_clear_due p requests covers.phase) fall (is ∙ same)
        where
          twice : (a b : Bool) → a ≡ b → are_alike a b ≡ true
          twice true b x = sym x
          twice false b x = off b (sym x)
            where
              off : (b : Bool) → b ≡ false → not b ≡ true
              off b y = grind arith

      due_fall : (fall : Bool) → v.fall ≡ fall → due_now ≡ fall
      due_fall true f =
          (all_passed version p h Controller wire.Bclr true e.value (legal_as (at_head wire.Bclr true e.value)
          (as_edge e Controller wire.Bclr true clear_is.0 clear_is.1 (way p ok pins h e v s true f))).0).rule
      due_fall false f =
          not_true due_now (all_passed version p h Controller wire.Bclr false e.value (legal_as (at_head wire.Bclr false e.value)
          (as_edge e Controller wire.Bclr false clear_is.0 clear_is.1 (way p ok pins h e v s false f))).0).rule

      pub cleared_able : are_alike (is_clear_due p requests covers.phase) v.fall ≡ true
      cleared_able = alike due_now (due covers.phase covers.is_in) v.fall (due_fall v.fall refl)

      pub cleared_covers : (new : GrantPhases) → HasExactly new (λ q. has_phase old q && are_alike (is_clear_due p requests q) v.fall) → CoversGrants p (e ∷ h) new
      cleared_covers new exact =
          keeps_as wire.Bclr clear_is.1 (λ k y. absurd (cc)) (λ y. absurd (cc)) (λ y. absurd (cc)) new
          (exact_at new (λ q. has_phase old q && are_alike (is_clear_due p requests q) v.fall) exact covers.phase in_rows
          ∙ both (has_phase old covers.phase) _ covers.member cleared_able)
