-- What is known of the whole bus covers it behind a fall of DTACK*, and whoever made it is among
-- those who may have.
use Rattle.std.proofs.Common.{◌≡◌, ◌∙◌, refl, sym, ap, subst, ℕ, Bool, true, false, List, [], ◌∷◌, ◌<◌, arith}
use Rattle.std.specs.Prelude.{◌==◌, ◌&&◌, find, if◌then◌else◌, not, Option, Some, None, is_some, option_map}
use Rattle.std.specs.Option.{option_and_then, option_map_or}
use Rattle.std.proofs.lemmas.Bool.Decides.{nat_tests}
use Rattle.vme_model.specs.declared.boards.InterrupterRow.{InterrupterRow}
use Rattle.vme_model.specs.declared.boards.Row.{Row}
use Rattle.vme_model.specs.declared.deliveries.Delivery.{Delivery}
use Rattle.vme_model.specs.declared.signals.Version.{Version}
use Rattle.vme_model.specs.declared.signals.Cycle.{Cycle}
use Rattle.vme_model.specs.declared.signals.Cycle.TheVariants as cycle
use Rattle.vme_model.specs.declared.signals.Driver.TheVariants.{Controller, Slot}
use Rattle.vme_model.specs.declared.signals.Wire.TheVariants as wire
use Rattle.vme_model.specs.declared.signals.Edge.{Edge}
use Rattle.vme_model.specs.Signals.{is_edge_of, is_same_driver, is_same_wire}
use Rattle.vme_model.specs.Plan.{Plan, board, board_of}
use Rattle.vme_model.specs.Accepted.{IsAccepted}
use Rattle.vme_model.specs.CycleSafety.{OneAnswers}
use Rattle.vme_model.specs.Deliveries.{delivered_by}
use Rattle.vme_model.specs.History.{addressing, drive, line, shown}
use Rattle.vme_model.specs.Verdict.{IsLegal}
use Rattle.vme_model.proofs.Bools.{and_left, same_number}
use Rattle.vme_model.proofs.Safety.{legal_is_orderly}
use Rattle.vme_histories.proofs.Drivers.{standing}
use Rattle.vme_histories.proofs.Others.{same_wire}
use Rattle.vme_bus.specs.declared.sets.SlotSet.{SlotSet}
use Rattle.vme_bus.specs.Sets.{has}
use Rattle.vme_captures.specs.declared.signals.Change.{Change}
use Rattle.vme_captures.specs.declared.signals.Line.TheVariants as on_line
use Rattle.vme_captures.specs.declared.signals.Pin.{Pin}
use Rattle.vme_captures.specs.declared.signals.Signal.{Signal}
use Rattle.vme_captures.specs.declared.signals.Signal.TheVariants as signal
use Rattle.vme_captures.specs.declared.signals.Value.{Value}
use Rattle.vme_captures.specs.declared.signals.Value.TheVariants as value
use Rattle.vme_captures.specs.Changes.{are_values_of, change_of, differ, is_low, seen, signal_of, value_at}
use Rattle.vme_standings.specs.declared.fronts.Fronts.{Fronts}
use Rattle.vme_standings.specs.declared.interrupters.Interrupters.TheVariants.{WithStatus}
use Rattle.vme_standings.specs.declared.requests.Request.TheVariants.{Pending}
use Rattle.vme_standings.specs.declared.requests.Requests.{Requests}
use Rattle.vme_standings.specs.declared.standings.Probed.{Probed}
use Rattle.vme_standings.specs.declared.standings.Shown.{Shown}
use Rattle.vme_standings.specs.declared.standings.Shown.TheVariants as known
use Rattle.vme_standings.specs.declared.standings.Standings.{Standings}
use Rattle.vme_standings.specs.Behind.{AreRoak, AreRora, FrontsAnswered, RequestsAnswered, ServedByAccess, ServedIn}
use Rattle.vme_standings.specs.Boards.{only_board}
use Rattle.vme_standings.specs.Covers.{Covers, says}
use Rattle.vme_standings.specs.Driving.{AnswersShown, AreAnswerers, is_left_low, may_answer_with}
use Rattle.vme_standings.specs.FrontCovers.{CoversFronts}
use Rattle.vme_standings.specs.Fronts.{Reaches, input_place, is_reached}
use Rattle.vme_standings.specs.Interrupters.{is_meant, is_meant_at, is_such}
use Rattle.vme_standings.specs.Requests.{CoversRequests, IsBy, MayAnswer, is_on_level}
use Rattle.vme_standings.specs.RequestSets.{Accessed, Acknowledged, AnyAccessed, may_be}
use Rattle.vme_standings.proofs.FrontSeen.{answer_by, answer_keeps}
use Rattle.vme_standings.proofs.JoinedCycle.{IsAsked, is_asked}
use Rattle.vme_standings.proofs.JoinedLevels.{drive_stays}
use Rattle.vme_standings.proofs.JoinedSeen.{Step, by_board, kept_drivers, kept_fronts, kept_phases, kept_shown, kept_strobed, levels_now}
use Rattle.vme_standings.proofs.RequestLaws.{access_by, access_keeps, acknowledge_by, acknowledge_keeps, any_access_keeps}
use Rattle.vme_standings.proofs.RequestRows.{Anybody, MovedBy, dtack_fell, passed_as}
use Rattle.vme_standings.proofs.RequestSteps.{same_driver}
use Rattle.vme_standings.proofs.SeenLines.{dtack_falls}
use Rattle.vme_standings.proofs.Tests.{both, is_false}
use Rattle.vme_standings.proofs.WhoDrives.{fall_leaves}

-- what is seen with an edge
pub seen_value : (p : Plan) (pins : List Pin) (h : List Edge) (e : Edge) (v : Change) → seen p pins h e ≡ Some v → v.value ≡ value_at p h e e.wire e.fall
seen_value p pins h e v s = by_signal (signal_of p pins e) s
  where
    same : (a b : Change) → Some a ≡ Some b → a ≡ b
    same a b x = cc

    by_level : (x : Signal) (b : Bool) → (if b then Some (record { signal = x; fall = e.fall; value = value_at p h e e.wire e.fall }) else None) ≡ Some v → v.value ≡ value_at p h e e.wire e.fall
    by_level x true is = sym (ap (λ (c : Change). c.value) (same (record { signal = x; fall = e.fall; value = value_at p h e e.wire e.fall }) v is))
    by_level x false is = absurd (cc)

    by_signal : (o : Option Signal) → option_and_then (change_of p h e) o ≡ Some v → v.value ≡ value_at p h e e.wire e.fall
    by_signal None x = absurd (cc)
    by_signal (Some x) is = by_level x (differ (is_low p h x) (is_low p (e ∷ h) x)) is

no_value : (val : Option Value) → are_values_of val None ≡ true → val ≡ None
no_value None e = refl
no_value (Some u) e = absurd (cc)

-- the byte that was captured is that of the board
status_of : (n : ℕ) (o : Option ℕ) (r : Option Row) (b : ℕ) → are_values_of (Some (value.Status b))
    (option_map (λ (d : Delivery). value.Status d.status) (delivered_by (Some (cycle.Acknowledge n)) o r)) ≡ true → option_map_or (is_meant (WithStatus b)) r false ≡ true
status_of n None r b e = absurd (cc)
status_of n (Some to) None b e = absurd (cc)
status_of n (Some to) (Some row) b e = by_interrupter row.interrupter e
  where
    flipped : (a b : ℕ) → (a == b) ≡ true → (b == a) ≡ true
    flipped a b x = grind (arith, nat_tests)

    by_interrupter : (i : Option InterrupterRow) → are_values_of (Some (value.Status b)) (option_map (λ (d : Delivery). value.Status d.status)
        (option_map (λ x. record { handler = to; level = n; answered_by = row.slot; status = x.status }) i)) ≡ true → option_map_or (is_such (WithStatus b)) i false ≡ true
    by_interrupter None x = absurd (cc)
    by_interrupter (Some i) x = flipped b i.status x

module _ (probed : Probed) (p : Plan) (ok : IsAccepted p) (pins : List Pin) (h : List Edge) (e : Edge) (v : Change) (legal : IsLegal probed.version p (e ∷ h)) (s : seen p pins h e ≡ Some v)
    (st : Standings) (covers : Covers p pins h st)
    (is : v.signal ≡ signal.Line on_line.Dtack) (fall : v.fall ≡ true) (val : Option Value) (agree : are_values_of val v.value ≡ true) where
  abbrev version : Version
  version = probed.version

  levels : (line p h wire.Dtack ≡ false) × (line p (e ∷ h) wire.Dtack ≡ true)
  levels = dtack_falls p ok pins h e v s is fall

  who : MovedBy p e wire.Dtack true Anybody
  who = dtack_fell p ok h e levels.0 levels.1

  driver_is : e.driver ≡ Slot who.slot
  driver_is = same_driver e.driver who.slot who.driver

  strobed : line p h wire.DataStrobe ≡ true
  strobed =
      let rule = (passed_as version p h e who.slot wire.Dtack true legal who.driver who.wire who.way).rule in
      and_left (line p h wire.DataStrobe) (line p h wire.AddressStrobe) (and_left (line p h wire.DataStrobe && line p h wire.AddressStrobe) _ rule)

  asked : IsAsked version p ok h
  asked = is_asked version p ok h legal.1 strobed

  told : option_map_or (says asked.cycle) st.shown false ≡ true
  told = covers.shown.shown asked.cycle asked.strobe asked.shows

  data_low : is_left_low st on_line.DataStrobe ≡ true
  data_low = covers.levels.shared on_line.DataStrobe refl ∙ strobed

  delivered : v.value ≡ option_map (λ (d : Delivery). value.Status d.status) (delivered_by (shown p h) (addressing p h) (board_of p e.driver))
  delivered =
      seen_value p pins h e v s
      ∙ ap (λ w. value_at p h e w e.fall) who.wire
      ∙ ap (λ f. value_at p h e wire.Dtack f) who.way
      ∙ ap (λ b. option_map (λ (d : Delivery). value.Status d.status) (if b then delivered_by (shown p h) (addressing p h) (board_of p e.driver) else None))
      (ap (λ f. f && is_same_wire e.wire wire.Dtack) who.way ∙ ap (λ w. is_same_wire w wire.Dtack) who.wire)

  one_of : (t : ℕ) → e.driver ≡ Slot t → who.slot ≡ t
  one_of t x = same who.slot t (sym driver_is ∙ x)
    where
      same : (a b : ℕ) → Slot a ≡ Slot b → a ≡ b
      same a b y = cc

  board_there : is_some (board p who.slot) ≡ true
  board_there = ap is_some (standing version p h who.slot e legal.0 driver_is).found

  -- nobody else answers
  error_high : is_left_low st on_line.Berr ≡ false
  error_high = covers.levels.shared on_line.Berr refl ∙ is_false (drive h Controller wire.Berr) (λ low. clash (one Controller (Slot who.slot) (stays low) own))
    where
      one : OneAnswers (e ∷ h)
      one = (legal_is_orderly version p (e ∷ h) ok legal).one_answer.0

      clash : Controller ≡ Slot who.slot → ⊥
      clash x = cc

      unlike : is_edge_of Controller wire.Berr e ≡ true → ⊥
      unlike x = clash_wire (sym who.wire ∙ same_wire e.wire wire.Berr (and_left (is_same_wire e.wire wire.Berr) (is_same_driver e.driver Controller) x))
        where
          clash_wire : wire.Dtack ≡ wire.Berr → ⊥
          clash_wire y = cc

      stays : drive h Controller wire.Berr ≡ true → drive (e ∷ h) Controller wire.Berr ≡ true
      stays low = drive_stays h e Controller wire.Berr unlike ∙ low

      own : drive (e ∷ h) (Slot who.slot) wire.Dtack ≡ true
      own =
          ap (λ b. if b then e.fall else drive h (Slot who.slot) wire.Dtack)
          (both (is_same_wire e.wire wire.Dtack) (is_same_driver e.driver (Slot who.slot)) (ap (λ w. is_same_wire w wire.Dtack) who.wire) who.driver)
          ∙ who.way

  -- an access
  module _ (x : ℕ) (shows : shown p h ≡ Some (cycle.Access x)) where
    by_access : IsBy e (λ t. t ≡ x)
    by_access = access_by version p pins h e v st.requests st.requests ok legal s covers.requests is fall x shows

    slot_is : who.slot ≡ x
    slot_is = one_of by_access.slot by_access.driver ∙ by_access.fact

    no_byte : is_some val ≡ false
    no_byte =
        ap is_some (no_value val (subst (λ o. are_values_of val o ≡ true)
        (delivered ∙ ap (λ o. option_map (λ (d : Delivery). value.Status d.status) (delivered_by o (addressing p h) (board_of p e.driver))) shows) agree))

    equal : (a b : ℕ) → a ≡ b → (a == b) ≡ true
    equal a b y = grind (arith, nat_tests)

    known_slot : (a b c d : Bool) → a ≡ true → b ≡ false → c ≡ true → d ≡ true → ((a && not b) && (c && d)) ≡ true
    known_slot a b c d f g i j = grind arith

    any_slot : (a b c d : Bool) → a ≡ true → b ≡ false → c ≡ false → d ≡ true → ((a && not b) && (not c && d)) ≡ true
    any_slot a b c d f g i j = grind arith

    access_near : x < 22
    access_near = let l = by_access.near in subst (λ y. y < 22) by_access.fact l

    served_at : (new : Requests) → ServedByAccess p x st.requests new → CoversRequests p (e ∷ h) (may_be new)
    served_at new b = near (b.near access_near)
      where
        near : (rora : SlotSet) × AreRora p rora × Accessed x rora st.requests new → CoversRequests p (e ∷ h) (may_be new)
        near (rora, held, a) = access_keeps version p pins h e v st.requests new ok legal s covers.requests is fall x shows rora held a

    served_any : (new : Requests) → (rora : SlotSet) × AreRora p rora × AnyAccessed rora st.requests new → CoversRequests p (e ∷ h) (may_be new)
    served_any new (rora, held, a) = any_access_keeps version p pins h e v st.requests new ok legal s covers.requests is fall x shows rora held a

    -- a board that is alone is the one that answers
    alone_is : (r : Row) → p.rows ≡ r ∷ [] → r.slot ≡ x
    alone_is r rows = by_test (r.slot == who.slot) refl (subst (λ l. is_some (find (λ z. z.slot == who.slot) l) ≡ true) rows board_there)
      where
        by_test : (b : Bool) → (r.slot == who.slot) ≡ b → is_some (if b then Some r else None) ≡ true → r.slot ≡ x
        by_test true same y = same_number r.slot who.slot same ∙ slot_is
        by_test false off y = absurd (cc)

    served_only : (new : Requests) → (rows : List Row) → p.rows ≡ rows → ServedIn p (only_board rows) st.requests new → CoversRequests p (e ∷ h) (may_be new)
    served_only new [] same b = served_any new b
    served_only new (r ∷ []) same b = served_at new (subst (λ t. ServedByAccess p t st.requests new) (alone_is r same) b)
    served_only new (r ∷ q ∷ rows) same b = served_any new b

  -- an acknowledge
  module _ (n : ℕ) (shows : shown p h ≡ Some (cycle.Acknowledge n)) where
    may : IsBy e (MayAnswer p n (may_be st.requests))
    may = acknowledge_by version p pins h e v st.requests st.requests ok legal s covers.requests is fall n shows

    at_front : IsBy e (λ t. is_reached st.fronts p t ≡ true)
    at_front = answer_by version p ok pins h e v legal s is fall n shows st.fronts covers.fronts

    with_byte : (o : Option Value) → val ≡ o → may_answer_with p n o who.slot ≡ true
    with_byte None same = subst (λ t. is_on_level p n t ≡ true) (sym (one_of may.slot may.driver)) may.fact.on
    with_byte (Some (value.Status b)) same =
        both (is_on_level p n who.slot) (is_meant_at (WithStatus b) p who.slot)
        (subst (λ t. is_on_level p n t ≡ true) (sym (one_of may.slot may.driver)) may.fact.on)
        (status_of n (addressing p h) (board p who.slot) b
        (subst (λ u. are_values_of u (option_map (λ (d : Delivery). value.Status d.status) (delivered_by (Some (cycle.Acknowledge n)) (addressing p h) (board p who.slot))) ≡ true) same
        (subst (λ o. are_values_of val o ≡ true)
        (delivered
        ∙ ap (λ o. option_map (λ (d : Delivery). value.Status d.status) (delivered_by o (addressing p h) (board_of p e.driver))) shows
        ∙ ap (λ d. option_map (λ (x : Delivery). value.Status x.status) (delivered_by (Some (cycle.Acknowledge n)) (addressing p h) (board_of p d))) driver_is)
        agree)))
    with_byte (Some (value.Shown u)) same = absurd (not_shown (delivered_by (shown p h) (addressing p h) (board_of p e.driver))
        (subst (λ z. are_values_of z (option_map (λ (d : Delivery). value.Status d.status) (delivered_by (shown p h) (addressing p h) (board_of p e.driver))) ≡ true) same
        (subst (λ o. are_values_of val o ≡ true) delivered agree)))
      where
        not_shown : (o : Option Delivery) → are_values_of (Some (value.Shown u)) (option_map (λ (d : Delivery). value.Status d.status) o) ≡ true → ⊥
        not_shown None y = cc
        not_shown (Some d) y = cc
    with_byte (Some value.Access) same = absurd (not_access (delivered_by (shown p h) (addressing p h) (board_of p e.driver))
        (subst (λ z. are_values_of z (option_map (λ (d : Delivery). value.Status d.status) (delivered_by (shown p h) (addressing p h) (board_of p e.driver))) ≡ true) same
        (subst (λ o. are_values_of val o ≡ true) delivered agree)))
      where
        not_access : (o : Option Delivery) → are_values_of (Some value.Access) (option_map (λ (d : Delivery). value.Status d.status) o) ≡ true → ⊥
        not_access None y = cc
        not_access (Some d) y = cc

    four : (a b c d : Bool) → a ≡ true → b ≡ true → c ≡ true → d ≡ true → (a && (b && (c && d))) ≡ true
    four a b c d f g i j = grind arith

    answering : (boards : SlotSet) → AnswersShown p st val (Some (known.Acknowledge n)) boards → has boards who.slot ≡ true
    answering boards them =
        let same = one_of may.slot may.driver in
        them who.slot
        ∙ four (is_left_low st on_line.DataStrobe) (may_be st.requests who.slot Pending) (is_reached st.fronts p who.slot) (may_answer_with p n val who.slot) data_low
        (subst (λ t. may_be st.requests t Pending ≡ true) (sym same) may.fact.pending)
        (subst (λ t. is_reached st.fronts p t ≡ true) (sym (one_of at_front.slot at_front.driver)) at_front.fact)
        (with_byte val refl)

    fronts_after : (new : Fronts) → ((boards : SlotSet) → AreAnswerers p st val boards → has boards who.slot ≡ true) → (boards : SlotSet) × AreAnswerers p st val boards × Reaches p boards new
        → CoversFronts p (e ∷ h) new
    fronts_after new held (boards, them, reach) =
        answer_keeps version p ok pins h e v legal s is fall n shows st.fronts covers.fronts new
        (λ t driver.
        let same = one_of may.slot may.driver in
        subst (λ u. has new.ends (input_place p u) ≡ true) (one_of t driver)
        (reach.all who.slot (subst (λ u. 0 < u) (sym same) may.positive) (subst (λ u. u < 22) (sym same) may.near) (held boards them)))

    requests_after : (new : Requests) → ((boards : SlotSet) → AreAnswerers p st val boards → has boards who.slot ≡ true) → (boards roak : SlotSet) × AreAnswerers p st val boards × AreRoak p roak
        × Acknowledged boards roak st.requests new → CoversRequests p (e ∷ h) (may_be new)
    requests_after new held (boards, roak, them, are, a) =
        acknowledge_keeps version p pins h e v st.requests new ok legal s covers.requests is fall n shows roak boards are
        (λ t driver. subst (λ u. has boards u ≡ true) (one_of t driver) (held boards them)) a

  -- by what is known to be shown
  answers : (k : Option Shown) (c : Cycle) → shown p h ≡ Some c → option_map_or (says c) k false ≡ true → (boards : SlotSet) → AnswersShown p st val k boards → has boards who.slot ≡ true
  answers (Some (known.Acknowledge m)) (cycle.Acknowledge n) shows on boards them =
      answering n shows boards (subst (λ x. AnswersShown p st val (Some (known.Acknowledge x)) boards) (same_number m n on) them)
  answers (Some (known.Access (Some t))) (cycle.Access x) shows on boards them =
      them who.slot
      ∙ known_slot x shows (is_left_low st on_line.DataStrobe) (is_some val) (who.slot == t) (is_some (board p who.slot)) data_low (no_byte x shows)
      (equal x shows who.slot t (slot_is x shows ∙ sym (same_number t x on))) board_there
  answers (Some (known.Access None)) (cycle.Access x) shows on boards them =
      them who.slot ∙ any_slot x shows (is_left_low st on_line.DataStrobe) (is_some val) (is_left_low st on_line.Berr) (is_some (board p who.slot)) data_low (no_byte x shows) error_high board_there
  answers (Some (known.Acknowledge m)) (cycle.Access x) shows on boards them = absurd (cc)
  answers (Some (known.Access (Some t))) (cycle.Acknowledge n) shows on boards them = absurd (cc)
  answers (Some (known.Access None)) (cycle.Acknowledge n) shows on boards them = absurd (cc)
  answers None c shows on boards them = absurd (cc)

  held : (boards : SlotSet) → AreAnswerers p st val boards → has boards who.slot ≡ true
  held boards them = answers st.shown asked.cycle asked.shows told boards them

  fronts_kept : (new : Fronts) → new ≡ st.fronts → CoversFronts p (e ∷ h) new
  fronts_kept new same =
      let w = who.wire in
      kept_fronts probed p ok pins h e v legal s st covers new same (λ y. absurd (cc (w, y))) (λ y. absurd (cc (w, y))) (λ y. absurd (cc (w, y)))

  fronts_now : (new : Fronts) (k : Option Shown) (c : Cycle) → shown p h ≡ Some c → option_map_or (says c) k false ≡ true → FrontsAnswered p st val k new → CoversFronts p (e ∷ h) new
  fronts_now new (Some (known.Acknowledge m)) (cycle.Acknowledge n) shows on f = fronts_after n shows new held f
  fronts_now new (Some (known.Access t)) (cycle.Access x) shows on f = fronts_kept new f
  fronts_now new (Some (known.Acknowledge m)) (cycle.Access x) shows on f = absurd (cc)
  fronts_now new (Some (known.Access (Some t))) (cycle.Acknowledge n) shows on f = absurd (cc)
  fronts_now new (Some (known.Access None)) (cycle.Acknowledge n) shows on f = absurd (cc)
  fronts_now new None c shows on f = absurd (cc)

  requests_now : (new : Requests) (k : Option Shown) (c : Cycle) → shown p h ≡ Some c → option_map_or (says c) k false ≡ true → RequestsAnswered p st val k new → CoversRequests p (e ∷ h) (may_be new)
  requests_now new (Some (known.Acknowledge m)) (cycle.Acknowledge n) shows on r = requests_after n shows new held r
  requests_now new (Some (known.Access (Some t))) (cycle.Access x) shows on r = served_at x shows new (subst (λ y. ServedByAccess p y st.requests new) (same_number t x on) r)
  requests_now new (Some (known.Access None)) (cycle.Access x) shows on r = served_only x shows new p.rows refl r
  requests_now new (Some (known.Acknowledge m)) (cycle.Access x) shows on r = absurd (cc)
  requests_now new (Some (known.Access (Some t))) (cycle.Acknowledge n) shows on r = absurd (cc)
  requests_now new (Some (known.Access None)) (cycle.Acknowledge n) shows on r = absurd (cc)
  requests_now new None c shows on r = absurd (cc)

  pub answer_falls : Step probed p ok pins h e v legal s st covers (signal.Line on_line.Dtack) true val
  answer_falls = record {
    by = λ d a. by_board probed p ok pins h e v legal s st covers d who.slot driver_is (held d.boards a.boards);
    covers = λ new b.
        let w = who.wire in
        record {
          levels = levels_now probed p ok pins h e v legal s st covers (signal.Line on_line.Dtack) true val is fall new b;
          shown = kept_shown probed p ok pins h e v legal s st covers new.shown b.shown (λ y. absurd (cc (w, y)));
          strobed = kept_strobed probed p ok pins h e v legal s st covers new.strobed b.strobed (λ y. absurd (cc (w, y))) (λ y. absurd (cc (w, y)));
          phases = kept_phases probed p ok pins h e v legal s st covers new.phases b.phases (λ n y. absurd (cc (w, y))) (λ y. absurd (cc (w, y))) (λ y. absurd (cc (w, y)));
          addressers = kept_drivers probed p ok pins h e v legal s st covers wire.AddressStrobe new.addressers st.addressers b.addressers covers.addressers (λ y. absurd (cc (w, y)));
          answerers = fall_leaves version p ok h e legal wire.Dtack new.answerers levels.0 (λ t driver. subst (λ u. has new.answerers u ≡ true) (one_of t driver) (held new.answerers b.answerers));
          fronts = fronts_now new.fronts st.shown asked.cycle asked.shows told b.fronts;
          requests = requests_now new.requests st.shown asked.cycle asked.shows told b.requests;
        };
  }
