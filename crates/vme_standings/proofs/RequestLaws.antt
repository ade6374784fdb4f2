-- The laws of the interrupt requests, from what edges do to them and what the lines show.
use Rattle.std.proofs.Common.{◌≡◌, ◌∙◌, refl, sym, ap, subst, ℕ, Bool, true, false, List, ◌∷◌, ◌<◌, ◌≤◌, arith, ⊎_elim}
use Rattle.std.specs.Prelude.{◌==◌, ◌&&◌, not, Option, Some, None}
use Rattle.std.specs.Option.{option_map_or, option_and_then}
use Rattle.std.proofs.lemmas.Bool.Decides.{nat_tests}
use Rattle.vme_model.specs.declared.boards.Row.{Row}
use Rattle.vme_model.specs.declared.boards.InterrupterRow.{InterrupterRow}
use Rattle.vme_model.specs.declared.boards.IrqKind.{IrqKind}
use Rattle.vme_model.specs.declared.boards.IrqKind.TheVariants as kind
use Rattle.vme_model.specs.declared.signals.Version.{Version}
use Rattle.vme_model.specs.declared.signals.Driver.TheVariants.{Slot}
use Rattle.vme_model.specs.declared.signals.Wire.TheVariants.{Irq, Dtack}
use Rattle.vme_model.specs.declared.signals.Cycle.TheVariants.{Acknowledge, Access}
use Rattle.vme_model.specs.declared.signals.Edge.{Edge}
use Rattle.vme_model.specs.Signals.{is_same_driver}
use Rattle.vme_model.specs.Plan.{Plan, board, interrupts_on}
use Rattle.vme_model.specs.Accepted.{IsAccepted}
use Rattle.vme_model.specs.CycleSafety.{is_roak}
use Rattle.vme_model.specs.History.{drive, line, serves, shown}
use Rattle.vme_model.specs.Readings.{is_pending, readings}
use Rattle.vme_model.specs.Verdict.{IsLegal}
use Rattle.vme_model.proofs.Bools.{and_left, same_number}
use Rattle.vme_histories.proofs.AllowedBoards.{stands}
use Rattle.vme_bus.specs.declared.sets.SlotSet.{SlotSet}
use Rattle.vme_bus.specs.Sets.{has}
use Rattle.vme_captures.specs.declared.signals.Change.{Change}
use Rattle.vme_captures.specs.declared.signals.Line.TheVariants as on_line
use Rattle.vme_captures.specs.declared.signals.Pin.{Pin}
use Rattle.vme_captures.specs.declared.signals.Signal.TheVariants as signal
use Rattle.vme_captures.specs.Changes.{seen}
use Rattle.vme_standings.specs.declared.interrupters.Interrupters.TheVariants.{Roak, Rora}
use Rattle.vme_standings.specs.declared.requests.Request.{Request}
use Rattle.vme_standings.specs.declared.requests.Request.TheVariants.{High, Pending, Served}
use Rattle.vme_standings.specs.declared.requests.Requests.{Requests}
use Rattle.vme_standings.specs.Interrupters.{is_such, is_meant, is_meant_at}
use Rattle.vme_standings.specs.Requests.{request_of, is_interrupter, is_on_level, CoversRequests, HasHidden, AreLow, AreShared, AreOnLevel, IsBy, MayAnswer}
use Rattle.vme_standings.specs.RequestSets.{may_be, MovesUnseen, Falls, Rises, MayRise, Accessed, AnyAccessed, Acknowledged}
use Rattle.vme_standings.specs.Slots.{HasOther}
use Rattle.vme_standings.proofs.Tests.{never, both, or_left, or_true}
use Rattle.vme_standings.proofs.RequestSteps.{step, interrupts, same_driver}
use Rattle.vme_standings.proofs.RequestRows.{Anybody, MovedBy, irq_fell, irq_rose, dtack_fell, fall_covers, rise_covers, riser_served, others_high, answer_serves, answer_covers, accessed_slot, acknowledged_pending, pending_is, interrupts_there, one_slot}
use Rattle.vme_standings.proofs.SeenLines.{irq_falls, irq_rises, dtack_falls}

-- a board with an interrupter stands in a slot of the backplane
pub record InSlot (t : ℕ) : Type 0 where
  pub from : 0 < t
  pub near : t < 22

pub in_slot : (p : Plan) → IsAccepted p → (t : ℕ) (r : Row) → board p t ≡ Some r → InSlot t
in_slot p ok t r found =
    let s = stands p t r ok found in
    let one : 1 ≤ t = s.from_one in
    record { from = omega arith; near = s.near }

pub interrupter_in : (p : Plan) → IsAccepted p → (t : ℕ) → is_interrupter p t ≡ true → InSlot t
interrupter_in p ok t some = let on = interrupts p t some in in_slot p ok t on.row on.found

-- the hidden moves keep what was covered, and are in the sets then
module _ (p : Plan) (ok : IsAccepted p) (h : List Edge) (low shared : SlotSet) (old new : Requests) (m : MovesUnseen low shared old new)
    (lows : AreLow p h low) (shares : AreShared p shared) where
  pub hidden_covers : CoversRequests p h (may_be old) → CoversRequests p h (may_be new)
  hidden_covers covers t some =
      let i = interrupter_in p ok t some in
      by_request t i (request_of p h t) (covers t some)
    where
      by_request : (t : ℕ) → InSlot t → (q : Request) → may_be old t q ≡ true → may_be new t q ≡ true
      by_request t i High is = m.high t i.from i.near ∙ or_left _ _ is
      by_request t i Pending is = m.pending t i.from i.near ∙ or_left _ _ is
      by_request t i Served is = m.served t ∙ is

  pub hidden_has : HasHidden p h (may_be new)
  hidden_has = record {
    rises = λ n s t on other differs line served.
        let i = interrupter_in p ok s (interrupts_there p n s on) in
        m.high s i.from i.near ∙ or_true _ _ (both _ _ (sym (m.served s) ∙ served) (both _ _ (lows n s on ∙ line) (shares n s t on other differs)));
    falls = λ n s on line high.
        let i = interrupter_in p ok s (interrupts_there p n s on) in
        m.pending s i.from i.near ∙ or_true _ _ (both _ _ high (lows n s on ∙ line));
  }

-- who moved a line, in a slot
pub is_by : (e : Edge) (P : ℕ → Type 0) (s : ℕ) → InSlot s → is_same_driver e.driver (Slot s) ≡ true → P s → IsBy e P
is_by e P s i driver fact = record { slot = s; positive = i.from; near = i.near; driver = same_driver e.driver s driver; fact = fact }

module _ (version : Version) (p : Plan) (pins : List Pin) (h : List Edge) (e : Edge) (v : Change) (old new : Requests)
    (ok : IsAccepted p) (legal : IsLegal version p (e ∷ h)) (s : seen p pins h e ≡ Some v) (covers : CoversRequests p h (may_be old)) where
  -- an interrupt line falls
  module _ (n : ℕ) (boards : SlotSet) (held : AreOnLevel p n boards) (is : v.signal ≡ signal.Line (on_line.Irq n)) where
    on_it : (t : ℕ) → is_on_level p n t ≡ true → InSlot t
    on_it t on = interrupter_in p ok t (interrupts_there p n t on)

    pub fall_by : v.fall ≡ true → IsBy e (λ t. has boards t ≡ true)
    fall_by fall =
        let l = irq_falls p ok pins h e v s n is fall in
        let m = irq_fell p ok h e n l.0 l.1 in
        is_by e (λ t. has boards t ≡ true) m.slot (on_it m.slot m.fact) m.driver (held m.slot ∙ m.fact)

    pub fall_keeps : v.fall ≡ true → Falls boards old new → CoversRequests p (e ∷ h) (may_be new)
    fall_keeps fall f =
        let l = irq_falls p ok pins h e v s n is fall in
        fall_covers p h e (may_be old) (may_be new) covers ok n l.0 l.1
        (λ t some off q. let i = interrupter_in p ok t some in f.others t i.from i.near (held t ∙ off) q)
        (λ t on. let i = on_it t on in f.pending t i.from i.near (held t ∙ on))
        (λ a t other on differs.
        let i = on_it t on in
        f.shared t i.from i.near (held t ∙ on) (record { other = a; positive = (on_it a other).from; differs = differs; held = held a ∙ other }))

    -- an interrupt line rises
    pub rise_by : v.fall ≡ false → IsBy e (MayRise boards old)
    rise_by fall =
        let l = irq_rises p ok pins h e v s n is fall in
        let m = irq_rose p ok h e n l.0 l.1 in
        is_by e (MayRise boards old) m.slot (on_it m.slot m.fact) m.driver
        (record {
          board = held m.slot ∙ m.fact;
          served = riser_served p h e (may_be old) (may_be new) covers ok n l.0 l.1 version legal m.slot m.fact m.driver;
          others = λ t from near on differs. others_high p h e (may_be old) (may_be new) covers ok n l.0 l.1 m.slot t m.driver (sym (held t) ∙ on) differs;
        })

    pub rise_keeps : v.fall ≡ false → Rises boards old new → CoversRequests p (e ∷ h) (may_be new)
    rise_keeps fall r =
        let l = irq_rises p ok pins h e v s n is fall in
        rise_covers p h e (may_be old) (may_be new) covers ok n l.0 l.1
        (λ t some off q. let i = interrupter_in p ok t some in r.others t i.from i.near (held t ∙ off) q)
        (λ t on. let i = on_it t on in r.high t i.from i.near (held t ∙ on))

  -- DTACK* falls
  module _ (is : v.signal ≡ signal.Line on_line.Dtack) (fall : v.fall ≡ true) where
    abbrev lines : (line p h Dtack ≡ false) × (line p (e ∷ h) Dtack ≡ true)
    lines = dtack_falls p ok pins h e v s is fall

    abbrev who : MovedBy p e Dtack true Anybody
    who = dtack_fell p ok h e lines.0 lines.1

    -- an access is shown
    module _ (x : ℕ) (shows : shown p h ≡ Some (Access x)) where
      shown_slot : (a : ℕ) (o : Option Row) → board p a ≡ o → option_map_or (λ b. b.slot == x) o false ≡ true → (a ≡ x) × InSlot a
      shown_slot a None found on = absurd (never false on refl)
      shown_slot a (Some r) found on = (sym (stands p a r ok found).slot ∙ same_number r.slot x on, in_slot p ok a r found)

      there : (who.slot ≡ x) × InSlot who.slot
      there =
          shown_slot who.slot (board p who.slot) refl
          (accessed_slot p h e (may_be old) (may_be new) covers ok lines.0 lines.1 version legal who.slot x who.driver shows)

      pub access_by : IsBy e (λ t. t ≡ x)
      access_by = is_by e (λ t. t ≡ x) who.slot there.1 who.driver there.0

      rora_serves : (k : IrqKind) → not (is_roak k) ≡ serves k (Some (Access x))
      rora_serves kind.Roak = refl
      rora_serves kind.Rora = refl

      module _ (rora : SlotSet) (held : (t : ℕ) → has rora t ≡ is_meant_at Rora p t) where
        is_serving : (t : ℕ) (some : is_interrupter p t ≡ true) → has rora t ≡ serves (interrupts p t some).interrupter.kind (shown p h)
        is_serving t some =
            let on = interrupts p t some in
            held t
            ∙ ap (λ (o : Option Row). option_map_or (is_meant Rora) o false) on.found
            ∙ ap (λ (o : Option InterrupterRow). option_map_or (is_such Rora) o false) on.has
            ∙ rora_serves on.interrupter.kind
            ∙ ap (serves on.interrupter.kind) (sym shows)

        keeps_pending : (o r a : Bool) → o ≡ true → r ≡ false → (o && not (r && a)) ≡ true
        keeps_pending o r a e f = grind arith

        keeps_there : (o r a : Bool) → o ≡ true → a ≡ false → (o && not (r && a)) ≡ true
        keeps_there o r a e f = grind arith

        pub access_keeps : Accessed x rora old new → CoversRequests p (e ∷ h) (may_be new)
        access_keeps a =
            answer_covers p h e (may_be old) (may_be new) covers ok lines.0 lines.1 (has rora) is_serving
            (λ t some driver.
            let i = interrupter_in p ok t some in
            let here : (t == x) ≡ true = same_test t x (one_slot e.driver t who.slot driver who.driver ∙ there.0) in
            answer_serves (may_be old t) (may_be new t) (has rora t)
            (λ on. a.high t ∙ on)
            (λ off on. a.pending t i.from i.near ∙ keeps_pending _ _ _ on off)
            (λ r on. a.served t i.from i.near ∙ or_true _ _ (both _ _ on (both _ _ r here)))
            (λ on. a.served t i.from i.near ∙ or_left _ _ on)
            (request_of p h t) (covers t some))
            (λ t some off q on. by_request t (interrupter_in p ok t some) (other_test t (t == x) refl off) q on)
          where
            same_test : (m n : ℕ) → m ≡ n → (m == n) ≡ true
            same_test m n e = grind (arith, nat_tests)

            other_test : (t : ℕ) (b : Bool) → (t == x) ≡ b → is_same_driver e.driver (Slot t) ≡ false → (t == x) ≡ false
            other_test t false is off = is
            other_test t true is off =
                absurd (never (is_same_driver e.driver (Slot t)) (subst (λ y. is_same_driver e.driver (Slot y) ≡ true) (there.0 ∙ sym (same_number t x is)) who.driver) off)

            by_request : (t : ℕ) → InSlot t → (t == x) ≡ false → (q : Request) → may_be old t q ≡ true → may_be new t q ≡ true
            by_request t i off High on = a.high t ∙ on
            by_request t i off Pending on = a.pending t i.from i.near ∙ keeps_there _ _ _ on off
            by_request t i off Served on = a.served t i.from i.near ∙ or_left _ _ on

        pub any_access_keeps : AnyAccessed rora old new → CoversRequests p (e ∷ h) (may_be new)
        any_access_keeps a =
            answer_covers p h e (may_be old) (may_be new) covers ok lines.0 lines.1 (has rora) is_serving
            (λ t some driver.
            let i = interrupter_in p ok t some in
            answer_serves (may_be old t) (may_be new t) (has rora t)
            (λ on. a.high t ∙ on)
            (λ off on. a.pending t ∙ on)
            (λ r on. a.served t i.from i.near ∙ or_true _ _ (both _ _ on r))
            (λ on. a.served t i.from i.near ∙ or_left _ _ on)
            (request_of p h t) (covers t some))
            (λ t some off q on. by_request t (interrupter_in p ok t some) q on)
          where
            by_request : (t : ℕ) → InSlot t → (q : Request) → may_be old t q ≡ true → may_be new t q ≡ true
            by_request t i High on = a.high t ∙ on
            by_request t i Pending on = a.pending t ∙ on
            by_request t i Served on = a.served t i.from i.near ∙ or_left _ _ on

    -- an acknowledge is shown
    module _ (n : ℕ) (shows : shown p h ≡ Some (Acknowledge n)) where
      pend : is_pending (readings p h (Slot who.slot)) n ≡ true
      pend = acknowledged_pending p h e (may_be old) (may_be new) covers ok lines.0 lines.1 version legal who.slot n who.driver shows

      level_of : (a : ℕ) (o : Option Row) → board p a ≡ o → option_map_or (λ i. i.level == n) (option_and_then (λ b. b.interrupter) o) false ≡ true → is_on_level p n a ≡ true
      level_of a None found on = absurd (never false on refl)
      level_of a (Some r) found on = ap (λ (o : Option Row). option_map_or (interrupts_on n) o false) found ∙ on

      on_line_of_it : is_on_level p n who.slot ≡ true
      on_line_of_it = level_of who.slot (board p who.slot) refl (and_left _ (drive h (Slot who.slot) Irq) (and_left _ _ pend))

      pub acknowledge_by : IsBy e (MayAnswer p n (may_be old))
      acknowledge_by =
          let some = interrupts_there p n who.slot on_line_of_it in
          is_by e (MayAnswer p n (may_be old)) who.slot (interrupter_in p ok who.slot some) who.driver
          (record { on = on_line_of_it; pending = subst (λ q. may_be old who.slot q ≡ true) (pending_is p h who.slot n pend) (covers who.slot some) })

      roak_serves : (k : IrqKind) → is_roak k ≡ serves k (Some (Acknowledge n))
      roak_serves kind.Roak = refl
      roak_serves kind.Rora = refl

      module _ (roak answering : SlotSet) (held : (t : ℕ) → has roak t ≡ is_meant_at Roak p t) (among : (t : ℕ) → e.driver ≡ Slot t → has answering t ≡ true) where
        is_serving_it : (t : ℕ) (some : is_interrupter p t ≡ true) → has roak t ≡ serves (interrupts p t some).interrupter.kind (shown p h)
        is_serving_it t some =
            let on = interrupts p t some in
            held t
            ∙ ap (λ (o : Option Row). option_map_or (is_meant Roak) o false) on.found
            ∙ ap (λ (o : Option InterrupterRow). option_map_or (is_such Roak) o false) on.has
            ∙ roak_serves on.interrupter.kind
            ∙ ap (serves on.interrupter.kind) (sym shows)

        pub acknowledge_keeps : Acknowledged answering roak old new → CoversRequests p (e ∷ h) (may_be new)
        acknowledge_keeps a =
            answer_covers p h e (may_be old) (may_be new) covers ok lines.0 lines.1 (has roak) is_serving_it
            (λ t some driver.
            let same = one_slot e.driver who.slot t who.driver driver in
            let stood : request_of p h t ≡ Pending = subst (λ x. request_of p h x ≡ Pending) same (pending_is p h who.slot n pend) in
            let on : has answering t ≡ true = among t (same_driver e.driver t driver) in
            let may = subst (λ q. may_be old t q ≡ true) stood (covers t some) in
            subst (λ q. may_be new t (step Dtack true (has roak t) q) ≡ true) (sym stood)
            (own t (interrupter_in p ok t some) on may (has roak t) refl))
            (λ t some off q may. other t (interrupter_in p ok t some) off (has answering t) refl q may)
          where
            keeps : (o r : Bool) → o ≡ true → r ≡ false → (o && not r) ≡ true
            keeps o r e f = grind arith

            own : (t : ℕ) → InSlot t → has answering t ≡ true → may_be old t Pending ≡ true → (b : Bool) → has roak t ≡ b → may_be new t (step Dtack true b Pending) ≡ true
            own t i on may true r =
                ⊎_elim (λ (several : HasOther answering t). (a.several t i.from i.near on several).2 ∙ or_true _ _ r)
                (λ (alone : HasOther answering t → ⊥). (a.alone t i.from i.near on alone).2 ∙ r) (a.either t i.from i.near on)
            own t i on may false r =
                ⊎_elim (λ (several : HasOther answering t). (a.several t i.from i.near on several).1 ∙ may)
                (λ (alone : HasOther answering t → ⊥). (a.alone t i.from i.near on alone).1 ∙ keeps _ _ may r) (a.either t i.from i.near on)

            other_one : (t : ℕ) → is_same_driver e.driver (Slot t) ≡ false → HasOther answering t
            other_one t off = record {
              other = who.slot;
              positive = (interrupter_in p ok who.slot (interrupts_there p n who.slot on_line_of_it)).from;
              differs = λ same. never (is_same_driver e.driver (Slot t)) (subst (λ x. is_same_driver e.driver (Slot x) ≡ true) same who.driver) off;
              held = among who.slot (same_driver e.driver who.slot who.driver);
            }

            other : (t : ℕ) → InSlot t → is_same_driver e.driver (Slot t) ≡ false → (b : Bool) → has answering t ≡ b → (q : Request) → may_be old t q ≡ true → may_be new t q ≡ true
            other t i off false on q may = a.others t i.from i.near on q ∙ may
            other t i off true on High may = (a.several t i.from i.near on (other_one t off)).0 ∙ may
            other t i off true on Pending may = (a.several t i.from i.near on (other_one t off)).1 ∙ may
            other t i off true on Served may = (a.several t i.from i.near on (other_one t off)).2 ∙ or_left _ _ may
