-- What the requests are covered by behind an edge that the interrupt lines or DTACK* show.
use Rattle.std.proofs.Common.{◌≡◌, ◌≢◌, ◌∙◌, refl, sym, ap, subst, ℕ, Bool, true, false, List, ◌∷◌, ◌<◌, ◌≤◌, arith}
use Rattle.std.specs.Prelude.{◌==◌, ◌&&◌, not, if◌then◌else◌, is_some, Option, Some, None}
use Rattle.std.specs.Option.{option_map_or, IfSome}
use Rattle.std.proofs.lemmas.Bool.Decides.{nat_tests}
use Rattle.vme_model.specs.declared.boards.Row.{Row}
use Rattle.vme_model.specs.declared.boards.InterrupterRow.{InterrupterRow}
use Rattle.vme_model.specs.declared.signals.Version.{Version}
use Rattle.vme_model.specs.declared.signals.Driver.{Driver}
use Rattle.vme_model.specs.declared.signals.Driver.TheVariants.{Slot}
use Rattle.vme_model.specs.declared.signals.Wire.{Wire}
use Rattle.vme_model.specs.declared.signals.Wire.TheVariants.{Irq, Dtack}
use Rattle.vme_model.specs.declared.signals.Cycle.TheVariants.{Acknowledge, Access}
use Rattle.vme_model.specs.declared.signals.Edge.{Edge}
use Rattle.vme_model.specs.Signals.{is_same_driver, is_same_wire, is_edge_of, is_level}
use Rattle.vme_model.specs.Plan.{Plan, board, interrupts_on}
use Rattle.vme_model.specs.Accepted.{IsAccepted}
use Rattle.vme_model.specs.History.{drive, line, interrupt_line, pulls_line, pulls_interrupt, serves, shown}
use Rattle.vme_model.specs.Guards.{holds}
use Rattle.vme_model.specs.Readings.{is_served, is_pending, readings}
use Rattle.vme_model.specs.Rules.{answer_guard}
use Rattle.vme_model.specs.Verdict.{IsLegal}
use Rattle.vme_model.proofs.Bools.{and_left, and_right, is_false, never, not_true, same_number}
use Rattle.vme_model.proofs.AllowedEdges.{Passed, all_passed}
use Rattle.vme_model.proofs.Members.{found_row, some_row}
use Rattle.vme_model.proofs.Ranges.{IsRowInRange, in_range}
use Rattle.vme_standings.specs.declared.requests.Request.{Request}
use Rattle.vme_standings.specs.declared.requests.Request.TheVariants.{High, Pending, Served}
use Rattle.vme_standings.specs.Requests.{request_by, request_of, is_interrupter, is_on_level, CoversRequests}
use Rattle.vme_standings.proofs.RequestSteps.{step, interrupts, after, same_driver}
use Rattle.vme_histories.proofs.Others.{same_wire}
use Rattle.vme_histories.proofs.AllowedBoards.{stands}

both : (a b : Bool) → a ≡ true → b ≡ true → (a && b) ≡ true
both a b e f = grind arith

-- a board that is on the line of a level
pub record OnLevel (p : Plan) (n t : ℕ) : Type 0 where
  pub row : Row
  pub found : board p t ≡ Some row
  pub on : interrupts_on n row ≡ true

on_level_of : (p : Plan) (n t : ℕ) (o : Option Row) → board p t ≡ o → option_map_or (interrupts_on n) o false ≡ true → OnLevel p n t
on_level_of p n t None is on = absurd (cc)
on_level_of p n t (Some r) is on = record { row = r; found = is; on = on }

pub on_level_is : (p : Plan) (n t : ℕ) → is_on_level p n t ≡ true → OnLevel p n t
on_level_is p n t on = on_level_of p n t (board p t) refl on

some_of : (o : Option InterrupterRow) (n : ℕ) → option_map_or (λ i. i.level == n) o false ≡ true → is_some o ≡ true
some_of None n on = absurd (cc)
some_of (Some i) n on = refl

pub interrupts_there : (p : Plan) (n t : ℕ) → is_on_level p n t ≡ true → is_interrupter p t ≡ true
interrupts_there p n t on =
    let b = on_level_is p n t on in
    ap (λ (o : Option Row). option_map_or (λ r. is_some r.interrupter) o false) b.found ∙ some_of b.row.interrupter n b.on

-- a level is below 8
level_of : (o : Option InterrupterRow) (n : ℕ) → option_map_or (λ i. i.level == n) o false ≡ true → option_map_or (λ i. i.level) o 0 ≡ n
level_of None n on = absurd (cc)
level_of (Some i) n on = same_number i.level n on

pub level_near : (p : Plan) → IsAccepted p → (n s : ℕ) → is_on_level p n s ≡ true → n < 8
level_near p ok n s on =
    let b = on_level_is p n s on in
    subst (λ x. x < 8) (level_of b.row.interrupter n b.on) (stands p s b.row ok b.found).interrupt

-- and it is a level
pub level_is : (p : Plan) (s : ℕ) (r : Row) (i : InterrupterRow) → IsAccepted p → board p s ≡ Some r → r.interrupter ≡ Some i → is_level i.level ≡ true
level_is p s r i ok found has =
    let f = found_row (IsRowInRange p) p.rows s r (in_range p ok).rows found in
    within i.level (subst (λ (o : Option InterrupterRow). IfSome o (λ j. (1 ≤ j.level) × (j.level < 8))) has f.fact.irq)
  where
    within : (n : ℕ) → (1 ≤ n) × (n < 8) → is_level n ≡ true
    within n l = let low : 1 ≤ n = l.0 in let high : n < 8 = l.1 in grind (arith, nat_tests)

-- on a high line nobody pulls
pub silent : (p : Plan) → IsAccepted p → (g : List Edge) (n t : ℕ) → interrupt_line p g n ≡ false → is_on_level p n t ≡ true → drive g (Slot t) Irq ≡ false
silent p ok g n t high on =
    let b = on_level_is p n t on in
    let f = found_row (IsRowInRange p) p.rows t b.row (in_range p ok).rows b.found in
    is_false (drive g (Slot t) Irq)
    (λ low. never (sym high ∙ f.passes (pulls_interrupt g n) (both _ _ b.on (subst (λ x. drive g (Slot x) Irq ≡ true) (sym f.slot) low))))

-- who moved a line
pub record MovedBy (p : Plan) (e : Edge) (w : Wire) (fall : Bool) (P : ℕ → Type 0) : Type 0 where
  pub slot : ℕ
  pub driver : is_same_driver e.driver (Slot slot) ≡ true
  pub wire : e.wire ≡ w
  pub way : e.fall ≡ fall
  pub fact : P slot

turned_by : (b low way fall : Bool) → (if b then way else low) ≡ fall → low ≡ not fall → (b ≡ true) × (way ≡ fall)
turned_by true low way fall e f = (refl, e)
turned_by false low way true e f = absurd (never (sym f ∙ e))
turned_by false low way false e f = absurd (never (sym e ∙ f))

pub mover : (p : Plan) (h : List Edge) (e : Edge) (w : Wire) (fall : Bool) (P : ℕ → Type 0) (s : ℕ) → drive h (Slot s) w ≡ not fall → drive (e ∷ h) (Slot s) w ≡ fall → P s → MovedBy p e w fall P
mover p h e w fall P s before behind fact =
    let t = turned_by (is_edge_of (Slot s) w e) (drive h (Slot s) w) e.fall fall behind before in
    record {
      slot = s;
      driver = and_right (is_same_wire e.wire w) (is_same_driver e.driver (Slot s)) t.0;
      wire = same_wire e.wire w (and_left (is_same_wire e.wire w) (is_same_driver e.driver (Slot s)) t.0);
      way = t.1;
      fact = fact;
    }

abbrev pub IsOn : Plan → ℕ → ℕ → Type 0
IsOn p n s = is_on_level p n s ≡ true

-- an interrupt line that fell, or rose, was moved by a board that has it
pub irq_fell : (p : Plan) → IsAccepted p → (h : List Edge) (e : Edge) (n : ℕ) → interrupt_line p h n ≡ false → interrupt_line p (e ∷ h) n ≡ true → MovedBy p e Irq true (IsOn p n)
irq_fell p ok h e n high low =
    let f = some_row (pulls_interrupt (e ∷ h) n) (IsRowInRange p) p.rows (in_range p ok).rows low in
    let on : is_on_level p n f.0.slot ≡ true = ap (λ (o : Option Row). option_map_or (interrupts_on n) o false) f.2.alone ∙ and_left (interrupts_on n f.0) (drive (e ∷ h) (Slot f.0.slot) Irq) f.1 in
    mover p h e Irq true (IsOn p n) f.0.slot (silent p ok h n f.0.slot high on) (and_right (interrupts_on n f.0) (drive (e ∷ h) (Slot f.0.slot) Irq) f.1) on

pub irq_rose : (p : Plan) → IsAccepted p → (h : List Edge) (e : Edge) (n : ℕ) → interrupt_line p h n ≡ true → interrupt_line p (e ∷ h) n ≡ false → MovedBy p e Irq false (IsOn p n)
irq_rose p ok h e n low high =
    let f = some_row (pulls_interrupt h n) (IsRowInRange p) p.rows (in_range p ok).rows low in
    let on : is_on_level p n f.0.slot ≡ true = ap (λ (o : Option Row). option_map_or (interrupts_on n) o false) f.2.alone ∙ and_left (interrupts_on n f.0) (drive h (Slot f.0.slot) Irq) f.1 in
    mover p h e Irq false (IsOn p n) f.0.slot (and_right (interrupts_on n f.0) (drive h (Slot f.0.slot) Irq) f.1) (silent p ok (e ∷ h) n f.0.slot high on) on

abbrev pub Anybody : ℕ → Type 0
Anybody s = Unit {0}

silent_dtack : (p : Plan) → IsAccepted p → (g : List Edge) (r : Row) → board p r.slot ≡ Some r → line p g Dtack ≡ false → drive g (Slot r.slot) Dtack ≡ false
silent_dtack p ok g r found high =
    let f = found_row (IsRowInRange p) p.rows r.slot r (in_range p ok).rows found in
    is_false (drive g (Slot r.slot) Dtack) (λ l. never (sym high ∙ f.passes (pulls_line g Dtack) l))

pub dtack_fell : (p : Plan) → IsAccepted p → (h : List Edge) (e : Edge) → line p h Dtack ≡ false → line p (e ∷ h) Dtack ≡ true → MovedBy p e Dtack true Anybody
dtack_fell p ok h e high low =
    let f = some_row (pulls_line (e ∷ h) Dtack) (IsRowInRange p) p.rows (in_range p ok).rows low in
    mover p h e Dtack true Anybody f.0.slot (silent_dtack p ok h f.0 f.2.alone high) f.1 tt

pub dtack_rose : (p : Plan) → IsAccepted p → (h : List Edge) (e : Edge) → line p h Dtack ≡ true → line p (e ∷ h) Dtack ≡ false → MovedBy p e Dtack false Anybody
dtack_rose p ok h e low high =
    let f = some_row (pulls_line h Dtack) (IsRowInRange p) p.rows (in_range p ok).rows low in
    mover p h e Dtack false Anybody f.0.slot f.1 (silent_dtack p ok (e ∷ h) f.0 f.2.alone high) tt

-- the edge passed its tests, as that of this board
pub passed_as : (version : Version) (p : Plan) (h : List Edge) (e : Edge) (s : ℕ) (w : Wire) (fall : Bool) → IsLegal version p (e ∷ h) → is_same_driver e.driver (Slot s) ≡ true → e.wire ≡ w
    → e.fall ≡ fall
    → Passed version p h (Slot s) w fall e.value
passed_as version p h e s w fall legal driver wire way =
    subst (λ f. Passed version p h (Slot s) w f e.value) way
    (subst (λ x. Passed version p h (Slot s) x e.fall e.value) wire
    (subst (λ d. Passed version p h d e.wire e.fall e.value) (same_driver e.driver s driver)
    (all_passed version p h e.driver e.wire e.fall e.value legal.0)))

-- two slots of one driver are one
pub one_slot : (d : Driver) (s t : ℕ) → is_same_driver d (Slot s) ≡ true → is_same_driver d (Slot t) ≡ true → s ≡ t
one_slot d s t a b = same s t (sym (same_driver d s a) ∙ same_driver d t b)
  where
    same : (x y : ℕ) → Slot x ≡ Slot y → x ≡ y
    same x y e = cc

module _ (p : Plan) (h : List Edge) (e : Edge) (old new : ℕ → Request → Bool) (covers : CoversRequests p h old) where
  -- a request of another board stays, and one of the driver's moves
  pub of_other : (t : ℕ) → is_interrupter p t ≡ true → is_same_driver e.driver (Slot t) ≡ false → request_of p (e ∷ h) t ≡ request_of p h t
  of_other t some is =
      let on = interrupts p t some in
      after p t on h e
      ∙ ap (λ b. if b then step e.wire e.fall (serves on.interrupter.kind (shown p h)) (request_of p h t) else request_of p h t) is

  pub of_own : (t : ℕ) (some : is_interrupter p t ≡ true) (w : Wire) (fall : Bool) → is_same_driver e.driver (Slot t) ≡ true → e.wire ≡ w → e.fall ≡ fall
      → request_of p (e ∷ h) t ≡ step w fall (serves (interrupts p t some).interrupter.kind (shown p h)) (request_of p h t)
  of_own t some w fall is wire way =
      let on = interrupts p t some in
      after p t on h e
      ∙ ap (λ b. if b then step e.wire e.fall (serves on.interrupter.kind (shown p h)) (request_of p h t) else request_of p h t) is
      ∙ ap (λ x. step x e.fall (serves on.interrupter.kind (shown p h)) (request_of p h t)) wire
      ∙ ap (λ x. step w x (serves on.interrupter.kind (shown p h)) (request_of p h t)) way

  pub stays_high : (t : ℕ) → drive h (Slot t) Irq ≡ false → request_of p h t ≡ High
  stays_high t off = ap (λ b. request_by b (is_served p h (Slot t))) off

  -- behind the fall of an interrupt line
  module _ (ok : IsAccepted p) (n : ℕ) (high : interrupt_line p h n ≡ false) (low : interrupt_line p (e ∷ h) n ≡ true)
      (others : (t : ℕ) → is_interrupter p t ≡ true → is_on_level p n t ≡ false → (q : Request) → new t q ≡ old t q)
      (pending : (t : ℕ) → is_on_level p n t ≡ true → new t Pending ≡ true)
      (shared : (s t : ℕ) → is_on_level p n s ≡ true → is_on_level p n t ≡ true → s ≢ t → new t High ≡ true) where
    pub fall_covers : CoversRequests p (e ∷ h) new
    fall_covers t some = by_level (is_on_level p n t) refl (is_same_driver e.driver (Slot t)) refl
      where
        m : MovedBy p e Irq true (IsOn p n)
        m = irq_fell p ok h e n high low

        by_level : (l : Bool) → is_on_level p n t ≡ l → (b : Bool) → is_same_driver e.driver (Slot t) ≡ b → new t (request_of p (e ∷ h) t) ≡ true
        by_level true on true is = ap (new t) (of_own t some Irq true is m.wire m.way) ∙ pending t on
        by_level true on false is =
            ap (new t) (of_other t some is ∙ stays_high t (silent p ok h n t high on))
            ∙ shared m.slot t m.fact on (λ same. never (sym is ∙ subst (λ x. is_same_driver e.driver (Slot x) ≡ true) same m.driver))
        by_level false off true is =
            absurd (never (sym off ∙ subst (λ x. is_on_level p n x ≡ true) (one_slot e.driver m.slot t m.driver is) m.fact))
        by_level false off false is = others t some off (request_of p (e ∷ h) t) ∙ ap (old t) (of_other t some is) ∙ covers t some

  -- behind the rise of one
  module _ (ok : IsAccepted p) (n : ℕ) (low : interrupt_line p h n ≡ true) (high : interrupt_line p (e ∷ h) n ≡ false) where
    pub rise_covers : ((t : ℕ) → is_interrupter p t ≡ true → is_on_level p n t ≡ false → (q : Request) → new t q ≡ old t q)
        → ((t : ℕ) → is_on_level p n t ≡ true → new t High ≡ true) → CoversRequests p (e ∷ h) new
    rise_covers others highs t some = by_level (is_on_level p n t) refl (is_same_driver e.driver (Slot t)) refl
      where
        m : MovedBy p e Irq false (IsOn p n)
        m = irq_rose p ok h e n low high

        by_level : (l : Bool) → is_on_level p n t ≡ l → (b : Bool) → is_same_driver e.driver (Slot t) ≡ b → new t (request_of p (e ∷ h) t) ≡ true
        by_level true on b is =
            ap (new t) (ap (λ x. request_by x (is_served p (e ∷ h) (Slot t))) (silent p ok (e ∷ h) n t high on)) ∙ highs t on
        by_level false off true is =
            absurd (never (sym off ∙ subst (λ x. is_on_level p n x ≡ true) (one_slot e.driver m.slot t m.driver is) m.fact))
        by_level false off false is = others t some off (request_of p (e ∷ h) t) ∙ ap (old t) (of_other t some is) ∙ covers t some

    -- who made it may be served, and all others of the line may be high
    pub riser_served : (version : Version) → IsLegal version p (e ∷ h) → (s : ℕ) → is_on_level p n s ≡ true → is_same_driver e.driver (Slot s) ≡ true → old s Served ≡ true
    riser_served version legal s on driver =
        let m = irq_rose p ok h e n low high in
        let passed = passed_as version p h e s Irq false legal driver m.wire m.way in
        let served : request_of p h s ≡ Served = ap (λ b. request_by b (is_served p h (Slot s))) passed.before ∙ ap (request_by true) passed.rule in
        subst (λ q. old s q ≡ true) served (covers s (interrupts_there p n s on))

    pub others_high : (s t : ℕ) → is_same_driver e.driver (Slot s) ≡ true → is_on_level p n t ≡ true → t ≢ s → old t High ≡ true
    others_high s t driver on differs =
        let some = interrupts_there p n t on in
        let other = is_false (is_same_driver e.driver (Slot t)) (λ is. differs (one_slot e.driver t s is driver)) in
        subst (λ q. old t q ≡ true)
        (sym (of_other t some other) ∙ ap (λ x. request_by x (is_served p (e ∷ h) (Slot t))) (silent p ok (e ∷ h) n t high on))
        (covers t some)

-- what an answer leaves of a request: that of the driver, and of another board
pub answer_serves : (old new : Request → Bool) (serves : Bool) → (old High ≡ true → new High ≡ true) → (serves ≡ false → old Pending ≡ true → new Pending ≡ true)
    → (serves ≡ true → old Pending ≡ true → new Served ≡ true)
    → (old Served ≡ true → new Served ≡ true) → (q : Request) → old q ≡ true → new (step Dtack true serves q) ≡ true
answer_serves old new true a b c d High is = a is
answer_serves old new true a b c d Pending is = c refl is
answer_serves old new true a b c d Served is = d is
answer_serves old new false a b c d High is = a is
answer_serves old new false a b c d Pending is = b refl is
answer_serves old new false a b c d Served is = d is

-- behind a fall of DTACK*
module _ (p : Plan) (h : List Edge) (e : Edge) (old new : ℕ → Request → Bool) (covers : CoversRequests p h old) (ok : IsAccepted p)
    (high : line p h Dtack ≡ false) (low : line p (e ∷ h) Dtack ≡ true) where
  abbrev answer : MovedBy p e Dtack true Anybody
  answer = dtack_fell p ok h e high low

  pub answer_covers : (serving : ℕ → Bool) → ((t : ℕ) (some : is_interrupter p t ≡ true) → serving t ≡ serves (interrupts p t some).interrupter.kind (shown p h))
      → ((t : ℕ) → is_interrupter p t ≡ true → is_same_driver e.driver (Slot t) ≡ true → new t (step Dtack true (serving t) (request_of p h t)) ≡ true)
      → ((t : ℕ) → is_interrupter p t ≡ true → is_same_driver e.driver (Slot t) ≡ false → (q : Request) → old t q ≡ true → new t q ≡ true)
      → CoversRequests p (e ∷ h) new
  answer_covers serving is_serving owned others t some = by_driver (is_same_driver e.driver (Slot t)) refl
    where
      by_driver : (b : Bool) → is_same_driver e.driver (Slot t) ≡ b → new t (request_of p (e ∷ h) t) ≡ true
      by_driver true is =
          ap (new t) (of_own p h e old new covers t some Dtack true is answer.wire answer.way ∙ ap (λ b. step Dtack true b (request_of p h t)) (sym (is_serving t some)))
          ∙ owned t some is
      by_driver false is = ap (new t) (of_other p h e old new covers t some is) ∙ others t some is (request_of p h t) (covers t some)

  -- an access is answered by the board in the slot that is shown
  pub accessed_slot : (version : Version) → IsLegal version p (e ∷ h) → (s x : ℕ) → is_same_driver e.driver (Slot s) ≡ true → shown p h ≡ Some (Access x)
      → option_map_or (λ b. b.slot == x) (board p s) false ≡ true
  accessed_slot version legal s x driver shows =
      let passed = passed_as version p h e s Dtack true legal driver answer.wire answer.way in
      subst (λ v. holds (answer_guard (readings p h (Slot s)) v) ≡ true) shows
      (and_right _ (holds (answer_guard (readings p h (Slot s)) (shown p h))) passed.rule)

  -- an acknowledge is answered by a board that is pending at its level
  pub acknowledged_pending : (version : Version) → IsLegal version p (e ∷ h) → (s n : ℕ) → is_same_driver e.driver (Slot s) ≡ true → shown p h ≡ Some (Acknowledge n)
      → is_pending (readings p h (Slot s)) n ≡ true
  acknowledged_pending version legal s n driver shows =
      let passed = passed_as version p h e s Dtack true legal driver answer.wire answer.way in
      and_right _ (is_pending (readings p h (Slot s)) n)
      (subst (λ v. holds (answer_guard (readings p h (Slot s)) v) ≡ true) shows
      (and_right _ (holds (answer_guard (readings p h (Slot s)) (shown p h))) passed.rule))

-- a board that is pending
pub pending_is : (p : Plan) (h : List Edge) (s n : ℕ) → is_pending (readings p h (Slot s)) n ≡ true → request_of p h s ≡ Pending
pending_is p h s n pend =
    ap (λ b. request_by b (is_served p h (Slot s))) (and_right _ (drive h (Slot s) Irq) (and_left _ (not (is_served p h (Slot s))) pend))
    ∙ ap (request_by true) (not_true (is_served p h (Slot s)) (and_right _ (not (is_served p h (Slot s))) pend))
