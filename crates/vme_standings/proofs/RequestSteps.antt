-- How an edge moves the interrupt request of a board, and what follows for edges that no probe sees.
use Rattle.std.proofs.Common.{◌≡◌, ◌≢◌, ◌∙◌, refl, sym, ap, subst, ℕ, Bool, true, false, List, ◌∷◌, arith}
use Rattle.std.specs.Prelude.{◌==◌, ◌&&◌, ◌||◌, if◌then◌else◌, is_some, Option, Some, None}
use Rattle.std.specs.Option.{option_map_or}
use Rattle.std.proofs.lemmas.Bool.Decides.{nat_tests}
use Rattle.vme_model.specs.declared.boards.Row.{Row}
use Rattle.vme_model.specs.declared.boards.InterrupterRow.{InterrupterRow}
use Rattle.vme_model.specs.declared.signals.Version.{Version}
use Rattle.vme_model.specs.declared.signals.Driver.{Driver}
use Rattle.vme_model.specs.declared.signals.Driver.TheVariants.{Controller, Slot}
use Rattle.vme_model.specs.declared.signals.Wire.{Wire}
use Rattle.vme_model.specs.declared.signals.Wire.TheVariants.{Irq, Dtack}
use Rattle.vme_model.specs.declared.signals.Cycle.{Cycle}
use Rattle.vme_model.specs.declared.signals.Edge.{Edge}
use Rattle.vme_model.specs.Signals.{is_same_driver, is_same_wire}
use Rattle.vme_model.specs.Plan.{Plan, board, drives, interrupts_on}
use Rattle.vme_model.specs.Accepted.{IsAccepted}
use Rattle.vme_model.specs.History.{drive, line, interrupt_line, pulls_line, pulls_interrupt, served_since_request, serves, shown}
use Rattle.vme_model.specs.Readings.{is_served}
use Rattle.vme_model.specs.CycleSafety.{OneAnswers}
use Rattle.vme_model.specs.Verdict.{IsLegal}
use Rattle.vme_model.proofs.Bools.{and_left, and_right, never, same_number}
use Rattle.vme_model.proofs.AllowedEdges.{all_passed}
use Rattle.vme_model.proofs.Members.{found_row, some_row}
use Rattle.vme_model.proofs.Ranges.{IsRowInRange, in_range}
use Rattle.vme_model.proofs.Safety.{legal_is_orderly}
use Rattle.vme_histories.proofs.AllowedBoards.{at, own_after}
use Rattle.vme_histories.proofs.Others.{drive_same}
use Rattle.vme_standings.specs.declared.requests.Request.{Request}
use Rattle.vme_standings.specs.declared.requests.Request.TheVariants.{High, Pending, Served}
use Rattle.vme_standings.specs.Requests.{request_by, request_of, is_interrupter, is_on_level, CoversRequests, HasHidden}

self : (n : ℕ) → (n == n) ≡ true
self n = grind (arith, nat_tests)

both : (a b : Bool) → a ≡ true → b ≡ true → (a && b) ≡ true
both a b e f = grind arith

-- an edge of its own board moves a request so; `serves` says whether an answer serves it now
abbrev pub step : Wire → Bool → Bool → Request → Request
step Irq true serves q = Pending
step Irq false serves q = High
step Dtack true true Pending = Served
step w fall serves q = q

moved : (b : Bool) (w : Wire) (fall serves low served : Bool) →
    request_by (if is_same_wire w Irq && b then fall else low)
    (if fall && (is_same_wire w Irq && b) then false else ((fall && (is_same_wire w Dtack && b)) && serves) || served)
    ≡ (if b then step w fall serves (request_by low served) else request_by low served)
moved true Irq true serves low served = refl
moved true Irq false serves low served = refl
moved true Dtack true true false served = refl
moved true Dtack true true true true = refl
moved true Dtack true true true false = refl
moved true Dtack true false low served = refl
moved true w true serves low served = refl
moved true w false serves low served = refl
moved false Irq true serves low served = refl
moved false Irq false serves low served = refl
moved false w true serves low served = refl
moved false w false serves low served = refl

-- a board with an interrupter
pub record Interrupts (p : Plan) (t : ℕ) : Type 0 where
  pub row : Row
  pub interrupter : InterrupterRow
  pub found : board p t ≡ Some row
  pub has : row.interrupter ≡ Some interrupter

interrupts_by : (p : Plan) (t : ℕ) (r : Row) (o : Option InterrupterRow) → board p t ≡ Some r → r.interrupter ≡ o → is_some o ≡ true → Interrupts p t
interrupts_by p t r None found has some = absurd (cc)
interrupts_by p t r (Some i) found has some = record { row = r; interrupter = i; found = found; has = has }

interrupts_of : (p : Plan) (t : ℕ) (o : Option Row) → board p t ≡ o → option_map_or (λ r. is_some r.interrupter) o false ≡ true → Interrupts p t
interrupts_of p t None found some = absurd (cc)
interrupts_of p t (Some r) found some = interrupts_by p t r r.interrupter found refl some

pub interrupts : (p : Plan) (t : ℕ) → is_interrupter p t ≡ true → Interrupts p t
interrupts p t some = interrupts_of p t (board p t) refl some

module _ (p : Plan) (t : ℕ) (on : Interrupts p t) where
  served_is : (g : List Edge) → is_served p g (Slot t) ≡ served_since_request p g (Slot t) on.interrupter.kind
  served_is g =
      ap (λ (o : Option Row). option_map_or (λ x. option_map_or (λ j. served_since_request p g (Slot t) j.kind) x.interrupter false) o false) on.found
      ∙ ap (λ (o : Option InterrupterRow). option_map_or (λ j. served_since_request p g (Slot t) j.kind) o false) on.has

  -- how a request stands behind an edge
  pub after : (h : List Edge) (e : Edge) → request_of p (e ∷ h) t
      ≡ (if is_same_driver e.driver (Slot t) then step e.wire e.fall (serves on.interrupter.kind (shown p h)) (request_of p h t) else request_of p h t)
  after h e =
      ap (request_by (drive (e ∷ h) (Slot t) Irq)) (served_is (e ∷ h))
      ∙ moved (is_same_driver e.driver (Slot t)) e.wire e.fall (serves on.interrupter.kind (shown p h)) (drive h (Slot t) Irq) (served_since_request p h (Slot t) on.interrupter.kind)
      ∙ ap (λ x. if is_same_driver e.driver (Slot t) then step e.wire e.fall (serves on.interrupter.kind (shown p h)) (request_by (drive h (Slot t) Irq) x) else request_by (drive h (Slot t) Irq) x)
      (sym (served_is h))

  on_own : interrupts_on on.interrupter.level on.row ≡ true
  on_own = ap (λ (o : Option InterrupterRow). option_map_or (λ j. j.level == on.interrupter.level) o false) on.has ∙ self on.interrupter.level

  -- it is on the line of its level
  pub on_level : is_on_level p on.interrupter.level t ≡ true
  on_level = ap (λ (o : Option Row). option_map_or (interrupts_on on.interrupter.level) o false) on.found ∙ on_own

  -- who pulls shows on the line
  pub pulls_it : IsAccepted p → (g : List Edge) → drive g (Slot t) Irq ≡ true → interrupt_line p g on.interrupter.level ≡ true
  pulls_it ok g low =
      let f = found_row (IsRowInRange p) p.rows t on.row (in_range p ok).rows on.found in
      f.passes (pulls_interrupt g on.interrupter.level) (both _ _ on_own (subst (λ x. drive g (Slot x) Irq ≡ true) (sym f.slot) low))

  pub answers_on_it : IsAccepted p → (g : List Edge) → drive g (Slot t) Dtack ≡ true → line p g Dtack ≡ true
  answers_on_it ok g low =
      let f = found_row (IsRowInRange p) p.rows t on.row (in_range p ok).rows on.found in
      f.passes (pulls_line g Dtack) (subst (λ x. drive g (Slot x) Dtack ≡ true) (sym f.slot) low)

-- a low line that a board does not pull has another
pub record PulledByOther (p : Plan) (n t : ℕ) : Type 0 where
  pub slot : ℕ
  pub differs : slot ≢ t
  pub on : is_on_level p n slot ≡ true

pub pulled_by_other : (p : Plan) → IsAccepted p → (g : List Edge) (n t : ℕ) → interrupt_line p g n ≡ true → drive g (Slot t) Irq ≡ false → PulledByOther p n t
pulled_by_other p ok g n t low off =
    let f = some_row (pulls_interrupt g n) (IsRowInRange p) p.rows (in_range p ok).rows low in
    record {
      slot = f.0.slot;
      differs = λ same. never (sym off ∙ subst (λ x. drive g (Slot x) Irq ≡ true) same (and_right (interrupts_on n f.0) _ f.1));
      on = ap (λ (o : Option Row). option_map_or (interrupts_on n) o false) f.2.alone ∙ and_left (interrupts_on n f.0) (drive g (Slot f.0.slot) Irq) f.1;
    }

-- nobody answers while another answers
pub answers_alone : (version : Version) (p : Plan) → IsAccepted p → (h : List Edge) (t : ℕ) (v : Option Cycle) → IsLegal version p (at t Dtack true v ∷ h) → line p h Dtack ≡ false
answers_alone version p ok h t v legal = by_line (line p h Dtack) refl
  where
    one : OneAnswers (at t Dtack true v ∷ h)
    one = (legal_is_orderly version p (at t Dtack true v ∷ h) ok legal).one_answer.0

    before : drive h (Slot t) Dtack ≡ false
    before = (all_passed version p h (Slot t) Dtack true v legal.0).before

    same_slot : (a b : ℕ) → Slot a ≡ Slot b → a ≡ b
    same_slot a b e = cc

    by_slot : (s : ℕ) (b : Bool) → (t == s) ≡ b → drive h (Slot s) Dtack ≡ true → ⊥
    by_slot s true is low = never (sym before ∙ subst (λ x. drive h (Slot x) Dtack ≡ true) (sym (same_number t s is)) low)
    by_slot s false is low =
        let same = same_slot s t (one (Slot s) (Slot t) (drive_same h (at t Dtack true v) (Slot s) Dtack is ∙ low) (own_after h t t Dtack true v refl)) in
        never (sym is ∙ subst (λ x. (t == x) ≡ true) (sym same) (self t))

    by_line : (b : Bool) → line p h Dtack ≡ b → line p h Dtack ≡ false
    by_line false is = is
    by_line true is =
        let f = some_row (pulls_line h Dtack) (IsRowInRange p) p.rows (in_range p ok).rows is in
        absurd (by_slot f.0.slot (t == f.0.slot) refl (and_right (drives Dtack f.0) _ f.1))

pub same_driver : (d : Driver) (t : ℕ) → is_same_driver d (Slot t) ≡ true → d ≡ Slot t
same_driver Controller t e = absurd (cc)
same_driver (Slot s) t e = ap (λ x. Slot x) (same_number s t e)

-- an edge of an `irq` or a `dtack` leaves its line as it is
abbrev pub IrqStays : Plan → List Edge → Edge → Type 0
IrqStays p h e =
    (n t : ℕ) → e.wire ≡ Irq → is_same_driver e.driver (Slot t) ≡ true → is_on_level p n t ≡ true
    → interrupt_line p (e ∷ h) n ≡ interrupt_line p h n

abbrev pub DtackStays : Plan → List Edge → Edge → Type 0
DtackStays p h e = e.wire ≡ Dtack → line p (e ∷ h) Dtack ≡ line p h Dtack

abbrev LinesStay : Plan → List Edge → Edge → Type 0
LinesStay p h e = IrqStays p h e × DtackStays p h e

module _ (version : Version) (p : Plan) (ok : IsAccepted p) (h : List Edge) (may : ℕ → Request → Bool) (covers : CoversRequests p h may) (hidden : HasHidden p h may) where
  module _ (t : ℕ) (some : is_interrupter p t ≡ true) where
    abbrev on : Interrupts p t
    on = interrupts p t some

    own : (w : Wire) (fall : Bool) (v : Option Cycle) → IsLegal version p (at t w fall v ∷ h) → LinesStay p h (at t w fall v)
        → may t (step w fall (serves on.interrupter.kind (shown p h)) (request_of p h t)) ≡ true
    own Irq true v legal stay =
        let before = (all_passed version p h (Slot t) Irq true v legal.0).before in
        let high : request_of p h t ≡ High = ap (λ b. request_by b (is_served p h (Slot t))) before in
        let low = pulls_it p t on ok (at t Irq true v ∷ h) (own_after h t t Irq true v refl) in
        hidden.falls on.interrupter.level t (on_level p t on) (sym (stay.0 on.interrupter.level t refl (self t) (on_level p t on)) ∙ low) (subst (λ q. may t q ≡ true) high (covers t some))
    own Irq false v legal stay =
        let passed = all_passed version p h (Slot t) Irq false v legal.0 in
        let served : request_of p h t ≡ Served = ap (λ b. request_by b (is_served p h (Slot t))) passed.before ∙ ap (request_by true) passed.rule in
        let low = pulls_it p t on ok h passed.before in
        let o = pulled_by_other p ok (at t Irq false v ∷ h) on.interrupter.level t (stay.0 on.interrupter.level t refl (self t) (on_level p t on) ∙ low) (own_after h t t Irq false v refl) in
        hidden.rises on.interrupter.level t o.slot (on_level p t on) o.on o.differs low (subst (λ q. may t q ≡ true) served (covers t some))
    own Dtack true v legal stay =
        let low = answers_on_it p t on ok (at t Dtack true v ∷ h) (own_after h t t Dtack true v refl) in
        absurd (never (sym (answers_alone version p ok h t v legal) ∙ sym (stay.1 refl) ∙ low))
    own w fall v legal stay = covers t some

    of_driver : (d : Driver) (w : Wire) (fall : Bool) (v : Option Cycle) → d ≡ Slot t
        → IsLegal version p (record { driver = d; wire = w; fall = fall; value = v } ∷ h) → LinesStay p h (record { driver = d; wire = w; fall = fall; value = v })
        → may t (step w fall (serves on.interrupter.kind (shown p h)) (request_of p h t)) ≡ true
    of_driver d w fall v same =
        subst (λ x. IsLegal version p (record { driver = x; wire = w; fall = fall; value = v } ∷ h) → LinesStay p h (record { driver = x; wire = w; fall = fall; value = v })
        → may t (step w fall (serves on.interrupter.kind (shown p h)) (request_of p h t)) ≡ true)
        (sym same) (own w fall v)

    here : (e : Edge) → IsLegal version p (e ∷ h) → LinesStay p h e → may t (request_of p (e ∷ h) t) ≡ true
    here e legal stay = subst (λ q. may t q ≡ true) (sym (after p t on h e)) (by_driver (is_same_driver e.driver (Slot t)) refl)
      where
        by_driver : (b : Bool) → is_same_driver e.driver (Slot t) ≡ b
            → may t (if b then step e.wire e.fall (serves on.interrupter.kind (shown p h)) (request_of p h t) else request_of p h t) ≡ true
        by_driver false is = covers t some
        by_driver true is = of_driver e.driver e.wire e.fall e.value (same_driver e.driver t is) legal stay

-- an edge that the lines do not show leaves the requests covered
pub unseen_covers : (version : Version) (p : Plan) (h : List Edge) (e : Edge) (may : ℕ → Request → Bool) → IsAccepted p → IsLegal version p (e ∷ h)
    → IrqStays p h e → DtackStays p h e
    → CoversRequests p h may → HasHidden p h may → CoversRequests p (e ∷ h) may
unseen_covers version p h e may ok legal irq dtack covers hidden t some = here version p ok h may covers hidden t some e legal (irq, dtack)
