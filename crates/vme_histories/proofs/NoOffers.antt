-- Edges that the rules do not allow.
use Rattle.std.proofs.Common.{◌≡◌, ◌∙◌, refl, sym, ap, ℕ, Bool, true, false, List, [], ◌∷◌, ◌++◌, map, append_assoc}
use Rattle.std.specs.Prelude.{◌&&◌, not, if◌then◌else◌, Option, Some, None, Ok, filter, is_ok, is_some}
use Rattle.std.specs.Option.{option_map_or, option_and_then}
use Rattle.std.specs.List.{flat_map}
use Rattle.std.proofs.lemmas.List.Elements.{filter-append}
use Rattle.vme_model.specs.declared.boards.Row.{Row}
use Rattle.vme_model.specs.declared.boards.InterrupterRow.{InterrupterRow}
use Rattle.vme_model.specs.declared.refusals.Refused.{Refused}
use Rattle.vme_model.specs.declared.refusals.Refused.TheVariants.{NoSuchDriver, AlreadyThere, Rule, NotSettled}
use Rattle.vme_model.specs.declared.signals.Version.{Version}
use Rattle.vme_model.specs.declared.signals.Driver.{Driver}
use Rattle.vme_model.specs.declared.signals.Driver.TheVariants.{Slot}
use Rattle.vme_model.specs.declared.signals.Wire.{Wire}
use Rattle.vme_model.specs.declared.signals.Wire.TheVariants.{Br, BgOut, Bbsy, Addr, AddressStrobe, DataStrobe, Irq, IackOut, Dtack}
use Rattle.vme_model.specs.declared.signals.Cycle.{Cycle}
use Rattle.vme_model.specs.declared.signals.Cycle.TheVariants.{Acknowledge, Access}
use Rattle.vme_model.specs.declared.signals.Edge.{Edge}
use Rattle.vme_model.specs.Signals.{is_well_formed, is_two}
use Rattle.vme_model.specs.Plan.{Plan, board, has_driver, drives}
use Rattle.vme_model.specs.History.{drive, shown, line}
use Rattle.vme_model.specs.Readings.{readings, grant_in, iack_in, is_served}
use Rattle.vme_model.specs.Rules.{rule, may_answer}
use Rattle.vme_model.specs.Settling.{settling}
use Rattle.vme_model.specs.Verdict.{Judgement, check, is_other_state, settled, IsLegal}
use Rattle.vme_model.specs.Offers.{turned, considered, cycles_of, going_on}
use Rattle.vme_histories.specs.Offered.{is_open, offered_on, offered_but_full, requester_wires, master_wires, interrupter_wires}
use Rattle.vme_histories.specs.Shown.{is_access_to}
use Rattle.vme_histories.proofs.Drivers.{own_of_none}

-- a test that fails on the way to Ok
stops_third : (a b c : Bool) (x y z : Refused) (rest : Judgement) → c ≡ false → is_ok (check a x (check b y (check c z rest))) ≡ false
stops_third true true true x y z rest denied = absurd (cc)
stops_third true true false x y z rest denied = refl
stops_third true false c x y z rest denied = refl
stops_third false b c x y z rest denied = refl

stops_first : (a : Bool) (x : Refused) (rest : Judgement) → a ≡ false → is_ok (check a x rest) ≡ false
stops_first true x rest denied = absurd (cc)
stops_first false x rest denied = refl

no_wire : (a b : Bool) → b ≡ false → (a && b) ≡ false
no_wire true b denied = denied
no_wire false b denied = refl

-- none of the edges that are not allowed is offered
none_open : {A : Type 0} (f : Cycle → A) (test : A → Bool) (cs : List Cycle) → ((c : Cycle) → test (f c) ≡ false) → filter test (map f cs) ≡ []
none_open {A} f test [] denied = refl
none_open {A} f test (c ∷ cs) denied = rw (denied c) (none_open f test cs denied)

three_closed : {A : Type 0} (test : A → Bool) (a b c : A) → test a ≡ false → test b ≡ false → test c ≡ false → filter test (a ∷ b ∷ c ∷ []) ≡ []
three_closed {A} test a b c na nb nc = rw (na, nb, nc)

none_behind : {A : Type 0} (test : A → Bool) (xs ys : List A) → filter test xs ≡ [] → filter test ys ≡ [] → filter test (xs ++ ys) ≡ []
none_behind {A} test xs ys none last = filter-append test xs ys ∙ ap (λ (t : List A). t ++ filter test ys) none ∙ last

two_closed : {A : Type 0} (test : A → Bool) (a b : A) → test a ≡ false → test b ≡ false → filter test (a ∷ b ∷ []) ≡ []
two_closed {A} test a b na nb = rw (na, nb)

module _ (version : Version) (p : Plan) (h : List Edge) where
  -- the rule refuses the edge, or there is no such driver
  pub ruled_out : (e : Edge) → (rule version (readings p h e.driver) e.wire e.fall e.value).1 ≡ false → is_open version p h e ≡ false
  ruled_out e denied =
      let row = rule version (readings p h e.driver) e.wire e.fall e.value in
      stops_third (is_well_formed e && has_driver p e.driver e.wire) (is_other_state (drive h e.driver e.wire) e.fall) row.1 NoSuchDriver AlreadyThere (Rule row.0)
      (check (settled version p h e) (NotSettled (settling version p h e.wire e.fall).0) (Ok tt)) denied

  pub lacking : (e : Edge) → has_driver p e.driver e.wire ≡ false → is_open version p h e ≡ false
  lacking e denied = stops_first (is_well_formed e && has_driver p e.driver e.wire) NoSuchDriver
      (check (is_other_state (drive h e.driver e.wire) e.fall) AlreadyThere
      (check (rule version (readings p h e.driver) e.wire e.fall e.value).1 (Rule (rule version (readings p h e.driver) e.wire e.fall e.value).0)
      (check (settled version p h e) (NotSettled (settling version p h e.wire e.fall).0) (Ok tt)))) (no_wire (is_well_formed e) (has_driver p e.driver e.wire) denied)

  -- the edge of a wire whose state is known
  abbrev edge_from : Driver → Wire → Bool → Edge
  edge_from d w low = record { driver = d; wire = w; fall = not low; value = None }

  pub closed : (d : Driver) (w : Wire) (low : Bool) → drive h d w ≡ low → (rule version (readings p h d) w (not low) None).1 ≡ false → is_open version p h (turned h d w) ≡ false
  closed d w low is denied = ap (λ b. is_open version p h (edge_from d w b)) is ∙ ruled_out (edge_from d w low) denied

  module _ (s : ℕ) where
    -- a requester that waits for its grant
    abbrev own : Wire → Bool
    own x = drive h (Slot s) x

    pub requester_closed : own Br ≡ true → own BgOut ≡ false → own Bbsy ≡ false → is_two version ≡ false → grant_in p h (Slot s) ≡ false → offered_on version p h (Slot s) requester_wires ≡ []
    requester_closed br bgout bbsy first none =
        three_closed (is_open version p h) (turned h (Slot s) Br) (turned h (Slot s) BgOut) (turned h (Slot s) Bbsy)
        (closed (Slot s) Br true br (rw (first, bbsy)))
        (closed (Slot s) BgOut false bgout (rw none))
        (closed (Slot s) Bbsy false bbsy (rw none))

    pub requester_lacking : is_some (option_and_then (λ r. r.requester) (board p s)) ≡ false → offered_on version p h (Slot s) requester_wires ≡ []
    requester_lacking none =
        three_closed (is_open version p h) (turned h (Slot s) Br) (turned h (Slot s) BgOut) (turned h (Slot s) Bbsy)
        (lacking (turned h (Slot s) Br) (no_part none)) (lacking (turned h (Slot s) BgOut) (no_part none)) (lacking (turned h (Slot s) Bbsy) (no_part none))
      where
        no_row : (o : Option Row) → is_some (option_and_then (λ r. r.requester) o) ≡ false → option_map_or (λ r. is_some r.requester) o false ≡ false
        no_row None e = refl
        no_row (Some r) e = e

        no_part : is_some (option_and_then (λ r. r.requester) (board p s)) ≡ false → option_map_or (λ r. is_some r.requester) (board p s) false ≡ false
        no_part e = no_row (board p s) e

    -- a master without the bus
    abbrev shows : Cycle → Edge
    shows c = record { driver = Slot s; wire = Addr; fall = true; value = Some c }

    no_cycle : own Bbsy ≡ false → (o : Option Row) → board p s ≡ o → filter (is_open version p h) (option_map_or (λ r. map shows (cycles_of p h r)) o []) ≡ []
    no_cycle bbsy None found = refl
    no_cycle bbsy (Some r) found = none_open shows (is_open version p h) (cycles_of p h r) (λ c. ruled_out (shows c) (rw bbsy))

    no_address : own Bbsy ≡ false → own Addr ≡ false → filter (is_open version p h) (considered p h (Slot s) Addr) ≡ []
    no_address bbsy addr = ap (λ b. filter (is_open version p h) (if b then turned h (Slot s) Addr ∷ [] else going_on p h (Slot s))) addr ∙ no_cycle bbsy (board p s) refl

    pub master_closed : own Bbsy ≡ false → own Addr ≡ false → own AddressStrobe ≡ false → own DataStrobe ≡ false → offered_on version p h (Slot s) master_wires ≡ []
    master_closed bbsy addr strobe data_strobe =
        none_behind (is_open version p h) (considered p h (Slot s) Addr) (turned h (Slot s) AddressStrobe ∷ turned h (Slot s) DataStrobe ∷ []) (no_address bbsy addr)
        (two_closed (is_open version p h) (turned h (Slot s) AddressStrobe) (turned h (Slot s) DataStrobe)
        (closed (Slot s) AddressStrobe false strobe (rw addr))
        (closed (Slot s) DataStrobe false data_strobe (rw strobe)))

    -- a slot with nothing to answer
    answers_none : (r : Row) (c : Option Cycle) → board p s ≡ Some r → is_access_to r.slot c ≡ false → iack_in p h (Slot s) ≡ false → may_answer (readings p h (Slot s)) c ≡ false
    answers_none r (Some (Acknowledge n)) found other none = rw none
    answers_none r (Some (Access t)) found other none = rw found other
    answers_none r None found other none = refl

    last_false : (a b c : Bool) → c ≡ false → (a && b && c) ≡ false
    last_false true true c denied = denied
    last_false true false c denied = refl
    last_false false b c denied = refl

    pub answer_closed : (r : Row) → board p s ≡ Some r → own Dtack ≡ false → is_access_to r.slot (shown p h) ≡ false → iack_in p h (Slot s) ≡ false
        → is_open version p h (turned h (Slot s) Dtack) ≡ false
    answer_closed r found dtack other none =
        closed (Slot s) Dtack false dtack (last_false (line p h DataStrobe) (line p h AddressStrobe) (may_answer (readings p h (Slot s)) (shown p h)) (answers_none r (shown p h) found other none))

    pub interrupter_closed : is_open version p h (turned h (Slot s) Dtack) ≡ false → own Irq ≡ true → is_served p h (Slot s) ≡ false → own IackOut ≡ false → iack_in p h (Slot s) ≡ false
        → offered_on version p h (Slot s) interrupter_wires ≡ []
    interrupter_closed answer irq unserved iackout none =
        three_closed (is_open version p h) (turned h (Slot s) Irq) (turned h (Slot s) IackOut) (turned h (Slot s) Dtack)
        (closed (Slot s) Irq true irq unserved)
        (closed (Slot s) IackOut false iackout (rw none))
        answer

    pub interrupter_lacking : (r : Row) → board p s ≡ Some r → r.interrupter ≡ None → is_open version p h (turned h (Slot s) Dtack) ≡ false → offered_on version p h (Slot s) interrupter_wires ≡ []
    interrupter_lacking r found none answer =
        let lacks : option_map_or (λ (x : Row). is_some x.interrupter) (board p s) false ≡ false = ap (λ (o : Option Row). option_map_or (λ x. is_some x.interrupter) o false) found
        ∙ ap (λ (o : Option InterrupterRow). is_some o) none in
        three_closed (is_open version p h) (turned h (Slot s) Irq) (turned h (Slot s) IackOut) (turned h (Slot s) Dtack)
        (lacking (turned h (Slot s) Irq) lacks) (lacking (turned h (Slot s) IackOut) lacks) answer

    -- a slot without a board
    none_here : (w : Wire) → board p s ≡ None → is_open version p h (turned h (Slot s) w) ≡ false
    none_here w none = lacking (turned h (Slot s) w) (ap (λ (o : Option Row). option_map_or (drives w) o false) none)

    address_of_none : board p s ≡ None → own Addr ≡ false → filter (is_open version p h) (considered p h (Slot s) Addr) ≡ []
    address_of_none none addr =
        ap (λ b. filter (is_open version p h) (if b then turned h (Slot s) Addr ∷ [] else going_on p h (Slot s))) addr
        ∙ ap (λ (o : Option Row). filter (is_open version p h) (option_map_or (λ r. map shows (cycles_of p h r)) o [])) none

-- a board's three parts are all that it drives
pub parts_joined : (version : Version) (p : Plan) (h : List Edge) (s : ℕ) →
    offered_on version p h (Slot s) requester_wires ++ offered_on version p h (Slot s) master_wires ++ offered_on version p h (Slot s) interrupter_wires ≡ offered_but_full version p h (Slot s)
parts_joined version p h s =
    let f = flat_map (considered p h (Slot s)) in
    sym (ap (λ (t : List Edge). t ++ filter (is_open version p h) (f interrupter_wires)) (filter-append (is_open version p h) (f requester_wires) (f master_wires)))
    ∙ sym (filter-append (is_open version p h) (f requester_wires ++ f master_wires) (f interrupter_wires))
    ∙ ap (λ (t : List Edge). filter (is_open version p h) t) (joined (f requester_wires) (considered p h (Slot s) Addr) (turned h (Slot s) AddressStrobe)
    (turned h (Slot s) DataStrobe) (f interrupter_wires))
  where
    joined : (a x : List Edge) (b c : Edge) (d : List Edge) → (a ++ (x ++ b ∷ c ∷ [])) ++ d ≡ a ++ (x ++ b ∷ c ∷ d)
    joined a x b c d = rw (append_assoc, append_assoc) refl

pub none_waits : (version : Version) (p : Plan) (h : List Edge) (s : ℕ) → offered_on version p h (Slot s) requester_wires ≡ [] → offered_on version p h (Slot s) master_wires ≡ []
    → offered_on version p h (Slot s) interrupter_wires ≡ [] → offered_but_full version p h (Slot s) ≡ []
none_waits version p h s a b c = sym (parts_joined version p h s) ∙ rw (a, b, c)

-- a slot without a board
pub requester_of_none : (version : Version) (p : Plan) (h : List Edge) (s : ℕ) → board p s ≡ None → offered_on version p h (Slot s) requester_wires ≡ []
requester_of_none version p h s empty =
    let at = λ (x : Wire). none_here version p h s x empty in
    three_closed (is_open version p h) (turned h (Slot s) Br) (turned h (Slot s) BgOut) (turned h (Slot s) Bbsy) (at Br) (at BgOut) (at Bbsy)

pub master_of_none : (version : Version) (p : Plan) (h : List Edge) (s : ℕ) → IsLegal version p h → board p s ≡ None → offered_on version p h (Slot s) master_wires ≡ []
master_of_none version p h s legal empty =
    let at = λ (x : Wire). none_here version p h s x empty in
    let test = is_open version p h in
    none_behind test (considered p h (Slot s) Addr) (turned h (Slot s) AddressStrobe ∷ turned h (Slot s) DataStrobe ∷ [])
    (address_of_none version p h s empty (sym (own_of_none version p h s Addr legal empty)))
    (two_closed test (turned h (Slot s) AddressStrobe) (turned h (Slot s) DataStrobe) (at AddressStrobe) (at DataStrobe))

pub interrupter_of_none : (version : Version) (p : Plan) (h : List Edge) (s : ℕ) → board p s ≡ None → offered_on version p h (Slot s) interrupter_wires ≡ []
interrupter_of_none version p h s empty =
    let at = λ (x : Wire). none_here version p h s x empty in
    three_closed (is_open version p h) (turned h (Slot s) Irq) (turned h (Slot s) IackOut) (turned h (Slot s) Dtack) (at Irq) (at IackOut) (at Dtack)

pub nobody_in : (version : Version) (p : Plan) (h : List Edge) (s : ℕ) → IsLegal version p h → board p s ≡ None → offered_but_full version p h (Slot s) ≡ []
nobody_in version p h s legal empty = none_waits version p h s (requester_of_none version p h s empty) (master_of_none version p h s legal empty) (interrupter_of_none version p h s empty)
