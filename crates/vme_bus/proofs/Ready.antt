-- Whose parts have no edge to make: `BusState::ready_masters`, `ready_interrupters`.
use Rattle.std.proofs.Common.{◌≡◌, ◌∙◌, refl, sym, ap, ℕ, Bool, true, false, List, [], ◌∷◌, ◌++◌, map, ◌<◌}
use Rattle.std.specs.Prelude.{◌&&◌, ◌||◌, ◌==◌, not, if◌then◌else◌, Option, Some, None, filter}
use Rattle.std.specs.Option.{option_map_or}
use Rattle.std.proofs.lemmas.List.Elements.{filter-append}
use Rattle.vme_model.specs.declared.boards.Row.{Row}
use Rattle.vme_model.specs.declared.signals.Version.{Version}
use Rattle.vme_model.specs.declared.signals.Edge.{Edge}
use Rattle.vme_model.specs.declared.signals.Cycle.{Cycle}
use Rattle.vme_model.specs.declared.signals.Cycle.TheVariants.{Acknowledge, Access}
use Rattle.vme_model.specs.declared.signals.Driver.TheVariants.{Slot, Controller}
use Rattle.vme_model.specs.declared.signals.Wire.{Wire}
use Rattle.vme_model.specs.declared.signals.Wire.TheVariants.{Bbsy, Addr, AddressStrobe, DataStrobe, Irq, IackOut, Dtack, Berr}
use Rattle.vme_model.specs.Plan.{Plan, board, drives, has_driver}
use Rattle.vme_model.specs.Accepted.{IsAccepted}
use Rattle.vme_model.specs.History.{drive, line, shown, has_strobed}
use Rattle.vme_model.specs.Readings.{readings, iack_in, is_served}
use Rattle.vme_model.specs.Rules.{rule, may_answer}
use Rattle.vme_model.specs.Offers.{turned, considered, cycles_of, going_on}
use Rattle.vme_histories.specs.Offered.{is_open, offered_on, master_wires, interrupter_wires}
use Rattle.vme_histories.specs.Shown.{is_access_to}
use Rattle.vme_histories.proofs.AllowedBoards.{stands}
use Rattle.vme_histories.proofs.NoOffers.{closed, lacking, ruled_out}

none_shown : (f : Cycle → Edge) (test : Edge → Bool) (cs : List Cycle) → ((c : Cycle) → test (f c) ≡ false) → filter test (map f cs) ≡ []
none_shown f test [] denied = refl
none_shown f test (c ∷ cs) denied = rw (denied c) (none_shown f test cs denied)

one_shut : (test : Edge → Bool) (a : Edge) → test a ≡ false → filter test (a ∷ []) ≡ []
one_shut test a na = rw na

three_shut : (test : Edge → Bool) (a b c : Edge) → test a ≡ false → test b ≡ false → test c ≡ false → filter test (a ∷ b ∷ c ∷ []) ≡ []
three_shut test a b c na nb nc = rw (na, nb, nc)

two_behind : (test : Edge → Bool) (xs : List Edge) (a b : Edge) → filter test xs ≡ [] → test a ≡ false → test b ≡ false → filter test (xs ++ a ∷ b ∷ []) ≡ []
two_behind test xs a b none na nb =
    let last : filter test (a ∷ b ∷ []) ≡ [] = rw (na, nb) in
    filter-append test xs (a ∷ b ∷ []) ∙ ap (λ (t : List Edge). t ++ filter test (a ∷ b ∷ [])) none ∙ last

-- tests of two and more
rises_not : (a b : Bool) → a ≡ true → (a && not b) ≡ false → not b ≡ false
rises_not true b e off = off
rises_not false b e off = absurd (cc)

last_not : (a l : Bool) → l ≡ true → (a && not l) ≡ false
last_not true true e = refl
last_not false true e = refl
last_not a false e = absurd (cc)

second_of_four : (a l c d : Bool) → l ≡ true → (a && not l && c && d) ≡ false
second_of_four true true c d e = refl
second_of_four false true c d e = refl
second_of_four a false c d e = absurd (cc)

answered_stays : (a b d e k : Bool) → (d || e) ≡ true → (a && b && not d && not e && not k) ≡ false
answered_stays true true true e k on = refl
answered_stays true true false true k on = refl
answered_stays true true false false k on = absurd (cc)
answered_stays true false d e k on = refl
answered_stays false b d e k on = refl

no_strobe : (a b d e k : Bool) → a ≡ false → (a && b && not d && not e && not k) ≡ false
no_strobe false b d e k off = refl
no_strobe true b d e k off = absurd (cc)

on_alone : (a b : Bool) → b ≡ false → (a && not b) ≡ false → a ≡ false
on_alone true false e off = absurd (cc)
on_alone true true e off = absurd (cc)
on_alone false b e off = refl

off_by_last : (a b k : Bool) → (a && k) ≡ false → (a && not b && k) ≡ false
off_by_last true true k off = refl
off_by_last true false k off = off
off_by_last false b k off = refl

off_by_first : (a b k : Bool) → (a && not b) ≡ false → (a && not b && k) ≡ false
off_by_first true true k off = refl
off_by_first true false k off = absurd (cc)
off_by_first false b k off = refl

held_there : (out l : Bool) → out ≡ true → (not l && (true && out)) ≡ false → not l ≡ false
held_there true true e held = refl
held_there true false e held = absurd (cc)
held_there false l e held = absurd (cc)

three_of_four : (a b c d : Bool) → (a && not b && c) ≡ false → (a && not b && c && d) ≡ false
three_of_four true false true d off = absurd (cc)
three_of_four true false false d off = refl
three_of_four true true c d off = refl
three_of_four false b c d off = refl

both_wait : (irq served : Bool) → (true && not (irq && not served)) ≡ false → (irq ≡ true) × (served ≡ false)
both_wait true false waits = (refl, refl)
both_wait true true waits = absurd (cc)
both_wait false served waits = absurd (cc)

third_off : (a b c : Bool) → c ≡ false → (a && b && c) ≡ false
third_off true true c e = e
third_off true false c e = refl
third_off false b c e = refl

first_off : (a b c : Bool) → a ≡ false → (a && b && c) ≡ false
first_off false b c e = refl
first_off true b c e = absurd (cc)

uncalled : (iack out other dtack given : Bool) → out ≡ false → (((iack && not out) || other) && not dtack) ≡ false → (iack && not dtack && given) ≡ false
uncalled true false other true given is called = refl
uncalled true false other false given is called = absurd (cc)
uncalled false out other dtack given is called = refl
uncalled iack true other dtack given is called = absurd (cc)

first_of_pending : (iack out other dtack pending : Bool) → dtack ≡ false → (((iack && not out) || other) && not dtack) ≡ false → (iack && not out && pending) ≡ false
first_of_pending true false other false pending is called = absurd (cc)
first_of_pending true true other dtack pending is called = refl
first_of_pending false out other dtack pending is called = refl
first_of_pending iack out other true pending is called = absurd (cc)

none_accessed : (reached boards accessed dtack : Bool) → boards ≡ true → dtack ≡ false → ((reached || (boards && accessed)) && not dtack) ≡ false → accessed ≡ false
none_accessed reached true false dtack there is called = refl
none_accessed false true true false there is called = absurd (cc)
none_accessed true true true false there is called = absurd (cc)
none_accessed reached boards accessed true there is called = absurd (cc)
none_accessed reached false accessed dtack there is called = absurd (cc)

-- of two facts that are joined by or
pub neither : (a b : Bool) → (a || b) ≡ false → (a ≡ false) × (b ≡ false)
neither false false e = (refl, refl)
neither a b e = absurd (cc)

pub and_is : (a b k l : Bool) → a ≡ k → b ≡ l → (k && l) ≡ (a && b)
and_is a b k l ak bl = ap (λ x. x && l) (sym ak) ∙ ap (λ x. a && x) (sym bl)

pub not_held : (held waits : Bool) → waits ≡ not held → waits ≡ true → held ≡ false
not_held true true is e = absurd (cc)
not_held true false is e = absurd (cc)
not_held false waits is e = refl

pub or_is : (a b k l : Bool) → a ≡ k → b ≡ l → (k || l) ≡ (a || b)
or_is a b k l ak bl = ap (λ x. x || l) (sym ak) ∙ ap (λ x. a || x) (sym bl)

pub and_not_is : (a b k l : Bool) → a ≡ k → b ≡ l → (k && not l) ≡ (a && not b)
and_not_is a b k l ak bl = and_is a (not b) k (not l) ak (ap not bl)

module _ (version : Version) (p : Plan) (h : List Edge) (s : ℕ) where
  abbrev own : Wire → Bool
  own w = drive h (Slot s) w

  -- in whichever state the wire is, its rule refuses the other
  shut_by : (w : Wire) → ((low : Bool) → own w ≡ low → (rule version (readings p h (Slot s)) w (not low) None).1 ≡ false) → is_open version p h (turned h (Slot s) w) ≡ false
  shut_by w denied = closed version p h (Slot s) w (own w) refl (denied (own w) refl)

  abbrev shows : Cycle → Edge
  shows c = record { driver = Slot s; wire = Addr; fall = true; value = Some c }

  -- under a strobe no address group goes on
  none_on : line p h AddressStrobe ≡ true → (o : Option Row) → board p s ≡ o → filter (is_open version p h) (option_map_or (λ r. map shows (cycles_of p h r)) o []) ≡ []
  none_on on None found = refl
  none_on on (Some r) found = none_shown shows (is_open version p h) (cycles_of p h r) (λ c. ruled_out version p h (shows c) (second_of_four (own Bbsy) (line p h AddressStrobe) _ _ on))

  address_shut : line p h AddressStrobe ≡ true → (own AddressStrobe && not (own DataStrobe) && has_strobed h (Slot s)) ≡ false → filter (is_open version p h) (considered p h (Slot s) Addr) ≡ []
  address_shut on stays = by_state (own Addr) refl
    where
      by_state : (b : Bool) → own Addr ≡ b → filter (is_open version p h) (if own Addr then turned h (Slot s) Addr ∷ [] else going_on p h (Slot s)) ≡ []
      by_state true is = ap (λ b. filter (is_open version p h) (if b then turned h (Slot s) Addr ∷ [] else going_on p h (Slot s))) is ∙ one_shut (is_open version p h) (turned h (Slot s) Addr)
          (closed version p h (Slot s) Addr true is stays)
      by_state false is = ap (λ b. filter (is_open version p h) (if b then turned h (Slot s) Addr ∷ [] else going_on p h (Slot s))) is ∙ none_on on (board p s) refl

  strobe_shut : line p h AddressStrobe ≡ true → (own AddressStrobe && not (own Addr)) ≡ false → is_open version p h (turned h (Slot s) AddressStrobe) ≡ false
  strobe_shut on kept = shut_by AddressStrobe by_state
    where
      by_state : (low : Bool) → own AddressStrobe ≡ low → (rule version (readings p h (Slot s)) AddressStrobe (not low) None).1 ≡ false
      by_state true is = rises_not (own AddressStrobe) (own Addr) is kept
      by_state false is = last_not (own Addr) (line p h AddressStrobe) on

  -- a master under an answer
  pub masters_answered : line p h AddressStrobe ≡ true → (line p h Dtack || drive h Controller Berr) ≡ true
      → (own AddressStrobe && not (own Addr)) ≡ false → own DataStrobe ≡ false → (own AddressStrobe && has_strobed h (Slot s)) ≡ false → offered_on version p h (Slot s) master_wires ≡ []
  masters_answered on answered kept off unstrobed =
      two_behind (is_open version p h) (considered p h (Slot s) Addr) (turned h (Slot s) AddressStrobe) (turned h (Slot s) DataStrobe)
      (address_shut on (off_by_last (own AddressStrobe) (own DataStrobe) (has_strobed h (Slot s)) unstrobed))
      (strobe_shut on kept)
      (closed version p h (Slot s) DataStrobe false off (answered_stays (own AddressStrobe) (own Addr) (line p h Dtack) (drive h Controller Berr) (has_strobed h (Slot s)) answered))

  -- and one that waits for it
  pub masters_unanswered : line p h AddressStrobe ≡ true → (line p h Dtack || drive h Controller Berr) ≡ false
      → (own AddressStrobe && not (own Addr)) ≡ false → (own AddressStrobe && not (own DataStrobe)) ≡ false → offered_on version p h (Slot s) master_wires ≡ []
  masters_unanswered on none kept strobing =
      two_behind (is_open version p h) (considered p h (Slot s) Addr) (turned h (Slot s) AddressStrobe) (turned h (Slot s) DataStrobe)
      (address_shut on (off_by_first (own AddressStrobe) (own DataStrobe) (has_strobed h (Slot s)) strobing))
      (strobe_shut on kept)
      (shut_by DataStrobe by_state)
    where
      by_state : (low : Bool) → own DataStrobe ≡ low → (rule version (readings p h (Slot s)) DataStrobe (not low) None).1 ≡ false
      by_state true is = none
      by_state false is = no_strobe (own AddressStrobe) (own Addr) (line p h Dtack) (drive h Controller Berr) (has_strobed h (Slot s)) (on_alone (own AddressStrobe) (own DataStrobe) is strobing)

  -- a board's acknowledge output
  output_shut : (interrupts : Bool) → interrupts ≡ has_driver p (Slot s) IackOut → (not (line p h AddressStrobe) && (interrupts && own IackOut)) ≡ false
      → (own IackOut ≡ false → (iack_in p h (Slot s) && not (own Dtack) && line p h DataStrobe) ≡ false) → is_open version p h (turned h (Slot s) IackOut) ≡ false
  output_shut false lacks held kept = lacking version p h (turned h (Slot s) IackOut) (sym lacks)
  output_shut true part held kept = shut_by IackOut by_state
    where
      by_state : (low : Bool) → own IackOut ≡ low → (rule version (readings p h (Slot s)) IackOut (not low) None).1 ≡ false
      by_state true is = held_there (own IackOut) (line p h AddressStrobe) is held
      by_state false is = three_of_four (iack_in p h (Slot s)) (own Dtack) (line p h DataStrobe) _ (kept is)

  request_shut : (interrupts : Bool) → interrupts ≡ has_driver p (Slot s) Irq → (interrupts && not (own Irq && not (is_served p h (Slot s)))) ≡ false
      → is_open version p h (turned h (Slot s) Irq) ≡ false
  request_shut false lacks waits = lacking version p h (turned h (Slot s) Irq) (sym lacks)
  request_shut true part waits =
      let t = both_wait (own Irq) (is_served p h (Slot s)) waits in
      closed version p h (Slot s) Irq true t.0 t.1

  -- between data strobes
  pub interrupters_between : (interrupts : Bool) → interrupts ≡ has_driver p (Slot s) Irq → line p h DataStrobe ≡ false
      → (interrupts && not (own Irq && not (is_served p h (Slot s)))) ≡ false → (not (line p h AddressStrobe) && (interrupts && own IackOut)) ≡ false → own Dtack ≡ false
      → offered_on version p h (Slot s) interrupter_wires ≡ []
  interrupters_between interrupts has_part off waits held dtack =
      three_shut (is_open version p h) (turned h (Slot s) Irq) (turned h (Slot s) IackOut) (turned h (Slot s) Dtack)
      (request_shut interrupts has_part waits)
      (output_shut interrupts has_part held (λ is. third_off (iack_in p h (Slot s)) (not (own Dtack)) (line p h DataStrobe) off))
      (closed version p h (Slot s) Dtack false dtack (first_off (line p h DataStrobe) (line p h AddressStrobe) (may_answer (readings p h (Slot s)) (shown p h)) off))

  -- under one
  pub interrupters_under : (interrupts boards accessed : Bool) → interrupts ≡ has_driver p (Slot s) Irq → boards ≡ has_driver p (Slot s) Dtack → line p h DataStrobe ≡ true
      → (interrupts && not (own Irq && not (is_served p h (Slot s)))) ≡ false → (not (line p h AddressStrobe) && (interrupts && own IackOut)) ≡ false
      → (s < 22 → accessed ≡ is_access_to s (shown p h))
      → (((iack_in p h (Slot s) && not (own IackOut)) || (boards && accessed)) && not (own Dtack)) ≡ false → IsAccepted p
      → offered_on version p h (Slot s) interrupter_wires ≡ []
  interrupters_under interrupts boards accessed has_part stands_there on waits held access called ok =
      three_shut (is_open version p h) (turned h (Slot s) Irq) (turned h (Slot s) IackOut) (turned h (Slot s) Dtack)
      (request_shut interrupts has_part waits)
      (output_shut interrupts has_part held (λ is. uncalled (iack_in p h (Slot s)) (own IackOut) (boards && accessed) (own Dtack) (line p h DataStrobe) is called))
      (by_board (board p s) refl)
    where
      answers_not : (r : Row) → board p s ≡ Some r → own Dtack ≡ false → (c : Option Cycle) → shown p h ≡ c → may_answer (readings p h (Slot s)) c ≡ false
      answers_not r found dtack None is = refl
      answers_not r found dtack (Some (Acknowledge n)) is = first_of_pending (iack_in p h (Slot s)) (own IackOut) (boards && accessed) (own Dtack) _ dtack called
      answers_not r found dtack (Some (Access t)) is =
          let k = stands p s r ok found in
          let there : boards ≡ true = stands_there ∙ ap (λ (o : Option Row). option_map_or (drives Dtack) o false) found in
          let other : accessed ≡ false = none_accessed (iack_in p h (Slot s) && not (own IackOut)) boards accessed (own Dtack) there dtack called in
          ap (λ (o : Option Row). option_map_or (λ b. b.slot == t) o false) found ∙ ap (λ n. n == t) k.slot ∙ sym (access k.near ∙ ap (λ v. is_access_to s v) is) ∙ other

      by_board : (o : Option Row) → board p s ≡ o → is_open version p h (turned h (Slot s) Dtack) ≡ false
      by_board None found = lacking version p h (turned h (Slot s) Dtack) (ap (λ (o : Option Row). option_map_or (drives Dtack) o false) found)
      by_board (Some r) found = shut_by Dtack by_state
        where
          by_state : (low : Bool) → own Dtack ≡ low → (rule version (readings p h (Slot s)) Dtack (not low) None).1 ≡ false
          by_state true is = ap not on
          by_state false is = third_off (line p h DataStrobe) (line p h AddressStrobe) (may_answer (readings p h (Slot s)) (shown p h)) (answers_not r found is (shown p h) refl)
