-- A board that waits has no edge that the rules allow.
use Rattle.std.proofs.Common.{◌≡◌, ◌∙◌, refl, sym, ap, ℕ, Bool, true, false, List, [], arith}
use Rattle.std.specs.Prelude.{◌&&◌, ◌==◌, not, Option, Some, None, is_some}
use Rattle.std.specs.Option.{option_map_or, option_and_then}
use Rattle.std.proofs.lemmas.Bool.Decides.{nat_tests}
use Rattle.vme_model.specs.declared.boards.Row.{Row}
use Rattle.vme_model.specs.declared.boards.RequesterRow.{RequesterRow}
use Rattle.vme_model.specs.declared.boards.InterrupterRow.{InterrupterRow}
use Rattle.vme_model.specs.declared.pins.Pins.{Pins}
use Rattle.vme_model.specs.declared.sets.ChainId.TheVariants as chain
use Rattle.vme_model.specs.declared.signals.Version.{Version}
use Rattle.vme_model.specs.declared.signals.Driver.{Driver}
use Rattle.vme_model.specs.declared.signals.Driver.TheVariants.{Controller, Slot}
use Rattle.vme_model.specs.declared.signals.Wire.{Wire}
use Rattle.vme_model.specs.declared.signals.Wire.TheVariants.{Br, BgOut, Bbsy, Addr, AddressStrobe, DataStrobe, Irq, IackOut, Dtack}
use Rattle.vme_model.specs.declared.signals.Edge.{Edge}
use Rattle.vme_model.specs.Signals.{is_two}
use Rattle.vme_model.specs.Plan.{Plan, board}
use Rattle.vme_model.specs.History.{drive, shown, input as input_after}
use Rattle.vme_model.specs.Readings.{readings, grant_in, iack_in, is_served, is_pending}
use Rattle.vme_model.specs.Verdict.{IsLegal}
use Rattle.vme_model.specs.Views.{pins}
use Rattle.vme_interrupter.specs.Local.{seen, served, edges, over as interrupter_over, interrupter_of}
use Rattle.vme_interrupter.proofs.Seen.{served_seen}
use Rattle.vme_histories.proofs.NoOffers.{requester_closed, requester_lacking, master_closed, answer_closed, interrupter_closed, interrupter_lacking}
use Rattle.vme_histories.proofs.NoOffers.{none_waits, requester_of_none, master_of_none, interrupter_of_none, nobody_in}
use Rattle.vme_wiring.specs.Boards.{parts_of, place, low_of}
use Rattle.vme_wiring.specs.Asked.{seen_by, read_by}
use Rattle.vme_histories.specs.Offered.{offered_on, offered_but_full, requester_wires, master_wires, interrupter_wires}
use Rattle.vme_wiring.specs.Waits.{waits_for_grant, waits_for_bus, waits_for_cycle, is_unserved, board_waits, is_waiting, requester_waits, master_waits, interrupter_waits}
use Rattle.vme_histories.specs.Shown.{is_access_to}
use Rattle.vme_wiring.specs.Wired.{IsWiringOf}
use Rattle.vme_wiring.specs.declared.boards.Board.{Board}
use Rattle.vme_wiring.specs.declared.wirings.Wiring.{Wiring}
use Rattle.vme_wiring.proofs.LongerHistory.{IsPlaced, placed_board}
use Rattle.vme_wiring.proofs.FieldReads.{pins_of_board, own_of_board}

-- the parts of a test
five : (a b c d e : Bool) → ((a && not b && not c) && (not d && not e)) ≡ true → (a ≡ true) × (b ≡ false) × (c ≡ false) × (d ≡ false) × (e ≡ false)
five true false false false false holds = (refl, refl, refl, refl, refl)
five a b c d e holds = absurd (cc)

four : (a b c d : Bool) → (not a && not b && not c && not d) ≡ true → (a ≡ false) × (b ≡ false) × (c ≡ false) × (d ≡ false)
four false false false false holds = (refl, refl, refl, refl)
four a b c d holds = absurd (cc)

two_and_two : (a b c d : Bool) → ((not a && b) && (not c && d)) ≡ true → (a ≡ false) × (b ≡ true) × (c ≡ false) × (d ≡ true)
two_and_two false true false true holds = (refl, refl, refl, refl)
two_and_two a b c d holds = absurd (cc)

is_high : (a : Bool) → not a ≡ true → a ≡ false
is_high false holds = refl
is_high true holds = absurd (cc)

low_and_high : (a b : Bool) → (a && not b) ≡ true → (a ≡ true) × (b ≡ false)
low_and_high true false holds = (refl, refl)
low_and_high a b holds = absurd (cc)

both_hold : (a b : Bool) → (a && b) ≡ true → (a ≡ true) × (b ≡ true)
both_hold true true holds = (refl, refl)
both_hold a b holds = absurd (cc)

all_four : (a b c d : Bool) → (a && b && (c && d)) ≡ true → (a ≡ true) × (b ≡ true) × (c ≡ true) × (d ≡ true)
all_four true true true true holds = (refl, refl, refl, refl)
all_four a b c d holds = absurd (cc)

equal_self : (n : ℕ) → (n == n) ≡ true
equal_self n = grind (arith, nat_tests)

-- a board whose parts wait
module _ (version : Version) (p : Plan) (h : List Edge) (s : ℕ) (r : Row) (found : board p s ≡ Some r) where
  pub requester_none : waits_for_grant version (readings p h (Slot s)) r ≡ true → offered_on version p h (Slot s) requester_wires ≡ []
  requester_none waits = by_part r.requester refl waits
    where
      by_part : (o : Option RequesterRow) → r.requester ≡ o → waits_for_grant version (readings p h (Slot s)) (record r { requester = o }) ≡ true →
          offered_on version p h (Slot s) requester_wires ≡ []
      by_part None e waits =
          requester_lacking version p h s (ap (λ (x : Option Row). is_some (option_and_then (λ r. r.requester) x)) found ∙ ap (λ (x : Option RequesterRow). is_some x) e)
      by_part (Some q) e waits =
          let t = five (drive h (Slot s) Br) (drive h (Slot s) BgOut) (drive h (Slot s) Bbsy) (is_two version) (grant_in p h (Slot s)) waits in
          requester_closed version p h s t.0 t.1 t.2 t.3 t.4

  pub master_none : waits_for_bus (readings p h (Slot s)) ≡ true → offered_on version p h (Slot s) master_wires ≡ []
  master_none waits =
      let t = four (drive h (Slot s) Bbsy) (drive h (Slot s) Addr) (drive h (Slot s) AddressStrobe) (drive h (Slot s) DataStrobe) waits in
      master_closed version p h s t.0 t.1 t.2 t.3

  interrupter_by : (o : Option InterrupterRow) → r.interrupter ≡ o → drive h (Slot s) Dtack ≡ false → is_access_to r.slot (shown p h) ≡ false →
      option_map_or (λ (i : InterrupterRow). not (drive h (Slot s) IackOut)) o true ≡ true → option_map_or (λ (i : InterrupterRow). not (iack_in p h (Slot s))) o true ≡ true →
      option_map_or (λ (i : InterrupterRow). drive h (Slot s) Irq && not (is_served p h (Slot s))) o true ≡ true →
      offered_on version p h (Slot s) interrupter_wires ≡ []
  interrupter_by None e dtack access quiet unreached unserved =
      let none : iack_in p h (Slot s) ≡ false =
      ap (λ (o : Option Row). option_map_or (λ x. is_some x.interrupter && input_after p h chain.Iack x.slot) o false) found
      ∙ ap (λ (o : Option InterrupterRow). is_some o && input_after p h chain.Iack r.slot) e in
      interrupter_lacking version p h s r found e (answer_closed version p h s r found dtack access none)
  interrupter_by (Some i) e dtack access quiet unreached unserved =
      let none = is_high (iack_in p h (Slot s)) unreached in
      let u = low_and_high (drive h (Slot s) Irq) (is_served p h (Slot s)) unserved in
      interrupter_closed version p h s (answer_closed version p h s r found dtack access none) u.0 u.1 (is_high (drive h (Slot s) IackOut) quiet) none

  pub interrupter_none : waits_for_cycle (readings p h (Slot s)) r ≡ true → is_unserved (readings p h (Slot s)) r ≡ true → offered_on version p h (Slot s) interrupter_wires ≡ []
  interrupter_none waits unserved =
      let quiet = option_map_or (λ (i : InterrupterRow). not (drive h (Slot s) IackOut)) r.interrupter true in
      let unreached = option_map_or (λ (i : InterrupterRow). not (iack_in p h (Slot s))) r.interrupter true in
      let t = two_and_two (drive h (Slot s) Dtack) quiet (is_access_to r.slot (shown p h)) unreached waits in
      interrupter_by r.interrupter refl t.0 t.2 t.1 t.3 unserved

  board_none : board_waits version (readings p h (Slot s)) r ≡ true → offered_but_full version p h (Slot s) ≡ []
  board_none waits =
      let seen = readings p h (Slot s) in
      let t = all_four (waits_for_grant version seen r) (waits_for_bus seen) (waits_for_cycle seen r) (is_unserved seen r) waits in
      none_waits version p h s (requester_none t.0) (master_none t.1) (interrupter_none t.2 t.3)

-- the parts of a slot's board, or of none
module _ (version : Version) (p : Plan) (h : List Edge) (s : ℕ) (legal : IsLegal version p h) where
  pub requester_idle : requester_waits version p h s ≡ true → offered_on version p h (Slot s) requester_wires ≡ []
  requester_idle waits = by_board (board p s) refl waits
    where
      by_board : (o : Option Row) → board p s ≡ o → option_map_or (waits_for_grant version (readings p h (Slot s))) o true ≡ true →
          offered_on version p h (Slot s) requester_wires ≡ []
      by_board None found waits = requester_of_none version p h s found
      by_board (Some r) found waits = requester_none version p h s r found waits

  pub master_idle : master_waits p h s ≡ true → offered_on version p h (Slot s) master_wires ≡ []
  master_idle waits = by_board (board p s) refl waits
    where
      by_board : (o : Option Row) → board p s ≡ o → option_map_or (λ (r : Row). waits_for_bus (readings p h (Slot s))) o true ≡ true →
          offered_on version p h (Slot s) master_wires ≡ []
      by_board None found waits = master_of_none version p h s legal found
      by_board (Some r) found waits = master_none version p h s r found waits

  pub interrupter_idle : interrupter_waits p h s ≡ true → offered_on version p h (Slot s) interrupter_wires ≡ []
  interrupter_idle waits = by_board (board p s) refl waits
    where
      by_board : (o : Option Row) → board p s ≡ o →
          option_map_or (λ (r : Row). waits_for_cycle (readings p h (Slot s)) r && is_unserved (readings p h (Slot s)) r) o true ≡ true → offered_on version p h (Slot s) interrupter_wires ≡ []
      by_board None found waits = interrupter_of_none version p h s found
      by_board (Some r) found waits =
          let t = both_hold (waits_for_cycle (readings p h (Slot s)) r) (is_unserved (readings p h (Slot s)) r) waits in
          interrupter_none version p h s r found t.0 t.1

-- a driver that waits has no offer
pub waiting_none : (version : Version) (p : Plan) (h : List Edge) (d : Driver) → IsLegal version p h → is_waiting version p h d ≡ true → offered_but_full version p h d ≡ []
waiting_none version p h Controller legal waits = absurd (cc)
waiting_none version p h (Slot s) legal waits = by_board (board p s) refl waits
  where
    by_board : (o : Option Row) → board p s ≡ o → option_map_or (board_waits version (readings p h (Slot s))) o true ≡ true →
        offered_but_full version p h (Slot s) ≡ []
    by_board None found waits = nobody_in version p h s legal found
    by_board (Some r) found waits = board_none version p h s r found waits

-- the stored fields of a board that stands in its place
module _ (version : Version) (p : Plan) (h : List Edge) (w : Wiring) (s : ℕ) (b : Board) (is : IsWiringOf version p h w) (here : Some b ≡ place w.boards s) where
  stands_here : IsPlaced version p h s b
  stands_here = placed_board version p h s b w is here

  pub row_here : board p s ≡ Some b.row
  row_here = stands_here.found ∙ ap (λ (r : Row). Some r) (sym stands_here.same_row)

  own_is : (x : Wire) → low_of b x ≡ drive h (Slot s) x
  own_is x = own_of_board version p h s stands_here.row b x is.legal stands_here.found stands_here.stands.slot stands_here.is

  its_row : board p stands_here.row.slot ≡ Some stands_here.row
  its_row = ap (board p) stands_here.stands.slot ∙ stands_here.found

  its_pins : seen_by w.chains w.shared b.row ≡ pins p h (Slot s)
  its_pins = pins_of_board version p h w b stands_here.row is stands_here.same_row its_row ∙ ap (λ t. pins p h (Slot t)) stands_here.stands.slot

  served_is : b.interrupter.is_served ≡ is_served p h (Slot s)
  served_is =
      ap (λ (x : Board). x.interrupter.is_served) stands_here.is
      ∙ served_seen p h (Slot stands_here.row.slot) stands_here.row its_row
      ∙ ap (λ t. is_served p h (Slot t)) stands_here.stands.slot

  pub reads_grant : waits_for_grant w.version (read_by w b) b.row ≡ waits_for_grant version (readings p h (Slot s)) b.row
  reads_grant = rw (ap is_two is.rules, own_is Br, own_is BgOut, own_is Bbsy, ap (λ (x : Pins). x.grant_in) its_pins)

  pub reads_bus : waits_for_bus (read_by w b) ≡ waits_for_bus (readings p h (Slot s))
  reads_bus = rw (own_is Bbsy, own_is Addr, own_is AddressStrobe, own_is DataStrobe)

  pub reads_cycle : waits_for_cycle (read_by w b) b.row ≡ waits_for_cycle (readings p h (Slot s)) b.row
  reads_cycle = rw (own_is Dtack, own_is IackOut, ap (λ (x : Pins). is_access_to b.row.slot x.shown) its_pins, ap (λ (x : Pins). x.iack_in) its_pins)

  pub reads_service : is_unserved (read_by w b) b.row ≡ is_unserved (readings p h (Slot s)) b.row
  reads_service = rw (own_is Irq, served_is)

  pub of_row : (f : Row → Bool) → option_map_or f (board p s) true ≡ f b.row
  of_row f = ap (λ (o : Option Row). option_map_or f o true) row_here

  pub waits_here : is_waiting version p h (Slot s) ≡ board_waits version (readings p h (Slot s)) b.row
  waits_here = of_row (board_waits version (readings p h (Slot s)))

-- the interrupter's own test
its_level : (o : Option InterrupterRow) (i : InterrupterRow) (low done : Bool) → o ≡ Some i →
    (option_map_or (λ (j : InterrupterRow). j.level == i.level) o false && low && not done) ≡ option_map_or (λ (j : InterrupterRow). low && not done) o true
its_level None i low done e = absurd (cc)
its_level (Some j) i low done e =
    let same : j ≡ i = cc in
    let equal : (j.level == i.level) ≡ true = ap (λ (x : InterrupterRow). x.level == i.level) same ∙ equal_self i.level in
    rw equal

pub unserved : (version : Version) (p : Plan) (h : List Edge) (r : Row) (b : Board) (i : InterrupterRow) (x : Pins) → b ≡ parts_of version p h r → b.row.interrupter ≡ Some i →
    is_pending (interrupter_over b.interrupter.slot b.interrupter.row (seen p h) x) i.level
    ≡ option_map_or (λ (j : InterrupterRow). b.interrupter.irq && not b.interrupter.is_served) b.row.interrupter true
unserved version p h r b i x is has =
    rw is (its_level r.interrupter i (drive (edges (seen p h)) (Slot r.slot) Irq) (served (seen p h) (Slot r.slot) r.interrupter) (rw is at has))

pub own_state : (version : Version) (p : Plan) (h : List Edge) (r : Row) (b : Board) → b ≡ parts_of version p h r → b.interrupter ≡ interrupter_of b.interrupter.slot b.interrupter.row (seen p h)
own_state version p h r b is = rw is
