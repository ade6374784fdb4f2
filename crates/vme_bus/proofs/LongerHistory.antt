-- The state after an edge is that of the longer history: `BusState::move_requester` and its like, `move_controller`.
use Rattle.std.proofs.Common.{◌≡◌, ◌≢◌, ◌∙◌, refl, sym, ap, subst, ℕ, Bool, true, false, List, ◌∷◌, ◌<◌, ◌≤◌, length, get_or, arith}
use Rattle.std.specs.Prelude.{◌==◌, ◌&&◌, ◌||◌, ◌+◌, not, if◌then◌else◌, min, Option, Some, None, Ok, set}
use Rattle.std.specs.Option.{option_map_or}
use Rattle.std.proofs.Math.Nat.{zero-min}
use Rattle.std.proofs.lemmas.Bool.Decides.{nat_tests}
use Rattle.std.proofs.lemmas.List.{length-set, get_or-set_same, get_or-set_other}
use Rattle.vme_model.specs.declared.boards.Row.{Row}
use Rattle.vme_model.specs.declared.boards.RequesterRow.{RequesterRow}
use Rattle.vme_model.specs.declared.boards.InterrupterRow.{InterrupterRow}
use Rattle.vme_model.specs.declared.boards.IrqKind.{IrqKind}
use Rattle.vme_model.specs.declared.boards.Release.{Release}
use Rattle.vme_model.specs.declared.boards.Release.TheVariants.{Request}
use Rattle.vme_model.specs.declared.signals.Version.{Version}
use Rattle.vme_model.specs.declared.signals.Driver.{Driver}
use Rattle.vme_model.specs.declared.signals.Driver.TheVariants.{Controller, Slot}
use Rattle.vme_model.specs.declared.signals.Wire.{Wire}
use Rattle.vme_model.specs.declared.signals.Wire.TheVariants.{Bg, Bclr, Iack, Berr, Br, BgOut, Bbsy, Addr, AddressStrobe, DataStrobe, Irq, IackOut, Dtack}
use Rattle.vme_model.specs.declared.signals.Cycle.{Cycle}
use Rattle.vme_model.specs.declared.signals.Edge.{Edge}
use Rattle.vme_model.specs.Signals.{is_fall_of, is_same_driver, is_same_wire, grant_level, has_wire}
use Rattle.vme_model.specs.Plan.{Plan, board}
use Rattle.vme_model.specs.History.{drive, shown, cycles, has_strobed, serves, served_since_request}
use Rattle.vme_model.specs.Readings.{is_served}
use Rattle.vme_model.specs.Verdict.{verdict_but_full}
use Rattle.vme_model.proofs.Bools.{same_number}
use Rattle.vme_model.proofs.AllowedEdges.{all_passed}
use Rattle.vme_master.specs.Local.{most_cycles}
use Rattle.vme_master.proofs.Counts.{one_more}
use Rattle.vme_interrupter.specs.Local.{seen, served, serves_board}
use Rattle.vme_interrupter.proofs.Seen.{served_seen}
use Rattle.vme_histories.specs.Shown.{addressing_after}
use Rattle.vme_histories.proofs.Others.{same_wire, drive_same, cycles_same, strobed_same, not_fall}
use Rattle.vme_histories.proofs.AllowedBoards.{stands, driven, at, at_head, level_kept}
use Rattle.vme_histories.proofs.Addressing.{addressing_by, addressing_kept, IsShownAt, shown_at}
use Rattle.vme_bus.specs.declared.sets.SlotSet.{SlotSet}
use Rattle.vme_bus.specs.declared.states.BusState.{BusState}
use Rattle.vme_bus.specs.Sets.{has}
use Rattle.vme_bus.specs.Records.{version_in, kind_in, cycle_in, slot_in}
use Rattle.vme_bus.specs.Layouts.{IsLayoutOf, set_at, grant_head, acknowledge_head}
use Rattle.vme_bus.specs.Moves.{MovesPlace, MovesSlots, FollowsWire, FollowsGrants, turned_by, grant_turned_by, served_by, strobed_by, cycles_by, shown_by, last_level_by, is_serving, release_of}
use Rattle.vme_bus.specs.States.{HoldsWire, HoldsOutputs, IsStateOf, counted, bus_clear_place, bus_error_place}
use Rattle.vme_bus.proofs.Places.{moved_to, unmoved}
use Rattle.vme_bus.proofs.Inputs.{HoldsHeads, granted_moved, acknowledged_moved}

self : (n : ℕ) → (n == n) ≡ true
self n = grind (arith, nat_tests)

twice : (b fall : Bool) → b ≡ not fall → not b ≡ fall
twice true false e = refl
twice false true e = refl
twice true true e = absurd (cc)
twice false false e = absurd (cc)

-- the wires of the driver that moves
abbrev by : Driver → Wire → Bool → Option Cycle → Edge
by d w fall v = record { driver = d; wire = w; fall = fall; value = v }

own_moved : (h : List Edge) (d : Driver) (own w : Wire) (fall : Bool) (v : Option Cycle) → is_same_driver d d ≡ true → drive h d w ≡ not fall
    → turned_by own w (drive h d own) ≡ drive (by d w fall v ∷ h) d own
own_moved h d own w fall v same before = by_wire (is_same_wire w own) refl
  where
    by_wire : (b : Bool) → is_same_wire w own ≡ b → (if b then not (drive h d own) else drive h d own) ≡ (if b && is_same_driver d d then fall else drive h d own)
    by_wire true is =
        twice (drive h d own) fall (ap (drive h d) (sym (same_wire w own is)) ∙ before)
        ∙ ap (λ b. if b then fall else drive h d own) (sym same)
    by_wire false is = refl

-- whether its cycle had its data strobe
strobed_where : (b strobed : Bool) (w : Wire) (fall : Bool) → b ≡ true →
    strobed_by w fall strobed ≡ (if fall && (is_same_wire w AddressStrobe && b) then false else (fall && (is_same_wire w DataStrobe && b)) || strobed)
strobed_where true strobed AddressStrobe true e = refl
strobed_where true strobed AddressStrobe false e = refl
strobed_where true strobed DataStrobe true e = refl
strobed_where true strobed DataStrobe false e = refl
strobed_where true strobed w true e = refl
strobed_where true strobed w false e = refl
strobed_where false strobed w fall e = absurd (cc)

-- whether it was served
served_where : (b serves served : Bool) (w : Wire) (fall : Bool) → b ≡ true →
    served_by w fall serves served ≡ (if fall && (is_same_wire w Irq && b) then false else ((fall && (is_same_wire w Dtack && b)) && serves) || served)
served_where true serves served Irq true e = refl
served_where true serves served Irq false e = refl
served_where true serves served Dtack true e = refl
served_where true serves served Dtack false e = refl
served_where true serves served w true e = refl
served_where true serves served w false e = refl
served_where false serves served w fall e = absurd (cc)

served_same : (p : Plan) (h : List Edge) (e : Edge) (d : Driver) (kind : IrqKind) → is_same_driver e.driver d ≡ false
    → served_since_request p (e ∷ h) d kind ≡ served_since_request p h d kind
served_same p h e d kind other =
    ap (λ b. if b then false else (is_fall_of d Dtack e && serves kind (shown p h)) || served_since_request p h d kind) (not_fall d Irq e other)
    ∙ ap (λ b. (b && serves kind (shown p h)) || served_since_request p h d kind) (not_fall d Dtack e other)

served_there : (p : Plan) (h : List Edge) (e : Edge) (t : ℕ) → is_same_driver e.driver (Slot t) ≡ false → is_served p (e ∷ h) (Slot t) ≡ is_served p h (Slot t)
served_there p h e t other = by_board (board p t)
  where
    by_row : (o : Option InterrupterRow) → option_map_or (λ i. served_since_request p (e ∷ h) (Slot t) i.kind) o false ≡ option_map_or (λ i. served_since_request p h (Slot t) i.kind) o false
    by_row None = refl
    by_row (Some i) = served_same p h e (Slot t) i.kind other

    by_board : (o : Option Row) → option_map_or (λ r. option_map_or (λ i. served_since_request p (e ∷ h) (Slot t) i.kind) r.interrupter false) o false
        ≡ option_map_or (λ r. option_map_or (λ i. served_since_request p h (Slot t) i.kind) r.interrupter false) o false
    by_board None = refl
    by_board (Some r) = by_row r.interrupter

-- the cycles of its tenure
counted_by : (p : Plan) (h : List Edge) (s : ℕ) → counted p h s ≡ min (cycles h (Slot s)) (most_cycles (release_of (board p s)))
counted_by p h s = by_board (board p s)
  where
    n : ℕ
    n = cycles h (Slot s)

    nothing : 0 ≡ min n 0
    nothing = grind arith

    by_requester : (o : Option RequesterRow) → option_map_or (λ q. min n (most_cycles q.release)) o 0 ≡ min n (most_cycles (option_map_or (λ q. q.release) o Request))
    by_requester None = nothing
    by_requester (Some q) = refl

    by_board : (o : Option Row) → option_map_or (λ r. option_map_or (λ q. min n (most_cycles q.release)) r.requester 0) o 0 ≡ min n (most_cycles (release_of o))
    by_board None = nothing
    by_board (Some r) = by_requester r.requester

no_more : (n most : ℕ) → min n most ≡ min (0 + n) most
no_more n most = grind arith

cycles_where : (b : Bool) (n : ℕ) (w : Wire) (fall : Bool) (release : Release) → b ≡ true →
    cycles_by w fall release (min n (most_cycles release))
    ≡ min (if fall && (is_same_wire w Bbsy && b) then 0 else (if fall && (is_same_wire w AddressStrobe && b) then 1 else 0) + n) (most_cycles release)
cycles_where true n Bbsy true release e = sym (zero-min (most_cycles release))
cycles_where true n AddressStrobe true release e = one_more n (most_cycles release)
cycles_where true n Bbsy false release e = no_more n (most_cycles release)
cycles_where true n AddressStrobe false release e = no_more n (most_cycles release)
cycles_where true n w true release e = no_more n (most_cycles release)
cycles_where true n w false release e = no_more n (most_cycles release)
cycles_where false n w fall release e = absurd (cc)

counted_there : (p : Plan) (h : List Edge) (e : Edge) (t : ℕ) → is_same_driver e.driver (Slot t) ≡ false → counted p h t ≡ counted p (e ∷ h) t
counted_there p h e t other =
    counted_by p h t
    ∙ ap (λ n. min n (most_cycles (release_of (board p t)))) (sym (cycles_same h e (Slot t) other))
    ∙ sym (counted_by p (e ∷ h) t)

-- what is shown
shown_kept : (p : Plan) (h : List Edge) (w : Wire) (fall : Bool) (v : Option Cycle) → has_wire Controller w ≡ true → shown p h ≡ shown p (at_head w fall v ∷ h)
shown_kept p h (Bg n) fall v has = refl
shown_kept p h Bclr fall v has = refl
shown_kept p h Iack fall v has = refl
shown_kept p h Berr fall v has = refl
shown_kept p h w fall v has = absurd (cc)

shown_moved : (p : Plan) (h : List Edge) (s : ℕ) (w : Wire) (fall : Bool) (v : Option Cycle) → has_wire (Slot s) w ≡ true → (w ≡ Addr → shown p (at s w fall v ∷ h) ≡ v)
    → shown_by w v (shown p h) ≡ shown p (at s w fall v ∷ h)
shown_moved p h s Addr fall v has on = sym (on refl)
shown_moved p h s Br fall v has on = refl
shown_moved p h s BgOut fall v has on = refl
shown_moved p h s Bbsy fall v has on = refl
shown_moved p h s AddressStrobe fall v has on = refl
shown_moved p h s DataStrobe fall v has on = refl
shown_moved p h s Irq fall v has on = refl
shown_moved p h s IackOut fall v has on = refl
shown_moved p h s Dtack fall v has on = refl
shown_moved p h s w fall v has on = absurd (cc)

-- what an edge of a board leaves
pub record IsNotedByBoard (p : Plan) (h : List Edge) (s : ℕ) (e : Edge) (old new : BusState) : Type 0 where
  pub rules : new.version ≡ old.version
  pub layout : new.layout ≡ old.layout
  pub kind : new.kind ≡ old.kind
  pub last_level : new.last_level ≡ old.last_level
  pub controls : new.controls ≡ old.controls
  pub br : FollowsWire Br s e.wire old.br new.br
  pub bbsy : FollowsWire Bbsy s e.wire old.bbsy new.bbsy
  pub addr : FollowsWire Addr s e.wire old.addr new.addr
  pub address_strobe : FollowsWire AddressStrobe s e.wire old.address_strobe new.address_strobe
  pub data_strobe : FollowsWire DataStrobe s e.wire old.data_strobe new.data_strobe
  pub irq : FollowsWire Irq s e.wire old.irq new.irq
  pub dtack : FollowsWire Dtack s e.wire old.dtack new.dtack
  pub grants : FollowsWire BgOut s e.wire old.grants new.grants
  pub acknowledges : FollowsWire IackOut s e.wire old.acknowledges new.acknowledges
  pub granted : MovesSlots (turned_by BgOut e.wire) (set_at old.layout.granted_by s) old.granted new.granted
  pub acknowledged : MovesSlots (turned_by IackOut e.wire) (set_at old.layout.acknowledged_by s) old.acknowledged new.acknowledged
  pub serves : Bool
  pub is_serving : serves ≡ is_serving (board p s) (shown p h)
  pub served : MovesPlace (served_by e.wire e.fall serves) s old.served new.served
  pub strobed : MovesPlace (strobed_by e.wire e.fall) s old.strobed new.strobed
  pub release : Release
  pub is_release : release ≡ release_of (board p s)
  pub cycles : new.cycles ≡ set old.cycles s (cycles_by e.wire e.fall release (get_or old.cycles s 0))
  pub shown : cycle_in new.shown ≡ shown_by e.wire e.value (cycle_in old.shown)
  pub addressing : slot_in new.addressing ≡ addressing_after (slot_in old.addressing) s e.wire e.fall

-- an edge of a board
module _ (version : Version) (p : Plan) (h : List Edge) (s : ℕ) (w : Wire) (fall : Bool) (v : Option Cycle) where
  abbrev more : List Edge
  more = at s w fall v ∷ h

  wire_at : (t : ℕ) (own : Wire) (old new : SlotSet) → drive h (Slot s) w ≡ not fall → FollowsWire own s w old new → has old t ≡ drive h (Slot t) own
      → has new t ≡ drive more (Slot t) own
  wire_at t own old new before moves held =
      moved_to (turned_by own w) s t old new (λ x. drive h (Slot x) own) (λ x. drive more (Slot x) own) moves held
      (own_moved h (Slot s) own w fall v (self s) before)
      (drive_same h (at s w fall v) (Slot t) own)

  wire_moved : (own : Wire) (old new : SlotSet) → drive h (Slot s) w ≡ not fall → FollowsWire own s w old new → HoldsWire h own old → HoldsWire more own new
  wire_moved own old new before moves held t = wire_at t own old new before moves (held t)

  -- a head stands behind every slot
  head_kept : (place : ℕ) (own head : Wire) (old new : SlotSet) → s < 22 → 24 ≤ place → FollowsWire own s w old new → has old place ≡ drive h Controller head
      → has new place ≡ drive more Controller head
  head_kept place own head old new near far moves held =
      let other : (s == place) ≡ false = grind (arith, nat_tests) in
      unmoved (turned_by own w) s place old new moves other ∙ held ∙ sym (drive_same h (at s w fall v) Controller head refl)

  strobed_moved : (old new : SlotSet) → MovesPlace (strobed_by w fall) s old new → ((t : ℕ) → has old t ≡ has_strobed h (Slot t)) → (t : ℕ) → has new t ≡ has_strobed more (Slot t)
  strobed_moved old new moves held t =
      moved_to (strobed_by w fall) s t old new (λ x. has_strobed h (Slot x)) (λ x. has_strobed more (Slot x)) moves (held t)
      (strobed_where (s == s) (has_strobed h (Slot s)) w fall (self s))
      (strobed_same h (at s w fall v) (Slot t))

  served_here : (r : Row) (serves : Bool) → board p s ≡ Some r → serves ≡ is_serving (board p s) (shown p h) → served_by w fall serves (is_served p h (Slot s)) ≡ is_served p more (Slot s)
  served_here r serves found is =
      ap (λ x. served_by w fall x (is_served p h (Slot s))) (is ∙ ap (λ o. is_serving o (shown p h)) found)
      ∙ ap (served_by w fall (serves_board r.interrupter (shown p h))) (sym (served_seen p h (Slot s) r found))
      ∙ served_where (s == s) (serves_board r.interrupter (shown p h)) (served (seen p h) (Slot s) r.interrupter) w fall (self s)
      ∙ served_seen p more (Slot s) r found

  served_moved : (r : Row) (serves : Bool) (old new : SlotSet) → board p s ≡ Some r → serves ≡ is_serving (board p s) (shown p h)
      → MovesPlace (served_by w fall serves) s old new → ((t : ℕ) → has old t ≡ is_served p h (Slot t)) → (t : ℕ) → has new t ≡ is_served p more (Slot t)
  served_moved r serves old new found is moves held t =
      moved_to (served_by w fall serves) s t old new (λ x. is_served p h (Slot x)) (λ x. is_served p more (Slot x)) moves (held t)
      (served_here r serves found is)
      (served_there p h (at s w fall v) t)

  cycles_moved : (t : ℕ) (release : Release) (old : List ℕ) → s < 22 → length old ≡ 22 → release ≡ release_of (board p s) → ((t : ℕ) → t < 22 → get_or old t 0 ≡ counted p h t)
      → t < 22 → get_or (set old s (cycles_by w fall release (get_or old s 0))) t 0 ≡ counted p more t
  cycles_moved t release old near room is held here = by_slot (s == t) refl
    where
      own : get_or (set old s (cycles_by w fall release (get_or old s 0))) s 0 ≡ counted p more s
      own =
          get_or-set_same old s (cycles_by w fall release (get_or old s 0)) 0 (omega arith)
          ∙ ap (cycles_by w fall release) (held s near ∙ counted_by p h s)
          ∙ ap (λ x. cycles_by w fall x (min (cycles h (Slot s)) (most_cycles (release_of (board p s))))) is
          ∙ cycles_where (s == s) (cycles h (Slot s)) w fall (release_of (board p s)) (self s)
          ∙ sym (counted_by p more s)

      by_slot : (b : Bool) → (s == t) ≡ b → get_or (set old s (cycles_by w fall release (get_or old s 0))) t 0 ≡ counted p more t
      by_slot true is_own = subst (λ x. get_or (set old s (cycles_by w fall release (get_or old s 0))) x 0 ≡ counted p more x) (same_number s t is_own) own
      by_slot false other =
          let apart : t ≢ s = λ same. absurd (grind (arith, nat_tests)) in
          get_or-set_other old s t (cycles_by w fall release (get_or old s 0)) 0 apart
          ∙ held t here
          ∙ counted_there p h (at s w fall v) t other

  board_noted : (r : Row) (old new : BusState) → IsStateOf version p h old → verdict_but_full version p h (at s w fall v) ≡ Ok tt → board p s ≡ Some r
      → IsNotedByBoard p h s (at s w fall v) old new → IsStateOf version p more new
  board_noted r old new is allowed found n =
      let k = stands p s r is.accepted found in
      let d = driven version p h s r w fall v found allowed in
      let shows : w ≡ Addr → IsShownAt p h s w fall v = shown_at version p h s r w fall v is.accepted is.legal allowed k d in
      let grants : HoldsOutputs more BgOut new.grants = λ t near. wire_at t BgOut old.grants new.grants d.before n.grants (is.grants t near) in
      let grant_heads : HoldsHeads more new.grants = λ m near. head_kept (grant_head m) BgOut (Bg m) old.grants new.grants k.near (omega arith) n.grants (is.grant_heads m near) in
      let acknowledges : HoldsOutputs more IackOut new.acknowledges = λ t near. wire_at t IackOut old.acknowledges new.acknowledges d.before n.acknowledges (is.acknowledges t near) in
      let acknowledges_head = head_kept acknowledge_head IackOut Iack old.acknowledges new.acknowledges k.near (omega arith) n.acknowledges is.acknowledges_head in
      record {
        accepted = is.accepted;
        legal = (allowed, is.legal);
        rules = ap version_in n.rules ∙ is.rules;
        layout = subst (IsLayoutOf p) (sym n.layout) is.layout;
        kind = ap kind_in n.kind ∙ is.kind;
        last_level = n.last_level ∙ is.last_level ∙ level_kept h s w fall v d.wire;
        bus_clear = ap (λ x. has x bus_clear_place) n.controls ∙ is.bus_clear ∙ sym (drive_same h (at s w fall v) Controller Bclr refl);
        bus_error = ap (λ x. has x bus_error_place) n.controls ∙ is.bus_error ∙ sym (drive_same h (at s w fall v) Controller Berr refl);
        br = wire_moved Br old.br new.br d.before n.br is.br;
        bbsy = wire_moved Bbsy old.bbsy new.bbsy d.before n.bbsy is.bbsy;
        addr = wire_moved Addr old.addr new.addr d.before n.addr is.addr;
        address_strobe = wire_moved AddressStrobe old.address_strobe new.address_strobe d.before n.address_strobe is.address_strobe;
        data_strobe = wire_moved DataStrobe old.data_strobe new.data_strobe d.before n.data_strobe is.data_strobe;
        irq = wire_moved Irq old.irq new.irq d.before n.irq is.irq;
        dtack = wire_moved Dtack old.dtack new.dtack d.before n.dtack is.dtack;
        grants = grants;
        grant_heads = grant_heads;
        acknowledges = acknowledges;
        acknowledges_head = acknowledges_head;
        granted = λ t. granted_moved (turned_by BgOut w) s p h more old.layout.seats _ old.granted new.granted old.grants new.grants is.accepted is.layout.seats
            (is.layout.granted_by.each s (omega arith)) n.granted n.grants is.grants is.grant_heads grants grant_heads t (is.granted t);
        acknowledged = λ t. acknowledged_moved (turned_by IackOut w) s p h more old.layout.seats _ old.acknowledged new.acknowledged old.acknowledges new.acknowledges is.accepted is.layout.seats
            (is.layout.acknowledged_by.each s (omega arith)) n.acknowledged n.acknowledges is.acknowledges is.acknowledges_head acknowledges acknowledges_head t (is.acknowledged t);
        served = served_moved r n.serves old.served new.served found n.is_serving n.served is.served;
        strobed = strobed_moved old.strobed new.strobed n.strobed is.strobed;
        cycles_room = ap length n.cycles ∙ length-set old.cycles s (cycles_by w fall n.release (get_or old.cycles s 0)) ∙ is.cycles_room;
        cycles = λ t near. ap (λ xs. get_or xs t 0) n.cycles ∙ cycles_moved t n.release old.cycles k.near is.cycles_room n.is_release is.cycles near;
        shown = n.shown ∙ ap (shown_by w v) is.shown ∙ shown_moved p h s w fall v d.wire (λ on. (shows on).shown);
        addressing = n.addressing ∙ ap (λ o. addressing_after o s w fall) is.addressing ∙ addressing_by p h s w fall v d.wire (λ on. (shows on).addressing);
      }

pub noted_by_board : (version : Version) (p : Plan) (h : List Edge) (s : ℕ) (r : Row) (e : Edge) (old new : BusState) → IsStateOf version p h old → verdict_but_full version p h e ≡ Ok tt
    → e.driver ≡ Slot s → board p s ≡ Some r → IsNotedByBoard p h s e old new → IsStateOf version p (e ∷ h) new
noted_by_board version p h s r e old new is allowed driver found n =
    let of = λ (d : Driver). by d e.wire e.fall e.value in
    let P : Driver → Type 0 = λ d. verdict_but_full version p h (of d) ≡ Ok tt → IsNotedByBoard p h s (of d) old new → IsStateOf version p (of d ∷ h) new in
    subst P (sym driver) (λ a m. board_noted version p h s e.wire e.fall e.value r old new is a found m) allowed n

-- an edge of the controller
module _ (h : List Edge) (w : Wire) (fall : Bool) (v : Option Cycle) where
  abbrev after : List Edge
  after = at_head w fall v ∷ h

  -- it leaves the boards' wires
  wire_kept : (own : Wire) (set : SlotSet) → HoldsWire h own set → HoldsWire after own set
  wire_kept own set held t = held t ∙ sym (drive_same h (at_head w fall v) (Slot t) own refl)

  output_kept : (f : Bool → Bool) (place t : ℕ) (own : Wire) (old new : SlotSet) → 24 ≤ place → t < 22 → MovesPlace f place old new → has old t ≡ drive h (Slot t) own
      → has new t ≡ drive after (Slot t) own
  output_kept f place t own old new far near moves held =
      let other : (place == t) ≡ false = grind (arith, nat_tests) in
      unmoved f place t old new moves other ∙ held ∙ sym (drive_same h (at_head w fall v) (Slot t) own refl)

  -- and that of the acknowledge
  acknowledge_moved : (old new : SlotSet) → drive h Controller w ≡ not fall → FollowsWire Iack acknowledge_head w old new → has old acknowledge_head ≡ drive h Controller Iack
      → has new acknowledge_head ≡ drive after Controller Iack
  acknowledge_moved old new before moves held = moves acknowledge_head ∙ ap (turned_by Iack w) held ∙ own_moved h Controller Iack w fall v refl before

  -- the lines of the controller's: each keeps its place while the other moves
  clear_moved : (old mid new : SlotSet) → drive h Controller w ≡ not fall → FollowsWire Bclr bus_clear_place w old mid → FollowsWire Berr bus_error_place w mid new
      → has old bus_clear_place ≡ drive h Controller Bclr → has new bus_clear_place ≡ drive after Controller Bclr
  clear_moved old mid new before cleared failed held =
      unmoved (turned_by Berr w) bus_error_place bus_clear_place mid new failed refl
      ∙ cleared bus_clear_place ∙ ap (turned_by Bclr w) held ∙ own_moved h Controller Bclr w fall v refl before

  error_moved : (old mid new : SlotSet) → drive h Controller w ≡ not fall → FollowsWire Bclr bus_clear_place w old mid → FollowsWire Berr bus_error_place w mid new
      → has old bus_error_place ≡ drive h Controller Berr → has new bus_error_place ≡ drive after Controller Berr
  error_moved old mid new before cleared failed held =
      failed bus_error_place
      ∙ ap (turned_by Berr w) (unmoved (turned_by Bclr w) bus_clear_place bus_error_place old mid cleared refl ∙ held)
      ∙ own_moved h Controller Berr w fall v refl before

-- the heads of the grants
either : (b low : Bool) → (if b then low else low) ≡ low
either true low = refl
either false low = refl

head_moved : (h : List Edge) (m : ℕ) (w : Wire) (fall : Bool) (v : Option Cycle) (old new : SlotSet) → has_wire Controller w ≡ true → drive h Controller w ≡ not fall
    → FollowsGrants w old new → has old (grant_head m) ≡ drive h Controller (Bg m) → has new (grant_head m) ≡ drive (at_head w fall v ∷ h) Controller (Bg m)
head_moved h m (Bg n) fall v old new exists before moves held = moves (grant_head m) ∙ by_level (n == m) refl
  where
    low : Bool
    low = has old (grant_head m)

    by_level : (b : Bool) → (n == m) ≡ b → (if grant_head n == grant_head m then grant_turned_by (Bg n) low else low) ≡ (if b && true then fall else drive h Controller (Bg m))
    by_level true is =
        let here : (grant_head n == grant_head m) ≡ true = grind (arith, nat_tests) in
        let same : n ≡ m = same_number n m is in
        ap (λ b. if b then grant_turned_by (Bg n) low else low) here
        ∙ ap (λ b. if b then not low else low) exists
        ∙ twice low fall (held ∙ ap (λ x. drive h Controller (Bg x)) (sym same) ∙ before)
    by_level false is =
        let there : (grant_head n == grant_head m) ≡ false = grind (arith, nat_tests) in
        ap (λ b. if b then grant_turned_by (Bg n) low else low) there ∙ held
head_moved h m Bclr fall v old new exists before moves held = moves (grant_head m) ∙ either (24 == grant_head m) (has old (grant_head m)) ∙ held
head_moved h m Iack fall v old new exists before moves held = moves (grant_head m) ∙ either (24 == grant_head m) (has old (grant_head m)) ∙ held
head_moved h m Berr fall v old new exists before moves held = moves (grant_head m) ∙ either (24 == grant_head m) (has old (grant_head m)) ∙ held
head_moved h m w fall v old new exists before moves held = absurd (cc)

-- the state after an edge of the controller
abbrev pub headed : BusState → ℕ → SlotSet → SlotSet → SlotSet → SlotSet → SlotSet → BusState
headed b last grants granted acknowledged acknowledges controls =
    record b { last_level = last; grants = grants; granted = granted; acknowledged = acknowledged; acknowledges = acknowledges; controls = controls }

-- its edge stands at a place of the grants
head_near : (w : Wire) → has_wire Controller w ≡ true → grant_head (grant_level w) < 28
head_near (Bg n) exists = let l : n < 4 = grind (arith, nat_tests) in omega arith
head_near w exists = omega arith

module _ (version : Version) (p : Plan) (h : List Edge) (b : BusState) (last : ℕ) (grants granted acknowledged acknowledges mid controls : SlotSet) (is : IsStateOf version p h b) where
  abbrev IsNotedByHead : Edge → Type 0
  IsNotedByHead e =
      verdict_but_full version p h e ≡ Ok tt → last ≡ last_level_by e b.last_level → FollowsGrants e.wire b.grants grants
      → MovesSlots (grant_turned_by e.wire) (set_at b.layout.granted_by (grant_head (grant_level e.wire))) b.granted granted
      → MovesSlots (turned_by Iack e.wire) (set_at b.layout.acknowledged_by acknowledge_head) b.acknowledged acknowledged → FollowsWire Iack acknowledge_head e.wire b.acknowledges acknowledges
      → FollowsWire Bclr bus_clear_place e.wire b.controls mid → FollowsWire Berr bus_error_place e.wire mid controls
      → IsStateOf version p (e ∷ h) (headed b last grants granted acknowledged acknowledges controls)

  controller_noted : (w : Wire) (fall : Bool) (v : Option Cycle) → IsNotedByHead (at_head w fall v)
  controller_noted w fall v allowed level moved granted_moves acknowledged_moves followed cleared failed =
      let e = at_head w fall v in
      let place = grant_head (grant_level w) in
      let passed = all_passed version p h Controller w fall v allowed in
      let outputs : HoldsOutputs (e ∷ h) BgOut grants = λ t near. output_kept h w fall v (grant_turned_by w) place t BgOut b.grants grants (omega arith) near moved (is.grants t near) in
      let heads : HoldsHeads (e ∷ h) grants = λ m near. head_moved h m w fall v b.grants grants passed.wire passed.before moved (is.grant_heads m near) in
      let passes : HoldsOutputs (e ∷ h) IackOut acknowledges = λ t near.
      output_kept h w fall v (turned_by Iack w) acknowledge_head t IackOut b.acknowledges acknowledges (omega arith) near followed (is.acknowledges t near) in
      let head : has acknowledges acknowledge_head ≡ drive (e ∷ h) Controller Iack = acknowledge_moved h w fall v b.acknowledges acknowledges passed.before followed is.acknowledges_head in
      record {
        accepted = is.accepted;
        legal = (allowed, is.legal);
        rules = is.rules;
        layout = is.layout;
        kind = is.kind;
        last_level = level ∙ ap (last_level_by e) is.last_level;
        bus_clear = clear_moved h w fall v b.controls mid controls passed.before cleared failed is.bus_clear;
        bus_error = error_moved h w fall v b.controls mid controls passed.before cleared failed is.bus_error;
        br = wire_kept h w fall v Br b.br is.br;
        bbsy = wire_kept h w fall v Bbsy b.bbsy is.bbsy;
        addr = wire_kept h w fall v Addr b.addr is.addr;
        address_strobe = wire_kept h w fall v AddressStrobe b.address_strobe is.address_strobe;
        data_strobe = wire_kept h w fall v DataStrobe b.data_strobe is.data_strobe;
        irq = wire_kept h w fall v Irq b.irq is.irq;
        dtack = wire_kept h w fall v Dtack b.dtack is.dtack;
        grants = outputs;
        grant_heads = heads;
        acknowledges = passes;
        acknowledges_head = head;
        granted = λ t. granted_moved (grant_turned_by w) place p h (e ∷ h) b.layout.seats _ b.granted granted b.grants grants is.accepted is.layout.seats
            (is.layout.granted_by.each place (head_near w passed.wire)) granted_moves moved is.grants is.grant_heads outputs heads t (is.granted t);
        acknowledged = λ t. acknowledged_moved (turned_by Iack w) acknowledge_head p h (e ∷ h) b.layout.seats _ b.acknowledged acknowledged b.acknowledges acknowledges is.accepted is.layout.seats
            (is.layout.acknowledged_by.each acknowledge_head (omega arith)) acknowledged_moves followed is.acknowledges is.acknowledges_head passes head t (is.acknowledged t);
        served = λ t. is.served t ∙ sym (served_there p h e t refl);
        strobed = λ t. is.strobed t ∙ sym (strobed_same h e (Slot t) refl);
        cycles_room = is.cycles_room;
        cycles = λ t near. is.cycles t near ∙ counted_there p h e t refl;
        shown = is.shown ∙ shown_kept p h w fall v passed.wire;
        addressing = is.addressing ∙ addressing_kept p h w fall v passed.wire;
      }

  pub noted_by_controller : (e : Edge) → e.driver ≡ Controller → IsNotedByHead e
  noted_by_controller e driver = subst (λ d. IsNotedByHead (by d e.wire e.fall e.value)) (sym driver) (controller_noted e.wire e.fall e.value)
