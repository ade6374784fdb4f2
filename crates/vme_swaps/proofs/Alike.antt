-- Two histories after which the bus stands alike: the rules read the same, and so after a further edge.
use Rattle.std.proofs.Common.{◌≡◌, ◌∙◌, refl, sym, ap, ℕ, Bool, true, false, List, ◌∷◌, ◌+◌}
use Rattle.std.specs.Prelude.{◌&&◌, ◌||◌, not, if◌then◌else◌, Option, Some, None, Ok, find, is_some}
use Rattle.std.specs.List.{list_any, list_all}
use Rattle.std.specs.Option.{option_map_or, option_and_then}
use Rattle.vme_model.specs.declared.boards.Row.{Row}
use Rattle.vme_model.specs.declared.boards.InterrupterRow.{InterrupterRow}
use Rattle.vme_model.specs.declared.refusals.Refused.TheVariants.{NoSuchDriver, NotSettled}
use Rattle.vme_model.specs.declared.sets.ChainId.{ChainId}
use Rattle.vme_model.specs.declared.sets.ChainId.TheVariants as chain
use Rattle.vme_model.specs.declared.signals.Version.{Version}
use Rattle.vme_model.specs.declared.signals.Cycle.{Cycle}
use Rattle.vme_model.specs.declared.signals.Cycle.TheVariants.{Acknowledge, Access}
use Rattle.vme_model.specs.declared.signals.Edge.{Edge}
use Rattle.vme_model.specs.declared.signals.Driver.{Driver}
use Rattle.vme_model.specs.declared.signals.Driver.TheVariants.{Controller, Slot}
use Rattle.vme_model.specs.declared.signals.Wire.{Wire}
use Rattle.vme_model.specs.declared.signals.Wire.TheVariants.{Bg, Berr, Br, BgOut, Bbsy, Addr, AddressStrobe, DataStrobe, Irq, Dtack}
use Rattle.vme_model.specs.Signals.{is_edge_of, is_fall_of, is_same_wire, is_same_driver, is_grant, grant_level, has_wire}
use Rattle.vme_model.specs.Plan.{Plan, board, board_of, drives, grant_chain, upstream, last_active, active, up_to, head_wire, out_wire, requests_on, interrupts_on}
use Rattle.vme_model.specs.Accepted.{IsAccepted}
use Rattle.vme_model.specs.History.{drive, segment, shown, addressing, last_value, served_since_request, serves}
use Rattle.vme_model.specs.Readings.{readings}
use Rattle.vme_model.specs.Settling.{settling_guard, as_settles, berr_settles, bg_rise_settles, bg_fall_settles, is_unanswerable}
use Rattle.vme_model.specs.Guards.{holds}
use Rattle.vme_model.specs.Deliveries.{delivery, delivered_by}
use Rattle.vme_model.specs.Verdict.{IsLegal, Judgement, check, ruled, driver_guard, judged, verdict_but_full}
use Rattle.vme_model.proofs.AllowedEdges.{all_passed}
use Rattle.vme_histories.proofs.AllowedBoards.{at, stands, driven}
use Rattle.vme_histories.proofs.Addressing.{shown_at}
use Rattle.vme_histories.proofs.Others.{same_wire}
use Rattle.vme_swaps.specs.Alike.{StandAlike}

-- whether an interrupter was served, and a board's, by its row
abbrev pub served_on : Plan → List Edge → Driver → Option InterrupterRow → Bool
served_on p h d o = option_map_or (λ i. served_since_request p h d i.kind) o false

abbrev pub served_by : Plan → List Edge → Driver → Option Row → Bool
served_by p h d o = option_map_or (λ r. served_on p h d r.interrupter) o false

-- what the rules read of the wires

segment_alike : (g h : List Edge) → drive g ≡ drive h → (c : ChainId) (o : Option ℕ) → segment g c o ≡ segment h c o
segment_alike g h same c None = λ i. same i Controller (head_wire c)
segment_alike g h same c (Some s) = λ i. same i (Slot s) (out_wire c)

module _ (p : Plan) (g h : List Edge) (a : StandAlike p g h) where
  drives_alike : drive g ≡ drive h
  drives_alike = λ i d w. a.low d w i

  segments_alike : segment g ≡ segment h
  segments_alike = λ i c o. segment_alike g h drives_alike c o i

  pub addressing_alike : addressing p g ≡ addressing p h
  addressing_alike = λ i. find (λ s. a.low (Slot s) Addr i) (up_to p.slots)

  readings_alike : (d : Driver) → readings p g d ≡ readings p h d
  readings_alike d = λ i. record {
    own = λ w. a.low d w i;
    request = λ n. list_any (λ r. requests_on n r && a.low (Slot r.slot) Br i) p.rows;
    irq = λ n. list_any (λ r. interrupts_on n r && a.low (Slot r.slot) Irq i) p.rows;
    bbsy = list_any (λ r. drives Bbsy r && a.low (Slot r.slot) Bbsy i) p.rows;
    address_strobe = list_any (λ r. drives AddressStrobe r && a.low (Slot r.slot) AddressStrobe i) p.rows;
    data_strobe = list_any (λ r. drives DataStrobe r && a.low (Slot r.slot) DataStrobe i) p.rows;
    dtack = list_any (λ r. drives Dtack r && a.low (Slot r.slot) Dtack i) p.rows;
    berr = a.low Controller Berr i;
    shown = a.shown i;
    grant_in = option_map_or (λ r. option_map_or (λ q. segments_alike i (grant_chain q.level) (upstream p (grant_chain q.level) r.slot)) r.requester false) (board_of p d) false;
    iack_in = option_map_or (λ r. is_some r.interrupter && segments_alike i chain.Iack (upstream p chain.Iack r.slot)) (board_of p d) false;
    last_level = a.last_level i;
    cycles = a.cycles d i;
    has_strobed = a.strobed d i;
    served_since_request = a.served d i;
    arbiter = p.arbiter;
    board = board_of p d;
  }

  unanswerable_alike : (v : Option Cycle) → is_unanswerable p g v ≡ is_unanswerable p h v
  unanswerable_alike None = refl
  unanswerable_alike (Some (Access s)) = refl
  unanswerable_alike (Some (Acknowledge level)) = λ i. segments_alike i chain.Iack (last_active p chain.Iack)

  settling_alike : (version : Version) (w : Wire) (fall : Bool) → settling_guard version p g w fall ≡ settling_guard version p h w fall
  settling_alike version AddressStrobe true = λ i. (1, as_settles (not (segments_alike i chain.Iack None) && list_all (λ s. not (segments_alike i chain.Iack (Some s))) (active p chain.Iack)))
  settling_alike version Berr true = ap (λ b. (2, berr_settles b)) (unanswerable_alike (shown p g) ∙ ap (is_unanswerable p h) a.shown)
  settling_alike version (Bg n) false = λ i.
      (3, bg_rise_settles version (list_any (λ r. drives Bbsy r && a.low (Slot r.slot) Bbsy i) p.rows) (segments_alike i (grant_chain n) (last_active p (grant_chain n))))
  settling_alike version (Bg n) true = λ i. (4, bg_fall_settles version (list_all (λ r. not (a.low (Slot r.slot) BgOut i)) p.rows))
  settling_alike version w fall = refl

  pub judged_alike : (version : Version) (e : Edge) (rest : Judgement) → judged version p g e rest ≡ judged version p h e rest
  judged_alike version e rest = λ i.
      check (holds (driver_guard p e)) NoSuchDriver
      (ruled version (readings_alike e.driver i) e.wire e.fall e.value
      (check (holds (settling_alike version e.wire e.fall i).1) (NotSettled (settling_alike version e.wire e.fall i).0) rest))

  pub verdict_alike : (version : Version) (e : Edge) → verdict_but_full version p g e ≡ verdict_but_full version p h e
  verdict_alike version e = judged_alike version e (Ok tt)

  pub delivery_alike : (e : Edge) → delivery p g e ≡ delivery p h e
  delivery_alike e = λ i. if e.fall && is_same_wire e.wire Dtack then delivered_by (a.shown i) (addressing_alike i) (board_of p e.driver) else None

abbrev by : Driver → Wire → Bool → Option Cycle → Edge
by d w fall v = record { driver = d; wire = w; fall = fall; value = v }

-- what is shown, and by whom, after a further edge

pub shown_kept : (p : Plan) (h : List Edge) (e : Edge) → is_same_wire e.wire Addr ≡ false → shown p (e ∷ h) ≡ shown p h
shown_kept p h e off = λ i.
    option_and_then (λ s. if off i && is_same_driver e.driver (Slot s) then e.value else last_value h (Slot s))
    (find (λ s. if off i && is_same_driver e.driver (Slot s) then e.fall else drive h (Slot s) Addr) (up_to p.slots))

pub addressing_kept : (p : Plan) (h : List Edge) (e : Edge) → is_same_wire e.wire Addr ≡ false → addressing p (e ∷ h) ≡ addressing p h
addressing_kept p h e off = λ i. find (λ s. if off i && is_same_driver e.driver (Slot s) then e.fall else drive h (Slot s) Addr) (up_to p.slots)

-- an edge of an address group shows its value
module _ (version : Version) (p : Plan) (h : List Edge) where
  shown_by_driver : (d : Driver) (w : Wire) (fall : Bool) (v : Option Cycle) → IsAccepted p → IsLegal version p h → verdict_but_full version p h (by d w fall v) ≡ Ok tt
      → w ≡ Addr → shown p (by d w fall v ∷ h) ≡ v
  shown_by_driver Controller w fall v ok legal allowed is =
      let has = (all_passed version p h Controller w fall v allowed).wire in
      let lacks : has_wire Controller w ≡ false = ap (has_wire Controller) is in
      absurd (cc)
  shown_by_driver (Slot s) w fall v ok legal allowed is = on_board (board p s) refl
    where
      on_board : (o : Option Row) → board p s ≡ o → shown p (at s w fall v ∷ h) ≡ v
      on_board None found =
          let exists = (all_passed version p h (Slot s) w fall v allowed).exists in
          let lacks : option_map_or (drives w) (board p s) false ≡ false = ap (λ o. option_map_or (drives w) o false) found in
          absurd (cc)
      on_board (Some r) found = (shown_at version p h s r w fall v ok legal allowed (stands p s r ok found) (driven version p h s r w fall v found allowed) is).shown

  pub shown_by : (e : Edge) → IsAccepted p → IsLegal version p h → verdict_but_full version p h e ≡ Ok tt → is_same_wire e.wire Addr ≡ true → shown p (e ∷ h) ≡ e.value
  shown_by e ok legal allowed on = shown_by_driver e.driver e.wire e.fall e.value ok legal allowed (same_wire e.wire Addr on)

module _ (version : Version) (p : Plan) (g h : List Edge) (e : Edge) (ok : IsAccepted p) (legal : IsLegal version p g)
    (allowed : verdict_but_full version p g e ≡ Ok tt) (also : IsLegal version p h) (a : StandAlike p g h) where
  pub allowed_alike : verdict_but_full version p h e ≡ Ok tt
  allowed_alike = sym (verdict_alike p g h a version e) ∙ allowed

  shown_behind : (b : Bool) → is_same_wire e.wire Addr ≡ b → shown p (e ∷ g) ≡ shown p (e ∷ h)
  shown_behind true on = shown_by version p g e ok legal allowed on ∙ sym (shown_by version p h e ok also allowed_alike on)
  shown_behind false off = shown_kept p g e off ∙ a.shown ∙ sym (shown_kept p h e off)

  served_behind : (d : Driver) (o : Option Row) → served_by p g d o ≡ served_by p h d o → served_by p (e ∷ g) d o ≡ served_by p (e ∷ h) d o
  served_behind d None same = refl
  served_behind d (Some r) same = by_interrupter r.interrupter same
    where
      by_interrupter : (o : Option InterrupterRow) → served_on p g d o ≡ served_on p h d o → served_on p (e ∷ g) d o ≡ served_on p (e ∷ h) d o
      by_interrupter None same = refl
      by_interrupter (Some x) same = λ i. if is_fall_of d Irq e then false else (is_fall_of d Dtack e && serves x.kind (a.shown i)) || same i

  -- the bus stands alike after one more edge
  pub alike_behind : StandAlike p (e ∷ g) (e ∷ h)
  alike_behind = record {
    low = λ d w. λ i. if is_edge_of d w e then e.fall else a.low d w i;
    shown = shown_behind (is_same_wire e.wire Addr) refl;
    last_level = λ i. if is_grant e then grant_level e.wire else a.last_level i;
    cycles = λ d. λ i. if is_fall_of d Bbsy e then 0 else (if is_fall_of d AddressStrobe e then 1 else 0) + a.cycles d i;
    strobed = λ d. λ i. if is_fall_of d AddressStrobe e then false else is_fall_of d DataStrobe e || a.strobed d i;
    served = λ d. served_behind d (board_of p d) (a.served d);
  }

pub alike_refl : (p : Plan) (h : List Edge) → StandAlike p h h
alike_refl p h = record {
  low = λ d w. refl;
  shown = refl;
  last_level = refl;
  cycles = λ d. refl;
  strobed = λ d. refl;
  served = λ d. refl;
}

pub alike_sym : (p : Plan) (g h : List Edge) → StandAlike p g h → StandAlike p h g
alike_sym p g h a = record {
  low = λ d w. sym (a.low d w);
  shown = sym a.shown;
  last_level = sym a.last_level;
  cycles = λ d. sym (a.cycles d);
  strobed = λ d. sym (a.strobed d);
  served = λ d. sym (a.served d);
}

pub alike_trans : (p : Plan) (g h k : List Edge) → StandAlike p g h → StandAlike p h k → StandAlike p g k
alike_trans p g h k a b = record {
  low = λ d w. a.low d w ∙ b.low d w;
  shown = a.shown ∙ b.shown;
  last_level = a.last_level ∙ b.last_level;
  cycles = λ d. a.cycles d ∙ b.cycles d;
  strobed = λ d. a.strobed d ∙ b.strobed d;
  served = λ d. a.served d ∙ b.served d;
}
