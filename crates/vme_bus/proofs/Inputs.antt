-- What a board reads at its inputs: `BusState::grant_in`, `iack_in`; and which inputs turn with an edge: `BusState::note`.
use Rattle.std.proofs.Common.{◌≡◌, ◌∙◌, refl, sym, ap, subst, ℕ, Bool, true, false, List, ◌<◌, ◌≤◌, arith, zero, suc, ◌∷◌, []}
use Rattle.std.specs.Prelude.{◌&&◌, Option, Some, None, is_some, nat_lt, ◌==◌, option_map, find, reverse, if◌then◌else◌}
use Rattle.std.specs.Option.{option_map_or, IfSome}
use Rattle.vme_model.specs.declared.boards.Row.{Row}
use Rattle.vme_model.specs.declared.boards.RequesterRow.{RequesterRow}
use Rattle.vme_model.specs.declared.sets.ChainId.{ChainId}
use Rattle.vme_model.specs.declared.sets.ChainId.TheVariants as chain
use Rattle.vme_model.specs.declared.signals.Version.{Version}
use Rattle.vme_model.specs.declared.signals.Edge.{Edge}
use Rattle.vme_model.specs.declared.signals.Driver.TheVariants.{Controller, Slot}
use Rattle.vme_model.specs.declared.signals.Wire.TheVariants.{Bg, Iack, BgOut, IackOut}
use Rattle.vme_model.specs.Plan.{Plan, board, upstream, last_active, active, grant_chain, head_wire, out_wire, is_active}
use Rattle.vme_model.specs.History.{drive, segment, input, is_past_end}
use Rattle.vme_model.specs.Readings.{grant_in, iack_in}
use Rattle.vme_model.specs.Accepted.{IsAccepted}
use Rattle.vme_bus.specs.declared.layouts.Input.TheVariants as input
use Rattle.vme_bus.specs.declared.records.SeatRecord.{SeatRecord}
use Rattle.vme_bus.specs.Moves.{MovesPlace, MovesSlots}
use Rattle.vme_model.proofs.Ranges.{in_range}
use Rattle.vme_histories.proofs.AllowedBoards.{stands}
use Rattle.vme_bus.specs.declared.sets.SlotSet.{SlotSet}
use Rattle.vme_bus.specs.Sets.{has}
use Rattle.vme_bus.specs.Layouts.{seat, seat_of, is_input_at, HoldsInputs, place_of, grant_head, acknowledge_head, grant_source}
use Rattle.vme_bus.specs.States.{HoldsOutputs, IsStateOf}
use Rattle.std.proofs.lemmas.Bool.Decides.{nat_tests}
use Rattle.vme_model.proofs.Below.{last_of}
use Rattle.vme_bus.specs.declared.states.BusState.{BusState}

-- what a search finds passes its test
found_passes : (test : ℕ → Bool) (xs : List ℕ) (t : ℕ) → find test xs ≡ Some t → test t ≡ true
found_passes test [] t is = absurd (cc)
found_passes test (x ∷ xs) t is = by_test (test x) refl is (found_passes test xs t)
  where
    by_test : (b : Bool) → test x ≡ b → (if b then Some x else find test xs) ≡ Some t → (find test xs ≡ Some t → test t ≡ true) → test t ≡ true
    by_test true on e rest = let same : x ≡ t = cc in subst (λ y. test y ≡ true) same on
    by_test false off e rest = rest e

abbrev IsNear : Option ℕ → Type 0
IsNear o = IfSome o (λ t. t < 22)

near_below : (p : Plan) (c : ChainId) (s : ℕ) → s < 22 → (o : Option ℕ) → upstream p c s ≡ o → IsNear o
near_below p c s near None is = tt
near_below p c s near (Some t) is =
    let below = found_passes (λ t. nat_lt t s) (reverse (active p c)) t is in
    let less : t < s = grind (arith, nat_tests) in
    omega arith

near_end : (p : Plan) (c : ChainId) → p.slots ≤ 21 → (o : Option ℕ) → last_active p c ≡ o → IsNear o
near_end p c most None is = tt
near_end p c most (Some t) is =
    let below = found_passes (λ t. nat_lt t (suc p.slots)) (reverse (active p c)) t (last_of (is_active p.rows c) p.slots p.slots (omega arith) ∙ is) in
    let less : t < suc p.slots = grind (arith, nat_tests) in
    omega arith

abbrev pub HoldsHeads : List Edge → SlotSet → Type 0
HoldsHeads h set = (n : ℕ) → n < 4 → has set (grant_head n) ≡ drive h Controller (Bg n)

abbrev HoldsHead : List Edge → SlotSet → Type 0
HoldsHead h set = has set acknowledge_head ≡ drive h Controller Iack

-- a low segment stands at its place
segment_at : (set : SlotSet) (h : List Edge) (c : ChainId) (head : ℕ) (o : Option ℕ) → IsNear o → HoldsOutputs h (out_wire c) set
    → has set head ≡ drive h Controller (head_wire c) → has set (place_of head o) ≡ segment h c o
segment_at set h c head None near outputs heads = heads
segment_at set h c head (Some t) near outputs heads = outputs t near

grants_at : (set : SlotSet) (h : List Edge) (n : ℕ) → n < 4 → HoldsOutputs h BgOut set → HoldsHeads h set → (o : Option ℕ) → IsNear o
    → has set (place_of (grant_head n) o) ≡ segment h (grant_chain n) o
grants_at set h zero l outputs heads o near = segment_at set h chain.Bg0 (grant_head 0) o near outputs (heads 0 l)
grants_at set h (suc zero) l outputs heads o near = segment_at set h chain.Bg1 (grant_head 1) o near outputs (heads 1 l)
grants_at set h (suc (suc zero)) l outputs heads o near = segment_at set h chain.Bg2 (grant_head 2) o near outputs (heads 2 l)
grants_at set h (suc (suc (suc zero))) l outputs heads o near = segment_at set h chain.Bg3 (grant_head 3) o near outputs (heads 3 l)
grants_at set h (suc (suc (suc (suc n)))) l outputs heads o near = absurd (omega arith)

grant_at_source : (p : Plan) (h : List Edge) (set : SlotSet) (r : Row) → IsAccepted p → HoldsOutputs h BgOut set → HoldsHeads h set → board p r.slot ≡ Some r
    → (is_some r.requester && has set (grant_source p r)) ≡ grant_in p h (Slot r.slot)
grant_at_source p h set r ok outputs heads found =
    let k = stands p r.slot r ok found in
    by_requester r.requester k.request k.near
    ∙ sym (ap (λ (o : Option Row). option_map_or (λ x. option_map_or (λ q. input p h (grant_chain q.level) x.slot) x.requester false) o false) found)
  where
    by_requester : (o : Option RequesterRow) → option_map_or (λ q. q.level) o 0 < 4 → r.slot < 22
        → (is_some o && has set (option_map_or (λ q. place_of (grant_head q.level) (upstream p (grant_chain q.level) r.slot)) o 0))
        ≡ option_map_or (λ q. input p h (grant_chain q.level) r.slot) o false
    by_requester None l near = refl
    by_requester (Some q) l near = grants_at set h q.level l outputs heads (upstream p (grant_chain q.level) r.slot) (near_below p (grant_chain q.level) r.slot near _ refl)

abbrev acknowledge_source : Plan → Row → ℕ
acknowledge_source p r = place_of acknowledge_head (upstream p chain.Iack r.slot)

acknowledge_at_source : (p : Plan) (h : List Edge) (set : SlotSet) (r : Row) → IsAccepted p → HoldsOutputs h IackOut set → HoldsHead h set → board p r.slot ≡ Some r
    → (is_some r.interrupter && has set (acknowledge_source p r)) ≡ iack_in p h (Slot r.slot)
acknowledge_at_source p h set r ok outputs head found =
    let k = stands p r.slot r ok found in
    ap (λ x. is_some r.interrupter && x) (segment_at set h chain.Iack acknowledge_head (upstream p chain.Iack r.slot) (near_below p chain.Iack r.slot k.near _ refl) outputs head)
    ∙ sym (ap (λ (o : Option Row). option_map_or (λ x. is_some x.interrupter && input p h chain.Iack x.slot) o false) found)

-- the last segments
module _ (version : Version) (p : Plan) (h : List Edge) (b : BusState) where
  near : (c : ChainId) → IsStateOf version p h b → IsNear (last_active p c)
  near c is = near_end p c (in_range p is.accepted).most _ refl

  pub grant_end_reads : (n : ℕ) → n < 4 → IsStateOf version p h b → has b.grants (place_of (grant_head n) (last_active p (grant_chain n))) ≡ is_past_end p h (grant_chain n)
  grant_end_reads n l is = grants_at b.grants h n l is.grants is.grant_heads (last_active p (grant_chain n)) (near (grant_chain n) is)

  pub acknowledge_end_reads : IsStateOf version p h b → has b.acknowledges (place_of acknowledge_head (last_active p chain.Iack)) ≡ is_past_end p h chain.Iack
  acknowledge_end_reads is = segment_at b.acknowledges h chain.Iack acknowledge_head (last_active p chain.Iack) (near chain.Iack is) is.acknowledges is.acknowledges_head

-- the same of each slot: a slot without a board has no input
abbrev is_low_at : (Row → Bool) → (Row → ℕ) → SlotSet → Option Row → Bool
is_low_at part source segments o = option_map_or (λ r. part r && has segments (source r)) o false

abbrev has_requester : Row → Bool
has_requester r = is_some r.requester

abbrev has_interrupter : Row → Bool
has_interrupter r = is_some r.interrupter

grant_is : (p : Plan) (h : List Edge) (set : SlotSet) (t : ℕ) → IsAccepted p → HoldsOutputs h BgOut set → HoldsHeads h set
    → grant_in p h (Slot t) ≡ is_low_at has_requester (grant_source p) set (board p t)
grant_is p h set t ok outputs heads = by_board (board p t) refl
  where
    by_board : (o : Option Row) → board p t ≡ o → grant_in p h (Slot t) ≡ is_low_at has_requester (grant_source p) set o
    by_board None is = ap (λ (o : Option Row). option_map_or (λ r. option_map_or (λ q. input p h (grant_chain q.level) r.slot) r.requester false) o false) is
    by_board (Some r) is =
        let slot = (stands p t r ok is).slot in
        ap (λ x. grant_in p h (Slot x)) (sym slot)
        ∙ sym (grant_at_source p h set r ok outputs heads (ap (board p) slot ∙ is))

acknowledge_is : (p : Plan) (h : List Edge) (set : SlotSet) (t : ℕ) → IsAccepted p → HoldsOutputs h IackOut set → HoldsHead h set
    → iack_in p h (Slot t) ≡ is_low_at has_interrupter (acknowledge_source p) set (board p t)
acknowledge_is p h set t ok outputs head = by_board (board p t) refl
  where
    by_board : (o : Option Row) → board p t ≡ o → iack_in p h (Slot t) ≡ is_low_at has_interrupter (acknowledge_source p) set o
    by_board None is = ap (λ (o : Option Row). option_map_or (λ r. is_some r.interrupter && input p h chain.Iack r.slot) o false) is
    by_board (Some r) is =
        let slot = (stands p t r ok is).slot in
        ap (λ x. iack_in p h (Slot x)) (sym slot)
        ∙ sym (acknowledge_at_source p h set r ok outputs head (ap (board p) slot ∙ is))

-- where a segment moves, the inputs at its place move
same_either_way : (a b : ℕ) → (a == b) ≡ (b == a)
same_either_way a b = grind (arith, nat_tests)

part_moved : (f : Bool → Bool) (part here : Bool) (old new fed low : Bool) → fed ≡ (part && here) → old ≡ (part && low) → new ≡ (if fed then f old else old) → new
    ≡ (part && (if here then f low else low))
part_moved f true true old new fed low feeds held moves = moves ∙ ap (λ b. if b then f old else old) feeds ∙ ap f held
part_moved f true false old new fed low feeds held moves = moves ∙ ap (λ b. if b then f old else old) feeds ∙ held
part_moved f false here old new fed low feeds held moves = moves ∙ ap (λ b. if b then f old else old) feeds ∙ held

input_moved : (f : Bool → Bool) (place : ℕ) (part : Row → Bool) (source : Row → ℕ) (segments moved : SlotSet) (o : Option Row) (old new fed : Bool) → MovesPlace f place segments moved
    → fed ≡ option_map_or (λ r. part r && source r == place) o false → old ≡ is_low_at part source segments o → new ≡ (if fed then f old else old) → new ≡ is_low_at part source moved o
input_moved f place part source segments moved None old new fed moves feeds held turns = turns ∙ ap (λ b. if b then f old else old) feeds ∙ held
input_moved f place part source segments moved (Some r) old new fed moves feeds held turns =
    part_moved f (part r) (place == source r) old new fed (has segments (source r)) (feeds ∙ ap (λ b. part r && b) (same_either_way (source r) place)) held turns
    ∙ ap (λ b. part r && b) (sym (moves (source r)))

-- what a place feeds, by the board of each slot
grant_feeds : (p : Plan) (place : ℕ) (o : Option Row)
    → option_map_or (is_input_at input.Grant place) (option_map (seat_of p) o) false ≡ option_map_or (λ r. has_requester r && grant_source p r == place) o false
grant_feeds p place None = refl
grant_feeds p place (Some r) = refl

acknowledge_feeds : (p : Plan) (place : ℕ) (o : Option Row)
    → option_map_or (is_input_at input.Acknowledge place) (option_map (seat_of p) o) false ≡ option_map_or (λ r. has_interrupter r && acknowledge_source p r == place) o false
acknowledge_feeds p place None = refl
acknowledge_feeds p place (Some r) = refl

module _ (f : Bool → Bool) (place : ℕ) (p : Plan) (h more : List Edge) (seats : List SeatRecord) (fed old new segments moved : SlotSet) (ok : IsAccepted p)
    (seated : (s : ℕ) → seat seats s ≡ option_map (seat_of p) (board p s)) where
  pub granted_moved : HoldsInputs input.Grant seats place fed → MovesSlots f fed old new → MovesPlace f place segments moved
      → HoldsOutputs h BgOut segments → HoldsHeads h segments → HoldsOutputs more BgOut moved → HoldsHeads more moved
      → (t : ℕ) → has old t ≡ grant_in p h (Slot t) → has new t ≡ grant_in p more (Slot t)
  granted_moved feeds turns moves outputs heads outputs_after heads_after t held =
      input_moved f place has_requester (grant_source p) segments moved (board p t) (has old t) (has new t) (has fed t) moves
      (feeds t ∙ ap (λ o. option_map_or (is_input_at input.Grant place) o false) (seated t) ∙ grant_feeds p place (board p t))
      (held ∙ grant_is p h segments t ok outputs heads) (turns t)
      ∙ sym (grant_is p more moved t ok outputs_after heads_after)

  pub acknowledged_moved : HoldsInputs input.Acknowledge seats place fed → MovesSlots f fed old new → MovesPlace f place segments moved
      → HoldsOutputs h IackOut segments → HoldsHead h segments → HoldsOutputs more IackOut moved → HoldsHead more moved
      → (t : ℕ) → has old t ≡ iack_in p h (Slot t) → has new t ≡ iack_in p more (Slot t)
  acknowledged_moved feeds turns moves outputs head outputs_after head_after t held =
      input_moved f place has_interrupter (acknowledge_source p) segments moved (board p t) (has old t) (has new t) (has fed t) moves
      (feeds t ∙ ap (λ o. option_map_or (is_input_at input.Acknowledge place) o false) (seated t) ∙ acknowledge_feeds p place (board p t))
      (held ∙ acknowledge_is p h segments t ok outputs head) (turns t)
      ∙ sym (acknowledge_is p more moved t ok outputs_after head_after)
