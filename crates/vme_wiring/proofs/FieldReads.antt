-- What the stored fields say about the history.
use Rattle.std.proofs.Common.{◌≡◌, ◌∙◌, refl, sym, ap, ℕ, suc, Bool, true, false, List, [], ◌≤◌, arith}
use Rattle.std.specs.Prelude.{◌==◌, ◌&&◌, not, Option, Some, None, is_some, option_map, nat_lt}
use Rattle.std.specs.Option.{option_map_or}
use Rattle.std.proofs.lemmas.Bool.Decides.{nat_tests}
use Rattle.vme_model.specs.declared.boards.Row.{Row}
use Rattle.vme_model.specs.declared.boards.RequesterRow.{RequesterRow}
use Rattle.vme_model.specs.declared.pins.Pins.{Pins}
use Rattle.vme_model.specs.declared.sets.ChainId.{ChainId}
use Rattle.vme_model.specs.declared.sets.ChainId.TheVariants as chain
use Rattle.vme_model.specs.declared.signals.Version.{Version}
use Rattle.vme_model.specs.declared.signals.Driver.TheVariants.{Controller, Slot}
use Rattle.vme_model.specs.declared.signals.Wire.{Wire}
use Rattle.vme_model.specs.declared.signals.Wire.TheVariants.{Bg, Bclr, Iack, Berr, Br, BgOut, Bbsy, Addr, AddressStrobe, DataStrobe, Irq, IackOut, Dtack}
use Rattle.vme_model.specs.declared.signals.Edge.{Edge}
use Rattle.vme_model.specs.Signals.{has_wire}
use Rattle.vme_model.specs.Plan.{Plan, board, drives, grant_chain}
use Rattle.vme_model.specs.History.{drive, input as input_after, is_past_end as is_past_end_after, line}
use Rattle.vme_model.specs.Verdict.{IsLegal}
use Rattle.vme_model.specs.Views.{pins}
use Rattle.vme_model.specs.Settling.{are_grants_through, is_chain_clear, settling_guard, bg_rise_settles, bg_fall_settles}
use Rattle.vme_chain.specs.Segments.{segments_of, input, is_past_end, is_clear}
use Rattle.vme_chain.proofs.History.{reads_inputs, reads_the_end, reads_clearness}
use Rattle.vme_histories.proofs.Drivers.{never_drove}
use Rattle.vme_wiring.specs.Counts.{passes_grant}
use Rattle.vme_wiring.proofs.PullCounts.{no_pulls_left}
use Rattle.vme_arbiter.specs.Local.{ControllerState, controller_of, low}
use Rattle.vme_arbiter.specs.declared.policies.AnyPolicy.{AnyPolicy}
use Rattle.vme_model.specs.declared.boards.ArbiterKind.{ArbiterKind}
use Rattle.vme_requester.specs.Local.{requester_of}
use Rattle.vme_master.specs.Local.{master_of}
use Rattle.vme_interrupter.specs.Local.{seen, edges}
use Rattle.vme_interrupter.proofs.Seen.{edges_seen}
use Rattle.vme_wiring.specs.Boards.{parts_of, place, low_of}
use Rattle.vme_wiring.specs.Chained.{chains_of, chain_at}
use Rattle.vme_wiring.specs.Wired.{IsWiringOf}
use Rattle.vme_wiring.specs.declared.boards.Board.{Board}
use Rattle.vme_wiring.specs.declared.chains.Chains.{Chains}
use Rattle.vme_wiring.specs.declared.wirings.Wiring.{Wiring}
use Rattle.vme_wiring.proofs.Parts.{low_driven}
use Rattle.vme_wiring.proofs.LongerHistory.{none_placed}

pub chain_is : (p : Plan) (h : List Edge) (c : ChainId) → chain_at c (chains_of p h) ≡ segments_of p h c
chain_is p h chain.Bg0 = refl
chain_is p h chain.Bg1 = refl
chain_is p h chain.Bg2 = refl
chain_is p h chain.Bg3 = refl
chain_is p h chain.Iack = refl

abbrev grant_by : Chains → ℕ → Option RequesterRow → Bool
grant_by c s o = option_map_or (λ q. input (chain_at (grant_chain q.level) c) s) o false

grant_is : (p : Plan) (h : List Edge) (s : ℕ) (o : Option RequesterRow) →
    grant_by (chains_of p h) s o ≡ option_map_or (λ q. input_after p h (grant_chain q.level) s) o false
grant_is p h s None = refl
grant_is p h s (Some q) = ap (λ c. input c s) (chain_is p h (grant_chain q.level)) ∙ reads_inputs p h (grant_chain q.level) s

abbrev with_inputs : Pins → Bool → Bool → Pins
with_inputs s grant iack = record s { grant_in = grant; iack_in = iack }

-- a board's pins
pins_with : (p : Plan) (h : List Edge) (s : ℕ) (o : Option Row) → board p s ≡ o →
    pins p h (Slot s) ≡ with_inputs (pins p h Controller) (option_map_or (λ x. option_map_or (λ q. input_after p h (grant_chain q.level) x.slot) x.requester false) o false)
    (option_map_or (λ x. is_some x.interrupter && input_after p h chain.Iack x.slot) o false)
pins_with p h s o found = rw found

pub pins_of_board : (version : Version) (p : Plan) (h : List Edge) (w : Wiring) (b : Board) (r : Row) → IsWiringOf version p h w → b.row ≡ r → board p r.slot ≡ Some r →
    with_inputs w.shared (grant_by w.chains b.row.slot b.row.requester) (is_some b.row.interrupter && input w.chains.iack b.row.slot) ≡ pins p h (Slot r.slot)
pins_of_board version p h w b r is same found =
    rw (same, is.chains, is.shared, grant_is p h r.slot r.requester, reads_inputs p h chain.Iack r.slot) (sym (pins_with p h r.slot (Some r) found))

pub no_board_in : (version : Version) (p : Plan) (h : List Edge) (w : Wiring) (s : ℕ) → IsWiringOf version p h w → place w.boards s ≡ None → board p s ≡ None
no_board_in version p h w s is none = none_placed (parts_of version p h) (board p s) (sym (is.boards s) ∙ none)

-- a board's wires
no_part : {X A : Type 0} (g : A → Bool) (f : X → A) (o : Option X) → is_some o ≡ false → option_map_or g (option_map f o) false ≡ false
no_part {X} {A} g f None none = refl
no_part {X} {A} g f (Some x) none = absurd (cc)

silent : (p : Plan) (h : List Edge) (r : Row) (w : Wire) → is_some r.interrupter ≡ false → drive h (Slot r.slot) w ≡ false → drive (edges (seen p h)) (Slot r.slot) w ≡ false
silent p h r w none high = ap (λ (x : List Edge). drive x (Slot r.slot) w) (edges_seen p h) ∙ high

low_lacking : (version : Version) (p : Plan) (h : List Edge) (r : Row) (w : Wire) → drives w r ≡ false → drive h (Slot r.slot) w ≡ false → low_of (parts_of version p h r) w ≡ false
low_lacking version p h r Br lacks high = no_part (λ q. q.br) (λ q. requester_of r.slot q version h) r.requester lacks
low_lacking version p h r BgOut lacks high = no_part (λ q. q.bgout) (λ q. requester_of r.slot q version h) r.requester lacks
low_lacking version p h r Bbsy lacks high = no_part (λ q. q.bbsy) (λ q. requester_of r.slot q version h) r.requester lacks
low_lacking version p h r Addr lacks high = no_part (λ m. m.addr) (λ q. master_of r.slot q r.handler h) r.requester lacks
low_lacking version p h r AddressStrobe lacks high = no_part (λ m. m.address_strobe) (λ q. master_of r.slot q r.handler h) r.requester lacks
low_lacking version p h r DataStrobe lacks high = no_part (λ m. m.data_strobe) (λ q. master_of r.slot q r.handler h) r.requester lacks
low_lacking version p h r Irq lacks high = silent p h r Irq lacks high
low_lacking version p h r IackOut lacks high = silent p h r IackOut lacks high
low_lacking version p h r Dtack lacks high = absurd (cc)
low_lacking version p h r w lacks high = refl

pub own_of_board : (version : Version) (p : Plan) (h : List Edge) (s : ℕ) (r : Row) (b : Board) (w : Wire) → IsLegal version p h → board p s ≡ Some r → r.slot ≡ s →
    b ≡ parts_of version p h r → low_of b w ≡ drive h (Slot s) w
own_of_board version p h s r b w legal found slot is = ap (λ (x : Board). low_of x w) is ∙ by_wire (drives w r) refl
  where
    by_wire : (has : Bool) → drives w r ≡ has → low_of (parts_of version p h r) w ≡ drive h (Slot s) w
    by_wire true has = low_driven version p h r w has ∙ ap (λ x. drive h (Slot x) w) slot
    by_wire false lacks =
        let high = never_drove version p h (Slot s) w legal (ap (λ (o : Option Row). option_map_or (drives w) o false) found ∙ lacks) in
        low_lacking version p h r w lacks (ap (λ x. drive h (Slot x) w) slot ∙ high) ∙ sym high

-- the controller's wires
pub own_of_controller : (version : Version) (p : Plan) (h : List Edge) (w : Wire) → IsLegal version p h → low (controller_of p.arbiter version h) w ≡ drive h Controller w
own_of_controller version p h (Bg (suc (suc (suc (suc n))))) legal =
    let lacks : has_wire Controller (Bg (suc (suc (suc (suc n))))) ≡ false = grind (arith, nat_tests) in
    beyond (suc (suc (suc (suc n)))) (omega arith) ∙ sym (never_drove version p h Controller (Bg (suc (suc (suc (suc n))))) legal lacks)
  where
    beyond : (m : ℕ) → 4 ≤ m → low (controller_of p.arbiter version h) (Bg m) ≡ false
    beyond m l =
        let a : (m == 0) ≡ false = grind (arith, nat_tests) in
        let b : (m == 1) ≡ false = grind (arith, nat_tests) in
        let c : (m == 2) ≡ false = grind (arith, nat_tests) in
        let d : (m == 3) ≡ false = grind (arith, nat_tests) in
        rw (a, b, c, d)
own_of_controller version p h (Bg n) legal = refl
own_of_controller version p h Bclr legal = refl
own_of_controller version p h Iack legal = refl
own_of_controller version p h Berr legal = refl
own_of_controller version p h w legal = sym (never_drove version p h Controller w legal refl)

abbrev pub arbiter_by : AnyPolicy → ArbiterKind → Version → AnyPolicy × ControllerState
arbiter_by a kind version = (a, controller_of kind version [])

-- the settling rules
pub grant_gone : (version : Version) (p : Plan) (h : List Edge) (w : Wiring) → IsWiringOf version p h w →
    bg_fall_settles w.version (not (nat_lt 0 w.lines.bgout)) ≡ bg_fall_settles version (are_grants_through p h)
grant_gone version p h w is =
    ap (λ v. bg_fall_settles v (not (nat_lt 0 w.lines.bgout))) is.rules
    ∙ ap (λ b. bg_fall_settles version (not b)) (ap (nat_lt 0) is.lines.bgout)
    ∙ ap (bg_fall_settles version) (sym (no_pulls_left (passes_grant h) p.rows))

pub grant_seen : (version : Version) (p : Plan) (h : List Edge) (w : Wiring) (n : ℕ) → IsWiringOf version p h w →
    bg_rise_settles w.version w.shared.bbsy (is_past_end (chain_at (grant_chain n) w.chains)) ≡ bg_rise_settles version (line p h Bbsy) (is_past_end_after p h (grant_chain n))
grant_seen version p h w n is =
    ap (λ v. bg_rise_settles v w.shared.bbsy (is_past_end (chain_at (grant_chain n) w.chains))) is.rules
    ∙ ap (λ (x : Pins). bg_rise_settles version x.bbsy (is_past_end (chain_at (grant_chain n) w.chains))) is.shared
    ∙ ap (bg_rise_settles version (line p h Bbsy)) (
    ap (λ (x : Chains). is_past_end (chain_at (grant_chain n) x)) is.chains
    ∙ ap is_past_end (chain_is p h (grant_chain n)) ∙ reads_the_end p h (grant_chain n))

pub acknowledge_clear : (version : Version) (p : Plan) (h : List Edge) (w : Wiring) → IsWiringOf version p h w → is_clear w.chains.iack ≡ is_chain_clear p h chain.Iack
acknowledge_clear version p h w is = ap (λ (x : Chains). is_clear x.iack) is.chains ∙ reads_clearness p h chain.Iack

pub past_boards : (version : Version) (p : Plan) (h : List Edge) (w : Wiring) → IsWiringOf version p h w → is_past_end w.chains.iack ≡ is_past_end_after p h chain.Iack
past_boards version p h w is = ap (λ (x : Chains). is_past_end x.iack) is.chains ∙ reads_the_end p h chain.Iack

-- the settling rule of a wire and a direction
pub settling_at : (version : Version) (p : Plan) (h : List Edge) (x y : Wire) (fall down : Bool) → x ≡ y → fall ≡ down → settling_guard version p h y down ≡ settling_guard version p h x fall
settling_at version p h x y fall down wire falls =
    sym (ap (λ z. settling_guard version p h z fall) wire ∙ ap (λ d. settling_guard version p h y d) falls)

pub arbiter_of : (a : AnyPolicy) (kind own : ArbiterKind) (version : Version) → a.kind ≡ kind → own ≡ kind → arbiter_by a own version ≡ arbiter_by (record { kind = kind }) kind version
arbiter_of a kind own version policy same =
    ap (λ (k : ArbiterKind). arbiter_by (record { kind = k }) own version) policy ∙ ap (λ k. arbiter_by (record { kind = kind }) k version) same
