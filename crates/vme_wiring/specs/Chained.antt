-- The daisy chains, by the history of their backplane.
use Rattle.std.specs.Prelude.{◌≡◌, ◌&&◌, Bool, ℕ, false, List, Some, not, is_some, set, slice_get}
use Rattle.std.specs.Option.{option_map_or}
use Rattle.vme_model.specs.declared.sets.ChainId.{ChainId}
use Rattle.vme_model.specs.declared.sets.ChainId.TheVariants as chain
use Rattle.vme_model.specs.declared.signals.Edge.{Edge}
use Rattle.vme_model.specs.Plan.{Plan, grant_chain}
use Rattle.vme_model.specs.declared.boards.Row.{Row}
use Rattle.vme_model.specs.declared.signals.Wire.{Wire}
use Rattle.vme_model.specs.declared.signals.Wire.TheVariants as wire
use Rattle.vme_chain.specs.Segments.{Segments, segments_of, input, output_number}
use Rattle.vme_histories.specs.Levels.{request_level}
use Rattle.vme_wiring.specs.declared.chains.Chains.{Chains}

abbrev pub chains_of : Plan → List Edge → Chains
chains_of p h = record {
  bg0 = segments_of p h chain.Bg0;
  bg1 = segments_of p h chain.Bg1;
  bg2 = segments_of p h chain.Bg2;
  bg3 = segments_of p h chain.Bg3;
  iack = segments_of p h chain.Iack;
}

abbrev pub chain_at : ChainId → Chains → Segments
chain_at chain.Bg0 c = c.bg0
chain_at chain.Bg1 c = c.bg1
chain_at chain.Bg2 c = c.bg2
chain_at chain.Bg3 c = c.bg3
chain_at chain.Iack c = c.iack

-- a board's inputs on its grant chain and on the acknowledge chain, if it has the part for it
abbrev pub grant_in : Chains → Row → Bool
grant_in c r =
    option_map_or (λ q. input (chain_at (grant_chain q.level) c) r.slot) r.requester false

abbrev pub iack_in : Chains → Row → Bool
iack_in c r = is_some r.interrupter && input c.iack r.slot

-- a chain with one segment in that state
abbrev pub moved : Segments → ℕ → Bool → Segments
moved c k fall = record c { low = set c.low k fall }

abbrev pub with_segment : ChainId → ℕ → Bool → Chains → Chains
with_segment chain.Bg0 k fall c = record c { bg0 = moved c.bg0 k fall }
with_segment chain.Bg1 k fall c = record c { bg1 = moved c.bg1 k fall }
with_segment chain.Bg2 k fall c = record c { bg2 = moved c.bg2 k fall }
with_segment chain.Bg3 k fall c = record c { bg3 = moved c.bg3 k fall }
with_segment chain.Iack k fall c = record c { iack = moved c.iack k fall }

-- the chains after an edge of one of the board's wires, and of the controller's
abbrev pub with_output : ChainId → ℕ → Bool → Chains → Chains
with_output id s fall c = with_segment id (output_number (chain_at id c).active s) fall c

abbrev pub after_board : Row → Wire → Bool → Chains → Chains
after_board r wire.BgOut fall c = with_output (grant_chain (request_level r)) r.slot fall c
after_board r wire.IackOut fall c = with_output chain.Iack r.slot fall c
after_board r _ fall c = c

abbrev pub after_controller : Wire → Bool → Chains → Chains
after_controller (wire.Bg n) fall c = with_segment (grant_chain n) 0 fall c
after_controller wire.Iack fall c = with_segment chain.Iack 0 fall c
after_controller _ fall c = c

-- the segment that such an edge moves is in the other state
abbrev pub IsBefore : ChainId → ℕ → Bool → Chains → Type 0
IsBefore id k fall c = slice_get (chain_at id c).low k ≡ Some (not fall)

abbrev pub IsOutputBefore : ChainId → ℕ → Bool → Chains → Type 0
IsOutputBefore id s fall c = IsBefore id (output_number (chain_at id c).active s) fall c

abbrev pub CanMove : Row → Wire → Bool → Chains → Type 0
CanMove r wire.BgOut fall c = IsOutputBefore (grant_chain (request_level r)) r.slot fall c
CanMove r wire.IackOut fall c = IsOutputBefore chain.Iack r.slot fall c
CanMove r _ fall c = Unit {0}

abbrev pub CanMoveHead : Wire → Bool → Chains → Type 0
CanMoveHead (wire.Bg n) fall c = IsBefore (grant_chain n) 0 fall c
CanMoveHead wire.Iack fall c = IsBefore chain.Iack 0 fall c
CanMoveHead _ fall c = Unit {0}
