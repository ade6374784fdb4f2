-- What the crate's types own names no thread, so they may go to another.
use mathlib.Core.Bool.{Bool, true, false}
use Prim.Native.Nat.{ℕ, zero, suc, ◌+◌}
use mir.Syntax.{Ty}
use base.Shift.{Keyless}
use denote.Ref.{NamedLft}
use denote.RawPtr.{Ptr, block_ptr, null_ptr, room_for}
use denote.Param.Send.{IsSend, struct_send, recorded_send, plain_send, sendable}
use denote.Struct.Declared
use denote.Struct.Struct.{Struct}
use Rattle.core.specs.contracts.option.Option as option
use Rattle.vme_arena.specs.Stretch.{Stretch}
use Rattle.vme_arena.specs.Ownership.{block_token, homes, granule, only_if, units_at}
use Rattle.vme_arena.specs.contracts.loan.Loan as loan
use Rattle.vme_arena.specs.contracts.piece.Piece as piece
use Rattle.vme_arena.specs.contracts.held.Held as held
use Rattle.vme_arena.specs.contracts.slot.Slot as slot
use Rattle.vme_arena.specs.contracts.slot.Slot.TheInside as inside

room_keyless : (τ : Ty) (p : Ptr) → Keyless (room_for τ p)
room_keyless τ (block_ptr b o) = tt
room_keyless τ null_ptr = tt

pub token_keyless : (s : Stretch) (τ : Ty) (p : Ptr) → Keyless (block_token s τ p)
token_keyless s τ p = λ at lies. (room_keyless τ p, room_keyless _ p)

granule_keyless : (b x y : ℕ) → Keyless (granule b x y)
granule_keyless b x y = λ t. (tt, either t)
  where
    either : (t : Bool) → Keyless (only_if t (units_at (block_ptr b x) 16))
    either true = tt
    either false = tt

homes_keyless : (b x y n : ℕ) → Keyless (homes b x y n)
unfolding homes
homes_keyless b x y zero = tt
homes_keyless b x y (suc n) = (granule_keyless b x y, homes_keyless b (x + 16) (y + 1) n)

pub piece_send : IsSend piece.the_row
piece_send = record { owned = λ d vs. ((λ vss. (tt, (tt, tt))), room_keyless _ d.ptr); leaving = λ k f vs. tt }

pub loan_send : (κ : NamedLft) → IsSend (loan.the_row κ)
loan_send κ = record { owned = λ d vs. ((λ vss. (tt, (tt, (tt, ((λ uss. (tt, tt)), tt))))), homes_keyless d.spot.block d.spot.at d.spot.tag d.count); leaving = λ k f vs. tt }

held_send : (κ : NamedLft) → IsSend (held.the_row κ)
held_send κ =
    let T = held.the_type κ in let S = denote.Struct.Declared.shape T in
    recorded_send (Struct S) T.D T.to T.to_one (struct_send S (loan_send κ, (plain_send _ _ _ _ _, (plain_send _ _ _ _ _, tt))))

content_send : (κ : NamedLft) → IsSend (option.the_field (held.the_row κ)).row
content_send κ = search (sendable, held_send κ)

pub slot_send : (κ : NamedLft) → IsSend (slot.the_row κ)
slot_send κ = record {
  owned = λ r vs. ((λ _. tt), λ i. ((struct_send (denote.Struct.Declared.shape (inside.the_type κ)) (content_send κ, tt)).owned (((inside.the_type κ)).to i) vs, λ _. tt));
  leaving = λ k f vs. tt;
}
