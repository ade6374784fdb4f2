use denote.Ref.{NamedLft}
use denote.Param.Send.{IsSend}
use Rattle.vme_arena.specs.contracts.slot.Slot.{the_row}
use Rattle.vme_arena.proofs.Sent.{slot_send}

pub send : (κ : NamedLft) → IsSend (the_row κ)
send = slot_send
