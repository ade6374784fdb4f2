use denote.Ref.{NamedLft}
use denote.Param.Send.{IsSend}
use Rattle.vme_arena.specs.contracts.loan.Loan.{the_row}
use Rattle.vme_arena.proofs.Sent.{loan_send}

pub send : (κ : NamedLft) → IsSend (the_row κ)
send = loan_send
