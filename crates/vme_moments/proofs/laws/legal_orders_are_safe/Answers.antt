use Rattle.vme_model.proofs.Safety.{legal_is_safe}
use Rattle.vme_moments.specs.Orders.{edges_at}
use Rattle.vme_moments.proofs.laws.legal_orders_are_safe.Goals as goal

pub returns : goal.returns
returns c = record {
  legal = λ version p x ms places h. h.legal;
  safe = λ version p x ms places accepted h.
      legal_is_safe version p (edges_at ms places) accepted h.legal;
}
