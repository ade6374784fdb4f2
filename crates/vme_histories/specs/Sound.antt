-- What holds for the history of every backplane and of every bus.
use Rattle.vme_model.specs.Safe.{IsSafe, IsOrderly}
use Rattle.vme_model.specs.Verdict.{State, IsLegal}

pub record IsSound (b : State) : Type 0 where
  pub legal : IsLegal b.version b.plan b.history
  pub safe : IsSafe b.plan b.history
  pub orderly : IsOrderly b.version b.plan b.history
