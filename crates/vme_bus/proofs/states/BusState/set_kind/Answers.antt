use Rattle.std.proofs.Common.{refl, sym}
use Rattle.vme_bus.proofs.OneKind.{kind_given}
use Rattle.vme_bus.proofs.states.BusState.set_kind.Goals as goal

pub returns : goal.returns
returns c version p h k b ha kb e =
    kind_given version p h k c.args.self.now b _ refl refl refl (sym e) ha kb
