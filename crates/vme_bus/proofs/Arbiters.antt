-- What the numbers say of the arbiter: `BusState::arbiter`.
use Rattle.std.proofs.Common.{◌≡◌, ℕ, Bool, List}
use Rattle.vme_model.specs.declared.boards.ArbiterKind.{ArbiterKind}
use Rattle.vme_model.specs.declared.signals.Version.{Version}
use Rattle.vme_model.specs.declared.signals.Edge.{Edge}
use Rattle.vme_model.specs.declared.signals.Driver.TheVariants.{Controller}
use Rattle.vme_model.specs.declared.signals.Wire.TheVariants.{Bg, Bclr, Iack, Berr}
use Rattle.vme_model.specs.History.{drive, last_level}
use Rattle.vme_arbiter.specs.Local.{ControllerState, controller_of}

-- its fields one by one
pub same_controller : (kind : ArbiterKind) (version : Version) (h : List Edge) (c : ControllerState) → c.kind ≡ kind → c.version ≡ version → c.bg0 ≡ drive h Controller (Bg 0) → c.bg1 ≡ drive h Controller (Bg 1) → c.bg2 ≡ drive h Controller (Bg 2) → c.bg3 ≡ drive h Controller (Bg 3) →
    c.bclr ≡ drive h Controller Bclr → c.iack ≡ drive h Controller Iack → c.berr ≡ drive h Controller Berr → c.last_level ≡ last_level h → c ≡ controller_of kind version h
same_controller kind version h c k v b0 b1 b2 b3 bclr iack berr last = cc
