-- What the stored fields of a board in its place say about the history.
use Rattle.std.proofs.Common.{◌≡◌, List, ℕ}
use Rattle.std.specs.Prelude.{Some}
use Rattle.vme_model.specs.declared.signals.Version.{Version}
use Rattle.vme_model.specs.declared.signals.Driver.TheVariants.{Slot}
use Rattle.vme_model.specs.declared.signals.Wire.{Wire}
use Rattle.vme_model.specs.declared.signals.Edge.{Edge}
use Rattle.vme_model.specs.Plan.{Plan}
use Rattle.vme_model.specs.History.{drive}
use Rattle.vme_wiring.specs.Boards.{place, low_of}
use Rattle.vme_wiring.specs.Wired.{IsWiringOf}
use Rattle.vme_wiring.specs.declared.boards.Board.{Board}
use Rattle.vme_wiring.specs.declared.wirings.Wiring.{Wiring}
use Rattle.vme_wiring.proofs.LongerHistory.{placed_board}
use Rattle.vme_wiring.proofs.FieldReads.{own_of_board}

module _ (version : Version) (p : Plan) (h : List Edge) (w : Wiring) (is : IsWiringOf version p h w) where
  pub own_of_place : (s : ℕ) (b : Board) (x : Wire) → Some b ≡ place w.boards s → low_of b x ≡ drive h (Slot s) x
  own_of_place s b x here =
      let k = placed_board version p h s b w is here in
      own_of_board version p h s k.row b x is.legal k.found k.stands.slot k.is
