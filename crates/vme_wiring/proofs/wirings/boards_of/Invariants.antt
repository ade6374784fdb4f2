use Rattle.std.proofs.Common.{◌≡◌, ℕ, ◌<◌, [], length}
use Rattle.std.specs.Prelude.{Some, option_map}
use Rattle.std.specs.List.{slice_get}
use Rattle.vme_model.specs.Plan.{board}
use Rattle.vme_wiring.specs.Boards.{parts_of}
use Rattle.vme_wiring.proofs.wirings.boards_of.Given as goal

abbrev pub invariant-loop-slot : goal.invariant-loop-slot
invariant-loop-slot l = record {
  room : length l.boards ≡ 22;
  made : (s : ℕ) → s < l.slot → slice_get l.boards s ≡ Some (option_map (parts_of l.version l.plan []) (board l.plan s));
}
