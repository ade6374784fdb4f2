use Rattle.std.specs.Prelude.{◌≡◌, All, vec_len}
use Rattle.vme_run.specs.Rooms.{IsRoomFor}
use Rattle.vme_run.proofs.boards.rooms_for.Given as goal

abbrev pub invariant-loop-board : goal.invariant-loop-board
invariant-loop-board l = (vec_len l.rooms ≡ l._board) × All (IsRoomFor l.edges) l.rooms.items
