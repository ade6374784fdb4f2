use Rattle.std.proofs.Common.{All, sym, subst}
use Rattle.vme_model.specs.Accepted.{IsAccepted}
use Rattle.vme_model.specs.Verdict.{State, IsLegal}
use Rattle.vme_run.specs.Rooms.{IsRoomFor}
use Rattle.vme_run.proofs.boards.play_on.Goals as goal

pub play_in-requires-clause-accepted : goal.play_in-requires-clause-accepted
play_in-requires-clause-accepted g c = λ κs lives. subst (λ (b : State). IsAccepted b.plan) (sym c.requires.opened) c.laws.ensures.accepted

pub play_in-requires-clause-legal : goal.play_in-requires-clause-legal
play_in-requires-clause-legal g c = λ κs lives. subst (λ (b : State). IsLegal b.version b.plan b.history) (sym c.requires.opened) c.laws.ensures.legal

-- the rooms are for the fewer of the turns and the edges
pub play_in-requires-clause-bytes : goal.play_in-requires-clause-bytes
play_in-requires-clause-bytes g c = λ κs lives. subst (λ n. All (IsRoomFor n) c.in-Ok-rooms_for.rooms.items) c.min-edges.ensures c.in-Ok-rooms_for.ensures.rooms
