use Rattle.std.proofs.Common.{List, subst}
use Rattle.std.specs.Prelude.{MatchResult}
use Rattle.vme_model.specs.declared.signals.Edge.{Edge}
use Rattle.vme_run.specs.Between.{IsClosedWith, IsClosedApart}
use Rattle.vme_run.proofs.InTurns.{played_or_not}
use Rattle.vme_run.proofs.boards.play_in.Goals as goal

pub returns : goal.returns
returns g c =
    let ran = c.in-Ok.ensures in
    let opened = g.L.Rig.opened in
    let after = c.in-Ok.seats.items in
    let closed = subst (λ (logs : List (List Edge)). MatchResult c.close_boards.result (IsClosedWith opened after logs) (IsClosedApart opened after logs))
    c.as_slice.ensures.value c.close_boards.ensures in
    let bounds = c.args.bounds in
    played_or_not opened c.args.seats.items after c.in-Ok.logs.items bounds.turns bounds.edges c.requires.accepted c.requires.legal c.requires.seats
    ran.worked ran.most c.close_boards.result closed
