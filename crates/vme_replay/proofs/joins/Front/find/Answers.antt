use Rattle.std.proofs.Common.{◌++◌, List, ℕ, Option, Ok, take, get_or, subst, arith}
use Rattle.vme_model.specs.declared.signals.Version.{Version}
use Rattle.vme_replay.specs.Front.{Takes, EndsFront, IsFront}
use Rattle.vme_replay.proofs.Fronts.{piece_more}
use Rattle.vme_replay.proofs.joins.Front.find.Goals as goal

pub returns-in-Some : goal.returns-in-Some
returns-in-Some c =
    λ bytes h.
    let now = bytes ++ take c.loop-place.place c.args.piece.now in
    let ends = subst (λ (o : Option Version). Takes now (get_or c.args.piece.now c.loop-place.place 0) c.take.new.self (Ok o)) c.in-Some.is
    (c.in_ok-version.ensures now (c.loop-place.invariant bytes h)) in
    (omega arith, subst (λ (l : List ℕ). EndsFront c.take.new.self l c.in-Some.version) (piece_more bytes c.args.piece.now c.loop-place.place (omega arith)) ends)

pub loop-place-preserved : goal.loop-place-preserved
loop-place-preserved c =
    λ bytes h.
    let now = bytes ++ take c.loop-place.place c.args.piece.now in
    let on = subst (λ (o : Option Version). Takes now (get_or c.args.piece.now c.loop-place.place 0) c.take.new.self (Ok o)) c.in-None.is
    (c.in_ok-version.ensures now (c.loop-place.invariant bytes h)) in
    subst (λ (l : List ℕ). IsFront c.take.new.self l) (piece_more bytes c.args.piece.now c.loop-place.place (omega arith)) on
