use Rattle.std.proofs.Common.{inr, refl, Ok, Err, ◌∙◌, ap}
use Rattle.std.proofs.lemmas.Result.{err_from_is_err_and}
use Rattle.std.specs.Io.KnownBytes.{Appends}
use Rattle.vme_trace.specs.Writing.{AppendsFront}
use Rattle.vme_engines.proofs.ToldPieces.{place_told, states_end}
use Rattle.vme_engines.proofs.states.state_piece.Goals as goal

pub returns-in_err-tell_place-in-Some : goal.returns-in_err-tell_place-in-Some
returns-in_err-tell_place-in-Some g c =
    let e = err_from_is_err_and c.from_residual.result c.from_residual.ensures.1 in
    rw (e.1, e.2)
    (inr (
      c.in_err-tell_place-in-Some.ensures.fault,
      place_told c.args.after _ c.args.following.now c.follow_through.new.self c.args.edges.now c.args.more (AppendsFront (g.W.Write.contents c.args.out.now) (g.W.Write.contents c.tell_place.new.out)) c.in-Some.ensures c.in_err-tell_place-in-Some.ensures.front,
    ))

pub returns-in-Some : goal.returns-in-Some
returns-in-Some g c =
    rw c.in_ok-tell_place-in-Some.ensures.told
    (place_told c.args.after _ c.args.following.now c.follow_through.new.self c.args.edges.now c.args.more (Appends (g.W.Write.contents c.args.out.now) (g.W.Write.contents c.tell_place.new.out)) c.in-Some.ensures c.in_ok-tell_place-in-Some.ensures.ok, refl)

pub returns-in_err-end-in-Ok-false : goal.returns-in_err-end-in-Ok-false
returns-in_err-end-in-Ok-false g c =
    let e = err_from_is_err_and c.from_residual-in_err-end-in-Ok-false.result c.from_residual-in_err-end-in-Ok-false.ensures.1 in
    rw (e.1, e.2)
    (states_end c.args.after c.args.following.now c.follow_through.new.self c.args.edges.now c.args.more (g.W.Write.contents c.args.out.now) (g.W.Write.contents c.end.new.out) (Err c.in_err-end-in-Ok-false.field-0.0)
    (c.in-Ok-false.is ∙ ap (λ b. Ok b) c.in-Ok-false.field-0-test) c.in-None.ensures.0 c.in-None.ensures.1 c.in_err-end-in-Ok-false.ensures)

pub returns-in_ok-end-in-Ok-false : goal.returns-in_ok-end-in-Ok-false
returns-in_ok-end-in-Ok-false g c =
    states_end c.args.after c.args.following.now c.follow_through.new.self c.args.edges.now c.args.more (g.W.Write.contents c.args.out.now) (g.W.Write.contents c.end.new.out) (Ok c.in_ok-end-in-Ok-false.field-0)
    (c.in-Ok-false.is ∙ ap (λ b. Ok b) c.in-Ok-false.field-0-test) c.in-None.ensures.0 c.in-None.ensures.1 c.in_ok-end-in-Ok-false.ensures
