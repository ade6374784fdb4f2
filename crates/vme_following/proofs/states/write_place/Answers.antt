use Rattle.std.specs.Io.KnownBytes.{Appends}
use Rattle.vme_model.specs.Stands.{stands_text}
use Rattle.std.proofs.KnownBytes.{Appends-kept}
use Rattle.vme_trace.specs.Writing.{AppendsFront}
use Rattle.vme_following.proofs.FollowedEdges.{of_after}
use Rattle.vme_reading.proofs.WrittenLines.{on_err, front_kept}
use Rattle.vme_following.proofs.states.write_place.Goals as goal

pub returns-in_err-write_stands-clause-front : goal.returns-in_err-write_stands-clause-front
returns-in_err-write_stands-clause-front g c =
    on_err _ _ (of_after _ stands_text (AppendsFront _ _) c.in_err-write_stands.ensures.front)

pub returns-in_err-flush-clause-front : goal.returns-in_err-flush-clause-front
returns-in_err-flush-clause-front g c =
    on_err c.from_residual-in_err-flush.result _ (λ p v es is. front_kept _ _ _ _
    (of_after c.args.following.now stands_text (Appends (g.W.Write.contents c.args.out.now) (g.W.Write.contents c.write_stands.new.out)) c.in_ok-write_stands.ensures.ok p v es is)
    c.flush.ensures.kept)

pub returns-clause-ok : goal.returns-clause-ok
returns-clause-ok g c = λ p v es is. Appends-kept _ _ _ _ (of_after _ stands_text (Appends _ _) c.in_ok-write_stands.ensures.ok p v es is) c.flush.ensures.kept
