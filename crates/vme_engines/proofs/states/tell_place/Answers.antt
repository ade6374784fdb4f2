use Rattle.vme_model.specs.Stands.{stands_text}
use Rattle.vme_engines.proofs.ToldPieces.{flushed_front}
use Rattle.vme_engines.proofs.states.tell_place.Goals as goal

pub returns-in_err-flush-clause-front : goal.returns-in_err-flush-clause-front
returns-in_err-flush-clause-front g c =
    flushed_front c.from_residual-in_err-flush.result c.args.following.now.bus c.args.following.now.marks (λ k. stands_text c.args.following.now.judged c.args.following.now.bus k) _ _ _ c.in_ok-write_stands.ensures.ok
    c.flush.ensures.kept
