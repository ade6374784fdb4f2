use Rattle.std.proofs.Common.{[], append-nil, inr, sym}
use Rattle.std.proofs.lemmas.Result.{MatchResult-weaker}
use Rattle.vme_replay.proofs.replays.ReplayingAtEach.see_all.Goals as goal

pub returns-clause-stops : goal.returns-clause-stops
returns-clause-stops g c =
    MatchResult-weaker c.judge.result c.judge.ensures.stops (λ u h. h)
    (λ fault stops. λ form p v es first known.
    (c.args.edges.now, [], sym (append-nil c.args.edges.now), inr (stops.0, stops.1 form p v es first known)))
