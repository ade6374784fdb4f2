use Rattle.vme_same.specs.Kept.{edges_of}
use Rattle.vme_same.proofs.Leading.{open_next, stops_sure}
use Rattle.vme_same.proofs.progress.Pairing.match_at.Goals as goal

pub returns-in-Some-clause-going : goal.returns-in-Some-clause-going
returns-in-Some-clause-going c = λ t at ready is near.
    let now = c.args.self.now in
    stops_sure t c.args.edge.now (edges_of now.waiting.items) now.rest now.taken
    c.args.number ready is c.args.place at near c.walk.result
    (λ u q taken state legal. c.walk.ensures.back u q taken at state legal)
    now.has_ended now.is_over c.in-Some.stop c.in-Some.is c.first_of.result c.first_of.ensures.first

pub returns-in-None-clause-going : goal.returns-in-None-clause-going
returns-in-None-clause-going c = λ t at ready is near.
    let now = c.args.self.now in
    open_next t c.args.edge.now (edges_of now.waiting.items) now.rest now.taken
    c.args.number ready is c.args.place at near c.walk.result
    (λ u q taken state legal. c.walk.ensures.back u q taken at state legal)
    c.take.new.self c.in-None.is (c.take.ensures.edges at) c.take.ensures.state
