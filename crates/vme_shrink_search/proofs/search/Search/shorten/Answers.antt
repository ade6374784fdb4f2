use Rattle.vme_shrink_search.proofs.Searches.{shorten_first, shorten_smaller, shorten_step}
use Rattle.vme_shrink_search.proofs.search.Search.shorten.Goals as goal

pub runs-init : goal.runs-init
runs-init g c = shorten_first c.args.self.now c.requires.search

pub run-requires : goal.run-requires
run-requires g c = record { search = c.runs.invariant.on.search }

pub runs-preserved : goal.runs-preserved
runs-preserved g c =
    shorten_step c.args.self.now c.runs.self c.run.new.self c.runs.has_left
    c.in_ok-has_left.has_left c.runs.invariant c.in_ok-has_left.ensures.left
    c.in_ok-has_left.ensures.tight

pub runs-smaller : goal.runs-smaller
runs-smaller g c =
    shorten_smaller c.runs.self c.run.new.self c.runs.has_left c.in_ok-has_left.has_left
    c.runs-test.true c.in_ok-has_left.ensures.left

pub returns-clause-on : goal.returns-clause-on
returns-clause-on g c = c.runs.invariant.on

pub returns-clause-part : goal.returns-clause-part
returns-clause-part g c = c.runs.invariant.part

pub returns-clause-tight : goal.returns-clause-tight
returns-clause-tight g c = c.runs.invariant.tight c.runs-test.false

pub returns-clause-still : goal.returns-clause-still
returns-clause-still g c = c.runs.invariant.still
