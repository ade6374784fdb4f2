use Rattle.std.proofs.Common.{[], ◌∷◌, ◌++◌}
use Rattle.std.proofs.lemmas.Result.{err_from_is_err_and}
use Rattle.vme_model.specs.Text.{header}
use Rattle.vme_replay.proofs.AfterScenario.{started_not, started_on, started}
use Rattle.vme_replay.proofs.joins.start.Goals as goal

pub returns-in_err-feed-clause-version : goal.returns-in_err-feed-clause-version
returns-in_err-feed-clause-version c =
    (started_not c.args.version c.args.rest.now _ _ _ _ (rw c.header_line.ensures at (c.in_err-feed.ensures.reads [] [] c.requires.reader)) c.requires.empty).1

pub returns-in_err-feed-clause-starts : goal.returns-in_err-feed-clause-starts
returns-in_err-feed-clause-starts c =
    let e = err_from_is_err_and c.from_residual.result c.from_residual.ensures.1 in
    rw (e.1, e.2) ((started_not c.args.version c.args.rest.now _ _ _ _ (rw c.header_line.ensures at (c.in_err-feed.ensures.reads [] [] c.requires.reader)) c.requires.empty).0)

pub returns-in_err-feed-2-clause-version : goal.returns-in_err-feed-2-clause-version
returns-in_err-feed-2-clause-version c =
    (started_on c.args.version c.args.rest.now _ _ _ _ _ _ (rw c.header_line.ensures at (c.in_ok-feed.ensures.reads [] [] c.requires.reader)) c.requires.empty
    (λ fs read same. c.in_err-feed-2.ensures.reads (header c.args.version ++ 10 ∷ []) fs read)).1

pub returns-in_err-feed-2-clause-starts : goal.returns-in_err-feed-2-clause-starts
returns-in_err-feed-2-clause-starts c =
    let e = err_from_is_err_and c.from_residual-in_err-feed-2.result c.from_residual-in_err-feed-2.ensures.1 in
    rw (e.1, e.2)
    ((started_on c.args.version c.args.rest.now _ _ _ _ _ _ (rw c.header_line.ensures at (c.in_ok-feed.ensures.reads [] [] c.requires.reader)) c.requires.empty
    (λ fs read same. c.in_err-feed-2.ensures.reads (header c.args.version ++ 10 ∷ []) fs read)).0)

pub returns-clause-version : goal.returns-clause-version
returns-clause-version c =
    (started c.args.version c.args.rest.now _ _ _ _ _ (rw c.header_line.ensures at (c.in_ok-feed.ensures.reads [] [] c.requires.reader)) c.requires.empty
    (λ fs read same. c.in_ok-feed-2.ensures.reads (header c.args.version ++ 10 ∷ []) fs read)).1

pub returns-clause-starts : goal.returns-clause-starts
returns-clause-starts c =
    (started c.args.version c.args.rest.now _ _ _ _ _ (rw c.header_line.ensures at (c.in_ok-feed.ensures.reads [] [] c.requires.reader)) c.requires.empty
    (λ fs read same. c.in_ok-feed-2.ensures.reads (header c.args.version ++ 10 ∷ []) fs read)).0
