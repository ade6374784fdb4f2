use Rattle.std.proofs.Common.{◌∙◌, Ok, Err, arith}
use Rattle.std.proofs.lemmas.Result.{err_from_is_err_and}
use Rattle.vme_drive.proofs.FoundSeeds.{tried_on, safe_on, found_here, none_found, none_still, still_kept, fault_here}
use Rattle.vme_drive.proofs.seeds.search.Goals as goal

pub returns-in_err-has_come : goal.returns-in_err-has_come
returns-in_err-has_come g c =
    let w = c.args.walk.now in
    let i = c.loop-has_come.invariant in
    let u = c.loop-has_come.walk in
    let e = err_from_is_err_and c.from_residual.result c.from_residual.ensures.1 in
    let tried = tried_on _ _ _ _ c.loop-has_come.seed c.args.edges c.args.goal i.plan i.version (g.W.Write.contents c.loop-has_come.out) (g.W.Write.contents c.attempt.new.out) (Err _)
    c.in_err-has_come.ensures.outcome in
    rw (e.1, e.2) (record {
      outcome = fault_here w.state.plan _ c.args.edges _ _ c.args.goal _ _ (g.W.Write.contents c.attempt.new.out) _ i.kept i.from i.to i.none _ tried;
      safe = tt;
    })

pub returns-then-has_come : goal.returns-then-has_come
returns-then-has_come g c =
    let w = c.args.walk.now in
    let i = c.loop-has_come.invariant in
    let u = c.loop-has_come.walk in
    let tried = tried_on _ _ _ _ c.loop-has_come.seed c.args.edges c.args.goal i.plan i.version (g.W.Write.contents c.loop-has_come.out) (g.W.Write.contents c.attempt.new.out) (Ok _)
    c.in_ok-has_come.ensures.outcome in
    record {
      outcome = found_here w.state.plan _ c.args.edges _ _ c.args.goal _ _ _ _ i.kept i.from i.to i.none _ c.if-has_come.true tried;
      safe = safe_on w.state.plan u.state.plan w.state.version u.state.version c.loop-has_come.seed c.args.edges c.args.goal i.plan i.version (c.in_ok-has_come.ensures.safe c.if-has_come.true);
    }

pub returns-then-seed-last_seed : goal.returns-then-seed-last_seed
returns-then-seed-last_seed g c =
    let w = c.args.walk.now in
    let i = c.loop-has_come.invariant in
    let u = c.loop-has_come.walk in
    let tried = tried_on _ _ _ _ c.loop-has_come.seed c.args.edges c.args.goal i.plan i.version (g.W.Write.contents c.loop-has_come.out) (g.W.Write.contents c.attempt.new.out) (Ok _)
    c.in_ok-has_come.ensures.outcome in
    record {
      outcome = none_found w.state.plan w.state.version c.args.edges _ _ c.args.goal _ _ _ _ i.kept i.from i.to i.none _ c.if-has_come.false c.if-seed-last_seed.true tried;
      safe = tt;
    }

pub loop-has_come-preserved : goal.loop-has_come-preserved
loop-has_come-preserved g c =
    let w = c.args.walk.now in
    let i = c.loop-has_come.invariant in
    let u = c.loop-has_come.walk in
    let on = c.in_ok-has_come.ensures.kept c.if-has_come.false in
    let tried = tried_on _ _ _ _ c.loop-has_come.seed c.args.edges c.args.goal i.plan i.version (g.W.Write.contents c.loop-has_come.out) (g.W.Write.contents c.attempt.new.out) (Ok _)
    c.in_ok-has_come.ensures.outcome in
    record {
      from = omega (arith, i.from);
      to = omega (arith, i.to, c.if-seed-last_seed.false);
      plan = on.0 ∙ i.plan;
      version = on.1 ∙ i.version;
      kept = still_kept w.state.plan w.state.version c.args.edges _ _ c.args.goal _ _ _ _ i.kept i.from i.to i.none _ c.if-has_come.false tried;
      none = none_still w.state.plan w.state.version c.args.edges _ _ c.args.goal _ _ (g.W.Write.contents c.attempt.new.out) _ i.kept i.from i.to i.none _ c.if-has_come.false tried;
    }
