use Rattle.std.proofs.Common.{◌≡◌, ◌++◌, Ok, false, rules}
use Rattle.std.proofs.lemmas.Result.{err_from_is_err_and}
use Rattle.std.proofs.KnownBytes.{Keeps-refl}
use Rattle.vme_following.proofs.PrintedBlocks.{explains_now, explains_cut, explains_end, explains_legal, explains_legal_cut, explains_stop, formed_for, none_of, room_for, unasked_by}
use Rattle.vme_following.proofs.explains.ExplainingJudge.take.Goals as goal

pub write_explained-requires-clause-room : goal.write_explained-requires-clause-room
write_explained-requires-clause-room g c = room_for c.args.self.now.edge c.args.self.now.following c.follow_to.new.self c.args.edges.now c.in-Some.found c.in-Some.ensures c.requires.count

pub write_explained-requires-clause-well_formed : goal.write_explained-requires-clause-well_formed
write_explained-requires-clause-well_formed g c = formed_for _ _ _ _ _ c.in-Some.ensures c.requires.well_formed

pub write_explained-requires-clause-answered : goal.write_explained-requires-clause-answered
write_explained-requires-clause-answered g c = c.in-Some.ensures.answered

pub returns-in_err-status-clause-takes : goal.returns-in_err-status-clause-takes
returns-in_err-status-clause-takes g c =
    λ edge p v es old h.
    let e = err_from_is_err_and c.from_residual.result c.from_residual.ensures.1 in
    rw (e.1, e.2) (explains_cut p v es _ _ old _ _ h.1 edge _ h.0 _ _ _ _ c.in_err-status.ensures.fault h.3 h.2 c.in-Some.ensures c.in_err-status.ensures.front)

pub returns-in-Some-clause-takes : goal.returns-in-Some-clause-takes
returns-in-Some-clause-takes g c =
    λ edge p v es old h.
    explains_now p v es _ _ old _ _ h.1 edge _ h.0 _ _ _ _ h.3 h.2 c.in-Some.ensures c.in_ok-status.ensures.status c.in_ok-status.ensures.ok

pub returns-in_err-write_finding-in-Ok-false-None-clause-takes : goal.returns-in_err-write_finding-in-Ok-false-None-clause-takes
returns-in_err-write_finding-in-Ok-false-None-clause-takes g c =
    λ edge p v es old h.
    let e = err_from_is_err_and c.from_residual-in_err-write_finding-in-Ok-false-None.result c.from_residual-in_err-write_finding-in-Ok-false-None.ensures.1 in
    let is : c.args.more ≡ Ok false = search rules in
    let none = none_of p v es _ c.args.more old _ (g.W.Write.contents c.args.out.now) h.1 edge _ h.0 _ _ h.3 h.2 c.in_default.ensures in
    rw (e.1, e.2) (explains_legal_cut p v es _ _ old _ _ h.1 edge _ h.0 _ _ c.in_err-write_finding-in-Ok-false-None.ensures.fault c.in-Ok-false-None.is-1 is none.1.judged none.0 c.in_err-write_finding-in-Ok-false-None.ensures.front)

pub returns-in-Ok-true-default-clause-takes : goal.returns-in-Ok-true-default-clause-takes
returns-in-Ok-true-default-clause-takes g c =
    λ edge p v es old h.
    let none = none_of p v es _ c.args.more old _ (g.W.Write.contents c.args.out.now) h.1 edge _ h.0 _ _ h.3 h.2 c.in_default.ensures in
    (h.0, h.1, unasked_by edge c.args.self.now.edge h.0 p v (es ++ c.args.edges.now) none.0, none.1)

pub returns-in-Ok-false-Some-clause-takes : goal.returns-in-Ok-false-Some-clause-takes
returns-in-Ok-false-Some-clause-takes g c =
    λ edge p v es old h.
    let is : c.args.more ≡ Ok false = search rules in
    let none = none_of p v es _ c.args.more old _ (g.W.Write.contents c.args.out.now) h.1 edge _ h.0 _ _ h.3 h.2 c.in_default.ensures in
    explains_end p v es c.args.edges.now c.args.more old _ _ h.1 edge c.args.self.now.edge h.0 c.follow_to.new.self.judged _ c.in-Ok-false-Some.is-1 is (Keeps-refl _) none.1.judged none.0

pub returns-in_ok-write_finding-in-Ok-false-None-clause-takes : goal.returns-in_ok-write_finding-in-Ok-false-None-clause-takes
returns-in_ok-write_finding-in-Ok-false-None-clause-takes g c =
    λ edge p v es old h.
    let is : c.args.more ≡ Ok false = search rules in
    let none = none_of p v es _ c.args.more old _ (g.W.Write.contents c.args.out.now) h.1 edge _ h.0 _ _ h.3 h.2 c.in_default.ensures in
    explains_legal p v es _ _ old _ _ h.1 edge _ h.0 _ c.in-Ok-false-None.is-1 is none.1.judged none.0 c.in_ok-write_finding-in-Ok-false-None.ensures.ok

pub returns-in-Err-default-clause-takes : goal.returns-in-Err-default-clause-takes
returns-in-Err-default-clause-takes g c =
    λ edge p v es old h.
    let none = none_of p v es _ c.args.more old _ (g.W.Write.contents c.args.out.now) h.1 edge _ h.0 _ _ h.3 h.2 c.in_default.ensures in
    explains_stop p v es c.args.edges.now c.args.more old _ _ h.1 edge c.args.self.now.edge h.0 c.in-Err-default.fault c.in-Err-default.is-0 (Keeps-refl _) none.0
