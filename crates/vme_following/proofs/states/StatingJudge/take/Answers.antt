use Rattle.std.proofs.Common.{◌≡◌, Ok, false, rules}
use Rattle.std.proofs.lemmas.Result.{err_from_is_err_and}
use Rattle.std.proofs.KnownBytes.{Keeps-refl}
use Rattle.vme_following.proofs.PrintedBlocks.{not_before, states_beyond, states_cut, states_end, states_end_cut, states_now, states_stop}
use Rattle.vme_following.proofs.states.StatingJudge.take.Goals as goal

pub returns-in_err-write_place-in-Some-clause-takes : goal.returns-in_err-write_place-in-Some-clause-takes
returns-in_err-write_place-in-Some-clause-takes g c =
    λ place p v es old h.
    let e = err_from_is_err_and c.from_residual.result c.from_residual.ensures.1 in
    rw (e.1, e.2) (states_cut p v es _ _ old _ _ h.1 place _ h.0 _ _ h.3 _ _ c.in_err-write_place-in-Some.ensures.fault c.in-Some.ensures c.in_err-write_place-in-Some.ensures.front)

pub returns-in-Some-clause-takes : goal.returns-in-Some-clause-takes
returns-in-Some-clause-takes g c =
    λ place p v es old h. rw c.in_ok-write_place-in-Some.ensures.printed (states_now p v es _ _ old _ _ h.1 place _ h.0 _ _ h.3 _ c.in-Some.ensures c.in_ok-write_place-in-Some.ensures.ok)

pub returns-in_err-write_place-in-Ok-false-None-clause-takes : goal.returns-in_err-write_place-in-Ok-false-None-clause-takes
returns-in_err-write_place-in-Ok-false-None-clause-takes g c =
    λ place p v es old h.
    let e = err_from_is_err_and c.from_residual-in_err-write_place-in-Ok-false-None.result c.from_residual-in_err-write_place-in-Ok-false-None.ensures.1 in
    let is : c.args.more ≡ Ok false = search rules in
    rw (e.1, e.2) (states_end_cut p v es _ _ old _ _ h.1 place _ h.0 _ _ h.3 _ c.in_err-write_place-in-Ok-false-None.ensures.fault c.in-Ok-false-None.is-1 is (c.in-None.ensures.2 p v es h.3)
    c.in_err-write_place-in-Ok-false-None.ensures.front)

pub returns-in-Ok-true-default-clause-takes : goal.returns-in-Ok-true-default-clause-takes
returns-in-Ok-true-default-clause-takes g c =
    λ place p v es old h. (h.0, h.1, not_before p v es _ c.args.more old _ (g.W.Write.contents c.args.out.now) h.1 place _ h.0 _ _ h.3 h.2 c.in-None.ensures, c.in-None.ensures.2 p v es h.3)

pub returns-in-Ok-false-Some-clause-takes : goal.returns-in-Ok-false-Some-clause-takes
returns-in-Ok-false-Some-clause-takes g c =
    λ place p v es old h.
    let is : c.args.more ≡ Ok false = search rules in
    let follows = c.in-None.ensures.2 p v es h.3 in
    states_beyond p v es _ _ old _ _ h.1 place _ h.0 _ _ h.3 _ _ c.in-Ok-false-Some.is-1 is (Keeps-refl _) follows.judged h.2 c.in-None.ensures

pub returns-in_ok-write_place-in-Ok-false-None-clause-takes : goal.returns-in_ok-write_place-in-Ok-false-None-clause-takes
returns-in_ok-write_place-in-Ok-false-None-clause-takes g c =
    λ place p v es old h.
    let is : c.args.more ≡ Ok false = search rules in
    rw c.in_ok-write_place-in-Ok-false-None.ensures.printed (states_end p v es _ _ old _ _ h.1 place _ h.0 _ _ h.3 c.in-Ok-false-None.is-1 is (c.in-None.ensures.2 p v es h.3)
    c.in_ok-write_place-in-Ok-false-None.ensures.ok)

pub returns-in-Err-default-clause-takes : goal.returns-in-Err-default-clause-takes
returns-in-Err-default-clause-takes g c =
    λ place p v es old h. states_stop p v es _ _ old _ _ h.1 place _ h.0 _ _ h.3 _ c.in-Err-default.is-0 (Keeps-refl _) h.2 c.in-None.ensures
