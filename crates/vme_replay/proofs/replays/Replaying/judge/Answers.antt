use Rattle.std.proofs.Common.{◌+◌, length, refl}
use Rattle.std.proofs.lemmas.Result.{err_from_is_err_and}
use Rattle.vme_replay.specs.declared.replays.Replaying.{Replaying}
use Rattle.vme_replay.proofs.LeftOfTrace.{next_cut, next_known}
use Rattle.vme_replay.proofs.replays.Replaying.judge.Goals as goal

pub returns-in_err-write_form-clause-stops : goal.returns-in_err-write_form-clause-stops
returns-in_err-write_form-clause-stops g c =
    let e = err_from_is_err_and c.from_residual.result c.from_residual.ensures.1 in
    rw (e.1, e.2) (
      c.in_err-write_form.ensures.fault,
      λ form p v es first known. next_cut form p v es first _ _ c.args.self.now known c.args.edges.now c.in_err-write_form.ensures.front,
    )

pub returns-clause-knows : goal.returns-clause-knows
returns-clause-knows g c = λ form p v es first known.
    let now = c.args.self.now in
    let next : Replaying = record { form = now.form; bus = c.write_form.new.bus; judged = now.judged + length c.args.edges.now; text = c.write_form.new.text } in
    next_known form p v es first _ _ now known c.args.edges.now next refl c.in_ok-write_form.ensures.state refl c.in_ok-write_form.ensures.ok
