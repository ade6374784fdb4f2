use Rattle.std.proofs.Common.{sym, subst}
use Rattle.vme_drive.specs.Seeking.{walk_to}
use Rattle.vme_drive.specs.Drawing.{IsWellFormed}
use Rattle.vme_reading.proofs.WrittenLines.{on_err}
use Rattle.vme_drive.proofs.DrawnLines.{ended_cut, ended_part, ended_all, ended_front}
use Rattle.vme_drive.proofs.SoughtGoals.{formed_end}
use Rattle.vme_drive.proofs.draws.write_edges.Goals as goal

pub returns-in_err-ending-clause-front : goal.returns-in_err-ending-clause-front
returns-in_err-ending-clause-front g c =
    let w = c.args.walk.now in
    on_err c.from_residual.result _ (ended_cut (walk_to _ _ w) _ _ _ c.walk_to.new.text w.state c.walk_to.new.walk.state c.new-text.ensures c.requires c.in_err-ending.ensures.listed.1)

pub returns-in_err-hand_on-clause-front : goal.returns-in_err-hand_on-clause-front
returns-in_err-hand_on-clause-front g c =
    let w = c.args.walk.now in
    on_err c.from_residual-in_err-hand_on.result _ (ended_part (walk_to _ _ w) _ _ _ _ w.state _ c.new-text.ensures c.requires
    c.in_ok-ending.ensures.listed.0 c.in_ok-ending.ensures.listed.1 (g.W.Write.contents c.hand_on.new.out) c.in_err-hand_on.ensures.front)

pub write_missed-requires : goal.write_missed-requires
write_missed-requires g c = subst IsWellFormed (sym c.in_ok-ending.ensures.ending) (formed_end c.args.goal c.args.edges c.args.walk.now)

pub returns-in_err-write_missed-clause-front : goal.returns-in_err-write_missed-clause-front
returns-in_err-write_missed-clause-front g c =
    let w = c.args.walk.now in
    on_err c.from_residual-in_err-write_missed.result _ (ended_front (walk_to _ _ w) _ _ _ _ w.state _ c.new-text.ensures c.requires
    c.in_ok-ending.ensures.listed.0 c.in_ok-ending.ensures.listed.1 _ c.in_ok-hand_on.ensures.ok _ _ c.in_ok-ending.ensures.ending c.in_err-write_missed.ensures.front)

pub returns-clause-ok : goal.returns-clause-ok
returns-clause-ok g c =
    let w = c.args.walk.now in
    ended_all (walk_to _ _ w) _ _ _ _ w.state _ c.new-text.ensures c.requires
    c.in_ok-ending.ensures.listed.0 c.in_ok-ending.ensures.listed.1 _ c.in_ok-hand_on.ensures.ok _ _ c.in_ok-ending.ensures.ending c.in_ok-write_missed.ensures.ok
