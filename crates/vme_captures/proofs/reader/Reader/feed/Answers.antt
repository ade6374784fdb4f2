use Rattle.std.proofs.Common.{◌+◌, ◌++◌, ◌∷◌, [], ℕ, List, Option, Ok, get_or, take, sym, subst, append-nil}
use Rattle.std.proofs.lemmas.Result.{err_from_is_err_and}
use Rattle.vme_captures.specs.declared.signals.Entry.{Entry}
use Rattle.vme_captures.specs.Feeding.{HasRead, Took}
use Rattle.vme_captures.proofs.Took.{no_rest, piece_done, piece_faulty, piece_more, piece_says, rest_is}
use Rattle.vme_captures.proofs.reader.Reader.feed.Goals as goal

pub loop-at-init : goal.loop-at-init
loop-at-init c = λ bytes said read.
    subst (λ (l : List ℕ). HasRead c.args.plan.now c.args.self.now l said) (sym (append-nil bytes)) read

pub returns-in_err-entry : goal.returns-in_err-entry
returns-in_err-entry c =
    let p = err_from_is_err_and c.from_residual.result c.from_residual.ensures.1 in
    λ bytes said read.
    rw (p.1, p.2)
    (piece_faulty c.args.plan.now bytes c.args.piece.now said c.loop-at.at c.loop-at-test.true c.take.new.self _
    (c.in_err-entry.ensures (bytes ++ take c.loop-at.at c.args.piece.now) said (c.loop-at.invariant bytes said read)))

pub returns-in-Some : goal.returns-in-Some
returns-in-Some c = λ bytes said read.
    piece_says c.args.plan.now bytes c.args.piece.now said c.loop-at.at c.loop-at-test.true c.take.new.self c.in-Some.entry _
    (rest_is c.args.piece.now (c.loop-at.at + 1))
    (subst (λ (o : Option Entry). Took c.args.plan.now ((bytes ++ take c.loop-at.at c.args.piece.now) ++ get_or c.args.piece.now c.loop-at.at 0 ∷ []) said c.take.new.self (Ok o)) c.in-Some.is
    (c.in_ok-entry.ensures (bytes ++ take c.loop-at.at c.args.piece.now) said (c.loop-at.invariant bytes said read)))

pub loop-at-preserved : goal.loop-at-preserved
loop-at-preserved c = λ bytes said read.
    piece_more c.args.plan.now bytes c.args.piece.now said c.loop-at.at c.loop-at-test.true c.take.new.self
    (subst (λ (o : Option Entry). Took c.args.plan.now ((bytes ++ take c.loop-at.at c.args.piece.now) ++ get_or c.args.piece.now c.loop-at.at 0 ∷ []) said c.take.new.self (Ok o)) c.in_default.is
    (c.in_ok-entry.ensures (bytes ++ take c.loop-at.at c.args.piece.now) said (c.loop-at.invariant bytes said read)))

pub returns : goal.returns
returns c = λ bytes said read.
    piece_done c.args.plan.now bytes c.args.piece.now said c.loop-at.at c.loop-at.self _ c.loop-at-test.false
    (no_rest c.args.piece.now) (c.loop-at.invariant bytes said read)
