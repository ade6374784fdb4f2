use Rattle.std.proofs.Common.{◌++◌, ◌∷◌, [], length}
use Rattle.std.specs.Io.KnownBytes.{Appends}
use Rattle.std.proofs.KnownBytes.{Appends-trans}
use Rattle.vme_model.specs.Stands.{after_text, holder_text, grant_text, shown_text}
use Rattle.vme_trace.specs.Writing.{AppendsFront}
use Rattle.vme_explain.proofs.Written.{all_three, at_err, at_ok, front_behind, front_of_first, front_of_second, front_of_third, on_err}
use Rattle.vme_explain.proofs.stands.write_bus.Goals as goal

pub returns-in_err-write_line-clause-front : goal.returns-in_err-write_line-clause-front
returns-in_err-write_line-clause-front g c = on_err c.from_residual.result _ (λ k same marks.
    let b = c.args.bus.now in
    front_of_first _ _ (after_text c.args.n (length b.history) ++ 10 ∷ []) (holder_text b k ++ 10 ∷ []) (grant_text b ++ 10 ∷ []) (shown_text b k ++ 10 ∷ [])
    (rw (c.after_line.ensures, c.len.ensures) at c.in_err-write_line.ensures.front))

pub returns-in_err-write_line-2-clause-front : goal.returns-in_err-write_line-2-clause-front
returns-in_err-write_line-2-clause-front g c = on_err c.from_residual-in_err-write_line-2.result _ (λ k same marks.
    let b = c.args.bus.now in
    front_of_second _ _ _ (after_text c.args.n (length b.history) ++ 10 ∷ []) (holder_text b k ++ 10 ∷ []) (grant_text b ++ 10 ∷ []) (shown_text b k ++ 10 ∷ [])
    (rw (c.after_line.ensures, c.len.ensures) at c.in_ok-write_line.ensures.ok) (rw (c.holder_line.ensures k same marks) at c.in_err-write_line-2.ensures.front))

pub returns-in_err-write_line-3-clause-front : goal.returns-in_err-write_line-3-clause-front
returns-in_err-write_line-3-clause-front g c = on_err c.from_residual-in_err-write_line-3.result _ (λ k same marks.
    let b = c.args.bus.now in
    front_of_third _ _ _ _ (after_text c.args.n (length b.history) ++ 10 ∷ []) (holder_text b k ++ 10 ∷ []) (grant_text b ++ 10 ∷ []) (shown_text b k ++ 10 ∷ [])
    (rw (c.after_line.ensures, c.len.ensures) at c.in_ok-write_line.ensures.ok) (rw (c.holder_line.ensures k same marks) at c.in_ok-write_line-2.ensures.ok)
    (rw (c.grant_line.ensures) at c.in_err-write_line-3.ensures.front))

pub returns-clause-ok : goal.returns-clause-ok
returns-clause-ok g c =
    at_ok c.write_line-4.result (Appends (g.W.Write.contents c.write_line-3.new.out) (g.W.Write.contents c.write_line-4.new.out) (c.shown_line.result.items ++ 10 ∷ [])) _
    (λ w k same marks. let b = c.args.bus.now in
    Appends-trans _ _ _ (((after_text c.args.n (length b.history) ++ 10 ∷ []) ++ (holder_text b k ++ 10 ∷ [])) ++ (grant_text b ++ 10 ∷ [])) (shown_text b k ++ 10 ∷ [])
    (all_three _ _ _ _ (after_text c.args.n (length b.history) ++ 10 ∷ []) (holder_text b k ++ 10 ∷ []) (grant_text b ++ 10 ∷ [])
    (rw (c.after_line.ensures, c.len.ensures) at c.in_ok-write_line.ensures.ok) (rw (c.holder_line.ensures k same marks) at c.in_ok-write_line-2.ensures.ok)
    (rw (c.grant_line.ensures) at c.in_ok-write_line-3.ensures.ok))
    (rw (c.shown_line.ensures k same marks) at w))
    c.write_line-4.ensures.ok

pub returns-clause-front : goal.returns-clause-front
returns-clause-front g c =
    at_err c.write_line-4.result (AppendsFront (g.W.Write.contents c.write_line-3.new.out) (g.W.Write.contents c.write_line-4.new.out) (c.shown_line.result.items ++ 10 ∷ [])) _
    (λ w k same marks. let b = c.args.bus.now in
    front_behind _ _ _ (((after_text c.args.n (length b.history) ++ 10 ∷ []) ++ (holder_text b k ++ 10 ∷ [])) ++ (grant_text b ++ 10 ∷ [])) (shown_text b k ++ 10 ∷ [])
    (all_three _ _ _ _ (after_text c.args.n (length b.history) ++ 10 ∷ []) (holder_text b k ++ 10 ∷ []) (grant_text b ++ 10 ∷ [])
    (rw (c.after_line.ensures, c.len.ensures) at c.in_ok-write_line.ensures.ok) (rw (c.holder_line.ensures k same marks) at c.in_ok-write_line-2.ensures.ok)
    (rw (c.grant_line.ensures) at c.in_ok-write_line-3.ensures.ok))
    (rw (c.shown_line.ensures k same marks) at w))
    c.write_line-4.ensures.front
