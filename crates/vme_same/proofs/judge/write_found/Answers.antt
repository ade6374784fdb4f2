use Rattle.std.proofs.Common.{◌∙◌, ◌++◌, ◌∷◌, [], subst}
use Rattle.std.specs.Io.KnownBytes.{Appends}
use Rattle.vme_trace.specs.Writing.{AppendsFront}
use Rattle.vme_trace.proofs.WrittenLines.{first_front, on_err, second_front}
use Rattle.vme_same.specs.Lines.{found_text, second_line}
use Rattle.vme_same.proofs.Written.{both_front, both_ok}
use Rattle.vme_same.proofs.judge.write_found.Goals as goal

pub returns-in_err-put-clause-front : goal.returns-in_err-put-clause-front
returns-in_err-put-clause-front g c =
    let a = g.W.Write.contents c.args.out.now in
    let b = g.W.Write.contents c.put.new.out in
    on_err _ _ (first_front a b (found_text c.args.found ++ 10 ∷ []) (second_line c.args.found)
    (subst (AppendsFront a b) (c.as_slice.ensures.value ∙ c.first_line_of-first.ensures)
    c.in_err-put.ensures.front))

pub returns-in_err-put-2-clause-front : goal.returns-in_err-put-2-clause-front
returns-in_err-put-2-clause-front g c =
    let a = g.W.Write.contents c.args.out.now in
    let b = g.W.Write.contents c.put.new.out in
    let d = g.W.Write.contents c.put-2.new.out in
    on_err _ _ (second_front a b d (found_text c.args.found ++ 10 ∷ []) (second_line c.args.found)
    (subst (Appends a b) (c.as_slice.ensures.value ∙ c.first_line_of-first.ensures)
    c.in_ok-put.ensures.ok)
    (subst (AppendsFront b d) (c.as_slice-2.ensures.value ∙ c.second_line_of-second.ensures)
    c.in_err-put-2.ensures.front))

pub returns-clause-ok : goal.returns-clause-ok
returns-clause-ok g c =
    let a = g.W.Write.contents c.args.out.now in
    let b = g.W.Write.contents c.put.new.out in
    let d = g.W.Write.contents c.put-2.new.out in
    both_ok a b d (g.W.Write.contents c.flush.new.out) (found_text c.args.found ++ 10 ∷ [])
    (second_line c.args.found)
    (subst (Appends a b) (c.as_slice.ensures.value ∙ c.first_line_of-first.ensures)
    c.in_ok-put.ensures.ok)
    (subst (Appends b d) (c.as_slice-2.ensures.value ∙ c.second_line_of-second.ensures)
    c.in_ok-put-2.ensures.ok)
    c.flush.ensures.kept c.flush.result

pub returns-clause-front : goal.returns-clause-front
returns-clause-front g c =
    let a = g.W.Write.contents c.args.out.now in
    let b = g.W.Write.contents c.put.new.out in
    let d = g.W.Write.contents c.put-2.new.out in
    both_front a b d (g.W.Write.contents c.flush.new.out) (found_text c.args.found ++ 10 ∷ [])
    (second_line c.args.found)
    (subst (Appends a b) (c.as_slice.ensures.value ∙ c.first_line_of-first.ensures)
    c.in_ok-put.ensures.ok)
    (subst (Appends b d) (c.as_slice-2.ensures.value ∙ c.second_line_of-second.ensures)
    c.in_ok-put-2.ensures.ok)
    c.flush.ensures.kept c.flush.result
