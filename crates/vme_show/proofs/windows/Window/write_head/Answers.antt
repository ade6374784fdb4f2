use Rattle.std.proofs.Common.{◌∙◌, ◌++◌, List, ℕ, length, subst, ap}
use Rattle.std.specs.Io.KnownBytes.{Appends}
use Rattle.std.proofs.KnownBytes.{Appends-trans}
use Rattle.vme_trace.specs.Writing.{AppendsFront}
use Rattle.vme_explain.proofs.Written.{at_err, at_ok, front_behind, front_of_more, on_err}
use Rattle.vme_show.specs.Picture.{title, tens_line, numbers_line, ones}
use Rattle.vme_show.specs.Columns.{Seen}
use Rattle.vme_show.proofs.windows.Window.write_head.Goals as goal

pub returns-in_err-put-clause-front : goal.returns-in_err-put-clause-front
returns-in_err-put-clause-front g c =
    let f = c.args.self.now.first in
    let n = length c.args.self.now.columns in
    on_err c.from_residual.result _
    (front_of_more _ _ (title f n ++ tens_line f n) (numbers_line ones f n) (front_of_more _ _ (title f n) (tens_line f n)
    (subst (λ (l : List ℕ). AppendsFront (g.W.Write.contents c.args.out.now) (g.W.Write.contents c.put.new.out) l) (c.as_slice.ensures.value ∙ c.title.ensures
    ∙ ap (λ (x : ℕ). title x c.len-columns.result) (ap (λ (w : Seen). w.first) c.self.view_is) ∙ ap (title f) c.len-columns.ensures.len) c.in_err-put.ensures.front)))

pub returns-in_err-put-2-clause-front : goal.returns-in_err-put-2-clause-front
returns-in_err-put-2-clause-front g c =
    let f = c.args.self.now.first in
    let n = length c.args.self.now.columns in
    on_err c.from_residual-in_err-put-2.result _
    (front_of_more _ _ (title f n ++ tens_line f n) (numbers_line ones f n) (front_behind _ _ _ (title f n) (tens_line f n)
    (subst (λ (l : List ℕ). Appends (g.W.Write.contents c.args.out.now) (g.W.Write.contents c.put.new.out) l) (c.as_slice.ensures.value ∙ c.title.ensures ∙ ap (λ (x : ℕ). title x c.len-columns.result)
    (ap (λ (w : Seen). w.first) c.self.view_is) ∙ ap (title f) c.len-columns.ensures.len) c.in_ok-put.ensures.ok)
    (subst (λ (l : List ℕ). AppendsFront (g.W.Write.contents c.put.new.out) (g.W.Write.contents c.put-2.new.out) l) (c.as_slice-2.ensures.value ∙ c.tens_line.ensures
    ∙ ap (λ (x : ℕ). tens_line x c.len-columns.result) (ap (λ (w : Seen). w.first) c.self.view_is) ∙ ap (tens_line f) c.len-columns.ensures.len) c.in_err-put-2.ensures.front)))

pub returns-clause-ok : goal.returns-clause-ok
returns-clause-ok g c =
    let f = c.args.self.now.first in
    let n = length c.args.self.now.columns in
    at_ok c.put-3.result (Appends (g.W.Write.contents c.put-2.new.out) (g.W.Write.contents c.put-3.new.out) c.as_slice-3.result.now) _
    (λ w. Appends-trans _ _ _ (title f n ++ tens_line f n) (numbers_line ones f n) (Appends-trans _ _ _ (title f n) (tens_line f n)
    (subst (λ (l : List ℕ). Appends (g.W.Write.contents c.args.out.now) (g.W.Write.contents c.put.new.out) l) (c.as_slice.ensures.value ∙ c.title.ensures ∙ ap (λ (x : ℕ). title x c.len-columns.result)
    (ap (λ (w : Seen). w.first) c.self.view_is) ∙ ap (title f) c.len-columns.ensures.len) c.in_ok-put.ensures.ok)
    (subst (λ (l : List ℕ). Appends (g.W.Write.contents c.put.new.out) (g.W.Write.contents c.put-2.new.out) l) (c.as_slice-2.ensures.value ∙ c.tens_line.ensures
    ∙ ap (λ (x : ℕ). tens_line x c.len-columns.result) (ap (λ (w : Seen). w.first) c.self.view_is) ∙ ap (tens_line f) c.len-columns.ensures.len) c.in_ok-put-2.ensures.ok))
    (subst (λ (l : List ℕ). Appends (g.W.Write.contents c.put-2.new.out) (g.W.Write.contents c.put-3.new.out) l) (c.as_slice-3.ensures.value ∙ c.ones_line.ensures
    ∙ ap (λ (x : ℕ). numbers_line ones x c.len-columns.result) (ap (λ (w : Seen). w.first) c.self.view_is) ∙ ap (numbers_line ones f) c.len-columns.ensures.len) w))
    c.put-3.ensures.ok

pub returns-clause-front : goal.returns-clause-front
returns-clause-front g c =
    let f = c.args.self.now.first in
    let n = length c.args.self.now.columns in
    at_err c.put-3.result (AppendsFront (g.W.Write.contents c.put-2.new.out) (g.W.Write.contents c.put-3.new.out) c.as_slice-3.result.now) _
    (λ w. front_behind _ _ _ (title f n ++ tens_line f n) (numbers_line ones f n) (Appends-trans _ _ _ (title f n) (tens_line f n)
    (subst (λ (l : List ℕ). Appends (g.W.Write.contents c.args.out.now) (g.W.Write.contents c.put.new.out) l) (c.as_slice.ensures.value ∙ c.title.ensures ∙ ap (λ (x : ℕ). title x c.len-columns.result)
    (ap (λ (w : Seen). w.first) c.self.view_is) ∙ ap (title f) c.len-columns.ensures.len) c.in_ok-put.ensures.ok)
    (subst (λ (l : List ℕ). Appends (g.W.Write.contents c.put.new.out) (g.W.Write.contents c.put-2.new.out) l) (c.as_slice-2.ensures.value ∙ c.tens_line.ensures
    ∙ ap (λ (x : ℕ). tens_line x c.len-columns.result) (ap (λ (w : Seen). w.first) c.self.view_is) ∙ ap (tens_line f) c.len-columns.ensures.len) c.in_ok-put-2.ensures.ok))
    (subst (λ (l : List ℕ). AppendsFront (g.W.Write.contents c.put-2.new.out) (g.W.Write.contents c.put-3.new.out) l) (c.as_slice-3.ensures.value ∙ c.ones_line.ensures
    ∙ ap (λ (x : ℕ). numbers_line ones x c.len-columns.result) (ap (λ (w : Seen). w.first) c.self.view_is) ∙ ap (numbers_line ones f) c.len-columns.ensures.len) w))
    c.put-3.ensures.front
