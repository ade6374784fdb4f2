-- Lines that are written one after the other.
use Rattle.std.proofs.Common.{◌≡◌, ℕ, ◌+◌, List, [], ◌∷◌, ◌++◌, length, Option, Some, None, Result, Ok, Err, OnErr, refl, sym, ◌∙◌, ap, append_assoc, append-nil, arith}
use Rattle.std.specs.Io.KnownBytes.{Appends, Keeps}
use Rattle.std.proofs.KnownBytes.{Appends-trans, Appends-nil, Appends-kept}
use Rattle.vme_model.specs.declared.signals.Edge.{Edge}
use Rattle.vme_model.specs.Verdict.{State, after, kept}
use Rattle.vme_model.specs.Deliveries.{answer}
use Rattle.vme_model.specs.Report.{verdict_line, verdict_lines}
use Rattle.vme_model.specs.Why.{edge_verdict}
use Rattle.vme_model.specs.Text.{edge_lines, spelling}
use Rattle.vme_trace.specs.Writing.{AppendsFront, edge_line}
use Rattle.vme_reading.specs.declared.LineForm.{LineForm}
use Rattle.vme_reading.specs.declared.LineForm.TheVariants.{Short, Full}
use Rattle.vme_reading.specs.Outcomes.{form_lines, full_lines}
use Rattle.vme_reading.specs.Texts.{HandsOn}

-- all is a front of itself
pub front_of_all : (a b : Option (List ℕ)) (x : List ℕ) → Appends a b x → AppendsFront a b x
front_of_all a b x w = (x, [], sym (append-nil x), w)

-- nothing is a front of anything
pub front_of_none : (a : Option (List ℕ)) (x : List ℕ) → AppendsFront a a x
front_of_none a x = ([], x, refl, Appends-nil a)

-- a front is one of more
pub front_of_more : (a b : Option (List ℕ)) (x y : List ℕ) → AppendsFront a b x → AppendsFront a b (x ++ y)
front_of_more a b x y f = (f.0, f.1 ++ y, ap (λ l. l ++ y) f.2 ∙ append_assoc f.0 f.1 y, f.3)

-- all of the first part, and then a front of the second
pub front_behind : (a b c : Option (List ℕ)) (x y : List ℕ) → Appends a b x → AppendsFront b c y → AppendsFront a c (x ++ y)
front_behind a b c x y w f =
    (x ++ f.0, f.1, ap (λ l. x ++ l) f.2 ∙ sym (append_assoc x f.0 f.1), Appends-trans a b c x f.0 w f.3)

pub on_err : {E A : Type 0} (r : Result A E) (P : Type 0) → P → OnErr r P
on_err (Ok a) P h = tt
on_err (Err e) P h = h

-- behind what was kept
pub appends_behind : (a b c : Option (List ℕ)) (bs : List ℕ) → Keeps a b → Appends b c bs → Appends a c bs
appends_behind None b c bs p q = tt
appends_behind (Some x) None c bs p q = absurd p
appends_behind (Some x) (Some y) None bs p q = absurd q
appends_behind (Some x) (Some y) (Some z) bs p q = q ∙ ap (λ l. l ++ bs) p

pub front_after : (a b c : Option (List ℕ)) (bs : List ℕ) → Keeps a b → AppendsFront b c bs → AppendsFront a c bs
front_after a b c bs p q = (q.0, q.1, q.2, appends_behind a b c q.0 p q.3)

pub front_kept : (a b c : Option (List ℕ)) (x : List ℕ) → Appends a b x → Keeps b c → AppendsFront a c x
front_kept a b c x w k = front_of_all a c x (Appends-kept a b c x w k)

-- the line of an edge alone
pub line_alone : (e : Edge) → edge_line e ≡ edge_lines (e ∷ [])
line_alone e = sym (append-nil (edge_line e))

-- the lines of edges, and of others behind them
pub lines_behind : (es fs : List Edge) → edge_lines (es ++ fs) ≡ edge_lines es ++ edge_lines fs
lines_behind [] fs = refl
lines_behind (e ∷ es) fs = ap (λ l. (spelling e ++ 10 ∷ []) ++ l) (lines_behind es fs) ∙ sym (append_assoc (spelling e ++ 10 ∷ []) (edge_lines es) (edge_lines fs))

pub lines_append : (b : State) (n : ℕ) (es fs : List Edge) → verdict_lines b n (es ++ fs) ≡ verdict_lines b n es ++ verdict_lines (kept b es) (n + length es) fs
lines_append b n [] fs = ap (λ m. verdict_lines b m fs) (omega arith)
lines_append b n (e ∷ es) fs =
    ap (λ l. verdict_line n (answer b e) ++ l) (lines_append (after b e) (n + 1) es fs)
    ∙ ap (λ m. verdict_line n (answer b e) ++ (verdict_lines (after b e) (n + 1) es ++ verdict_lines (kept (after b e) es) m fs)) (omega arith)
    ∙ sym (append_assoc (verdict_line n (answer b e)) (verdict_lines (after b e) (n + 1) es) _)

full_append : (b : State) (n : ℕ) (es fs : List Edge) → full_lines b n (es ++ fs) ≡ full_lines b n es ++ full_lines (kept b es) (n + length es) fs
full_append b n [] fs = ap (λ m. full_lines b m fs) (omega arith)
full_append b n (e ∷ es) fs =
    ap (λ l. edge_verdict n b e ++ l) (full_append (after b e) (n + 1) es fs)
    ∙ ap (λ m. edge_verdict n b e ++ (full_lines (after b e) (n + 1) es ++ full_lines (kept (after b e) es) m fs)) (omega arith)
    ∙ sym (append_assoc (edge_verdict n b e) (full_lines (after b e) (n + 1) es) _)

-- the line of the first edge, and those of the others
pub full_next : (b next : State) (n : ℕ) (es rest : List Edge) (e : Edge) → es ≡ e ∷ rest → next ≡ after b e → full_lines b n es ≡ edge_verdict n b e ++ full_lines next (n + 1) rest
full_next b next n es rest e is made = rw (is, made) refl

-- the same in either form
pub form_append : (form : LineForm) (b : State) (n : ℕ) (es fs : List Edge) → form_lines form b n (es ++ fs) ≡ form_lines form b n es ++ form_lines form (kept b es) (n + length es) fs
form_append Short b n es fs = lines_append b n es fs
form_append Full b n es fs = full_append b n es fs

pub kept_append : (b : State) (es fs : List Edge) → kept b (es ++ fs) ≡ kept (kept b es) fs
kept_append b [] fs = refl
kept_append b (e ∷ es) fs = kept_append (after b e) es fs

-- A front of a whole text was written. The rest of it is what a text holds, and lines that are to come.
module _ (a b c : Option (List ℕ)) (whole held lines : List ℕ) (run : HandsOn a b whole (held ++ lines)) where
  -- a prefix of the text is written
  pub handed_on : (left : List ℕ) → HandsOn b c held left → HandsOn a c whole (left ++ lines)
  handed_on left w = (
    run.0 ++ w.0,
    run.1 ∙ ap (λ l. run.0 ++ (l ++ lines)) w.1 ∙ ap (λ l. run.0 ++ l) (append_assoc w.0 left lines) ∙ sym (append_assoc run.0 w.0 (left ++ lines)),
    Appends-trans a b c run.0 w.0 run.2 w.2,
  )

  -- the text could not be written
  pub handed_front : AppendsFront b c held → AppendsFront a c whole
  handed_front w = rw run.1 (front_behind a b c run.0 _ run.2 (front_of_more b c held lines w))

-- more is put to a text of which a front was written
pub text_put : (a b : Option (List ℕ)) (text mid more next : List ℕ) → HandsOn a b text mid → next ≡ mid ++ more → HandsOn a b (text ++ more) next
text_put a b text mid more next run put = (
  run.0,
  ap (λ l. l ++ more) run.1 ∙ append_assoc run.0 mid more ∙ ap (λ l. run.0 ++ l) (sym put),
  run.2,
)

-- the first of the lines are put to the text
pub lines_put : (a b : Option (List ℕ)) (whole held lines done rest next : List ℕ) → HandsOn a b whole (held ++ lines) → lines ≡ done ++ rest → next ≡ held ++ done → HandsOn a b whole (next ++ rest)
lines_put a b whole held lines done rest next run is put = (
  run.0,
  run.1 ∙ ap (λ l. run.0 ++ (held ++ l)) is ∙ ap (λ l. run.0 ++ l) (sym (append_assoc held done rest)) ∙ ap (λ l. run.0 ++ (l ++ rest)) (sym put),
  run.2,
)
