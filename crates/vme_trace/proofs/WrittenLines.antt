-- Writing a prefix of some bytes, and more of them.
use Rattle.std.proofs.Common.{◌≡◌, ℕ, ◌-◌, ◌+◌, ◌<◌, get_or, List, [], ◌∷◌, ◌++◌, length, take, drop, Option, Result, Ok, Err, OnErr, refl, sym, ◌∙◌, ap, append_assoc, append-nil, take-append-drop, length-drop}
use Rattle.std.specs.Io.KnownBytes.{Appends}
use Rattle.std.proofs.KnownBytes.{Appends-trans, Appends-nil}
use Rattle.std.proofs.lemmas.List.{drop_more}
use Rattle.vme_model.specs.declared.signals.Edge.{Edge}
use Rattle.vme_model.specs.Text.{edge_lines}
use Rattle.vme_trace.specs.Writing.{AppendsFront, edge_line}

-- these bytes without the rest went to a writer
abbrev pub Wrote : Option (List ℕ) → Option (List ℕ) → List ℕ → List ℕ → Type 0
Wrote old new bytes rest = (front : List ℕ) × (bytes ≡ front ++ rest) × Appends old new front

pub on_err : {A E : Type 0} (r : Result A E) (P : Type 0) → P → OnErr r P
on_err (Ok a) P h = tt
on_err (Err e) P h = h

pub on_err_map : {A E : Type 0} (r : Result A E) (P Q : Type 0) → (P → Q) → OnErr r P → OnErr r Q
on_err_map (Ok a) P Q f h = tt
on_err_map (Err e) P Q f h = f h

take_all : (xs : List ℕ) → take (length xs) xs ≡ xs
take_all [] = refl
take_all (x ∷ xs) = ap (λ l. x ∷ l) (take_all xs)

tail : (xs : List ℕ) (k : ℕ) → take (length xs - k) (drop k xs) ≡ drop k xs
tail xs k = rw (← length-drop k xs) (take_all (drop k xs))

pub wrote_more : (a b c : Option (List ℕ)) (bytes rest : List ℕ) (n : ℕ) → Wrote a b bytes rest → Appends b c (take n rest)
    → Wrote a c bytes (take (length rest - n) (drop n rest))
wrote_more a b c bytes rest n w more = (
  w.0 ++ take n rest,
  w.1 ∙ ap (λ l. w.0 ++ l) (sym (take-append-drop n rest)) ∙ sym (append_assoc w.0 (take n rest) (drop n rest)) ∙ ap (λ l. (w.0 ++ take n rest) ++ l) (sym (tail rest n)),
  Appends-trans a b c w.0 (take n rest) w.2 more,
)

pub wrote_all : (a b c : Option (List ℕ)) (bytes x rest : List ℕ) → Wrote a b bytes (x ++ rest) → Appends b c x → Wrote a c bytes rest
wrote_all a b c bytes x rest w more = (w.0 ++ x, w.1 ∙ sym (append_assoc w.0 x rest), Appends-trans a b c w.0 x w.2 more)

pub wrote_front : (a b c : Option (List ℕ)) (bytes x rest : List ℕ) → Wrote a b bytes (x ++ rest) → AppendsFront b c x → AppendsFront a c bytes
wrote_front a b c bytes x rest w more = (
  w.0 ++ more.0,
  more.1 ++ rest,
  w.1 ∙ ap (λ l. w.0 ++ (l ++ rest)) more.2 ∙ ap (λ l. w.0 ++ l) (append_assoc more.0 more.1 rest) ∙ sym (append_assoc w.0 more.0 (more.1 ++ rest)),
  Appends-trans a b c w.0 more.0 w.2 more.3,
)

pub lines_drop : (es : List Edge) (i : ℕ) (d : Edge) → i < length es → edge_lines (drop i es) ≡ edge_line (get_or es i d) ++ edge_lines (drop (i + 1) es)
lines_drop es i d h = rw (drop_more es i d h) refl

pub line_more : (a b c : Option (List ℕ)) (es : List Edge) (i : ℕ) (d : Edge) (x : List ℕ) → i < length es → x ≡ edge_line (get_or es i d)
    → Wrote a b (edge_lines es) (edge_lines (drop i es)) → Appends b c x → Wrote a c (edge_lines es) (edge_lines (drop (i + 1) es))
line_more a b c es i d x h is w more =
    wrote_all a b c (edge_lines es) x (edge_lines (drop (i + 1) es)) (rw is (rw (lines_drop es i d h) at w)) more

pub line_front : (a b c : Option (List ℕ)) (es : List Edge) (i : ℕ) (d : Edge) (x : List ℕ) → i < length es → x ≡ edge_line (get_or es i d)
    → Wrote a b (edge_lines es) (edge_lines (drop i es)) → AppendsFront b c x → AppendsFront a c (edge_lines es)
line_front a b c es i d x h is w more =
    wrote_front a b c (edge_lines es) x (edge_lines (drop (i + 1) es)) (rw is (rw (lines_drop es i d h) at w)) more

-- two texts, one after another
pub first_front : (a b : Option (List ℕ)) (x y : List ℕ) → AppendsFront a b x → AppendsFront a b (x ++ y)
first_front a b x y more = wrote_front a a b (x ++ y) x y ([], refl, Appends-nil a) more

pub second_front : (a b c : Option (List ℕ)) (x y : List ℕ) → Appends a b x → AppendsFront b c y → AppendsFront a c (x ++ y)
second_front a b c x y first more = wrote_front a b c (x ++ y) y [] (x, ap (λ l. x ++ l) (sym (append-nil y)), first) more
