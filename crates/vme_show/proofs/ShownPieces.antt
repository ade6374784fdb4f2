-- What is shown of a trace, edge by edge and piece by piece.
use Rattle.std.proofs.Common.{◌≡◌, ◌⊎◌, inl, inr, ℕ, ◌+◌, ◌-◌, ◌<◌, ◌≤◌, List, [], ◌∷◌, ◌++◌, length, take, drop, map, Bool, Option, Some, None, Result, Ok, Err, OnErr, refl, sym, ◌∙◌, ap, subst, arith, append_assoc, append-nil, take-append-drop}
use Rattle.std.proofs.lemmas.List.{length-append, length-take-le, take_all, take-take, take-append-le, drop-append-le, drop_all, map_push, nil_from_length, take_at}
use Rattle.std.specs.Io.KnownBytes.{Keeps, Appends}
use Rattle.std.proofs.KnownBytes.{Keeps-trans}
use Rattle.vme_model.specs.declared.signals.Edge.{Edge}
use Rattle.vme_model.specs.Verdict.{State, after, kept}
use Rattle.vme_show.specs.declared.columns.Column.{Column}
use Rattle.vme_show.specs.Picture.{columns, picture}
use Rattle.vme_show.specs.Columns.{Seen, IsWindowOf, column_of, with_column}
use Rattle.vme_trace.specs.declared.Fault.{Fault}
use Rattle.vme_trace.specs.Writing.{AppendsFront}
use Rattle.vme_following.specs.declared.following.Printed.{Printed}
use Rattle.vme_following.specs.declared.following.Printed.TheVariants.{Block, Beyond}
use Rattle.vme_show.specs.declared.shows.Stretch.{Stretch}
use Rattle.vme_reading.specs.Outcomes.{status_with}
use Rattle.vme_show.specs.Stretches.{Stage}
use Rattle.vme_show.specs.Shown.{Ends, EndsStretch, IsBefore, IsKept, IsShown, stretch_text}
use Rattle.vme_reading.specs.Pieces.{answered}
use Rattle.vme_reading.proofs.WrittenLines.{kept_append, on_err, appends_behind, front_after, front_kept}

-- ---- edges before the stretch

skips : (b : State) (es fs : List Edge) (from : ℕ) (w : Option Seen) → IsKept b es from w → (length fs ≡ 0) ⊎ (length es + length fs < from) → IsKept b (es ++ fs) from w
skips b es fs from w h (inl none) = subst (λ l. IsKept b l from w) (sym (append-nil es) ∙ ap (λ l. es ++ l) (sym (nil_from_length fs none))) h
skips b es fs from None h (inr before) = let both = length-append es fs in omega (arith, both, before)
skips b es fs from (Some w) h (inr before) = absurd (let at = h.0 in omega (arith, at, before))

pub skipped : (b : State) (es fs : List Edge) (old new : Stage) → IsBefore old (length fs) → new.bus ≡ kept old.bus fs → new.judged ≡ old.judged + length fs → new.stretch ≡ old.stretch
    → new.window ≡ old.window
    → IsShown b es old → IsShown b (es ++ fs) new
skipped b es fs old new before is count same window h = record {
  bus = is ∙ ap (λ s. kept s fs) h.bus ∙ sym (kept_append b es fs);
  judged = count ∙ ap (λ n. n + length fs) h.judged ∙ sym (length-append es fs);
  window =
      subst (λ (w : Option Seen). IsKept b (es ++ fs) new.stretch.from w) (sym window)
      (subst (λ (s : Stretch). IsKept b (es ++ fs) s.from old.window) (sym same)
      (skips b es fs old.stretch.from old.window h.window (elim before [ inl none ↦ inl none | inr low ↦ inr (let is = h.judged in omega (arith, is, low)) ])));
}

-- ---- the next edge of the stretch

-- a window was opened: it has the edges of the stretch, perhaps none
pub record Begun (b : State) (es : List Edge) (from : ℕ) (w : Seen) : Type 0 where
  pub reached : from ≤ length es + 1
  pub window : IsWindowOf (kept b (take (from - 1) es)) from (drop (from - 1) es) w

pub begun_now : (b here : State) (es : List Edge) (from : ℕ) (w : Seen) → here ≡ kept b es → length es < from → from ≤ length es + 1 → IsWindowOf here from [] w → Begun b es from w
begun_now b here es from w is low high h = record {
  reached = high;
  window =
      let all : take (from - 1) es ≡ es = take_all (from - 1) es (omega arith) in
      let none : drop (from - 1) es ≡ [] = drop_all (from - 1) es (omega arith) in
      subst (λ (s : State). IsWindowOf s from (drop (from - 1) es) w) (is ∙ ap (kept b) (sym all)) (subst (λ l. IsWindowOf here from l w) (sym none) h);
}

pub begun_before : (b : State) (es : List Edge) (from : ℕ) (w : Seen) → IsKept b es from (Some w) → Begun b es from w
begun_before b es from w h = record { reached = (let at = h.0 in omega (arith, at)); window = h.1 }

columns_push : (b : State) (es : List Edge) (e : Edge) → columns b (es ++ e ∷ []) ≡ columns b es ++ (kept b es, e) ∷ []
columns_push b [] e = refl
columns_push b (f ∷ es) e = ap (λ l. (b, f) ∷ l) (columns_push (after b f) es e)

pub grown : (b here : State) (es : List Edge) (e : Edge) (from : ℕ) (w v : Seen) → here ≡ kept b es → Begun b es from w → v ≡ with_column w (column_of (here, e))
    → IsKept b (es ++ e ∷ []) from (Some v)
grown b here es e from w v is h added =
    let reached = h.reached in
    let within : from - 1 ≤ length es = omega arith in
    let before : take (from - 1) (es ++ e ∷ []) ≡ take (from - 1) es = take-append-le (from - 1) es (e ∷ []) within in
    let rest : drop (from - 1) (es ++ e ∷ []) ≡ drop (from - 1) es ++ e ∷ [] = drop-append-le (from - 1) es (e ∷ []) within in
    let start = kept b (take (from - 1) es) in
    let now : here ≡ kept start (drop (from - 1) es) = is ∙ ap (kept b) (sym (take-append-drop (from - 1) es)) ∙ kept_append b (take (from - 1) es) (drop (from - 1) es) in (
      (let more = length-append es (e ∷ []) in omega (arith, reached, more)),
      subst (λ l. IsWindowOf (kept b l) from (drop (from - 1) (es ++ e ∷ [])) v) (sym before)
          (subst (λ l. IsWindowOf start from l v) (sym rest)
          (record {
            first_is = ap (λ (s : Seen). s.first) added ∙ h.window.first_is;
            wires_are = ap (λ (s : Seen). s.wires) added ∙ h.window.wires_are;
            columns_are =
                ap (λ (s : Seen). s.columns) added
                ∙ ap (λ (l : List Column). l ++ column_of (here, e) ∷ []) h.window.columns_are
                ∙ ap (λ (s : State). map column_of (columns start (drop (from - 1) es)) ++ column_of (s, e) ∷ []) now
                ∙ sym (map_push column_of (columns start (drop (from - 1) es)) (kept start (drop (from - 1) es), e))
                ∙ ap (map column_of) (sym (columns_push start (drop (from - 1) es) e));
          })),
    )

pub next_shown : (b : State) (es : List Edge) (e : Edge) (old new : Stage) → new.bus ≡ after old.bus e → new.judged ≡ old.judged + 1 → new.stretch ≡ old.stretch → IsShown b es old
    → IsKept b (es ++ e ∷ []) old.stretch.from new.window → IsShown b (es ++ e ∷ []) new
next_shown b es e old new is count same h window = record {
  bus = is ∙ ap (λ s. after s e) h.bus ∙ sym (kept_append b es (e ∷ []));
  judged = count ∙ ap (λ n. n + 1) h.judged ∙ sym (length-append es (e ∷ []));
  window = subst (λ (s : Stretch). IsKept b (es ++ e ∷ []) s.from new.window) (sym same) window;
}

-- ---- the picture

-- the edges up to the last of the stretch are all that count
pub text_to : (s : Stretch) (b : State) (es : List Edge) → s.from ≤ s.to → stretch_text s b (take s.to es) ≡ stretch_text s b es
text_to s b es order =
    ap (λ l. picture s.color s.from (kept b l) (drop (s.from - 1) (take s.to (take s.to es)))) (take-take (s.from - 1) s.to es (omega arith))
    ∙ ap (λ l. picture s.color s.from (kept b (take (s.from - 1) es)) (drop (s.from - 1) l)) (take-take s.to s.to es (omega arith))

-- what the window draws
pub window_text : (b : State) (es : List Edge) (s : Stage) (w : Seen) → s.judged ≤ s.stretch.to → w.first ≡ s.stretch.from → IsShown b es s
    → picture s.stretch.color w.first (kept b (take (s.stretch.from - 1) es)) (drop (s.stretch.from - 1) es) ≡ stretch_text s.stretch b es
window_text b es s w within first h =
    ap (λ n. picture s.stretch.color n (kept b (take (s.stretch.from - 1) es)) (drop (s.stretch.from - 1) es)) first
    ∙ ap (λ l. picture s.stretch.color s.stretch.from (kept b (take (s.stretch.from - 1) es)) (drop (s.stretch.from - 1) l))
    (sym (take_all s.stretch.to es (let is = h.judged in omega (arith, is, within))))

-- it was drawn, but not handed on
pub flushed : {A : Type 0} (r : Result A Fault) (s : Stage) (w : Seen) (x y z : Option (List ℕ))
    → ((b : State) (es : List Edge) → IsWindowOf b w.first es w → Appends x y (picture s.stretch.color w.first b es)) → Keeps y z → s.judged ≤ s.stretch.to
    → w.first ≡ s.stretch.from → s.window ≡ Some w → OnErr r ((b : State) (es : List Edge) → IsShown b es s → AppendsFront x z (stretch_text s.stretch b es))
flushed r s w x y z wrote kept_so within first same =
    on_err r ((b : State) (es : List Edge) → IsShown b es s → AppendsFront x z (stretch_text s.stretch b es))
    (λ b es h.
    let window : IsKept b es s.stretch.from (Some w) = subst (λ (o : Option Seen). IsKept b es s.stretch.from o) same h.window in
    front_kept x y z (stretch_text s.stretch b es)
    (subst (Appends x y) (window_text b es s w within first h)
    (wrote (kept b (take (s.stretch.from - 1) es)) (drop (s.stretch.from - 1) es) (subst (λ n. IsWindowOf (kept b (take (s.stretch.from - 1) es)) n (drop (s.stretch.from - 1) es) w)
    (sym first) window.1))) kept_so)

-- ---- the end of a piece

-- the stretch is through
pub ends_at_last : (s : Stretch) (b : State) (es : List Edge) (more : Result Bool Fault) (old new : Option (List ℕ)) (now : Stage) (r : Result Printed Fault) → s.from ≤ s.to → s.to ≤ length es
    → EndsStretch s b (take s.to es) old new r → Ends s b es more old new now (answered r)
ends_at_last s b es more old new now (Ok (Block status)) order long h = (
  (let least = order in omega (arith, least, long)),
  inl long,
  subst (Appends old new) (text_to s b es order) h.1,
  h.2 ∙ ap (λ l. status_with (length l - length (kept b l).history)) (take-take s.to s.to es (omega arith)),
)
ends_at_last s b es more old new now (Ok (Beyond n)) order long h = absurd (let is = h.0 in let low = h.1 in let all = length-take-le s.to es long in omega (arith, is, low, all))
ends_at_last s b es more old new now (Err f) order long h = inr (h.0, inl long, subst (AppendsFront old new) (text_to s b es order) h.1)

here_is : (es fs : List Edge) (n to : ℕ) → n ≤ length fs → length es + n ≡ to → es ++ take n fs ≡ take to (es ++ fs)
here_is es fs n to few sum =
    sym
    (ap (λ l. take to (es ++ l)) (sym (take-append-drop n fs)) ∙ ap (take to) (sym (append_assoc es (take n fs) (drop n fs)))
    ∙ take_at (es ++ take n fs) (drop n fs) to (let all = length-append es (take n fs) in let part = length-take-le n fs few in omega (arith, all, part, sum)))

-- it came to its last edge within this piece
pub ends_then : (s : Stretch) (b : State) (es fs : List Edge) (more : Result Bool Fault) (old new : Option (List ℕ)) (now mid : Stage) (r : Result Printed Fault) (n : ℕ) → s.from ≤ s.to → mid.stretch
    ≡ s → n ≤ length fs → mid.judged ≡ s.to
    → IsShown b (es ++ take n fs) mid → ((c : State) (gs : List Edge) → IsShown c gs mid → EndsStretch mid.stretch c gs old new r) → Ends s b (es ++ fs) more old new now (answered r)
ends_then s b es fs more old new now mid r n order same few last shown ends =
    let all = length-append es (take n fs) in
    let part = length-take-le n fs few in
    let judged = shown.judged in
    let sum : length es + n ≡ s.to = omega (arith, all, part, judged, last) in
    let whole = length-append es fs in
    ends_at_last s b (es ++ fs) more old new now r order (omega (arith, sum, few, whole))
    (subst (λ l. EndsStretch s b l old new r) (here_is es fs n s.to few sum) (subst (λ (t : Stretch). EndsStretch t b (es ++ take n fs) old new r) same (ends b (es ++ take n fs) shown)))

-- ---- pieces, one behind the other

pub ends_behind : (s : Stretch) (b : State) (es : List Edge) (more : Result Bool Fault) (old at new : Option (List ℕ)) (now : Stage) (answer : Result (Option Printed) Fault) → Keeps old at
    → Ends s b es more at new now answer → Ends s b es more old new now answer
ends_behind s b es more old at new now (Ok None) keeps h = (Keeps-trans old at new keeps h.0, h.1, h.2)
ends_behind s b es more old at new now (Ok (Some (Block status))) keeps h = (h.0, h.1, appends_behind old at new (stretch_text s b es) keeps h.2, h.3)
ends_behind s b es more old at new now (Ok (Some (Beyond n))) keeps h = (h.0, h.1, h.2, Keeps-trans old at new keeps h.3)
ends_behind s b es more old at new now (Err f) keeps h = elim h [
  | inl stops ↦ inl (stops.0, stops.1, appends_behind old at new (stretch_text s b es) keeps stops.2)
  | inr cut ↦ inr (cut.0, cut.1, front_after old at new (stretch_text s b es) keeps cut.2)
]
