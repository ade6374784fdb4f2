-- What is kept of a list.
use Rattle.std.proofs.Common.{◌≡◌, ◌<◌, ◌≤◌, ◌+◌, ◌-◌, ◌++◌, ◌∷◌, [], ℕ, List, Bool, true, false, is_ok, length, take, drop, get_or, reverse, if◌then◌else◌, refl, sym, ◌∙◌, ap, arith, append-nil, append_assoc, take-append-drop}
use Rattle.std.proofs.Math.ListN.{length-append}
use Rattle.std.proofs.lemmas.List.{length-take-le, length-drop, take_more}
use mathlib.Core.List.{reverse-cons, reverse-reverse}
use Rattle.vme_model.specs.declared.signals.Edge.{Edge}
use Rattle.vme_model.specs.Verdict.{State, verdict, made, after, kept}
use Rattle.vme_shrink_search.specs.Stories.{accepted, without}

-- the accepted edges, oldest first
abbrev pub lasting : State → List Edge → List Edge
lasting b [] = []
lasting b (e ∷ es) = if is_ok (verdict b e) then e ∷ lasting (made b e) es else lasting b es

pub kept_append : (b : State) (es fs : List Edge) → kept b (es ++ fs) ≡ kept (kept b es) fs
kept_append b [] fs = refl
kept_append b (e ∷ es) fs = kept_append (after b e) es fs

append_by : (b : State) (e : Edge) (es fs : List Edge)
    → lasting (made b e) (es ++ fs)
    ≡ lasting (made b e) es ++ lasting (kept (made b e) es) fs
    → lasting b (es ++ fs) ≡ lasting b es ++ lasting (kept b es) fs
    → (t : Bool)
    → (if t then e ∷ lasting (made b e) (es ++ fs) else lasting b (es ++ fs))
    ≡ (if t then e ∷ lasting (made b e) es else lasting b es)
    ++ lasting (kept (if t then made b e else b) es) fs
append_by b e es fs one other true = ap (λ l. e ∷ l) one
append_by b e es fs one other false = other

pub lasting_append : (b : State) (es fs : List Edge)
    → lasting b (es ++ fs) ≡ lasting b es ++ lasting (kept b es) fs
lasting_append b [] fs = refl
lasting_append b (e ∷ es) fs =
    append_by b e es fs (lasting_append (made b e) es fs) (lasting_append b es fs)
    (is_ok (verdict b e))

again_by : (b : State) (e : Edge) (es : List Edge)
    → kept (made b e) (lasting (made b e) es) ≡ kept (made b e) es
    → kept b (lasting b es) ≡ kept b es
    → (t : Bool) → is_ok (verdict b e) ≡ t
    → kept b (if t then e ∷ lasting (made b e) es else lasting b es)
    ≡ kept (if t then made b e else b) es
again_by b e es one other true is =
    ap (λ (t : Bool). kept (if t then made b e else b) (lasting (made b e) es)) is ∙ one
again_by b e es one other false is = other

-- what lasts leads to the same
pub kept_again : (b : State) (es : List Edge) → kept b (lasting b es) ≡ kept b es
kept_again b [] = refl
kept_again b (e ∷ es) =
    again_by b e es (kept_again (made b e) es) (kept_again b es) (is_ok (verdict b e)) refl

few_by : (b : State) (e : Edge) (es : List Edge)
    → length (lasting (made b e) es) ≤ length es → length (lasting b es) ≤ length es
    → (t : Bool)
    → length (if t then e ∷ lasting (made b e) es else lasting b es) ≤ length (e ∷ es)
few_by b e es one other true = omega (arith, one)
few_by b e es one other false = omega (arith, other)

pub lasting_few : (b : State) (es : List Edge) → length (lasting b es) ≤ length es
lasting_few b [] = omega arith
lasting_few b (e ∷ es) =
    few_by b e es (lasting_few (made b e) es) (lasting_few b es) (is_ok (verdict b e))

history_by : (b : State) (e : Edge) (es : List Edge)
    → (kept (made b e) es).history ≡ reverse (lasting (made b e) es) ++ (e ∷ b.history)
    → (kept b es).history ≡ reverse (lasting b es) ++ b.history
    → (t : Bool)
    → (kept (if t then made b e else b) es).history
    ≡ reverse (if t then e ∷ lasting (made b e) es else lasting b es) ++ b.history
history_by b e es one other true =
    one ∙ sym (append_assoc (reverse (lasting (made b e) es)) (e ∷ []) b.history)
    ∙ ap (λ l. l ++ b.history) (sym (reverse-cons e (lasting (made b e) es)))
history_by b e es one other false = other

-- as a history
pub lasting_history : (b : State) (es : List Edge)
    → (kept b es).history ≡ reverse (lasting b es) ++ b.history
lasting_history b [] = refl
lasting_history b (e ∷ es) =
    history_by b e es (lasting_history (made b e) es) (lasting_history b es)
    (is_ok (verdict b e))

pub accepted_lasting : (b : State) (es : List Edge) → b.history ≡ []
    → accepted b es ≡ lasting b es
accepted_lasting b es none =
    ap reverse (lasting_history b es ∙ ap (λ h. reverse (lasting b es) ++ h) none
    ∙ append-nil (reverse (lasting b es)))
    ∙ reverse-reverse (lasting b es)

pub kept_accepted : (b : State) (es : List Edge) → b.history ≡ []
    → kept b (accepted b es) ≡ kept b es
kept_accepted b es none = ap (kept b) (accepted_lasting b es none) ∙ kept_again b es

pub accepted_again : (b : State) (es : List Edge) → b.history ≡ []
    → accepted b (accepted b es) ≡ accepted b es
accepted_again b es none = ap (λ (s : State). reverse s.history) (kept_accepted b es none)

pub accepted_few : (b : State) (es : List Edge) → b.history ≡ []
    → length (accepted b es) ≤ length es
accepted_few b es none =
    let same = ap length (accepted_lasting b es none) in
    let few = lasting_few b es in omega (arith, same, few)

-- ---- a stretch left out

left_length : (g : List Edge) (from to : ℕ) → from ≤ length g
    → length (take from g ++ drop to g) ≡ from + (length g - to)
left_length g from to within =
    length-append (take from g) (drop to g)
    ∙ ap (λ n. n + length (drop to g)) (length-take-le from g within)
    ∙ ap (λ n. from + n) (length-drop to g)

pub without_few : (b : State) (g : List Edge) (from to : ℕ) → b.history ≡ [] → from < to
    → to ≤ length g → length (without b g from to) < length g
without_few b g from to none lt within =
    let few = accepted_few b (take from g ++ drop to g) none in
    let left = left_length g from to (omega arith) in omega (arith, few, left)

-- of a list that is accepted its beginning is
front_whole : (b : State) (g : List Edge) (n : ℕ) → lasting b g ≡ g → n ≤ length g
    → n ≤ length (lasting b (take n g))
front_whole b g n whole within =
    let split : lasting b g ≡ lasting b (take n g) ++ lasting (kept b (take n g)) (drop n g) =
    ap (lasting b) (sym (take-append-drop n g)) ∙ lasting_append b (take n g) (drop n g) in
    let all : length g
    ≡ length (lasting b (take n g)) + length (lasting (kept b (take n g)) (drop n g)) =
    ap length (sym whole ∙ split)
    ∙ length-append (lasting b (take n g)) (lasting (kept b (take n g)) (drop n g)) in
    let few = lasting_few (kept b (take n g)) (drop n g) in
    let rest = length-drop n g in omega (arith, all, few, rest)

-- before the stretch nothing is lost
pub without_front : (b : State) (g : List Edge) (from to : ℕ) → b.history ≡ []
    → accepted b g ≡ g → from ≤ length g → from ≤ length (without b g from to)
without_front b g from to none whole within =
    let front = front_whole b g from (sym (accepted_lasting b g none) ∙ whole) within in
    let all : length (without b g from to)
    ≡ length (lasting b (take from g)) + length (lasting (kept b (take from g)) (drop to g)) =
    ap length (accepted_lasting b (take from g ++ drop to g) none
    ∙ lasting_append b (take from g) (drop to g))
    ∙ length-append (lasting b (take from g)) (lasting (kept b (take from g)) (drop to g)) in
    omega (arith, front, all)

-- ---- what stays

plan_by : (b : State) (e : Edge) (t : Bool) → (if t then made b e else b).plan ≡ b.plan
plan_by b e true = refl
plan_by b e false = refl

pub kept_plan : (b : State) (es : List Edge) → (kept b es).plan ≡ b.plan
kept_plan b [] = refl
kept_plan b (e ∷ es) = kept_plan (after b e) es ∙ plan_by b e (is_ok (verdict b e))

version_by : (b : State) (e : Edge) (t : Bool)
    → (if t then made b e else b).version ≡ b.version
version_by b e true = refl
version_by b e false = refl

pub kept_version : (b : State) (es : List Edge) → (kept b es).version ≡ b.version
kept_version b [] = refl
kept_version b (e ∷ es) = kept_version (after b e) es ∙ version_by b e (is_ok (verdict b e))

max_by : (b : State) (e : Edge) (t : Bool) → (if t then made b e else b).max ≡ b.max
max_by b e true = refl
max_by b e false = refl

pub kept_max : (b : State) (es : List Edge) → (kept b es).max ≡ b.max
kept_max b [] = refl
kept_max b (e ∷ es) = kept_max (after b e) es ∙ max_by b e (is_ok (verdict b e))

-- ---- one edge more

more_by : (b : State) (e : Edge) (new : List Edge) (t : Bool)
    → new ≡ reverse b.history ++ e ∷ [] → t ≡ true
    → new ≡ reverse (if t then made b e else b).history
more_by b e new true more is = more ∙ sym (reverse-cons e b.history)
more_by b e new false more is = absurd (cc)

pub made_more : (b : State) (e : Edge) (list new : List Edge) → list ≡ reverse b.history
    → new ≡ list ++ e ∷ [] → is_ok (verdict b e) ≡ true → new ≡ reverse (after b e).history
made_more b e list new is more ok =
    more_by b e new (is_ok (verdict b e)) (more ∙ ap (λ l. l ++ e ∷ []) is) ok

-- the next edge of those that are gone on with
pub kept_next : (b s now : State) (es : List Edge) (i : ℕ) (d : Edge) → i < length es
    → s ≡ kept b (take i es) → now ≡ after s (get_or es i d) → now ≡ kept b (take (i + 1) es)
kept_next b s now es i d lt is next =
    next ∙ ap (λ (x : State). after x (get_or es i d)) is
    ∙ sym (kept_append b (take i es) (get_or es i d ∷ []))
    ∙ ap (kept b) (sym (take_more es i d lt))
