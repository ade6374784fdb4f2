-- A trace that is read up to the edge that is asked for.
use Rattle.std.proofs.Common.{◌≡◌, ◌<◌, ◌≤◌, ◌+◌, ◌++◌, ◌∷◌, [], ℕ, Bool, true, false, List, Option, Some, None, Ok, Err, is_ok, length, take, drop, get_or, if◌then◌else◌, refl, sym, ◌∙◌, ap, subst, arith, take-append-drop}
use Rattle.std.specs.Prelude.{◌==◌, not}
use Rattle.std.proofs.Math.ListN.{length-append}
use Rattle.std.proofs.lemmas.Bool.{and_parts}
use Rattle.std.proofs.lemmas.Bool.Decides.{nat_tests}
use Rattle.std.specs.List.{list_all}
use Rattle.std.proofs.lemmas.List.{drop_more, length-take-le, take_all}
use Rattle.vme_model.specs.declared.signals.Edge.{Edge}
use Rattle.vme_model.specs.declared.signals.Version.{Version}
use Rattle.vme_model.specs.Locality.{AreWellFormed}
use Rattle.vme_model.specs.Plan.{Plan}
use Rattle.vme_model.specs.Signals.{is_well_formed}
use Rattle.vme_model.specs.Verdict.{State, Judgement, after, kept, made, verdict}
use Rattle.vme_reading.specs.Refusals.{first_refusal, or_refusal}
use Rattle.vme_following.specs.Explaining.{IsUnasked}
use Rattle.vme_following.specs.Followed.{IsNext}
use Rattle.vme_reading.specs.Outcomes.{bench}
use Rattle.vme_reading.proofs.FirstRefusals.{refusal_behind}
use Rattle.vme_following.proofs.FollowedEdges.{next_list}
use Rattle.vme_reading.proofs.FormedEdges.{formed_both}
use Rattle.vme_stories.proofs.Lists.{kept_append}
use Rattle.vme_shrink.specs.Sought.{IsFront, IsMet, is_asked}

-- with the next edge
pub front_next : (p : Plan) (v : Version) (before es : List Edge) (i : ℕ) (e : Edge) (mid now : State)
    → i < length es → IsFront p v (before ++ take i es) mid → now ≡ after mid (get_or es i e)
    → IsFront p v (before ++ take (i + 1) es) now
front_next p v before es i e mid now lt is next =
    let d : Edge = get_or es i e in
    next ∙ ap (λ (s : State). after s d) is
    ∙ sym (kept_append (bench p v) (before ++ take i es) (d ∷ []))
    ∙ ap (kept (bench p v)) (next_list before es i e lt)

-- the edge that is asked for is not made, any other is
pub stays_at : (t : Bool) (old next now : State) → now ≡ (if t then old else next) → t ≡ true
    → now ≡ old
stays_at t old next now is met = is ∙ ap (λ (u : Bool). if u then old else next) met

pub goes_on : (t : Bool) (old next now : State) → now ≡ (if t then old else next) → t ≡ false
    → now ≡ next
goes_on t old next now is other = is ∙ ap (λ (u : Bool). if u then old else next) other

pub asked_still : (asked : Option ℕ) (n : ℕ) (old now : State) (e : Edge) → now ≡ old
    → is_asked asked n old e ≡ true → is_asked asked n now e ≡ true
asked_still asked n old now e same met =
    subst (λ (s : State). is_asked asked n s e ≡ true) (sym same) met

same_by : (b next : State) (t : Bool)
    → (if t then next else b) ≡ (if not t then b else (if t then next else b))
same_by b next true = refl
same_by b next false = refl

-- a refused edge leaves the bus as it was
pub first_refused : (asked : Option ℕ) (n : ℕ) (b now : State) (e : Edge) → asked ≡ None
    → now ≡ after b e → now ≡ (if is_asked asked n b e then b else after b e)
first_refused asked n b now e none is =
    is ∙ same_by b (made b e) (is_ok (verdict b e))
    ∙ sym (ap (λ (a : Option ℕ). if is_asked a n b e then b else after b e) none)

ok_none : (n : ℕ) (j : Judgement) → is_ok j ≡ true → or_refusal n j None ≡ None
ok_none n (Ok u) h = refl
ok_none n (Err r) h = absurd (cc)

accepts : (b : Bool) → not b ≡ false → b ≡ true
accepts true h = refl
accepts false h = absurd (cc)

refuses : (b : Bool) → not b ≡ true → b ≡ false
refuses true h = absurd (cc)
refuses false h = refl

size_next : (before es : List Edge) (i : ℕ) (e : Edge) → i < length es
    → length (before ++ take (i + 1) es) ≡ length (before ++ take i es) + 1
size_next before es i e lt =
    ap length (sym (next_list before es i e lt))
    ∙ length-append (before ++ take i es) (get_or es i e ∷ [])

not_yet : (w n : ℕ) → (w == n + 1) ≡ false → n < w → n + 1 < w
not_yet w n other lt = grind (arith, nat_tests)

unasked_after : (asked : Option ℕ) (p : Plan) (v : Version) (before es : List Edge) (i : ℕ)
    (e : Edge) (mid : State) → i < length es → IsFront p v (before ++ take i es) mid
    → is_asked asked (length (before ++ take i es) + 1) mid (get_or es i e) ≡ false
    → IsUnasked asked p (Some v) (before ++ take i es)
    → IsUnasked asked p (Some v) (before ++ take (i + 1) es)
unasked_after (Some w) p v before es i e mid lt is other none = λ some.
    subst (λ n. n < w) (sym (size_next before es i e lt))
    (not_yet w (length (before ++ take i es)) other (none some))
unasked_after None p v before es i e mid lt is other none =
    let front : List Edge = before ++ take i es in
    let d : Edge = get_or es i e in
    let ok : is_ok (verdict (kept (bench p v) front) d) ≡ true =
    ap (λ (s : State). is_ok (verdict s d)) (sym is)
    ∙ accepts (is_ok (verdict mid d)) other in
    ap (first_refusal 1 (bench p v)) (sym (next_list before es i e lt))
    ∙ refusal_behind 1 (bench p v) front (d ∷ []) none
    ∙ ok_none (1 + length front) (verdict (kept (bench p v) front) d) ok

pub unasked_next : (asked : Option ℕ) (p : Plan) (v : Version) (before es : List Edge) (i : ℕ)
    (e : Edge) (mid : State) (n : ℕ) → n ≡ length (before ++ take i es) + 1 → i < length es
    → IsFront p v (before ++ take i es) mid → is_asked asked n mid (get_or es i e) ≡ false
    → IsUnasked asked p (Some v) (before ++ take i es)
    → IsUnasked asked p (Some v) (before ++ take (i + 1) es)
unasked_next asked p v before es i e mid n at lt is other none =
    unasked_after asked p v before es i e mid lt is
    (subst (λ m. is_asked asked m mid (get_or es i e) ≡ false) at other) none

is_number : (w n : ℕ) → (w == n) ≡ true → w ≡ n
is_number w n h = grind (arith, nat_tests)

next_by : (asked : Option ℕ) (p : Plan) (v : Version) (front : List Edge) (e : Edge) (mid : State)
    → IsFront p v front mid → is_asked asked (length front + 1) mid e ≡ true
    → IsUnasked asked p (Some v) front → IsNext asked p v front e
next_by (Some w) p v front e mid is met none = is_number w (length front + 1) met
next_by None p v front e mid is met none = (
  none,
  ap (λ (s : State). is_ok (verdict s e)) (sym is) ∙ refuses (is_ok (verdict mid e)) met,
)

pub met_here : (asked : Option ℕ) (p : Plan) (v : Version) (before es : List Edge) (i : ℕ) (e : Edge)
    (mid : State) (n : ℕ) → n ≡ length (before ++ take i es) + 1 → i < length es
    → IsFront p v (before ++ take i es) mid → is_asked asked n mid (get_or es i e) ≡ true
    → IsUnasked asked p (Some v) (before ++ take i es)
    → IsMet asked p v before es mid (get_or es i e)
met_here asked p v before es i e mid n at lt is met none = record {
  front = take i es;
  rest = drop (i + 1) es;
  split = sym (take-append-drop i es) ∙ ap (λ l. take i es ++ l) (drop_more es i e lt);
  next = next_by asked p v (before ++ take i es) (get_or es i e) mid is
      (subst (λ m. is_asked asked m mid (get_or es i e) ≡ true) at met) none;
  kept = is;
}

-- the number of the next edge
pub number_at : (before es : List Edge) (i judged number : ℕ) → i < length es
    → judged ≡ length before → number ≡ judged + i → number + 1 ≡ length (before ++ take i es) + 1
number_at before es i judged number lt is at =
    let both = length-append before (take i es) in
    let few = length-take-le i es (omega arith) in omega (arith, both, few, is, at)

-- each of the edges is well formed
pub formed_at : (es : List Edge) (i : ℕ) (e : Edge) → i < length es → AreWellFormed es
    → is_well_formed (get_or es i e) ≡ true
formed_at es i e lt formed =
    let d : Edge = get_or es i e in
    let split : es ≡ take i es ++ (d ∷ drop (i + 1) es) =
    sym (take-append-drop i es) ∙ ap (λ l. take i es ++ l) (drop_more es i e lt) in
    (and_parts (is_well_formed d) (list_all is_well_formed (drop (i + 1) es))
    (formed_both (take i es) (d ∷ drop (i + 1) es) (subst AreWellFormed split formed)).1).0

pub whole_taken : (es : List Edge) (i : ℕ) → length es ≤ i → take i es ≡ es
whole_taken es i le = take_all i es le
