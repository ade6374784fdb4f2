-- A trace that is read up to the edge that is asked for.
use Rattle.std.proofs.Common.{◌≡◌, ◌≢◌, inl, inr, ◌<◌, ◌+◌, ◌++◌, ◌∷◌, [], ℕ, Bool, true, false, List, Option, Some, None, Result, Ok, Err, is_ok, length, take, drop, get_or, refl, sym, ◌∙◌, ap, subst, append_assoc, arith, take-append-drop}
use Rattle.std.specs.Prelude.{slice_get, IsTrue}
use Rattle.std.specs.List.{list_all}
use Rattle.std.proofs.Math.ListN.{length-append}
use Rattle.std.proofs.Math.Seq.{take-append_seam}
use Rattle.std.proofs.lemmas.Bool.{and_parts}
use Rattle.std.proofs.lemmas.List.{drop_more, take_more}
use Rattle.std.specs.Io.KnownBytes.{Keeps}
use Rattle.std.proofs.KnownBytes.{Keeps-refl}
use Rattle.vme_model.specs.declared.signals.Edge.{Edge}
use Rattle.vme_model.specs.declared.signals.Version.{Version}
use Rattle.vme_model.specs.Locality.{AreWellFormed}
use Rattle.vme_model.specs.Plan.{Plan}
use Rattle.vme_model.specs.Signals.{is_well_formed}
use Rattle.vme_model.specs.Text.{read_of}
use Rattle.vme_model.specs.Verdict.{Judgement, kept, verdict}
use Rattle.vme_trace.specs.declared.Fault.{Fault}
use Rattle.vme_reading.specs.declared.seeking.Found.TheVariants.{At}
use Rattle.vme_reading.specs.Outcomes.{bench}
use Rattle.vme_reading.specs.Pieces.{Came}
use Rattle.vme_reading.specs.Readings.{LeavesNow}
use Rattle.vme_reading.specs.Refusals.{first_refusal, or_refusal, refusal_of}
use Rattle.vme_reading.specs.Seeking.{IsAsked, IsUnasked, OfAsked, SeeksEdge, Writing}
use Rattle.vme_reading.specs.Sought.{ComesTo, HasPassed, IsNext, Meets, Seeks, Standing, ended}
use Rattle.vme_reading.specs.Steps.{Begins}
use Rattle.vme_reading.specs.Streams.{streams}
use Rattle.vme_reading.proofs.FormedEdges.{formed_both}
use Rattle.vme_reading.proofs.ReadOn.{came_begins}
use Rattle.vme_reading.proofs.FirstRefusals.{refusal_behind, refused_by, first_behind}
use Rattle.vme_reading.proofs.Waits.{waits_now}

-- ---- one edge

ok_none : (n : ℕ) (j : Judgement) → is_ok j ≡ true → or_refusal n j None ≡ None
ok_none n (Ok u) h = refl
ok_none n (Err r) h = absurd cc

module _ {S : Type 0} (Stands : Standing S) (asked : Option ℕ) (p : Plan) (v : Version)
    (es : List Edge) (e : Edge) (judged : ℕ) (old : S)
    (passed : HasPassed Stands asked p v es judged old) where
  unasked_by : (a : Option ℕ) → asked ≡ a → IsUnasked a p (Some v) es
  unasked_by a is = subst (λ (o : Option ℕ). IsUnasked o p (Some v) es) is passed.unasked

  longer : length (es ++ e ∷ []) ≡ length es + 1
  longer = length-append es (e ∷ [])

  pub met_number : (w : ℕ) → asked ≡ Some w → w ≡ judged + 1
      → Meets Stands asked p v es e judged old true
  met_number w is at = (
    passed,
    subst (λ (o : Option ℕ). IsNext o p v es e) (sym is) (at ∙ ap (λ n. n + 1) passed.count),
  )

  pub met_refused : (now : S) → asked ≡ None → Stands p v es now
      → is_ok (verdict (kept (bench p v) es) e) ≡ false
      → Meets Stands asked p v es e judged now true
  met_refused now is stands refused = (
    record { stands = stands; count = passed.count; unasked = passed.unasked },
    subst (λ (o : Option ℕ). IsNext o p v es e) (sym is) (unasked_by None is, refused),
  )

  module _ (now : S) (stands : Stands p v (es ++ e ∷ []) now) where
    passed_so : IsUnasked asked p (Some v) (es ++ e ∷ [])
        → HasPassed Stands asked p v (es ++ e ∷ []) (judged + 1) now
    passed_so unasked = record {
      stands = stands;
      count = ap (λ n. n + 1) passed.count ∙ sym longer;
      unasked = unasked;
    }

    pub passed_number : (w : ℕ) → asked ≡ Some w → w ≢ judged + 1
        → HasPassed Stands asked p v (es ++ e ∷ []) (judged + 1) now
    passed_number w is other =
        passed_so (subst (λ (o : Option ℕ). IsUnasked o p (Some v) (es ++ e ∷ [])) (sym is)
        (λ some. let less = unasked_by (Some w) is some in let count = passed.count in
        let more = longer in omega (arith, count, less, more, other)))

    pub passed_accepted : asked ≡ None → is_ok (verdict (kept (bench p v) es) e) ≡ true
        → HasPassed Stands asked p v (es ++ e ∷ []) (judged + 1) now
    passed_accepted is accepted =
        passed_so (subst (λ (o : Option ℕ). IsUnasked o p (Some v) (es ++ e ∷ [])) (sym is)
        (refusal_behind 1 (bench p v) es (e ∷ []) (unasked_by None is)
        ∙ ok_none (1 + length es) (verdict (kept (bench p v) es) e) accepted))

-- ---- in the loop over edges

pub next_list : (before es : List Edge) (i : ℕ) (d : Edge) → i < length es
    → (before ++ take i es) ++ (get_or es i d ∷ []) ≡ before ++ take (i + 1) es
next_list before es i d h =
    append_assoc before (take i es) (get_or es i d ∷ []) ∙ ap (λ l. before ++ l)
    (sym (take_more es i d h))

pub split_at : (es : List Edge) (i : ℕ) (d : Edge) → i < length es
    → es ≡ take i es ++ (get_or es i d ∷ drop (i + 1) es)
split_at es i d h = sym (take-append-drop i es) ∙ ap (λ l. take i es ++ l) (drop_more es i d h)

pub formed_at : (es : List Edge) (i : ℕ) (d : Edge) → i < length es → AreWellFormed es
    → IsTrue (is_well_formed (get_or es i d))
formed_at es i d h formed =
    let e : Edge = get_or es i d in
    (and_parts (is_well_formed e) (list_all is_well_formed (drop (i + 1) es))
    (formed_both (take i es) (e ∷ drop (i + 1) es) (subst AreWellFormed (split_at es i d h) formed)).1).0

module _ {S : Type 0} (Stands : Standing S) (p : Plan) (v : Version) (before es : List Edge) (i : ℕ)
    (d : Edge) (h : i < length es) where
  pub comes_here : (asked : Option ℕ) (judged : ℕ) (at : S)
      → Meets Stands asked p v (before ++ take i es) (get_or es i d) judged at true
      → ComesTo Stands asked p v before es judged at (get_or es i d)
  comes_here asked judged at met = record {
    front = take i es;
    rest = drop (i + 1) es;
    split = split_at es i d h;
    passed = met.0;
    next = met.1;
  }

  -- the same, of what a call says of the edge that is asked for by it
  pub comes_by : (mine asked : Option ℕ) → mine ≡ asked → (was judged : ℕ) (old at : S) (t : Bool)
      → t ≡ true → HasPassed Stands asked p v (before ++ take i es) was old
      → (HasPassed Stands mine p v (before ++ take i es) was old
      → Meets Stands mine p v (before ++ take i es) (get_or es i d) judged at t)
      → ComesTo Stands asked p v before es judged at (get_or es i d)
  comes_by mine asked same was judged old at t is passed meets =
      let here : (a : Option ℕ) → Type 0 =
      λ a. HasPassed Stands a p v (before ++ take i es) was old in
      comes_here asked judged at
      (subst (λ (a : Option ℕ). Meets Stands a p v (before ++ take i es) (get_or es i d) judged at true)
      same
      (subst (λ (b : Bool). Meets Stands mine p v (before ++ take i es) (get_or es i d) judged at b) is
      (meets (subst here (sym same) passed))))

  pub passed_next : (asked : Option ℕ) (judged : ℕ) (at : S)
      → Meets Stands asked p v (before ++ take i es) (get_or es i d) judged at false
      → HasPassed Stands asked p v (before ++ take (i + 1) es) judged at
  passed_next asked judged at met =
      subst (λ (l : List Edge). HasPassed Stands asked p v l judged at) (next_list before es i d h) met

-- ---- what a search among the edges of a piece gave

pub come_of : {S : Type 0} (Stands : Standing S) (p : Plan) (v : Version) (before es : List Edge)
    (mine asked : Option ℕ) → mine ≡ asked → (judged : ℕ) (at : S) (e : Edge) (found : Option Edge)
    → found ≡ Some e → Seeks Stands mine p v before es judged at found
    → ComesTo Stands asked p v before es judged at e
come_of Stands p v before es mine asked same judged at e found is sought =
    subst (λ (a : Option ℕ). ComesTo Stands a p v before es judged at e) same
    (subst (λ (f : Option Edge). Seeks Stands mine p v before es judged at f) is sought)

pub all_passed : {S : Type 0} (Stands : Standing S) (p : Plan) (v : Version) (before es : List Edge)
    (mine asked : Option ℕ) → mine ≡ asked → (judged : ℕ) (at : S) (found : Option Edge)
    → found ≡ None → Seeks Stands mine p v before es judged at found
    → HasPassed Stands asked p v (before ++ es) judged at
all_passed Stands p v before es mine asked same judged at found is sought =
    subst (λ (a : Option ℕ). HasPassed Stands a p v (before ++ es) judged at) same
    (subst (λ (f : Option Edge). Seeks Stands mine p v before es judged at f) is sought)

-- ---- the edge in its trace

pub slice_at : (front rest : List Edge) (e : Edge)
    → slice_get (front ++ (e ∷ rest)) (length front) ≡ Some e
slice_at [] rest e = refl
slice_at (d ∷ front) rest e = slice_at front rest e

asked_in : (asked : Option ℕ) (p : Plan) (v : Version) (all front rest : List Edge) (e : Edge)
    → all ≡ front ++ (e ∷ rest) → IsNext asked p v front e
    → IsAsked asked (bench p v) all (length front + 1)
asked_in (Some w) p v all front rest e split next = sym next
asked_in None p v all front rest e split next =
    let r = refused_by (verdict (kept (bench p v) front) e) next.1 in
    (r.0, ap (first_refusal 1 (bench p v)) split ∙ first_behind (bench p v) front rest e r.0 next.0 r.1)

keeps_by : (old new : Option (List ℕ)) → new ≡ old → Keeps old new
keeps_by old new same = subst (Keeps old) (sym same) (Keeps-refl old)

-- ---- by the last piece

module _ {S A : Type 0} (Stands : Standing S) (Writes : Writing A) (Fails : Fault → Type 0)
    (asked : Option ℕ) (p : Plan) (v : Version) (before es : List Edge) (more : Result Bool Fault)
    (old new : Option (List ℕ)) where
  of_asked : (judged : ℕ) (at : S) (e : Edge) (P : Version → List Edge → Edge → Type 0)
      → (come : ComesTo Stands asked p v before es judged at e) → P v (before ++ come.front) e
      → (trace : List ℕ) (from to : Option (List ℕ)) → Came v trace from to (before ++ es) more
      → OfAsked asked p (read_of trace) P
  of_asked judged at e P come holds trace from to came =
      let begins : Begins (read_of trace) v (before ++ es) =
      came_begins v trace from to (before ++ es) more came in
      let front : List Edge = before ++ come.front in
      let rest : List Edge = come.rest ++ begins.others in
      let whole : (read_of trace).edges ≡ front ++ (e ∷ rest) =
      begins.edges ∙ ap (λ l. (before ++ l) ++ begins.others) come.split
      ∙ ap (λ l. l ++ begins.others) (sym (append_assoc before come.front (e ∷ come.rest)))
      ∙ append_assoc front (e ∷ come.rest) begins.others in
      let taken : take (length front) (read_of trace).edges ≡ front =
      ap (take (length front)) whole ∙ take-append_seam front (e ∷ rest) in record {
        version = v;
        named = begins.version;
        n = length front + 1;
        e = e;
        at = record {
          place = length front;
          number = refl;
          is = ap (λ l. slice_get l (length front)) whole ∙ slice_at front rest e;
        };
        asked = asked_in asked p v (read_of trace).edges front rest e whole come.next;
        holds = subst (λ l. P v l e) (sym taken) holds;
      }

  pub written : (judged : ℕ) (at : S) (e : Edge) (a : A)
      → ComesTo Stands asked p v before es judged at e
      → ((ds : List Edge) → Stands p v ds at → judged + 1 ≡ length ds + 1
      → Writes v ds e old new (Ok a))
      → LeavesNow (SeeksEdge Writes Fails asked p) v (before ++ es) more old new (Ok (At a))
  written judged at e a come wrote =
      of_asked judged at e (λ v ds e. Writes v ds e old new (Ok a)) come
      (wrote (before ++ come.front) come.passed.stands (ap (λ n. n + 1) come.passed.count))

  pub written_cut : (judged : ℕ) (at : S) (e : Edge) (f : Fault)
      → ComesTo Stands asked p v before es judged at e
      → ((ds : List Edge) → Stands p v ds at → judged + 1 ≡ length ds + 1
      → Writes v ds e old new (Err f))
      → LeavesNow (SeeksEdge Writes Fails asked p) v (before ++ es) more old new (Err f)
  written_cut judged at e f come wrote = λ trace from to came.
      inr (inr (of_asked judged at e (λ v ds e. Writes v ds e old new (Err f)) come
      (wrote (before ++ come.front) come.passed.stands (ap (λ n. n + 1) come.passed.count))
      trace from to came))

  pub gave_up : (f : Fault) → Fails f → new ≡ old
      → LeavesNow (SeeksEdge Writes Fails asked p) v (before ++ es) more old new (Err f)
  gave_up f fails same = λ trace from to came. inr (inl (fails, keeps_by old new same))

  module _ (judged : ℕ) (at : S) (passed : HasPassed Stands asked p v (before ++ es) judged at)
      (same : new ≡ old) where
    pub stopped : (f : Fault) → more ≡ Err f
        → LeavesNow (SeeksEdge Writes Fails asked p) v (before ++ es) more old new (Err f)
    stopped f is = λ trace from to came.
        inl (
          waits_now (IsUnasked asked p) v trace (streams from to old new) (before ++ es) more came
              passed.unasked f is,
          keeps_by old new same,
        )

    module _ (trace : List ℕ) (from to : Option (List ℕ))
        (end : Came v trace from to (before ++ es) (Ok false)) where
      count_so : judged ≡ length (read_of trace).edges
      count_so = passed.count ∙ ap length (sym end.1)

      end_as : (a : Option ℕ) → asked ≡ a
          → SeeksEdge Writes Fails a p trace (streams from to old new) (Ok (ended a judged))
      end_as None is = (
        record {
          none = refl;
          whole = end.2;
          unrefused = subst (λ (w : Option Version). refusal_of p w (read_of trace).edges ≡ None)
              (sym end.0.version)
              (ap (first_refusal 1 (bench p v)) end.1
              ∙ subst (λ (o : Option ℕ). IsUnasked o p (Some v) (before ++ es)) is passed.unasked);
          count = count_so;
          read_out = end.3;
        },
        keeps_by old new same,
      )
      end_as (Some w) is = (
        record {
          wanted = w;
          number = refl;
          few = λ some. subst (λ n. n < w) (sym passed.count)
              (subst (λ (o : Option ℕ). IsUnasked o p (Some v) (before ++ es)) is passed.unasked some);
          whole = end.2;
          count = count_so;
          read_out = end.3;
        },
        keeps_by old new same,
      )

    pub ended_so : more ≡ Ok false
        → LeavesNow (SeeksEdge Writes Fails asked p) v (before ++ es) more old new
        (Ok (ended asked judged))
    ended_so is = λ trace from to came.
        end_as trace from to (subst (Came v trace from to (before ++ es)) is came) asked refl

-- ---- before the first edge

unasked_first : (asked : Option ℕ) (p : Plan) (v : Version) → IsUnasked asked p (Some v) []
unasked_first (Some n) p v = λ some. some
unasked_first None p v = refl

pub passed_none : {S : Type 0} (Stands : Standing S) (asked : Option ℕ) (p : Plan) (v : Version)
    (at : S) → Stands p v [] at → HasPassed Stands asked p v [] 0 at
passed_none Stands asked p v at stands =
    record { stands = stands; count = refl; unasked = unasked_first asked p v }
