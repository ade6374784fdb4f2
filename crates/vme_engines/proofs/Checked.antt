-- A check, read by read.
use Rattle.std.proofs.Common.{◌≡◌, ◌≢◌, inl, inr, ℕ, ◌+◌, ◌<◌, ◌≤◌, List, [], ◌∷◌, ◌++◌, length, Bool, true, false, get_or, drop, Option, Some, None, unwrap_or, Result, Ok, Err, refl, sym, ◌∙◌, ap, append_assoc, append-nil, subst, arith, reverse}
use Rattle.std.proofs.Math.ListN.{length-append}
use Rattle.std.proofs.Math.Seq.{drop-length}
use mathlib.Core.List.{reverse-cons}
use Rattle.std.proofs.lemmas.List.{drop_more, length-reverse}
use Rattle.std.specs.Io.KnownBytes.{Consumes}
use Rattle.vme_model.specs.declared.signals.Version.{Version}
use Rattle.vme_model.specs.declared.signals.Edge.{Edge}
use Rattle.vme_model.specs.declared.deliveries.Delivery.{Delivery}
use Rattle.vme_model.specs.declared.refusals.Refused.{Refused}
use Rattle.vme_model.specs.Plan.{Plan}
use Rattle.vme_model.specs.Verdict.{State, Judgement, verdict, after, made, kept, IsLegal}
use Rattle.vme_model.specs.Safe.{IsSafe}
use Rattle.vme_model.specs.Deliveries.{answer, with_delivery}
use Rattle.vme_model.specs.Text.{Reading, read_of}
use Rattle.vme_model.specs.Report.{trace_limit}
use Rattle.vme_trace.specs.declared.Fault.{Fault}
use Rattle.vme_trace.specs.declared.Fault.TheVariants.{Header, Line, TooLong, CutOff, Read, Memory, Failed, Write}
use Rattle.vme_trace.specs.Reading as trace
use Rattle.vme_engines.specs.declared.checks.Finding.{Finding}
use Rattle.vme_engines.specs.declared.checks.Finding.TheVariants.{Legal, Illegal}
use Rattle.vme_engines.specs.Streams.{streams, IsInput}
use Rattle.vme_engines.specs.Outcomes.{bench, HasFault, CanGoOn}
use Rattle.vme_engines.specs.Checking.{or_refusal, first_refusal, refusal_of, IsUnrefused, IsLegalTrace, FindsNothing}
use Rattle.vme_engines.specs.Steps.{Begins, Faults, Comes, Opens, ChecksPiece, FindsInput}
use Rattle.vme_engines.proofs.Writing.{kept_append}
use Rattle.vme_engines.proofs.Replaying.{IsReading, reading_of, begins_more, whole_input, read_out, no_such}
use Rattle.vme_engines.proofs.Going.{can_go_on}

-- ---- the first refusal

or_none : (n : ℕ) (j : Judgement) (later : Option (ℕ × Refused)) → or_refusal n j later ≡ None → (j ≡ Ok tt) × (later ≡ None)
or_none n (Ok tt) later h = (refl, h)
or_none n (Err r) later h = absurd cc

-- behind edges of which none is refused, the first refusal is that of the others
pub refusal_behind : (n : ℕ) (b : State) (es fs : List Edge) → first_refusal n b es ≡ None → first_refusal n b (es ++ fs) ≡ first_refusal (n + length es) (kept b es) fs
refusal_behind n b [] fs h = ap (λ m. first_refusal m b fs) (omega arith)
refusal_behind n b (e ∷ es) fs h =
    let both = or_none n (verdict b e) (first_refusal (n + 1) (after b e) es) h in
    let here : first_refusal n b (e ∷ (es ++ fs)) ≡ first_refusal (n + 1) (after b e) (es ++ fs) = ap (λ j. or_refusal n j (first_refusal (n + 1) (after b e) (es ++ fs))) both.0 in
    here ∙ refusal_behind (n + 1) (after b e) es fs both.1 ∙ ap (λ m. first_refusal m (kept (after b e) es) fs) (omega arith)

some_first : (n : ℕ) (j : Judgement) (later more : Option (ℕ × Refused)) (x : ℕ × Refused) → (later ≡ Some x → more ≡ Some x) → or_refusal n j later ≡ Some x → or_refusal n j more ≡ Some x
some_first n (Ok u) later more x go h = go h
some_first n (Err r) later more x go h = h

-- a refusal stays the first, whatever follows
pub refusal_stays : (n : ℕ) (b : State) (es fs : List Edge) (x : ℕ × Refused) → first_refusal n b es ≡ Some x → first_refusal n b (es ++ fs) ≡ Some x
refusal_stays n b [] fs x h = absurd cc
refusal_stays n b (e ∷ es) fs x h = some_first n (verdict b e) (first_refusal (n + 1) (after b e) es) (first_refusal (n + 1) (after b e) (es ++ fs)) x (refusal_stays (n + 1) (after b e) es fs x) h

after_ok : (b : State) (e : Edge) (j : Judgement) → verdict b e ≡ j → j ≡ Ok tt → after b e ≡ made b e
after_ok b e j is h = rw (is ∙ h) refl

-- edges of which none is refused are all kept
pub all_kept : (n : ℕ) (b : State) (es : List Edge) → first_refusal n b es ≡ None → kept b es ≡ record b { history = reverse es ++ b.history }
all_kept n b [] h = refl
all_kept n b (e ∷ es) h =
    let both = or_none n (verdict b e) (first_refusal (n + 1) (after b e) es) h in
    let one : after b e ≡ made b e = after_ok b e (verdict b e) refl both.0 in
    let rest : first_refusal (n + 1) (made b e) es ≡ None = subst (λ (s : State). first_refusal (n + 1) s es ≡ None) one both.1 in
    ap (λ s. kept s es) one ∙ all_kept (n + 1) (made b e) es rest
    ∙ ap (λ l. record b { history = l }) (sym (ap (λ l. l ++ b.history) (reverse-cons e es) ∙ append_assoc (reverse es) (e ∷ []) b.history))

-- ---- edge by edge

with_err : (j : Judgement) (d : Option Delivery) (r : Refused) → with_delivery j d ≡ Err r → j ≡ Err r
with_err (Ok u) d r h = absurd cc
with_err (Err s) d r h = cc

with_ok : (j : Judgement) (d x : Option Delivery) → with_delivery j d ≡ Ok x → j ≡ Ok tt
with_ok (Ok tt) d x h = refl
with_ok (Err s) d x h = absurd cc

-- In the loop over the edges: none of those before the rest is refused.
pub record HasPassed (first : State) (n : ℕ) (es : List Edge) (now : State) (m : ℕ) (rest : List Edge) : Type 0 where
  pub refusals : first_refusal n first es ≡ first_refusal m now rest
  pub state : kept first es ≡ kept now rest

pub none_passed : (b : State) (n : ℕ) (es : List Edge) → HasPassed b n es b n es
none_passed b n es = record { refusals = refl; state = refl }

module _ (first now : State) (n m i : ℕ) (es : List Edge) (d : Edge) (h : i < length es) (run : HasPassed first n es now m (drop i es)) (found : Result (Option Delivery) Refused)
    (is : found ≡ answer now (get_or es i d)) where
  here : first_refusal n first es ≡ or_refusal m (verdict now (get_or es i d)) (first_refusal (m + 1) (after now (get_or es i d)) (drop (i + 1) es))
  here = run.refusals ∙ ap (first_refusal m now) (drop_more es i d h)

  pub passed_refused : (r : Refused) → found ≡ Err r → Some (m, r) ≡ first_refusal n first es
  passed_refused r refused =
      let j : verdict now (get_or es i d) ≡ Err r = with_err (verdict now (get_or es i d)) _ r (sym is ∙ refused) in
      sym (here ∙ ap (λ j. or_refusal m j (first_refusal (m + 1) (after now (get_or es i d)) (drop (i + 1) es))) j)

  pub passed_more : (x : Option Delivery) → found ≡ Ok x → (next : State) → next ≡ after now (get_or es i d) → HasPassed first n es next (m + 1) (drop (i + 1) es)
  passed_more x accepted next stepped =
      let j : verdict now (get_or es i d) ≡ Ok tt = with_ok (verdict now (get_or es i d)) _ x (sym is ∙ accepted) in record {
        refusals = here ∙ ap (λ j. or_refusal m j (first_refusal (m + 1) (after now (get_or es i d)) (drop (i + 1) es))) j ∙ ap (λ s. first_refusal (m + 1) s (drop (i + 1) es)) (sym stepped);
        state = run.state ∙ ap (kept now) (drop_more es i d h) ∙ ap (λ s. kept s (drop (i + 1) es)) (sym stepped);
      }

pub passed_all : (first now : State) (n m : ℕ) (es : List Edge) → HasPassed first n es now m (drop (length es) es) → (None ≡ first_refusal n first es) × (now ≡ kept first es)
passed_all first now n m es run =
    let none : drop (length es) es ≡ [] = drop-length es in
    (sym (run.refusals ∙ ap (first_refusal m now) none), sym (run.state ∙ ap (kept now) none))

-- ---- one piece of a check

refusal_known : (p : Plan) (v : Version) (es : List Edge) (w : Option Version) → w ≡ Some v → refusal_of p w es ≡ first_refusal 1 (bench p v) es
refusal_known p v es w e = rw e refl

refusal_unknown : (p : Plan) (es : List Edge) (w : Option Version) → w ≡ None → refusal_of p w es ≡ None
refusal_unknown p es w e = rw e refl

-- no edge before a fault of a trace is refused
module _ (p : Plan) (all : List ℕ) (from to : Option (List ℕ)) (es : List Edge) (version : Option Version) (none : refusal_of p version es ≡ None) where
  at_fault : (f : Fault) → f ≢ Memory → trace.HasFault (read_of all) version es f → HasFault all f × IsUnrefused p (read_of all)
  at_fault f ne h = (h.fault_is ne, ap (λ w. refusal_of p w (read_of all).edges) h.version_is ∙ ap (refusal_of p version) (h.edges_are ne) ∙ none)

  pub stops : (f : Fault) → trace.HasFault (read_of all) version es f → FindsNothing p all (streams from to None None) f
  stops Header h = at_fault Header (λ e. cc) h
  stops (Line n) h = at_fault (Line n) (λ e. cc) h
  stops (TooLong n) h = at_fault (TooLong n) (λ e. cc) h
  stops CutOff h = at_fault CutOff (λ e. cc) h
  stops Read h = absurd (no_such (read_of all).fault Read (h.fault_is (λ e. cc)) (inl refl))
  stops Memory h = (es, h.front.0, h.front.1, ap (λ w. refusal_of p w es) h.version_is ∙ none)
  stops Failed h = absurd (no_such (read_of all).fault Failed (h.fault_is (λ e. cc)) (inr (inr (inl refl))))
  stops Write h = absurd (no_such (read_of all).fault Write (h.fault_is (λ e. cc)) (inr (inr (inr refl))))

  -- a read failed behind such edges
  pub read_failed : (bytes : List ℕ) → Consumes from to bytes → CanGoOn bytes → version ≡ (read_of bytes).version → (read_of bytes).edges ≡ es → FindsNothing p all (streams from to None None) Read
  read_failed bytes taken on known edges = (bytes, taken, on, ap (λ w. refusal_of p w (read_of bytes).edges) (sym known) ∙ ap (refusal_of p version) edges ∙ none)

  pub faulted : (f : Fault) (later : List ℕ) (reader : trace.State) → reader.version ≡ version → Consumes from to later → all ≡ later ++ unwrap_or to [] → Faults to later reader es f
      → FindsNothing p all (streams from to None None) f
  faulted f later reader known taken is which = elim which [
    | inl failed ↦ subst (FindsNothing p all (streams from to None None)) (sym failed.0) (read_failed later taken failed.1.goes_on (sym known ∙ failed.1.version) failed.1.edges)
    | inr stopped ↦ stops f (subst (λ (w : Option Version). trace.HasFault (read_of all) w es f) known (subst (λ (l : List ℕ). trace.HasFault (read_of l) reader.version es f) (sym is) stopped))
  ]

-- A check under way: no edge so far is refused.
pub record IsChecking (p : Plan) (v : Version) (from at : Option (List ℕ)) (b : State) (reader : trace.State) (judged left : ℕ) : Type 0 where
  pub es : List Edge
  pub reading : IsReading [] [] from at reader left es
  pub known : reader.version ≡ Some v
  pub unrefused : first_refusal 1 (bench p v) es ≡ None
  pub state : b ≡ kept (bench p v) es
  pub count : judged ≡ length es

-- the trace as far as it is known begins with the edges that came
begins_of : (from to : Option (List ℕ)) (v : Version) (left : ℕ) (reader : trace.State) (es : List Edge) (answer : Result Bool Fault) → Comes from to [] [] left reader es answer → reader.version ≡ Some v
    → (all : List ℕ) × IsInput from all × Begins (read_of all) v es
begins_of from to v left reader es (Ok true) h known = (h.0 ++ unwrap_or to [], whole_input from to [] h.0 h.1, begins_more v reader h.0 es h.3 known (unwrap_or to []))
begins_of from to v left reader es (Ok false) h known =
    (h.0, read_out from to h.0 h.1 h.2, record { version = sym h.3 ∙ known; others = []; edges = h.4 ∙ sym (append-nil es) })
begins_of from to v left reader es (Err f) h known = (
  h.0 ++ unwrap_or to [],
  whole_input from to [] h.0 h.1,
  elim h.2 [
    | inl failed ↦ failed.1.begins v known
    | inr stopped ↦ record { version = stopped.version_is ∙ known; others = stopped.front.0; edges = stopped.front.1 }
  ],
)

module _ (p : Plan) (v : Version) (from to : Option (List ℕ)) (b next : State) (reader : trace.State) (judged now left : ℕ) (es fs : List Edge)
    (unrefused : first_refusal 1 (bench p v) es ≡ None) (state : b ≡ kept (bench p v) es) (count : judged ≡ length es) where
  -- the first refusal in this piece is that of all edges so far
  refusal_is : first_refusal 1 (bench p v) (es ++ fs) ≡ first_refusal (judged + 1) b fs
  refusal_is =
      refusal_behind 1 (bench p v) es fs unrefused ∙ ap (λ s. first_refusal (1 + length es) s fs) (sym state) ∙ ap (λ n. first_refusal n b fs) (omega arith)

  kept_is : kept (bench p v) (es ++ fs) ≡ kept b fs
  kept_is = kept_append (bench p v) es fs ∙ ap (λ s. kept s fs) (sym state)

  count_is : judged + length fs ≡ length (es ++ fs)
  count_is = let is = length-append es fs in omega (arith, is)

  -- the trace goes on
  pub goes_on : (answer : Result Bool Fault) → Comes from to [] [] left reader (es ++ fs) answer → reader.version ≡ Some v
      → ChecksPiece b judged fs answer next now (Ok None) → IsChecking p v from to next reader now left
  goes_on answer came known h =
      let going : Comes from to [] [] left reader (es ++ fs) (Ok true) = subst (λ (a : Result Bool Fault). Comes from to [] [] left reader (es ++ fs) a) h.0 came in
      record {
        es = es ++ fs;
        reading = reading_of [] [] from to reader left (es ++ fs) going;
        known = known;
        unrefused = refusal_is ∙ h.1;
        state = h.2 ∙ sym kept_is;
        count = h.3 ∙ count_is;
      }

  -- all edges are legal
  legal_trace : (r : Reading) → r.version ≡ Some v → r.edges ≡ es ++ fs → r.fault ≡ None → first_refusal (judged + 1) b fs ≡ None → next ≡ kept b fs
      → IsLegal next.version next.plan next.history → IsSafe next.plan next.history → length next.history ≤ next.max → IsLegalTrace p r
  legal_trace r named edges whole none stepped legal safe fits =
      let all : first_refusal 1 (bench p v) (es ++ fs) ≡ None = refusal_is ∙ none in
      let is : next ≡ record (bench p v) { history = reverse r.edges } =
      stepped ∙ sym kept_is ∙ all_kept 1 (bench p v) (es ++ fs) all ∙ ap (λ l. record (bench p v) { history = l }) (append-nil (reverse (es ++ fs)))
      ∙ ap (λ l. record (bench p v) { history = reverse l }) (sym edges) in
      let few : length (reverse r.edges) ≤ trace_limit = subst (λ (s : State). length s.history ≤ s.max) is fits in
      record {
        version = v;
        named = named;
        whole = whole;
        unrefused = refusal_known p v r.edges r.version named ∙ ap (first_refusal 1 (bench p v)) edges ∙ all;
        legal = subst (λ (s : State). IsLegal s.version s.plan s.history) is legal;
        safe = subst (λ (s : State). IsSafe s.plan s.history) is safe;
        fits = rw (length-reverse r.edges) at few;
      }

  -- something is found
  pub found : (answer : Result Bool Fault) (finding : Finding) → Comes from to [] [] left reader (es ++ fs) answer → reader.version ≡ Some v
      → ChecksPiece b judged fs answer next now (Ok (Some finding)) → FindsInput p from to (Ok finding)
  found answer (Illegal n refused) came known h =
      let all = begins_of from to v left reader (es ++ fs) answer came known in (
        all.0,
        all.1,
        refusal_known p v (read_of all.0).edges (read_of all.0).version all.2.version ∙ ap (first_refusal 1 (bench p v)) all.2.edges
            ∙ refusal_stays 1 (bench p v) (es ++ fs) all.2.others (n, refused) (refusal_is ∙ h),
      )
  found answer (Legal edges) came known h =
      let end : Comes from to [] [] left reader (es ++ fs) (Ok false) = subst (λ (a : Result Bool Fault). Comes from to [] [] left reader (es ++ fs) a) h.0 came in
      let named : (read_of end.0).version ≡ Some v = sym end.3 ∙ known in (
        end.0,
        read_out from to end.0 end.1 end.2,
        (
          legal_trace (read_of end.0) named end.4 end.5 h.1 h.2 h.4 h.5 h.6,
          h.3 ∙ count_is ∙ ap length (sym end.4),
          end.2,
        ),
      )

  -- the trace cannot be read on
  pub stopped : (answer : Result Bool Fault) (f : Fault) → Comes from to [] [] left reader (es ++ fs) answer → reader.version ≡ Some v
      → ChecksPiece b judged fs answer next now (Err f) → FindsInput p from to (Err f)
  stopped answer f came known h =
      let here : Comes from to [] [] left reader (es ++ fs) (Err f) = subst (λ (a : Result Bool Fault). Comes from to [] [] left reader (es ++ fs) a) h.0 came in
      let none : refusal_of p (Some v) (es ++ fs) ≡ None = refusal_is ∙ h.1 in (
        here.0 ++ unwrap_or to [],
        whole_input from to [] here.0 here.1,
        faulted p (here.0 ++ unwrap_or to []) from to (es ++ fs) (Some v) none f here.0 reader known here.1 refl here.2,
      )

-- what a piece did, by what is known of its edges and its answer
pub checks_is : (b : State) (judged : ℕ) (es : List Edge) (more : Result Bool Fault) (next : State) (now : ℕ) (o : Option Finding) (fs : List Edge) (q : Option Finding)
    → ChecksPiece b judged es more next now (Ok o) → es ≡ fs → o ≡ q → ChecksPiece b judged fs more next now (Ok q)
checks_is b judged es more next now o fs q h same is =
    subst (λ (a : Option Finding). ChecksPiece b judged fs more next now (Ok a)) is (subst (λ (gs : List Edge). ChecksPiece b judged gs more next now (Ok o)) same h)

-- no read is left
pub too_many : (p : Plan) (v : Version) (from to : Option (List ℕ)) (b : State) (reader : trace.State) (judged left : ℕ) → IsChecking p v from to b reader judged left → FindsInput p from to (Err Read)
too_many p v from to b reader judged left r = (
  r.reading.later ++ unwrap_or to [],
  whole_input from to [] r.reading.later r.reading.taken,
  read_failed p (r.reading.later ++ unwrap_or to []) from to r.es (Some v) r.unrefused r.reading.later r.reading.taken (can_go_on reader r.reading.later r.es r.reading.read) (sym r.known ∙ sym r.reading.read.version) r.reading.read.edges,
)

-- ---- without a header line

module _ (p : Plan) (from to : Option (List ℕ)) (reader : trace.State) (es : List Edge) (left : ℕ) (unknown : reader.version ≡ None) where
  pub unopened : (f : Fault) → Opens from to reader es (Err f, left) → FindsInput p from to (Err f)
  unopened f h = (
    h.0.0 ++ unwrap_or to [],
    whole_input from to [] h.0.0 h.0.1,
    faulted p (h.0.0 ++ unwrap_or to []) from to es None refl f h.0.0 reader unknown h.0.1 refl h.0.2,
  )

-- ---- without a writer

pub nothing_found : (p : Plan) (all : List ℕ) (from to old new : Option (List ℕ)) (f : Fault) → FindsNothing p all (streams from to None None) f → FindsNothing p all (streams from to old new) f
nothing_found p all from to old new Header h = h
nothing_found p all from to old new (Line n) h = h
nothing_found p all from to old new (TooLong n) h = h
nothing_found p all from to old new CutOff h = h
nothing_found p all from to old new Read h = h
nothing_found p all from to old new Memory h = h
nothing_found p all from to old new Failed h = h
nothing_found p all from to old new Write h = h
