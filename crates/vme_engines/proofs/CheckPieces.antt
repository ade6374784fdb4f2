-- A check, read by read.
use Rattle.std.proofs.Common.{◌≡◌, ℕ, ◌+◌, ◌≤◌, List, [], ◌∷◌, ◌++◌, length, Bool, true, false, Option, Some, None, Result, Ok, Err, refl, sym, ◌∙◌, ap, append_assoc, append-nil, subst, arith, reverse}
use Rattle.std.proofs.Math.ListN.{length-append}
use mathlib.Core.List.{reverse-cons}
use Rattle.std.proofs.lemmas.List.{length-reverse}
use Rattle.std.specs.Prelude.{◌-◌, if◌then◌else◌, is_ok}
use Rattle.std.specs.Io.KnownBytes.{Keeps}
use Rattle.vme_model.specs.declared.signals.Version.{Version}
use Rattle.vme_model.specs.declared.signals.Edge.{Edge}
use Rattle.vme_model.specs.declared.deliveries.Delivery.{Delivery}
use Rattle.vme_model.specs.declared.refusals.Refused.{Refused}
use Rattle.vme_model.specs.Plan.{Plan}
use Rattle.vme_model.specs.Verdict.{State, Judgement, verdict, after, made, kept, IsLegal}
use Rattle.vme_model.specs.Safe.{IsSafe}
use Rattle.vme_bus.specs.Answers.{answers}
use Rattle.vme_model.specs.Text.{Reading, read_of}
use Rattle.vme_model.specs.Report.{trace_limit}
use Rattle.vme_trace.specs.declared.Fault.{Fault}
use Rattle.vme_trace.specs.declared.Fault.TheVariants.{Header, Line, TooLong, CutOff, Read, Memory, Failed, Write}
use Rattle.vme_engines.specs.declared.checks.Finding.{Finding}
use Rattle.vme_engines.specs.declared.checks.Finding.TheVariants.{Legal, Illegal}
use Rattle.vme_engines.specs.Streams.{Streams, streams, WroteNothing}
use Rattle.vme_engines.specs.Outcomes.{bench}
use Rattle.vme_engines.specs.Checking.{or_refusal, first_refusal, refusal_of, IsLegalTrace, FindsNothing}
use Rattle.vme_engines.specs.Steps.{Begins, ChecksPiece, Finds, FindsInput}
use Rattle.vme_engines.specs.Recorded.{first_refused_of}
use Rattle.vme_engines.proofs.WrittenLines.{kept_append}
use Rattle.vme_engines.proofs.RecordedLines.{refusals_are}
use Rattle.vme_engines.specs.Pieces.{Stopped, Came, Answers, answered}
use Rattle.vme_engines.specs.Begun.{IsUnbegun}
use Rattle.vme_engines.specs.Waiting.{StopsWaiting}
use Rattle.vme_engines.proofs.ReadOn.{came_begins}
use Rattle.vme_engines.proofs.Waits.{stops_waiting, waits_unbegun}

-- ---- the first refusal

or_none : (n : ℕ) (j : Judgement) (later : Option (ℕ × Refused)) → or_refusal n j later ≡ None → (j ≡ Ok tt) × (later ≡ None)
or_none n (Ok tt) later h = (refl, h)
or_none n (Err r) later h = absurd cc

-- behind edges of which none is refused, the first refusal is that of the others
pub refusal_behind : (n : ℕ) (b : State) (es fs : List Edge) → first_refusal n b es ≡ None → first_refusal n b (es ++ fs) ≡ first_refusal (n + length es) (kept b es) fs
refusal_behind n b [] fs h = ap (λ m. first_refusal m b fs) (omega arith)
refusal_behind n b (e ∷ es) fs h =
    let both = or_none n (verdict b e) (first_refusal (n + 1) (after b e) es) h in
    let here : first_refusal n b (e ∷ (es ++ fs)) ≡ first_refusal (n + 1) (after b e) (es ++ fs) = ap (λ j. or_refusal n j (first_refusal (n + 1) (after b e) (es ++ fs))) both.0 in
    here ∙ refusal_behind (n + 1) (after b e) es fs both.1 ∙ ap (λ m. first_refusal m (kept (after b e) es) fs) (omega arith)

some_first : (n : ℕ) (j : Judgement) (later more : Option (ℕ × Refused)) (x : ℕ × Refused) → (later ≡ Some x → more ≡ Some x) → or_refusal n j later ≡ Some x → or_refusal n j more ≡ Some x
some_first n (Ok u) later more x go h = go h
some_first n (Err r) later more x go h = h

-- a refusal stays the first, whatever follows
pub refusal_stays : (n : ℕ) (b : State) (es fs : List Edge) (x : ℕ × Refused) → first_refusal n b es ≡ Some x → first_refusal n b (es ++ fs) ≡ Some x
refusal_stays n b [] fs x h = absurd cc
refusal_stays n b (e ∷ es) fs x h = some_first n (verdict b e) (first_refusal (n + 1) (after b e) es) (first_refusal (n + 1) (after b e) (es ++ fs)) x (refusal_stays (n + 1) (after b e) es fs x) h

after_ok : (b : State) (e : Edge) (j : Judgement) → verdict b e ≡ j → j ≡ Ok tt → after b e ≡ made b e
after_ok b e j is h = rw (is ∙ h) refl

-- edges of which none is refused are all kept
pub all_kept : (n : ℕ) (b : State) (es : List Edge) → first_refusal n b es ≡ None → kept b es ≡ record b { history = reverse es ++ b.history }
all_kept n b [] h = refl
all_kept n b (e ∷ es) h =
    let both = or_none n (verdict b e) (first_refusal (n + 1) (after b e) es) h in
    let one : after b e ≡ made b e = after_ok b e (verdict b e) refl both.0 in
    let rest : first_refusal (n + 1) (made b e) es ≡ None = subst (λ (s : State). first_refusal (n + 1) s es ≡ None) one both.1 in
    ap (λ s. kept s es) one ∙ all_kept (n + 1) (made b e) es rest
    ∙ ap (λ l. record b { history = l }) (sym (ap (λ l. l ++ b.history) (reverse-cons e es) ∙ append_assoc (reverse es) (e ∷ []) b.history))

-- edges lengthen a trace by each of them at most
kept_most : (b : State) (es : List Edge) → length (kept b es).history ≤ length b.history + length es
kept_most b [] = omega arith
kept_most b (e ∷ es) = by_verdict (is_ok (verdict b e)) (kept_most (made b e) es) (kept_most b es)
  where
    by_verdict : (x : Bool) → length (kept (made b e) es).history ≤ length (made b e).history + length es → length (kept b es).history ≤ length b.history + length es
        → length (kept (if x then made b e else b) es).history ≤ length b.history + length (e ∷ es)
    by_verdict true more same = omega (arith, more)
    by_verdict false more same = omega (arith, same)

-- and where they lengthen it by each, none of them is refused
pub none_refused : (n : ℕ) (b : State) (es : List Edge) → length (kept b es).history - length b.history ≡ length es → first_refusal n b es ≡ None
none_refused n b [] grown = refl
none_refused n b (e ∷ es) grown = by_verdict (verdict b e) (λ g. none_refused (n + 1) (made b e) es g) (kept_most b es) grown
  where
    by_verdict : (j : Judgement) → (length (kept (made b e) es).history - length (made b e).history ≡ length es → first_refusal (n + 1) (made b e) es ≡ None)
        → length (kept b es).history ≤ length b.history + length es
        → length (kept (if is_ok j then made b e else b) es).history - length b.history ≡ length (e ∷ es)
        → or_refusal n j (first_refusal (n + 1) (if is_ok j then made b e else b) es) ≡ None
    by_verdict (Ok u) others most grown = others (omega (arith, grown))
    by_verdict (Err refused) others most grown = absurd (omega (arith, grown, most))

-- ---- chunk by chunk

-- In the loop over the edges: none of those before the rest is refused.
pub record HasPassed (first : State) (n : ℕ) (es : List Edge) (now : State) (m : ℕ) (rest : List Edge) : Type 0 where
  pub refusals : first_refusal n first es ≡ first_refusal m now rest
  pub state : kept first es ≡ kept now rest

module _ (first now : State) (n m : ℕ) (es rest chunk behind : List Edge) (split : rest ≡ chunk ++ behind) (run : HasPassed first n es now m rest)
    (found : Option (ℕ × Refused)) (xs : List (Result (Option Delivery) Refused)) (all : xs ≡ answers now chunk) (is : found ≡ first_refused_of m xs) where
  in_both : first_refusal n first es ≡ first_refusal m now (chunk ++ behind)
  in_both = run.refusals ∙ ap (first_refusal m now) split

  in_chunk : first_refusal m now chunk ≡ found
  in_chunk = refusals_are m now chunk ∙ ap (first_refused_of m) (sym all) ∙ sym is

  -- an edge of the next chunk is refused
  pub passed_refused : (x : ℕ × Refused) → found ≡ Some x → Some x ≡ first_refusal n first es
  passed_refused x refused = sym (in_both ∙ refusal_stays m now chunk behind x (in_chunk ∙ refused))

  -- none of them is refused
  pub passed_more : found ≡ None → (next : State) → next ≡ kept now chunk → (later : ℕ) → later ≡ m + length chunk → HasPassed first n es next later behind
  passed_more none next stepped later number = record {
    refusals = in_both ∙ refusal_behind m now chunk behind (in_chunk ∙ none) ∙ ap (λ s. first_refusal (m + length chunk) s behind) (sym stepped) ∙ ap (λ i. first_refusal i next behind) (sym number);
    state = run.state ∙ ap (kept now) split ∙ kept_append now chunk behind ∙ ap (λ s. kept s behind) (sym stepped);
  }

-- ---- pieces

-- two pieces, one behind the other
module _ (b mid_b next : State) (judged mid_n now : ℕ) (es fs : List Edge) (more : Result Bool Fault) (first : ChecksPiece b judged es (Ok true) mid_b mid_n (Ok None)) where
  count : judged + length (es ++ fs) ≡ mid_n + length fs
  count = let is = length-append es fs in let here : mid_n ≡ judged + length es = first.3 in omega (arith, is)

  state : kept b (es ++ fs) ≡ kept mid_b fs
  state = kept_append b es fs ∙ ap (λ s. kept s fs) (sym first.2)

  -- the first refusal in the second is that of both
  refusal_is : first_refusal (judged + 1) b (es ++ fs) ≡ first_refusal (mid_n + 1) mid_b fs
  refusal_is =
      let from_here : (judged + 1) + length es ≡ mid_n + 1 = let here : mid_n ≡ judged + length es = first.3 in omega arith in
      refusal_behind (judged + 1) b es fs first.1 ∙ ap (λ s. first_refusal ((judged + 1) + length es) s fs) (sym first.2) ∙ ap (λ n. first_refusal n mid_b fs) from_here

  pub checks_more : (answer : Result (Option Finding) Fault) → ChecksPiece mid_b mid_n fs more next now answer → ChecksPiece b judged (es ++ fs) more next now answer
  checks_more (Ok None) h = (h.0, refusal_is ∙ h.1, h.2 ∙ sym state, h.3 ∙ sym count)
  checks_more (Ok (Some (Illegal n refused))) h = refusal_is ∙ h
  checks_more (Ok (Some (Legal edges))) h = (h.0, refusal_is ∙ h.1, h.2 ∙ sym state, h.3 ∙ sym count, h.4, h.5, h.6)
  checks_more (Err f) h = (h.0, refusal_is ∙ h.1)

-- ---- a whole check

refusal_known : (p : Plan) (v : Version) (es : List Edge) (w : Option Version) → w ≡ Some v → refusal_of p w es ≡ first_refusal 1 (bench p v) es
refusal_known p v es w e = rw e refl

-- a check waits for a refusal
found_none : (p : Plan) (all : List ℕ) (s : Streams) (f : Fault) → StopsWaiting (λ w es. refusal_of p w es ≡ None) all s f → FindsNothing p all s f
found_none p all s Header h = h
found_none p all s (Line n) h = h
found_none p all s (TooLong n) h = h
found_none p all s CutOff h = h
found_none p all s Read h = h
found_none p all s Memory h = h
found_none p all s Failed h = h
found_none p all s Write h = h

-- what is found in a whole trace
module _ (p : Plan) (v : Version) (trace : List ℕ) (from to : Option (List ℕ)) (es : List Edge) (next : State) where
  -- all edges are legal
  legal_trace : (r : Reading) → r.version ≡ Some v → r.edges ≡ es → r.fault ≡ None → first_refusal 1 (bench p v) es ≡ None → next ≡ kept (bench p v) es
      → IsLegal next.version next.plan next.history → IsSafe next.plan next.history → length next.history ≤ next.max → IsLegalTrace p r
  legal_trace r named edges whole none stepped legal safe fits =
      let is : next ≡ record (bench p v) { history = reverse r.edges } =
      stepped ∙ all_kept 1 (bench p v) es none ∙ ap (λ l. record (bench p v) { history = l }) (append-nil (reverse es))
      ∙ ap (λ l. record (bench p v) { history = reverse l }) (sym edges) in
      let few : length (reverse r.edges) ≤ trace_limit = subst (λ (s : State). length s.history ≤ s.max) is fits in
      record {
        version = v;
        named = named;
        whole = whole;
        unrefused = refusal_known p v r.edges r.version named ∙ ap (first_refusal 1 (bench p v)) edges ∙ none;
        legal = subst (λ (s : State). IsLegal s.version s.plan s.history) is legal;
        safe = subst (λ (s : State). IsSafe s.plan s.history) is safe;
        fits = rw (length-reverse r.edges) at few;
      }

  none_found : Begins (read_of trace) v es → (f : Fault) → Stopped v [] trace from to es f → first_refusal 1 (bench p v) es ≡ None → FindsNothing p trace (streams from to None None) f
  none_found begins f h none = found_none p trace (streams from to None None) f (stops_waiting (λ w gs. refusal_of p w gs ≡ None) v trace (streams from to None None) es begins none f h)

  -- What the loop leaves is what is to be found in the whole trace.
  pub finds_it : (more : Result Bool Fault) (now : ℕ) (answer : Result Finding Fault) → Came v [] trace from to es more → ChecksPiece (bench p v) 0 es more next now (answered answer) → Finds p trace from to answer
  finds_it more now (Ok (Illegal n refused)) came h =
      let begins = came_begins v [] trace from to es more came in
      refusal_known p v (read_of trace).edges (read_of trace).version begins.version ∙ ap (first_refusal 1 (bench p v)) begins.edges ∙ refusal_stays 1 (bench p v) es begins.others (n, refused) h
  finds_it more now (Ok (Legal edges)) came h =
      let end : Came v [] trace from to es (Ok false) = subst (Came v [] trace from to es) h.0 came in
      let count : edges ≡ length es = let is : edges ≡ 0 + length es = h.3 in omega arith in
      (legal_trace (read_of trace) end.0.version end.1 end.2 h.1 h.2 h.4 h.5 h.6, count ∙ ap length (sym end.1), end.3)
  finds_it more now (Err f) came h =
      let end : Came v [] trace from to es (Err f) = subst (Came v [] trace from to es) h.0 came in none_found end.0 f end.1 h.1

pub finds_all : {S : Type 0} (state : S → State) (count : S → ℕ) (p : Plan) (v : Version) (trace : List ℕ) (s : Streams) (b : State) (judged : ℕ) (answer : Result Finding Fault) → b ≡ bench p v → judged ≡ 0
    → Answers (λ es more old new (now : S) a. Keeps old new × ChecksPiece b judged es more (state now) (count now) a) v [] trace s answer → Finds p trace s.from s.to answer × WroteNothing s
finds_all state count p v trace s b judged answer is none h =
    let took : ChecksPiece (bench p v) 0 h.0 h.1 (state h.2) (count h.2) (answered answer) = rw (is, none) at h.4.1 in
    (finds_it p v trace s.from s.to h.0 (state h.2) h.1 (count h.2) answer h.3 took, h.4.0)

-- ---- without a header line

pub finds_unbegun : (p : Plan) (from to : Option (List ℕ)) (f : Fault) → IsUnbegun from to f → FindsInput p from to (Err f)
finds_unbegun p from to f h =
    let t = waits_unbegun (λ w es. refusal_of p w es ≡ None) refl (streams from to None None) f h in (t.0, t.1, found_none p t.0 (streams from to None None) f t.2)

-- ---- without a writer

pub nothing_found : (p : Plan) (all : List ℕ) (from to old new : Option (List ℕ)) (f : Fault) → FindsNothing p all (streams from to None None) f → FindsNothing p all (streams from to old new) f
nothing_found p all from to old new Header h = h
nothing_found p all from to old new (Line n) h = h
nothing_found p all from to old new (TooLong n) h = h
nothing_found p all from to old new CutOff h = h
nothing_found p all from to old new Read h = h
nothing_found p all from to old new Memory h = h
nothing_found p all from to old new Failed h = h
nothing_found p all from to old new Write h = h
