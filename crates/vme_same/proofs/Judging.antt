-- One of the two traces with the next edge.
use Rattle.std.proofs.Common.{◌≡◌, ◌+◌, ◌<◌, ◌≤◌, ◌++◌, ◌∷◌, [], ℕ, Bool, true, false, List, Some, None, Ok, Err, is_ok, length, refl, sym, ◌∙◌, ap, subst, arith}
use Rattle.std.specs.Prelude.{◌==◌, if◌then◌else◌, not}
use Rattle.std.proofs.Math.ListN.{length-append}
use Rattle.std.proofs.lemmas.Bool.Decides.{nat_tests}
use Rattle.vme_model.specs.declared.refusals.Refused.{Refused}
use Rattle.vme_model.specs.declared.refusals.Refused.TheVariants.{TraceFull}
use Rattle.vme_model.specs.declared.signals.Edge.{Edge}
use Rattle.vme_model.specs.declared.signals.Version.{Version}
use Rattle.vme_model.specs.Plan.{Plan}
use Rattle.vme_model.specs.Numbered.{Numbered, edges_in, numbered, numbered_with}
use Rattle.vme_model.specs.Report.{trace_limit}
use Rattle.vme_model.specs.Verdict.{State, after, check, judged, kept, made, verdict, verdict_but_full}
use Rattle.vme_histories.proofs.Judged.{refused, passed}
use Rattle.vme_bus.specs.declared.states.BusState.{BusState}
use Rattle.vme_bus.specs.States.{IsStateOf, OfHistory}
use Rattle.vme_reading.specs.Refusals.{first_refusal, or_refusal}
use Rattle.vme_reading.specs.Outcomes.{bench}
use Rattle.vme_reading.proofs.FirstRefusals.{refusal_behind, refusal_stays}
use Rattle.vme_reading.proofs.KeptEdges.{edges_on, kept_plan, kept_version, numbered_append}
use Rattle.vme_same.specs.declared.sides.Side.{Side}
use Rattle.vme_same.specs.Kept.{IsSide}

-- ---- a backplane behind some edges

max_by : (t : Bool) (b : State) (e : Edge) → (if t then made b e else b).max ≡ b.max
max_by true b e = refl
max_by false b e = refl

kept_max : (b : State) (es : List Edge) → (kept b es).max ≡ b.max
kept_max b [] = refl
kept_max b (e ∷ es) = kept_max (after b e) es ∙ max_by (is_ok (verdict b e)) b e

same_count : (m n : ℕ) → m ≡ n → (m == n) ≡ true
same_count m n h = grind (arith, nat_tests)

other_count : (m n : ℕ) → m < n → (m == n) ≡ false
other_count m n h = grind (arith, nat_tests)

pub edges_count : (k : Numbered) → length (edges_in k) ≡ length k
edges_count [] = refl
edges_count (m ∷ k) =
    let others = edges_count k in omega (arith, others)

module _ (p : Plan) (v : Version) (es : List Edge) (e : Edge) where
  abbrev pub before : List Edge
  before = edges_in (numbered (bench p v) es)

  there : kept (bench p v) es
      ≡ record { version = v; plan = p; history = before; max = trace_limit }
  there = λ i. record {
    version = kept_version (bench p v) es i;
    plan = kept_plan (bench p v) es i;
    history = sym (edges_on (bench p v) 0 [] es refl) i;
    max = kept_max (bench p v) es i;
  }

  verdict_there : verdict (kept (bench p v) es) e
      ≡ judged v p before e (check (not (length before == trace_limit)) TraceFull (Ok tt))
  verdict_there = ap (λ b. verdict b e) there

  -- the answer of the rules is the verdict, or the trace is full
  pub refused_there : (r : Refused) → verdict_but_full v p before e ≡ Err r
      → verdict (kept (bench p v) es) e ≡ Err r
  refused_there r is = verdict_there ∙ refused v p before e r _ is

  passed_there : verdict_but_full v p before e ≡ Ok tt → verdict (kept (bench p v) es) e
      ≡ check (not (length before == trace_limit)) TraceFull (Ok tt)
  passed_there is = verdict_there ∙ passed v p before e _ is

  module _ (now : Side) (side : IsSide p v es now) (none : now.refusal ≡ None) where
    many : length before ≡ now.judged
    many = edges_count (numbered (bench p v) es) ∙ (side.unrefused none).all ∙ sym side.judged

    pub full_there : verdict_but_full v p before e ≡ Ok tt → trace_limit ≤ now.judged
        → verdict (kept (bench p v) es) e ≡ Err TraceFull
    full_there is full =
        let within = (side.unrefused none).fits in
        let count = side.judged in
        let same : length before ≡ trace_limit = many ∙ omega (arith, within, count, full) in
        passed_there is ∙ ap (λ t. check (not t) TraceFull (Ok tt)) (same_count (length before) trace_limit same)

    pub room_there : verdict_but_full v p before e ≡ Ok tt → now.judged < trace_limit
        → verdict (kept (bench p v) es) e ≡ Ok tt
    room_there is room =
        let count = many in
        let less : length before < trace_limit = subst (λ n. n < trace_limit) (sym count) room in
        passed_there is ∙ ap (λ t. check (not t) TraceFull (Ok tt)) (other_count (length before) trace_limit less)

  -- ---- with the next edge

  numbered_by : (t : Bool) → is_ok (verdict (kept (bench p v) es) e) ≡ t
      → numbered (bench p v) (es ++ e ∷ [])
      ≡ (if t then (length es + 1, e) ∷ numbered (bench p v) es else numbered (bench p v) es)
  numbered_by t is =
      let from : 0 + length es ≡ length es = omega arith in
      numbered_append (bench p v) 0 [] es (e ∷ [])
      ∙ ap (λ m. numbered_with (kept (bench p v) es) (m + 1) e (numbered (bench p v) es)) from
      ∙ ap (λ s. if s then (length es + 1, e) ∷ numbered (bench p v) es else numbered (bench p v) es) is

  pub numbered_more : verdict (kept (bench p v) es) e ≡ Ok tt
      → numbered (bench p v) (es ++ e ∷ []) ≡ (length es + 1, e) ∷ numbered (bench p v) es
  numbered_more ok = numbered_by true (ap is_ok ok)

  refusal_next : first_refusal 1 (bench p v) es ≡ None
      → first_refusal 1 (bench p v) (es ++ e ∷ [])
      ≡ or_refusal (1 + length es) (verdict (kept (bench p v) es) e) None
  refusal_next none = refusal_behind 1 (bench p v) es (e ∷ []) none

  one_more : length (es ++ e ∷ []) ≡ length es + 1
  one_more = length-append es (e ∷ [])

  module _ (old : Side) (side : IsSide p v es old) where
    counted_next : old.judged + 1 ≡ length (es ++ e ∷ [])
    counted_next =
        let was = side.judged in
        let more = one_more in omega (arith, was, more)

    module _ (none : old.refusal ≡ None) where
      unrefused : first_refusal 1 (bench p v) es ≡ None
      unrefused = sym side.refusal ∙ none

      -- the next edge is accepted
      pub side_goes : (state : BusState) → verdict (kept (bench p v) es) e ≡ Ok tt
          → old.judged < trace_limit
          → OfHistory old.state (λ w q h. verdict_but_full w q h e ≡ Ok tt)
          → OfHistory old.state (λ w q h. verdict_but_full w q h e ≡ Ok tt → IsStateOf w q (e ∷ h) state)
          → IsSide p v (es ++ e ∷ []) (record { state = state; judged = old.judged + 1; refusal = old.refusal })
      side_goes state ok room allowed moves =
          let was = side.unrefused none in
          let count = side.judged in
          let next = numbered_more ok in
          let more = one_more in
          let all = was.all in
          record {
            judged = counted_next;
            refusal = none ∙ sym (refusal_next unrefused ∙ ap (λ j. or_refusal (1 + length es) j None) ok);
            unrefused = λ _. record {
              state = subst (λ (k : Numbered). IsStateOf v p (edges_in k) state) (sym next)
                  (moves v p before was.state (allowed v p before was.state));
              all = ap length next ∙ omega (arith, all, more);
              fits = omega (arith, more, count, room);
            };
          }

      -- the next edge is the first that is refused
      pub side_ends : (r : Refused) → verdict (kept (bench p v) es) e ≡ Err r
          → IsSide p v (es ++ e ∷ []) (record { state = old.state; judged = old.judged + 1; refusal = Some (old.judged + 1, r) })
      side_ends r is =
          let count = side.judged in
          let number : old.judged + 1 ≡ 1 + length es = omega (arith, count) in
          record {
            judged = counted_next;
            refusal = ap (λ n. Some (n, r)) number
                ∙ sym (refusal_next unrefused ∙ ap (λ j. or_refusal (1 + length es) j None) is);
            unrefused = λ absent. absurd (cc);
          }

      pub next_number : verdict (kept (bench p v) es) e ≡ Ok tt → numbered (bench p v) (es ++ e ∷ [])
          ≡ (old.judged + 1, e) ∷ numbered (bench p v) es
      next_number ok =
          let count = side.judged in
          let number : length es + 1 ≡ old.judged + 1 = omega (arith, count) in
          numbered_more ok ∙ ap (λ n. (n, e) ∷ numbered (bench p v) es) number

    -- an edge was refused before
    pub side_stays : (x : ℕ × Refused) → old.refusal ≡ Some x
        → IsSide p v (es ++ e ∷ []) (record { state = old.state; judged = old.judged + 1; refusal = old.refusal })
    side_stays x is = record {
      judged = counted_next;
      refusal = is ∙ sym (refusal_stays 1 (bench p v) es (e ∷ []) x (sym side.refusal ∙ is));
      unrefused = λ absent. absurd (cc (is, absent));
    }
