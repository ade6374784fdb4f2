-- What the edges of a trace come to, piece by piece.
use Rattle.std.proofs.Common.{◌≡◌, inr, ℕ, ◌+◌, ◌-◌, ◌<◌, ◌^◌, List, [], ◌∷◌, ◌++◌, length, Bool, true, false, Option, Some, Result, Ok, Err, is_ok, refl, sym, ◌∙◌, ap, subst, arith}
use Rattle.std.specs.Prelude.{if◌then◌else◌}
use Rattle.vme_model.specs.declared.signals.Version.{Version}
use Rattle.vme_model.specs.declared.signals.Edge.{Edge}
use Rattle.vme_model.specs.Plan.{Plan}
use Rattle.vme_model.specs.Verdict.{State, verdict, made, after, kept}
use Rattle.vme_model.specs.Deliveries.{delivery}
use Rattle.vme_model.specs.Text.{read_of}
use Rattle.vme_model.specs.Numbered.{numbered}
use Rattle.vme_explain.specs.Marked.{IsMarksOf}
use Rattle.vme_trace.specs.declared.Fault.{Fault}
use Rattle.vme_trace.specs.declared.Fault.TheVariants.{Write}
use Rattle.vme_goals.specs.declared.events.Event.{Event}
use Rattle.vme_events.specs.Events.{events_of}
use Rattle.vme_events.specs.Ordered.{OfOrdered}
use Rattle.vme_events.proofs.Places.{numbers_below}
use Rattle.vme_summary.specs.Tally.{Answers as Printed, answered_edge, answered_on, answered, is_accepted, accepted, refused}
use Rattle.vme_summary.specs.Tallied.{IsTallyOf}
use Rattle.vme_summary.proofs.Counted.{count_step}
use Rattle.vme_summary.proofs.Words.{each_once}
use Rattle.vme_reading.specs.declared.Status.{Status}
use Rattle.vme_reading.specs.declared.EngineFault.TheVariants as fault
use Rattle.vme_summary.specs.declared.summing.Summing.{Summing}
use Rattle.vme_reading.specs.Streams.{Streams, streams, Wrote, WroteFront}
use Rattle.vme_reading.specs.Outcomes.{bench, refused_count, status_with}
use Rattle.vme_reading.specs.Pieces.{Came}
use Rattle.vme_following.specs.Followed.{IsAfter}
use Rattle.vme_summary.specs.Summing.{IsSummedUp, Sums}
use Rattle.vme_summary.specs.TraceSums.{IsSumOf, sum_text}
use Rattle.vme_reading.proofs.KeptEdges.{edges_on, kept_plan}
use Rattle.vme_explain.proofs.MarkedSteps.{ok_with}
use Rattle.std.specs.Io.KnownBytes.{Appends, Keeps}
use Rattle.vme_trace.specs.Writing.{AppendsFront}
use Rattle.vme_reading.specs.Steps.{traced}
use Rattle.vme_reading.specs.Readings.{LeavesNow}
use Rattle.vme_reading.proofs.WrittenLines.{appends_behind, front_after}

-- ---- lists of edges

answered_append : (b : State) (t : Printed) (es fs : List Edge) → answered_on b t (es ++ fs) ≡ answered_on (kept b es) (answered_on b t es) fs
answered_append b t [] fs = refl
answered_append b t (e ∷ es) fs = answered_append (after b e) (answered_edge b e ∷ t) es fs

answered_length : (b : State) (t : Printed) (es : List Edge) → length (answered_on b t es) ≡ length t + length es
answered_length b t [] = omega arith
answered_length b t (e ∷ es) = let is = answered_length (after b e) (answered_edge b e ∷ t) es in omega (arith, is)

-- what is accepted is kept
kept_count : (b : State) (t : Printed) (es : List Edge) → accepted (answered_on b t es) + length b.history ≡ accepted t + length (kept b es).history
kept_count b t [] = refl
kept_count b t (e ∷ es) =
    at (is_ok (verdict b e)) (count_step is_accepted (answered_edge b e) t ∙ ap (λ (o : Bool). (if o then 1 else 0) + accepted t) (ok_with (verdict b e) (delivery b.plan b.history e)))
    (kept_count (after b e) (answered_edge b e ∷ t) es)
  where
    at : (o : Bool) → accepted (answered_edge b e ∷ t) ≡ (if o then 1 else 0) + accepted t
        → accepted (answered_on (after b e) (answered_edge b e ∷ t) es) + length (if o then made b e else b).history ≡ accepted (answered_edge b e ∷ t) + length (kept (after b e) es).history
        → accepted (answered_on (after b e) (answered_edge b e ∷ t) es) + length b.history ≡ accepted t + length (kept (after b e) es).history
    at true one others = omega (arith, one, others)
    at false one others = omega (arith, one, others)

refused_is : (p : Plan) (v : Version) (es : List Edge) → refused (answered (bench p v) es) ≡ length es - (length (kept (bench p v) es).history - 0)
refused_is p v es =
    let all = each_once (answered (bench p v) es) in
    let count = answered_length (bench p v) [] es in
    let some = kept_count (bench p v) [] es in omega (arith, all, count, some)

-- ---- one edge

pub one_summed : (p : Plan) (v : Version) (es : List Edge) (e : Edge) (old now : Summing) (vs : List Event) → IsSumOf p v es old → IsAfter p v (es ++ e ∷ []) now.following
    → OfOrdered old.following.bus old.following.marks (λ _. vs ≡ events_of old.following.bus.plan old.following.bus.history e)
    → (IsTallyOf (answered (bench p v) es) old.tally → length (answered (bench p v) es) + 1 < 2 ^ 64 → vs ≡ events_of old.following.bus.plan old.following.bus.history e
    → IsTallyOf (answered_edge old.following.bus e ∷ answered (bench p v) es) now.tally)
    → old.following.judged + 1 < 2 ^ 64 → IsSumOf p v (es ++ e ∷ []) now
one_summed p v es e old now vs is follows events tally few =
    let was = is.follows in
    let edges = edges_on (bench p v) 0 [] es refl ∙ ap (λ s. s.history) (sym was.bus) in
    let plan : old.following.bus.plan ≡ p = ap (λ s. s.plan) was.bus ∙ kept_plan (bench p v) es in
    let of = subst (λ (q : Plan). IsMarksOf q (numbered (bench p v) es) old.following.marks) (sym plan) was.marks in
    let size : length (answered (bench p v) es) ≡ length es = answered_length (bench p v) [] es ∙ omega arith in
    let short : length (answered (bench p v) es) + 1 < 2 ^ 64 = let n = was.judged in omega (arith, n, size, few) in
    record {
      follows = follows;
      tally =
          subst (λ (t : Printed). IsTallyOf t now.tally) (ap (λ s. answered_edge s e ∷ answered (bench p v) es) was.bus ∙ sym (answered_append (bench p v) [] es (e ∷ [])))
          (tally is.tally short (events (numbered (bench p v) es) (length es + 1) edges of (numbers_below (bench p v) es)));
    }

-- the plan stays
pub plan_of : (p : Plan) (v : Version) (es : List Edge) (now : Summing) → IsSumOf p v es now → now.following.bus.plan ≡ p
plan_of p v es now is = ap (λ s. s.plan) is.follows.bus ∙ kept_plan (bench p v) es

-- ---- the whole trace

module _ (p : Plan) (v : Version) (all : List ℕ) (s : Streams) (es : List Edge) (came : Came v all s.from s.to es (Ok false)) where
  summed_up : IsSummedUp p (read_of all) (sum_text p v es)
  summed_up = record { version = v; named = came.0.version; whole = came.2; lines = ap (λ l. sum_text p v l) (sym came.1) }

  known : (w : Option Version) (gs : List Edge) → w ≡ Some v → gs ≡ es → status_with (refused (answered (bench p v) es)) ≡ status_with (refused_count p w gs)
  known w gs named edges = rw (named, edges) (ap status_with (refused_is p v es))

  sums_done : (status : Status) → Wrote s (sum_text p v es) → status ≡ status_with (refused (answered (bench p v) es)) → Sums p all s (Ok status)
  sums_done status wrote is = (sum_text p v es, summed_up, wrote, came.3, is ∙ known (read_of all).version (read_of all).edges came.0.version came.1)

  sums_cut : (f : Fault) → f ≡ Write → WroteFront s (sum_text p v es) → Sums p all s (Err (fault.Trace f))
  sums_cut f is wrote = inr (is, sum_text p v es, summed_up, wrote)

-- by the last piece
module _ (p : Plan) (v : Version) (es : List Edge) (more : Result Bool Fault) (old mid new : Option (List ℕ)) (kept_so : Keeps old mid) where
  at_end : (trace : List ℕ) (from to : Option (List ℕ)) → more ≡ Ok false → Came v trace from to es more → Came v trace from to es (Ok false)
  at_end trace from to is came = subst (Came v trace from to es) is came

  pub sums_now : (status : Status) → more ≡ Ok false → status ≡ status_with (refused (answered (bench p v) es)) → Appends mid new (sum_text p v es)
      → LeavesNow (λ trace s a. Sums p trace s (traced a)) v es more old new (Ok status)
  sums_now status is done wrote = λ trace from to came.
      sums_done p v trace (streams from to old new) es (at_end trace from to is came) status (appends_behind old mid new (sum_text p v es) kept_so wrote) done

  pub sums_cut_now : (f : Fault) → more ≡ Ok false → f ≡ Write → AppendsFront mid new (sum_text p v es) → LeavesNow (λ trace s a. Sums p trace s (traced a)) v es more old new (Err f)
  sums_cut_now f is write wrote = λ trace from to came.
      sums_cut p v trace (streams from to old new) es (at_end trace from to is came) f write (front_after old mid new (sum_text p v es) kept_so wrote)
