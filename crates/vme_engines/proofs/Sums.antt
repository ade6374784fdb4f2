-- What the edges of a trace come to, piece by piece.
use Rattle.std.proofs.Common.{◌≡◌, inl, inr, ℕ, ◌+◌, ◌-◌, ◌<◌, ◌^◌, List, [], ◌∷◌, ◌++◌, length, Bool, true, false, Option, Some, None, Result, Ok, Err, is_ok, refl, sym, ◌∙◌, ap, subst, arith, append_assoc, append-nil}
use Rattle.std.specs.Prelude.{if◌then◌else◌}
use Rattle.std.proofs.Math.ListN.{length-append}
use Rattle.std.specs.Io.KnownBytes.{Keeps, Appends}
use Rattle.std.proofs.KnownBytes.{Keeps-refl, Keeps-trans}
use Rattle.vme_model.specs.declared.signals.Version.{Version}
use Rattle.vme_model.specs.declared.signals.Edge.{Edge}
use Rattle.vme_model.specs.Plan.{Plan}
use Rattle.vme_model.specs.Verdict.{State, verdict, made, after, kept}
use Rattle.vme_model.specs.Deliveries.{delivery}
use Rattle.vme_model.specs.Text.{read_of}
use Rattle.vme_model.specs.Numbered.{Numbered, numbered_with, numbered}
use Rattle.vme_explain.specs.Marked.{IsMarksOf}
use Rattle.vme_explain.specs.Traced.{OfTrace}
use Rattle.vme_trace.specs.declared.Fault.{Fault}
use Rattle.vme_trace.specs.Writing.{AppendsFront}
use Rattle.vme_goals.specs.declared.events.Event.{Event}
use Rattle.vme_events.specs.Events.{events_of}
use Rattle.vme_events.specs.Ordered.{OfOrdered}
use Rattle.vme_events.proofs.Places.{numbers_below}
use Rattle.vme_summary.specs.Tally.{Answers as Told, answered_edge, answered_on, answered, is_accepted, accepted, refused}
use Rattle.vme_summary.specs.Tallied.{IsTallyOf}
use Rattle.vme_summary.specs.Summary.{summary_text}
use Rattle.vme_summary.proofs.Counted.{count_step}
use Rattle.vme_summary.proofs.Words.{each_once}
use Rattle.vme_engines.specs.declared.Status.{Status}
use Rattle.vme_engines.specs.declared.EngineFault.TheVariants as fault
use Rattle.vme_engines.specs.declared.summaries.Summing.{Summing}
use Rattle.vme_engines.specs.Streams.{Streams}
use Rattle.vme_engines.specs.Outcomes.{bench, refused_count, status_with}
use Rattle.vme_engines.specs.Steps.{Begins, traced}
use Rattle.vme_engines.specs.Pieces.{Came, Answers, answered as told_by}
use Rattle.vme_engines.specs.Begun.{IsUnbegun}
use Rattle.vme_engines.specs.Summing.{IsSummedUp, IsWaiting, Sums, SumsInput}
use Rattle.vme_engines.specs.Summed.{IsSumOf, SumsPiece}
use Rattle.vme_engines.proofs.WrittenLines.{kept_append}
use Rattle.vme_engines.proofs.FollowedEdges.{kept_plan, edges_on, numbered_append, ok_with}
use Rattle.vme_engines.proofs.ReadOn.{came_begins}
use Rattle.vme_engines.proofs.ToldPieces.{appends_behind, front_after}
use Rattle.vme_engines.proofs.Waits.{stops_waiting, waits_unbegun}

-- ---- lists of edges

answered_append : (b : State) (t : Told) (es fs : List Edge) → answered_on b t (es ++ fs) ≡ answered_on (kept b es) (answered_on b t es) fs
answered_append b t [] fs = refl
answered_append b t (e ∷ es) fs = answered_append (after b e) (answered_edge b e ∷ t) es fs

answered_length : (b : State) (t : Told) (es : List Edge) → length (answered_on b t es) ≡ length t + length es
answered_length b t [] = omega arith
answered_length b t (e ∷ es) = let is = answered_length (after b e) (answered_edge b e ∷ t) es in omega (arith, is)

-- what is accepted is kept
kept_count : (b : State) (t : Told) (es : List Edge) → accepted (answered_on b t es) + length b.history ≡ accepted t + length (kept b es).history
kept_count b t [] = refl
kept_count b t (e ∷ es) =
    at (is_ok (verdict b e)) (count_step is_accepted (answered_edge b e) t ∙ ap (λ (o : Bool). (if o then 1 else 0) + accepted t) (ok_with (verdict b e) (delivery b.plan b.history e))) (kept_count (after b e) (answered_edge b e ∷ t) es)
  where
    at : (o : Bool) → accepted (answered_edge b e ∷ t) ≡ (if o then 1 else 0) + accepted t
        → accepted (answered_on (after b e) (answered_edge b e ∷ t) es) + length (if o then made b e else b).history ≡ accepted (answered_edge b e ∷ t) + length (kept (after b e) es).history
        → accepted (answered_on (after b e) (answered_edge b e ∷ t) es) + length b.history ≡ accepted t + length (kept (after b e) es).history
    at true one others = omega (arith, one, others)
    at false one others = omega (arith, one, others)

refused_is : (p : Plan) (v : Version) (es : List Edge) → refused (answered (bench p v) es) ≡ length es - (length (kept (bench p v) es).history - 0)
refused_is p v es =
    let all = each_once (answered (bench p v) es) in
    let count = answered_length (bench p v) [] es in
    let some = kept_count (bench p v) [] es in omega (arith, all, count, some)

-- ---- one edge

pub one_summed : (b : State) (es : List Edge) (e : Edge) (old now : Summing) (vs : List Event) → IsSumOf b es old → now.following.bus ≡ after old.following.bus e → now.following.judged ≡ old.following.judged + 1
    → OfTrace old.following.bus old.following.marks (λ k. IsMarksOf old.following.bus.plan (numbered_with old.following.bus (old.following.judged + 1) e k) now.following.marks)
    → OfOrdered old.following.bus old.following.marks (λ _. vs ≡ events_of old.following.bus.plan old.following.bus.history e)
    → (IsTallyOf (answered b es) old.tally → length (answered b es) + 1 < 2 ^ 64 → vs ≡ events_of old.following.bus.plan old.following.bus.history e → IsTallyOf (answered_edge old.following.bus e ∷ answered b es) now.tally)
    → old.following.judged + 1 < 2 ^ 64 → IsSumOf b (es ++ e ∷ []) now
one_summed b es e old now vs is bus judged marks events tally few =
    let edges = edges_on b 0 [] es (sym is.empty) ∙ ap (λ s. s.history) (sym is.bus) in
    let plan : old.following.bus.plan ≡ b.plan = ap (λ s. s.plan) is.bus ∙ kept_plan b es in
    let of = subst (λ (p : Plan). IsMarksOf p (numbered b es) old.following.marks) (sym plan) is.marks in
    let count : old.following.judged + 1 ≡ (0 + length es) + 1 = let n = is.judged in omega (arith, n) in
    let size : length (answered b es) ≡ length es = answered_length b [] es ∙ omega arith in
    let short : length (answered b es) + 1 < 2 ^ 64 = let n = is.judged in omega (arith, n, size, few) in
    record {
      empty = is.empty;
      bus = bus ∙ ap (λ s. after s e) is.bus ∙ sym (kept_append b es (e ∷ []));
      judged = let n = is.judged in let more = length-append es (e ∷ []) in omega (arith, judged, n, more);
      marks =
          subst (λ (p : Plan). IsMarksOf p (numbered b (es ++ e ∷ [])) now.following.marks) plan
          (subst (λ (k : Numbered). IsMarksOf old.following.bus.plan k now.following.marks)
          (ap (λ n. numbered_with old.following.bus n e (numbered b es)) count ∙ ap (λ s. numbered_with s ((0 + length es) + 1) e (numbered b es)) is.bus ∙ sym (numbered_append b 0 [] es (e ∷ [])))
          (marks (numbered b es) edges of));
      tally =
          subst (λ (t : Told). IsTallyOf t now.tally) (ap (λ s. answered_edge s e ∷ answered b es) is.bus ∙ sym (answered_append b [] es (e ∷ [])))
          (tally is.tally short (events (numbered b es) (length es + 1) edges of (numbers_below b es)));
    }

-- ---- pieces

pub sum_is : (b : State) (es fs : List Edge) (now : Summing) → es ≡ fs → IsSumOf b es now → IsSumOf b fs now
sum_is b es fs now same is = subst (λ (l : List Edge). IsSumOf b l now) same is

pub nothing_summed : (first : Summing) (old : Option (List ℕ)) → SumsPiece first [] (Ok true) old old first (Ok None)
nothing_summed first old = (refl, Keeps-refl old, omega arith, λ b es is. sum_is b es (es ++ []) first (sym (append-nil es)) is)

-- two pieces, one after the other
pub sums_more : (first mid now : Summing) (es fs : List Edge) (more : Result Bool Fault) (old at new : Option (List ℕ)) (r : Result (Option Status) Fault) → SumsPiece first es (Ok true) old at mid (Ok None) → SumsPiece mid fs more at new now r
    → SumsPiece first (es ++ fs) more old new now r
sums_more first mid now es fs more old at new (Ok None) one two = (
  two.0,
  Keeps-trans old at new one.1 two.1,
  (let count = length-append es fs in let a = one.2 in let b = two.2 in omega (arith, count, a, b)),
  λ b before is. sum_is b ((before ++ es) ++ fs) (before ++ (es ++ fs)) now (append_assoc before es fs) (two.3 b (before ++ es) (one.3 b before is)),
)
sums_more first mid now es fs more old at new (Ok (Some status)) one two = (
  two.0,
  λ b before is. let told = two.1 b (before ++ es) (one.3 b before is) in (
    subst (λ (l : List Edge). Appends old new (summary_text b.plan (answered b l))) (append_assoc before es fs) (appends_behind old at new (summary_text b.plan (answered b ((before ++ es) ++ fs))) one.1 told.0),
    told.1 ∙ ap (λ l. status_with (refused (answered b l))) (append_assoc before es fs),
  ),
)
sums_more first mid now es fs more old at new (Err f) one two = elim two [
  | inl waits ↦ inl (waits.0, Keeps-trans old at new one.1 waits.1)
  | inr cut ↦ inr (
    cut.0,
    cut.1,
    λ b before is.
        subst (λ (l : List Edge). AppendsFront old new (summary_text b.plan (answered b l))) (append_assoc before es fs)
        (front_after old at new (summary_text b.plan (answered b ((before ++ es) ++ fs))) one.1 (cut.2 b (before ++ es) (one.3 b before is))),
  )
]

-- ---- the whole trace

module _ (p : Plan) (v : Version) (all : List ℕ) (s : Streams) (es : List Edge) (begins : Begins (read_of all) v es) (first : Summing) (fresh : IsSumOf (bench p v) [] first) where
  summed_up : (read_of all).edges ≡ es → (read_of all).fault ≡ None → IsSummedUp p (read_of all) (summary_text p (answered (bench p v) es))
  summed_up edges whole = record { version = v; named = begins.version; whole = whole; lines = ap (λ l. summary_text p (answered (bench p v) l)) (sym edges) }

  known : (w : Option Version) (gs : List Edge) → w ≡ Some v → gs ≡ es → status_with (refused (answered (bench p v) es)) ≡ status_with (refused_count p w gs)
  known w gs named edges = rw (named, edges) (ap status_with (refused_is p v es))

  sums_so : (more : Result Bool Fault) (now : Summing) (r : Result Status Fault) → Came v [] all s.from s.to es more → SumsPiece first es more s.old s.new now (told_by r) → Sums p all s (traced r)
  sums_so more now (Ok status) came h =
      let end : Came v [] all s.from s.to es (Ok false) = subst (Came v [] all s.from s.to es) h.0 came in
      let told = h.1 (bench p v) [] fresh in
      (summary_text p (answered (bench p v) es), summed_up end.1 end.2, told.0, end.3, told.1 ∙ known (read_of all).version (read_of all).edges begins.version end.1)
  sums_so more now (Err f) came h = elim h [
    | inl waits ↦ (let end : Came v [] all s.from s.to es (Err f) = subst (Came v [] all s.from s.to es) waits.0 came in
        inl (stops_waiting IsWaiting v all s es begins tt f end.1, waits.1))
    | inr cut ↦ (let end : Came v [] all s.from s.to es (Ok false) = subst (Came v [] all s.from s.to es) cut.1 came in
        inr (cut.0, summary_text p (answered (bench p v) es), summed_up end.1 end.2, cut.2 (bench p v) [] fresh))
  ]

pub sums_all : (p : Plan) (v : Version) (all : List ℕ) (s : Streams) (first : Summing) (r : Result Status Fault) → IsSumOf (bench p v) [] first
    → Answers (λ es more old new (now : Summing) a. SumsPiece first es more old new now a) v [] all s r → Sums p all s (traced r)
sums_all p v all s first r fresh h = sums_so p v all s h.0 (came_begins v [] all s.from s.to h.0 h.1 h.3) first fresh h.1 h.2 r h.3 h.4

pub sums_unbegun : (p : Plan) (s : Streams) (f : Fault) → Keeps s.old s.new → IsUnbegun s.from s.to f → SumsInput s p (Err (fault.Trace f))
sums_unbegun p s f kept h = let t = waits_unbegun IsWaiting tt s f h in (t.0, t.1, inl (t.2, kept))

-- the plan stays
pub plan_of : (b : State) (es : List Edge) (now : Summing) → IsSumOf b es now → now.following.bus.plan ≡ b.plan
plan_of b es now is = ap (λ s. s.plan) is.bus ∙ kept_plan b es
