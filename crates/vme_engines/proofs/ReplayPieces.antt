-- A replay, piece by piece.
use Rattle.std.proofs.Common.{◌≡◌, inl, inr, ℕ, ◌+◌, ◌-◌, List, [], ◌++◌, length, Bool, true, false, Option, Some, None, Result, Ok, Err, refl, sym, ◌∙◌, ap, append_assoc, append-nil, subst, arith, option_map}
use Rattle.std.proofs.Math.ListN.{length-append}
use Rattle.std.specs.Io.KnownBytes.{Appends}
use Rattle.std.proofs.KnownBytes.{Appends-trans}
use Rattle.vme_model.specs.declared.signals.Version.{Version}
use Rattle.vme_model.specs.declared.signals.Edge.{Edge}
use Rattle.vme_model.specs.Plan.{Plan}
use Rattle.vme_model.specs.Verdict.{State, kept}
use Rattle.vme_model.specs.Text.{Reading, TextFault, read_of}
use Rattle.vme_model.specs.Report.{report, report_of, verdict_lines, closing_text, closing}
use Rattle.vme_trace.specs.declared.Fault.{Fault}
use Rattle.vme_trace.specs.declared.Fault.TheVariants.{Header, Line, TooLong, CutOff, Read, Memory, Failed, Write}
use Rattle.vme_trace.specs.Reading as trace
use Rattle.vme_trace.specs.Writing.{AppendsFront}
use Rattle.vme_engines.specs.declared.Status.{Status}
use Rattle.vme_engines.specs.Streams.{Streams, Wrote}
use Rattle.vme_engines.specs.Outcomes.{bench, lines_of, refused_count, status_with, HasFault, ReplayStops, Replays}
use Rattle.vme_engines.specs.Steps.{Begins, ending, piece_text, TakesPiece, traced}
use Rattle.vme_engines.specs.Pieces.{Stopped, Came, Answers}
use Rattle.vme_engines.proofs.ReadOn.{came_begins}
use Rattle.vme_engines.proofs.WrittenLines.{front_of_more, front_behind, lines_append, kept_append}

-- ---- pieces

-- two pieces, one behind the other
module _ (b mid_b next : State) (judged mid_n now : ℕ) (es fs : List Edge) (more : Result Bool Fault) (old mid new : Option (List ℕ))
    (first : TakesPiece b judged es (Ok true) old mid mid_b mid_n (Ok None)) where
  count : judged + length (es ++ fs) ≡ mid_n + length fs
  count = let is = length-append es fs in let now : mid_n ≡ judged + length es = first.3 in omega (arith, is)

  state : kept b (es ++ fs) ≡ kept mid_b fs
  state = kept_append b es fs ∙ ap (λ s. kept s fs) (sym first.2)

  lines : verdict_lines b (judged + 1) (es ++ fs) ≡ verdict_lines b (judged + 1) es ++ verdict_lines mid_b (mid_n + 1) fs
  lines =
      let from_here : (judged + 1) + length es ≡ mid_n + 1 = let now : mid_n ≡ judged + length es = first.3 in omega arith in
      lines_append b (judged + 1) es fs
      ∙ ap (λ s. verdict_lines b (judged + 1) es ++ verdict_lines s ((judged + 1) + length es) fs) (sym first.2)
      ∙ ap (λ n. verdict_lines b (judged + 1) es ++ verdict_lines mid_b n fs) from_here

  -- the text of both
  text_is : piece_text b judged (es ++ fs) more ≡ piece_text b judged es (Ok true) ++ piece_text mid_b mid_n fs more
  text_is =
      ap (λ n. verdict_lines b (judged + 1) (es ++ fs) ++ ending more n (length (kept b (es ++ fs)).history)) count
      ∙ ap (λ s. verdict_lines b (judged + 1) (es ++ fs) ++ ending more (mid_n + length fs) (length s.history)) state
      ∙ ap (λ l. l ++ ending more (mid_n + length fs) (length (kept mid_b fs).history)) lines
      ∙ append_assoc (verdict_lines b (judged + 1) es) (verdict_lines mid_b (mid_n + 1) fs) _
      ∙ ap (λ l. l ++ piece_text mid_b mid_n fs more) (sym (append-nil (verdict_lines b (judged + 1) es)))

  wrote : Appends mid new (piece_text mid_b mid_n fs more) → Appends old new (piece_text b judged (es ++ fs) more)
  wrote w = rw text_is (Appends-trans old mid new (piece_text b judged es (Ok true)) (piece_text mid_b mid_n fs more) first.1 w)

  front : AppendsFront mid new (piece_text mid_b mid_n fs more) → AppendsFront old new (piece_text b judged (es ++ fs) more)
  front w = rw text_is (front_behind old mid new (piece_text b judged es (Ok true)) (piece_text mid_b mid_n fs more) first.1 w)

  pub replays_more : (answer : Result (Option Status) Fault) → TakesPiece mid_b mid_n fs more mid new next now answer → TakesPiece b judged (es ++ fs) more old new next now answer
  replays_more (Ok None) h = (h.0, wrote h.1, h.2 ∙ sym state, h.3 ∙ sym count)
  replays_more (Ok (Some status)) h =
      (h.0, wrote h.1, h.2 ∙ ap (λ n. status_with (n - length (kept mid_b fs).history)) (sym count) ∙ ap (λ s. status_with (judged + length (es ++ fs) - length s.history)) (sym state))
  replays_more (Err f) h = elim h [ inl all ↦ inl (all.0, wrote all.1) | inr part ↦ inr (part.0, front part.1) ]

-- ---- the report

report_known : (p : Plan) (v : Version) (r : Reading) (w : Option Version) → w ≡ Some v → report_of w p r ≡ verdict_lines (bench p v) 1 r.edges ++ closing r.fault (bench p v) r.edges
report_known p v r w e = rw e refl

lines_known : (p : Plan) (v : Version) (es : List Edge) (w : Option Version) → w ≡ Some v → lines_of p w es ≡ verdict_lines (bench p v) 1 es
lines_known p v es w e = rw e refl

-- a report begins with the lines of the first edges
tail_of : (p : Plan) (v : Version) (r : Reading) (es : List Edge) → Begins r v es → List ℕ
tail_of p v r es b = verdict_lines (kept (bench p v) es) (1 + length es) b.others ++ closing r.fault (bench p v) r.edges

report_begins : (p : Plan) (v : Version) (r : Reading) (es : List Edge) (b : Begins r v es) → report_of r.version p r ≡ verdict_lines (bench p v) 1 es ++ tail_of p v r es b
unfolding tail_of
report_begins p v r es b =
    report_known p v r r.version b.version
    ∙ ap (λ l. l ++ closing r.fault (bench p v) r.edges) (ap (verdict_lines (bench p v) 1) b.edges ∙ lines_append (bench p v) 1 es b.others)
    ∙ append_assoc (verdict_lines (bench p v) 1 es) (verdict_lines (kept (bench p v) es) (1 + length es) b.others) (closing r.fault (bench p v) r.edges)

closing_none : (t : Option TextFault) (f : Fault) (b : State) (es : List Edge) → option_map trace.fault_of t ≡ Some f → closing t b es ≡ []
closing_none None f b es h = absurd cc
closing_none (Some x) f b es h = refl

-- ---- a whole replay

module _ (p : Plan) (v : Version) (text trace : List ℕ) (s : Streams) (es : List Edge) (begins : Begins (read_of trace) v es) where
  -- the lines of these edges, with nothing behind them
  bare : (more : Result Bool Fault) → ending more (0 + length es) (length (kept (bench p v) es).history) ≡ [] → piece_text (bench p v) 0 es more ≡ verdict_lines (bench p v) 1 es
  bare more none = ap (λ l. verdict_lines (bench p v) 1 es ++ l) none ∙ append-nil (verdict_lines (bench p v) 1 es)

  -- the lines up to a fault of the trace are its report
  report_at : (f : Fault) → HasFault trace f → (read_of trace).edges ≡ es → report p trace ≡ verdict_lines (bench p v) 1 es
  report_at f fault edges =
      report_known p v (read_of trace) (read_of trace).version begins.version
      ∙ ap (λ l. verdict_lines (bench p v) 1 l ++ closing (read_of trace).fault (bench p v) (read_of trace).edges) edges
      ∙ ap (λ l. verdict_lines (bench p v) 1 es ++ l) (closing_none (read_of trace).fault f (bench p v) (read_of trace).edges fault)
      ∙ append-nil (verdict_lines (bench p v) 1 es)

  at_fault : (f : Fault) → HasFault trace f × ((read_of trace).edges ≡ es) → Wrote s (verdict_lines (bench p v) 1 es) → HasFault trace f × Wrote s (report p trace)
  at_fault f h w = (h.0, rw (report_at f h.0 h.1) w)

  stops : (f : Fault) → Stopped v text trace s.from s.to es f → Wrote s (verdict_lines (bench p v) 1 es) → ReplayStops p text trace s f
  stops Header h w = at_fault Header h w
  stops (Line n) h w = at_fault (Line n) h w
  stops (TooLong n) h w = at_fault (TooLong n) h w
  stops CutOff h w = at_fault CutOff h w
  stops Read h w = (h.0, h.1, h.2, rw (lines_known p v (read_of h.0).edges (read_of h.0).version h.3) (rw h.4 w))
  stops Memory h w = (es, begins.others, begins.edges, rw (lines_known p v es (read_of trace).version begins.version) w)
  stops Failed h w = absurd h
  stops Write h w = absurd h

  -- the counts of the closing line
  closing_is : (read_of trace).edges ≡ es → (read_of trace).fault ≡ None
      → closing (read_of trace).fault (bench p v) (read_of trace).edges ≡ ending (Ok false) (0 + length es) (length (kept (bench p v) es).history)
  closing_is edges whole =
      let accepted : length (kept (bench p v) es).history - 0 ≡ length (kept (bench p v) es).history = omega arith in
      let count : 0 + length es ≡ length es = omega arith in
      rw (whole, edges) (ap (λ n. closing_text n (length es - n)) accepted ∙ ap (λ n. closing_text (length (kept (bench p v) es).history) (n - length (kept (bench p v) es).history)) (sym count))

  whole_text : (read_of trace).edges ≡ es → (read_of trace).fault ≡ None → report p trace ≡ piece_text (bench p v) 0 es (Ok false)
  whole_text edges whole =
      report_known p v (read_of trace) (read_of trace).version begins.version
      ∙ ap (λ l. verdict_lines (bench p v) 1 l ++ closing (read_of trace).fault (bench p v) (read_of trace).edges) edges
      ∙ ap (λ l. verdict_lines (bench p v) 1 es ++ l) (closing_is edges whole)

  status_is : (w : Option Version) → w ≡ Some v → (read_of trace).edges ≡ es → status_with (0 + length es - length (kept (bench p v) es).history) ≡ status_with (refused_count p w (read_of trace).edges)
  status_is w e edges =
      let accepted : length (kept (bench p v) es).history - 0 ≡ length (kept (bench p v) es).history = omega arith in
      let count : 0 + length es ≡ length es = omega arith in
      rw (e, edges) (ap (λ n. status_with (n - length (kept (bench p v) es).history)) count ∙ ap (λ n. status_with (length es - n)) (sym accepted))

  -- only a front of the text was written
  cut_short : (more : Result Bool Fault) → Came v text trace s.from s.to es more → AppendsFront s.old s.new (piece_text (bench p v) 0 es more) → AppendsFront s.old s.new (report p trace)
  cut_short (Ok true) h w = rw (report_begins p v (read_of trace) es begins) (front_of_more s.old s.new _ (tail_of p v (read_of trace) es begins) (rw (bare (Ok true) refl) at w))
  cut_short (Ok false) h w = rw (whole_text h.1 h.2) w
  cut_short (Err f) h w = rw (report_begins p v (read_of trace) es begins) (front_of_more s.old s.new _ (tail_of p v (read_of trace) es begins) (rw (bare (Err f) refl) at w))

-- What the loop leaves is the replay of the whole trace.
pub replays_all : {S : Type 0} (state : S → State) (count : S → ℕ) (p : Plan) (v : Version) (text trace : List ℕ) (s : Streams) (b : State) (judged : ℕ) (answer : Result Status Fault) → b ≡ bench p v → judged ≡ 0
    → Answers (λ es more old new (now : S) a. TakesPiece b judged es more old new (state now) (count now) a) v text trace s answer → Replays p text trace s (traced answer)
replays_all state count p v text trace s b judged (Ok status) is none h =
    let took : TakesPiece (bench p v) 0 h.0 h.1 s.old s.new (state h.2) (count h.2) (Ok (Some status)) = rw (is, none) at h.4 in
    let came : Came v text trace s.from s.to h.0 (Ok false) = subst (Came v text trace s.from s.to h.0) took.0 h.3 in
    let wrote : Wrote s (piece_text (bench p v) 0 h.0 (Ok false)) = subst (λ (m : Result Bool Fault). Wrote s (piece_text (bench p v) 0 h.0 m)) took.0 took.1 in (
      came.2,
      came.3,
      rw (whole_text p v text trace s h.0 came.0 came.1 came.2) wrote,
      took.2 ∙ status_is p v text trace s h.0 came.0 (read_of trace).version came.0.version came.1,
    )
replays_all state count p v text trace s b judged (Err f) is none h =
    let took : TakesPiece (bench p v) 0 h.0 h.1 s.old s.new (state h.2) (count h.2) (Err f) = rw (is, none) at h.4 in
    elim took [
      | inl all ↦ (let came : Came v text trace s.from s.to h.0 (Err f) = subst (Came v text trace s.from s.to h.0) all.0 h.3 in
          stops p v text trace s h.0 came.0 f came.1 (rw (bare p v text trace s h.0 came.0 (Err f) refl) at (subst (λ (m : Result Bool Fault). Wrote s (piece_text (bench p v) 0 h.0 m)) all.0 all.1)))
      | inr part ↦ subst (λ (g : Fault). ReplayStops p text trace s g) (sym part.0) (cut_short p v text trace s h.0 (came_begins v text trace s.from s.to h.0 h.1 h.3) h.1 h.3 part.1)
    ]
