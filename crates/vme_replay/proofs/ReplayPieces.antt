-- A replay, piece by piece.
use Rattle.std.proofs.Common.{◌≡◌, inl, inr, ℕ, ◌+◌, ◌-◌, List, [], ◌++◌, length, Bool, true, false, Option, Some, None, Result, Ok, Err, refl, sym, ◌∙◌, ap, append_assoc, append-nil, subst, arith, option_map}
use Rattle.std.proofs.Math.ListN.{length-append}
use Rattle.std.specs.Io.KnownBytes.{Appends, Consumes}
use Rattle.std.proofs.KnownBytes.{Appends-nil, Appends-trans, Consumes-trans}
use Rattle.vme_model.specs.declared.signals.Version.{Version}
use Rattle.vme_model.specs.declared.signals.Edge.{Edge}
use Rattle.vme_model.specs.Plan.{Plan}
use Rattle.vme_model.specs.Verdict.{State, kept}
use Rattle.vme_model.specs.Text.{Reading, TextFault, read_of}
use Rattle.vme_model.specs.Report.{closing_text, closing}
use Rattle.vme_trace.specs.declared.Fault.{Fault}
use Rattle.vme_trace.specs.declared.Fault.TheVariants.{Header, Line, TooLong, CutOff, Read, Memory, Failed, Write}
use Rattle.vme_trace.specs.Reading as trace
use Rattle.vme_trace.specs.Writing.{AppendsFront}
use Rattle.vme_reading.specs.declared.LineForm.{LineForm}
use Rattle.vme_reading.specs.declared.LineForm.TheVariants.{Short, Full}
use Rattle.vme_reading.specs.declared.Status.{Status}
use Rattle.vme_reading.specs.Streams.{Streams, streams, IsInput, Wrote}
use Rattle.vme_reading.specs.Outcomes.{bench, form_lines, lines_of, report, report_of, refused_count, status_with, HasFault, ReplayStops, Replays}
use Rattle.vme_reading.specs.Steps.{Begins, ending, piece_text, TakesPiece, traced}
use Rattle.vme_replay.specs.declared.replays.Replaying.{Replaying}
use Rattle.vme_reading.specs.Pieces.{Stopped, Came}
use Rattle.vme_reading.specs.Readings.{GoesOn, Takes}
use Rattle.vme_reading.proofs.ReadOn.{came_begins}
use Rattle.vme_reading.proofs.WrittenLines.{front_of_more, front_behind, form_append, kept_append}

-- before the first piece nothing is written
pub piece_none : (form : LineForm) (b : State) (a : Option (List ℕ)) → Appends a a (piece_text form b 0 [] (Ok true))
piece_none Short b a = Appends-nil a
piece_none Full b a = Appends-nil a

-- for lines of one form
module _ (form : LineForm) where
  -- ---- pieces

  -- two pieces, one behind the other
  module _ (b mid_b next : State) (judged mid_n now : ℕ) (es fs : List Edge) (more : Result Bool Fault) (old mid new : Option (List ℕ))
      (first : TakesPiece form b judged es (Ok true) old mid mid_b mid_n (Ok None)) where
    count : judged + length (es ++ fs) ≡ mid_n + length fs
    count = let is = length-append es fs in let now : mid_n ≡ judged + length es = first.3 in omega (arith, is)

    state : kept b (es ++ fs) ≡ kept mid_b fs
    state = kept_append b es fs ∙ ap (λ s. kept s fs) (sym first.2)

    lines : form_lines form b (judged + 1) (es ++ fs) ≡ form_lines form b (judged + 1) es ++ form_lines form mid_b (mid_n + 1) fs
    lines =
        let from_here : (judged + 1) + length es ≡ mid_n + 1 = let now : mid_n ≡ judged + length es = first.3 in omega arith in
        form_append form b (judged + 1) es fs
        ∙ ap (λ s. form_lines form b (judged + 1) es ++ form_lines form s ((judged + 1) + length es) fs) (sym first.2)
        ∙ ap (λ n. form_lines form b (judged + 1) es ++ form_lines form mid_b n fs) from_here

    -- the text of both
    text_is : piece_text form b judged (es ++ fs) more ≡ piece_text form b judged es (Ok true) ++ piece_text form mid_b mid_n fs more
    text_is =
        ap (λ n. form_lines form b (judged + 1) (es ++ fs) ++ ending more n (length (kept b (es ++ fs)).history)) count
        ∙ ap (λ s. form_lines form b (judged + 1) (es ++ fs) ++ ending more (mid_n + length fs) (length s.history)) state
        ∙ ap (λ l. l ++ ending more (mid_n + length fs) (length (kept mid_b fs).history)) lines
        ∙ append_assoc (form_lines form b (judged + 1) es) (form_lines form mid_b (mid_n + 1) fs) _
        ∙ ap (λ l. l ++ piece_text form mid_b mid_n fs more) (sym (append-nil (form_lines form b (judged + 1) es)))

    wrote : Appends mid new (piece_text form mid_b mid_n fs more) → Appends old new (piece_text form b judged (es ++ fs) more)
    wrote w = rw text_is (Appends-trans old mid new (piece_text form b judged es (Ok true)) (piece_text form mid_b mid_n fs more) first.1 w)

    front : AppendsFront mid new (piece_text form mid_b mid_n fs more) → AppendsFront old new (piece_text form b judged (es ++ fs) more)
    front w = rw text_is (front_behind old mid new (piece_text form b judged es (Ok true)) (piece_text form mid_b mid_n fs more) first.1 w)

    pub replays_more : (answer : Result (Option Status) Fault) → TakesPiece form mid_b mid_n fs more mid new next now answer → TakesPiece form b judged (es ++ fs) more old new next now answer
    replays_more (Ok None) h = (h.0, wrote h.1, h.2 ∙ sym state, h.3 ∙ sym count)
    replays_more (Ok (Some status)) h =
        (h.0, wrote h.1, h.2 ∙ ap (λ n. status_with (n - length (kept mid_b fs).history)) (sym count) ∙ ap (λ s. status_with (judged + length (es ++ fs) - length s.history)) (sym state))
    replays_more (Err f) h = elim h [ inl all ↦ inl (all.0, wrote all.1) | inr part ↦ inr (part.0, front part.1) ]

  -- ---- the report

  report_known : (p : Plan) (v : Version) (r : Reading) (w : Option Version) → w ≡ Some v → report_of form p w r ≡ form_lines form (bench p v) 1 r.edges ++ closing r.fault (bench p v) r.edges
  report_known p v r w e = rw e refl

  lines_known : (p : Plan) (v : Version) (es : List Edge) (w : Option Version) → w ≡ Some v → lines_of form p w es ≡ form_lines form (bench p v) 1 es
  lines_known p v es w e = rw e refl

  -- a report begins with the lines of the first edges
  tail_of : (p : Plan) (v : Version) (r : Reading) (es : List Edge) → Begins r v es → List ℕ
  tail_of p v r es b = form_lines form (kept (bench p v) es) (1 + length es) b.others ++ closing r.fault (bench p v) r.edges

  report_begins : (p : Plan) (v : Version) (r : Reading) (es : List Edge) (b : Begins r v es) → report_of form p r.version r ≡ form_lines form (bench p v) 1 es ++ tail_of p v r es b
  unfolding tail_of
  report_begins p v r es b =
      report_known p v r r.version b.version
      ∙ ap (λ l. l ++ closing r.fault (bench p v) r.edges) (ap (form_lines form (bench p v) 1) b.edges ∙ form_append form (bench p v) 1 es b.others)
      ∙ append_assoc (form_lines form (bench p v) 1 es) (form_lines form (kept (bench p v) es) (1 + length es) b.others) (closing r.fault (bench p v) r.edges)

  closing_none : (t : Option TextFault) (f : Fault) (b : State) (es : List Edge) → option_map trace.fault_of t ≡ Some f → closing t b es ≡ []
  closing_none None f b es h = absurd cc
  closing_none (Some x) f b es h = refl

  -- ---- a whole replay

  module _ (p : Plan) (v : Version) (trace : List ℕ) (s : Streams) (es : List Edge) (begins : Begins (read_of trace) v es) where
    -- the lines of these edges, with nothing behind them
    bare : (more : Result Bool Fault) → ending more (0 + length es) (length (kept (bench p v) es).history) ≡ [] → piece_text form (bench p v) 0 es more ≡ form_lines form (bench p v) 1 es
    bare more none = ap (λ l. form_lines form (bench p v) 1 es ++ l) none ∙ append-nil (form_lines form (bench p v) 1 es)

    -- the lines up to a fault of the trace are its report
    report_at : (f : Fault) → HasFault trace f → (read_of trace).edges ≡ es → report form p trace ≡ form_lines form (bench p v) 1 es
    report_at f fault edges =
        report_known p v (read_of trace) (read_of trace).version begins.version
        ∙ ap (λ l. form_lines form (bench p v) 1 l ++ closing (read_of trace).fault (bench p v) (read_of trace).edges) edges
        ∙ ap (λ l. form_lines form (bench p v) 1 es ++ l) (closing_none (read_of trace).fault f (bench p v) (read_of trace).edges fault)
        ∙ append-nil (form_lines form (bench p v) 1 es)

    at_fault : (f : Fault) → HasFault trace f × ((read_of trace).edges ≡ es) → Wrote s (form_lines form (bench p v) 1 es) → HasFault trace f × Wrote s (report form p trace)
    at_fault f h w = (h.0, rw (report_at f h.0 h.1) w)

    stops : (f : Fault) → Stopped v trace s.from s.to es f → Wrote s (form_lines form (bench p v) 1 es) → ReplayStops form p [] trace s f
    stops Header h w = at_fault Header h w
    stops (Line n) h w = at_fault (Line n) h w
    stops (TooLong n) h w = at_fault (TooLong n) h w
    stops CutOff h w = at_fault CutOff h w
    stops Read h w = (h.0, h.1, h.2, rw (lines_known p v (read_of h.0).edges (read_of h.0).version h.3) (rw h.4 w))
    stops Memory h w = (es, begins.others, begins.edges, rw (lines_known p v es (read_of trace).version begins.version) w)
    stops Failed h w = absurd h
    stops Write h w = absurd h

    -- the counts of the closing line
    closing_is : (read_of trace).edges ≡ es → (read_of trace).fault ≡ None
        → closing (read_of trace).fault (bench p v) (read_of trace).edges ≡ ending (Ok false) (0 + length es) (length (kept (bench p v) es).history)
    closing_is edges whole =
        let accepted : length (kept (bench p v) es).history - 0 ≡ length (kept (bench p v) es).history = omega arith in
        let count : 0 + length es ≡ length es = omega arith in
        rw (whole, edges) (ap (λ n. closing_text n (length es - n)) accepted ∙ ap (λ n. closing_text (length (kept (bench p v) es).history) (n - length (kept (bench p v) es).history)) (sym count))

    whole_text : (read_of trace).edges ≡ es → (read_of trace).fault ≡ None → report form p trace ≡ piece_text form (bench p v) 0 es (Ok false)
    whole_text edges whole =
        report_known p v (read_of trace) (read_of trace).version begins.version
        ∙ ap (λ l. form_lines form (bench p v) 1 l ++ closing (read_of trace).fault (bench p v) (read_of trace).edges) edges
        ∙ ap (λ l. form_lines form (bench p v) 1 es ++ l) (closing_is edges whole)

    status_is : (w : Option Version) → w ≡ Some v → (read_of trace).edges ≡ es → status_with (0 + length es - length (kept (bench p v) es).history)
        ≡ status_with (refused_count p w (read_of trace).edges)
    status_is w e edges =
        let accepted : length (kept (bench p v) es).history - 0 ≡ length (kept (bench p v) es).history = omega arith in
        let count : 0 + length es ≡ length es = omega arith in
        rw (e, edges) (ap (λ n. status_with (n - length (kept (bench p v) es).history)) count ∙ ap (λ n. status_with (length es - n)) (sym accepted))

    -- only a front of the text was written
    cut_short : (more : Result Bool Fault) → Came v trace s.from s.to es more → AppendsFront s.old s.new (piece_text form (bench p v) 0 es more) → AppendsFront s.old s.new (report form p trace)
    cut_short (Ok true) h w = rw (report_begins p v (read_of trace) es begins) (front_of_more s.old s.new _ (tail_of p v (read_of trace) es begins) (rw (bare (Ok true) refl) at w))
    cut_short (Ok false) h w = rw (whole_text h.1 h.2) w
    cut_short (Err f) h w = rw (report_begins p v (read_of trace) es begins) (front_of_more s.old s.new _ (tail_of p v (read_of trace) es begins) (rw (bare (Err f) refl) at w))

  -- by what the last read answered
  module _ (p : Plan) (v : Version) (trace : List ℕ) (s : Streams) (es : List Edge) (more : Result Bool Fault) (came : Came v trace s.from s.to es more) where
    replays_end : (status : Status) → more ≡ Ok false → Wrote s (piece_text form (bench p v) 0 es more) → status ≡ status_with (0 + length es - length (kept (bench p v) es).history)
        → Replays form p [] trace s (Ok status)
    replays_end status is wrote ends =
        let end : Came v trace s.from s.to es (Ok false) = subst (Came v trace s.from s.to es) is came in (
          end.2,
          end.3,
          rw (whole_text p v trace s es end.0 end.1 end.2) (subst (λ (m : Result Bool Fault). Wrote s (piece_text form (bench p v) 0 es m)) is wrote),
          ends ∙ status_is p v trace s es end.0 (read_of trace).version end.0.version end.1,
        )

    replays_stop : (f : Fault) → more ≡ Err f → Wrote s (piece_text form (bench p v) 0 es more) → ReplayStops form p [] trace s f
    replays_stop f is wrote =
        let end : Came v trace s.from s.to es (Err f) = subst (Came v trace s.from s.to es) is came in
        stops p v trace s es end.0 f end.1 (rw (bare p v trace s es end.0 (Err f) refl) at (subst (λ (m : Result Bool Fault). Wrote s (piece_text form (bench p v) 0 es m)) is wrote))

    replays_cut : (f : Fault) → f ≡ Write → AppendsFront s.old s.new (piece_text form (bench p v) 0 es more) → ReplayStops form p [] trace s f
    replays_cut f is wrote = subst (λ (g : Fault). ReplayStops form p [] trace s g) (sym is) (cut_short p v trace s es (came_begins v trace s.from s.to es more came) more came wrote)

  -- What a piece leaves, or how far it came.
  pub replay_takes : (p : Plan) (v : Version) (es : List Edge) (more : Result Bool Fault) (old new : Option (List ℕ)) (now : Replaying) (answer : Result (Option Status) Fault) → now.form ≡ form
      → TakesPiece form (bench p v) 0 es more old new now.bus now.judged answer
      → Takes (λ fs x y (s : Replaying). (s.form ≡ form) × TakesPiece form (bench p v) 0 fs (Ok true) x y s.bus s.judged (Ok None))
      (λ trace s a. Replays form p [] trace s (traced a)) v es more old new now answer
  replay_takes p v es more old new now (Ok None) same h = (same, subst (λ (m : Result Bool Fault). TakesPiece form (bench p v) 0 es m old new now.bus now.judged (Ok None)) h.0 h)
  replay_takes p v es more old new now (Ok (Some status)) same h = λ trace from to came. replays_end p v trace (streams from to old new) es more came status h.0 h.1 h.2
  replay_takes p v es more old new now (Err f) same h = λ trace from to came. elim h [
    | inl all ↦ replays_stop p v trace (streams from to old new) es more came f all.0 all.1
    | inr part ↦ replays_cut p v trace (streams from to old new) es more came f part.0 part.1
  ]

  pub replay_goes_on : (b next : State) (judged now : ℕ) (es : List Edge) (more : Result Bool Fault) (old new : Option (List ℕ)) (answer : Result (Option Status) Fault)
      → TakesPiece form b judged es more old new next now answer → GoesOn more now (judged + length es) answer
  replay_goes_on b next judged now es more old new (Ok None) h = (h.0, h.3)
  replay_goes_on b next judged now es more old new (Ok (Some status)) h = tt
  replay_goes_on b next judged now es more old new (Err f) h = tt

-- ---- behind a text

-- what was read is the text, and what stands behind it
pub behind_text : (from at : Option (List ℕ)) (text bytes : List ℕ) → Consumes from at (text ++ bytes) → (mid : Option (List ℕ)) × Consumes from mid text × Consumes mid at bytes
behind_text None at text bytes h = (None, tt, tt)
behind_text (Some all) None text bytes h = absurd h
behind_text (Some all) (Some rest) text bytes h = (Some (bytes ++ rest), h ∙ append_assoc text bytes rest, refl)

pub input_of : (from mid : Option (List ℕ)) (text trace : List ℕ) → Consumes from mid text → IsInput mid trace → IsInput from (text ++ trace)
input_of None mid text trace h is = tt
input_of (Some all) None text trace h is = absurd h
input_of (Some all) (Some rest) text trace h is = h ∙ ap (λ l. text ++ l) is

module _ (form : LineForm) (p : Plan) (text trace : List ℕ) (from mid to old new : Option (List ℕ)) (taken : Consumes from mid text) where
  stops_behind : (f : Fault) → ReplayStops form p [] trace (streams mid to old new) f → ReplayStops form p text trace (streams from to old new) f
  stops_behind Header h = h
  stops_behind (Line n) h = h
  stops_behind (TooLong n) h = h
  stops_behind CutOff h = h
  stops_behind Read h = (h.0, Consumes-trans from mid to text h.0 taken h.1, h.2, h.3)
  stops_behind Memory h = h
  stops_behind Failed h = h
  stops_behind Write h = h

  pub replays_behind : (answer : Result Status Fault) → Replays form p [] trace (streams mid to old new) (traced answer) → Replays form p text trace (streams from to old new) (traced answer)
  replays_behind (Ok status) h = h
  replays_behind (Err f) h = stops_behind f h
