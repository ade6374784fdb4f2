-- A replay, read by read.
use Rattle.std.proofs.Common.{◌≡◌, ◌≢◌, ◌⊎◌, inl, inr, ℕ, ◌+◌, ◌-◌, ◌*◌, ◌^◌, ◌≤◌, List, [], ◌++◌, length, Bool, true, false, Option, Some, None, unwrap_or, Result, Ok, Err, refl, sym, ◌∙◌, ap, append_assoc, append-nil, subst, arith, option_map}
use Rattle.std.proofs.Math.ListN.{length-append}
use Rattle.std.specs.Io.KnownBytes.{Appends, Consumes, IsAtEnd, Keeps}
use Rattle.std.proofs.KnownBytes.{Appends-trans, Appends-kept, Consumes-trans, Consumes-kept}
use Rattle.vme_model.specs.declared.signals.Version.{Version}
use Rattle.vme_model.specs.declared.signals.Edge.{Edge}
use Rattle.vme_model.specs.Plan.{Plan}
use Rattle.vme_model.specs.Verdict.{State, kept}
use Rattle.vme_model.specs.Text.{Reading, TextFault, no_header, no_edge, too_long, cut_off, read_of}
use Rattle.vme_model.specs.Report.{report, report_of, verdict_lines, closing_text, closing, accepted_count}
use Rattle.vme_trace.specs.declared.Fault.{Fault}
use Rattle.vme_trace.specs.declared.Fault.TheVariants.{Header, Line, TooLong, CutOff, Read, Memory, Failed, Write}
use Rattle.vme_trace.specs.Reading as trace
use Rattle.vme_trace.specs.Writing.{AppendsFront}
use Rattle.vme_engines.specs.declared.Status.{Status}
use Rattle.vme_engines.specs.Streams.{Streams, streams, IsInput, Wrote}
use Rattle.vme_engines.specs.Outcomes.{bench, lines_of, refused_count, status_with, HasFault, CanGoOn, ReplayStops, Replays}
use Rattle.vme_engines.specs.Steps.{IsBounded, IsCounted, Begins, Faults, Comes, ending, piece_text, TakesPiece, traced}
use Rattle.vme_engines.proofs.Writing.{front_of_all, front_of_more, front_behind, lines_append, kept_append}
use Rattle.vme_engines.proofs.Known.{reads_on, few_edges, unknown_version}
use Rattle.vme_engines.proofs.Going.{can_go_on}

-- ---- reading

-- A trace that is being read: it stands in the input behind a text, begins with a head, and these are its edges so far.
pub record IsReading (text head : List ℕ) (from at : Option (List ℕ)) (reader : trace.State) (left : ℕ) (es : List Edge) : Type 0 where
  pub later : List ℕ
  pub taken : Consumes from at (text ++ (head ++ later))
  pub bounded : IsBounded (head ++ later) left
  pub read : trace.HasRead reader (head ++ later) es

pub reading_of : (text head : List ℕ) (from to : Option (List ℕ)) (reader : trace.State) (left : ℕ) (es : List Edge)
    → Comes from to text head left reader es (Ok true) → IsReading text head from to reader left es
reading_of text head from to reader left es h = record { later = h.0; taken = h.1; bounded = h.2; read = h.3 }

-- the edges of a trace that is being read are few
pub few : (text head : List ℕ) (from at : Option (List ℕ)) (reader : trace.State) (left : ℕ) (es : List Edge)
    → IsReading text head from at reader left es → length es ≤ 2 ^ 34
few text head from at reader left es r =
    let bound : length (read_of (head ++ r.later)).edges ≤ length (head ++ r.later) = few_edges (head ++ r.later) in
    let all : length (read_of (head ++ r.later)).edges ≡ length es = ap length r.read.edges in
    let bounded : length (head ++ r.later) + 512 * left ≤ 2 ^ 34 = r.bounded in
    omega arith

pub begins_more : (v : Version) (r : trace.State) (bytes : List ℕ) (es : List Edge) → trace.HasRead r bytes es → r.version ≡ Some v → (more : List ℕ) → Begins (read_of (bytes ++ more)) v es
begins_more v r bytes es h known more =
    let on = reads_on v r bytes es h known more in record { version = on.2; others = on.0; edges = on.1 }

-- what one more read brings
module _ (text head : List ℕ) (from at to : Option (List ℕ)) (reader next : trace.State) (left : ℕ) (es new : List Edge)
    (r : IsReading text head from at reader (left + 1) es) where
  joined : (piece : List ℕ) → Consumes at to piece → Consumes from to (text ++ (head ++ (r.later ++ piece)))
  joined piece h =
      let both : Consumes from to ((text ++ (head ++ r.later)) ++ piece) = Consumes-trans from at to (text ++ (head ++ r.later)) piece r.taken h in
      subst (Consumes from to) (append_assoc text (head ++ r.later) piece ∙ ap (λ l. text ++ l) (append_assoc head r.later piece)) both

  behind : (piece : List ℕ) → (head ++ r.later) ++ piece ≡ head ++ (r.later ++ piece)
  behind piece = append_assoc head r.later piece

  came_true : trace.Pumped at to (head ++ r.later) es [] new next (Ok true) → Comes from to text head left next (es ++ new) (Ok true)
  came_true h =
      let same : new ≡ h.4.0 = h.4.1 in
      let read : trace.HasRead next ((head ++ r.later) ++ h.0) (es ++ new) = rw same h.4.2 in
      let length_is : length (head ++ (r.later ++ h.0)) ≡ length (head ++ r.later) + length h.0 = ap length (sym (behind h.0)) ∙ length-append (head ++ r.later) h.0 in
      let bounded : length (head ++ r.later) + 512 * (left + 1) ≤ 2 ^ 34 = r.bounded in
      let short : length h.0 ≤ 512 = h.2 in
      (r.later ++ h.0, joined h.0 h.3, omega arith, subst (λ (l : List ℕ). trace.HasRead next l (es ++ new)) (behind h.0) read)

  came_false : trace.Pumped at to (head ++ r.later) es [] new next (Ok false) → Comes from to text head left next (es ++ new) (Ok false)
  came_false h =
      (r.later, Consumes-kept from at to (text ++ (head ++ r.later)) r.taken h.1, h.0, h.4, r.read.edges ∙ sym (append-nil es) ∙ ap (λ l. es ++ l) (sym h.2), h.5)

  came_read : (f : Fault) → trace.FailsToRead at to (head ++ r.later) [] new next f → Comes from to text head left next (es ++ new) (Err f)
  came_read f h =
      let same : es ++ new ≡ es = ap (λ l. es ++ l) h.2 ∙ append-nil es in
      let stays : next.version ≡ reader.version = h.4 ∙ r.read.version in (
        r.later,
        Consumes-kept from at to (text ++ (head ++ r.later)) r.taken h.1,
        inl (
          h.0,
          record {
            version = h.4;
            edges = r.read.edges ∙ sym same;
            goes_on = can_go_on reader (head ++ r.later) es r.read;
            begins = λ w e. rw same (begins_more w reader (head ++ r.later) es r.read (sym stays ∙ e) (unwrap_or to []));
          },
        ),
      )

  came_fault : (f : Fault) → trace.StopsWithin at to (head ++ r.later) es [] new next f → Comes from to text head left next (es ++ new) (Err f)
  came_fault f h =
      let same : new ≡ h.1 = h.4 in
      let stops : trace.HasFault (read_of (((head ++ r.later) ++ h.0) ++ unwrap_or to [])) next.version (es ++ new) f = rw same h.5.1 in (
        r.later ++ h.0,
        joined h.0 h.3,
        inr (subst (λ (l : List ℕ). trace.HasFault (read_of (l ++ unwrap_or to [])) next.version (es ++ new) f) (behind h.0) stops),
      )

  pub came : (answer : Result Bool Fault) → trace.Pumped at to (head ++ r.later) es [] new next answer → Comes from to text head left next (es ++ new) answer
  came (Ok true) h = came_true h
  came (Ok false) h = came_false h
  came (Err f) h = elim h [ inl failed ↦ came_read f failed | inr stopped ↦ came_fault f stopped ]

  -- the version stays known
  pub stays_known : (v : Version) → reader.version ≡ Some v → (answer : Result Bool Fault) → trace.Pumped at to (head ++ r.later) es [] new next answer → next.version ≡ Some v
  stays_known v known (Ok true) h = sym h.4.2.version ∙ (reads_on v reader (head ++ r.later) es r.read known h.0).2
  stays_known v known (Ok false) h = h.4 ∙ r.read.version ∙ known
  stays_known v known (Err f) h = elim h [
    | inl failed ↦ failed.4 ∙ r.read.version ∙ known
    | inr stopped ↦ sym stopped.5.1.version_is ∙ ap (λ l. (read_of l).version) (append_assoc (head ++ r.later) stopped.0 (unwrap_or to []))
        ∙ (reads_on v reader (head ++ r.later) es r.read known (stopped.0 ++ unwrap_or to [])).2
  ]

pub counted_few : (reader : trace.State) (left judged : ℕ) → IsCounted reader left judged → judged ≤ 2 ^ 34
counted_few reader left judged r =
    let bound : length (read_of r.bytes).edges ≤ length r.bytes = few_edges r.bytes in
    let all : length (read_of r.bytes).edges ≡ length r.es = ap length r.read.edges in
    let bounded : length r.bytes + 512 * left ≤ 2 ^ 34 = r.bounded in
    let count : judged ≡ length r.es = r.count in
    omega arith

pub counted_more : (at to : Option (List ℕ)) (reader next : trace.State) (left judged : ℕ) (new : List Edge) (r : IsCounted reader (left + 1) judged)
    → trace.Pumped at to r.bytes r.es [] new next (Ok true) → IsCounted next left (judged + length new)
counted_more at to reader next left judged new r h =
    let same : new ≡ h.4.0 = h.4.1 in
    let longer = length-append r.bytes h.0 in
    let more = length-append r.es new in
    let bounded : length r.bytes + 512 * (left + 1) ≤ 2 ^ 34 = r.bounded in
    let short : length h.0 ≤ 512 = h.2 in
    let count : judged ≡ length r.es = r.count in
    record { bytes = r.bytes ++ h.0; es = r.es ++ new; read = rw same h.4.2; bounded = omega (arith, longer); count = omega (arith, more) }

-- a read before the header line
pub opens_more : (from at to : Option (List ℕ)) (reader next : trace.State) (left : ℕ) (new : List Edge) (r : IsReading [] [] from at reader (left + 1) [])
    → trace.Pumped at to r.later [] [] new next (Ok true) → next.version ≡ None → IsReading [] [] from to next left [] × (new ≡ [])
opens_more from at to reader next left new r h unknown =
    let all : IsReading [] [] from to next left new = reading_of [] [] from to next left new (came [] [] from at to reader next left [] new r (Ok true) h) in
    let none : new ≡ [] = sym all.read.edges ∙ (unknown_version all.later (all.read.version ∙ unknown)).0 in
    (subst (IsReading [] [] from to next left) none all, none)

-- ---- the input

-- what was taken and what is left is all
pub whole_input : (from to : Option (List ℕ)) (text bytes : List ℕ) → Consumes from to (text ++ bytes) → IsInput from (text ++ (bytes ++ unwrap_or to []))
whole_input None to text bytes h = tt
whole_input (Some xs) None text bytes h = absurd h
whole_input (Some xs) (Some ys) text bytes h = h ∙ append_assoc text bytes ys

pub read_out : (from to : Option (List ℕ)) (all : List ℕ) → Consumes from to all → IsAtEnd to → IsInput from all
read_out None to all h end = tt
read_out (Some xs) None all h end = absurd h
read_out (Some xs) (Some ys) all h end = h ∙ ap (λ l. all ++ l) end ∙ append-nil all

-- ---- the report

report_known : (p : Plan) (v : Version) (r : Reading) (w : Option Version) → w ≡ Some v → report_of w p r ≡ verdict_lines (bench p v) 1 r.edges ++ closing r.fault (bench p v) r.edges
report_known p v r w e = rw e refl

lines_known : (p : Plan) (v : Version) (es : List Edge) (w : Option Version) → w ≡ Some v → lines_of p w es ≡ verdict_lines (bench p v) 1 es
lines_known p v es w e = rw e refl

-- a report begins with the lines of the first edges
tail_of : (p : Plan) (v : Version) (r : Reading) (es : List Edge) → Begins r v es → List ℕ
tail_of p v r es b = verdict_lines (kept (bench p v) es) (1 + length es) b.others ++ closing r.fault (bench p v) r.edges

report_begins : (p : Plan) (v : Version) (r : Reading) (es : List Edge) (b : Begins r v es) → report_of r.version p r ≡ verdict_lines (bench p v) 1 es ++ tail_of p v r es b
unfolding tail_of
report_begins p v r es b =
    report_known p v r r.version b.version
    ∙ ap (λ l. l ++ closing r.fault (bench p v) r.edges) (ap (verdict_lines (bench p v) 1) b.edges ∙ lines_append (bench p v) 1 es b.others)
    ∙ append_assoc (verdict_lines (bench p v) 1 es) (verdict_lines (kept (bench p v) es) (1 + length es) b.others) (closing r.fault (bench p v) r.edges)

-- so what wrote a front of those lines wrote a front of the report
pub report_front : (p : Plan) (v : Version) (trace : List ℕ) (es : List Edge) (old new : Option (List ℕ)) → Begins (read_of trace) v es
    → AppendsFront old new (verdict_lines (bench p v) 1 es) → AppendsFront old new (report p trace)
report_front p v trace es old new b w =
    rw (report_begins p v (read_of trace) es b) (front_of_more old new (verdict_lines (bench p v) 1 es) (tail_of p v (read_of trace) es b) w)

-- ---- the faults of a trace

-- what a fault of a trace is not
pub no_such : (t : Option TextFault) (f : Fault) → option_map trace.fault_of t ≡ Some f → (f ≡ Read) ⊎ (f ≡ Memory) ⊎ (f ≡ Failed) ⊎ (f ≡ Write) → ⊥
no_such None f h which = cc
no_such (Some no_header) f h which = elim which [ inl e ↦ cc | inr r ↦ elim r [ inl e ↦ cc | inr q ↦ elim q [ inl e ↦ cc | inr e ↦ cc ] ] ]
no_such (Some (no_edge n)) f h which = elim which [ inl e ↦ cc | inr r ↦ elim r [ inl e ↦ cc | inr q ↦ elim q [ inl e ↦ cc | inr e ↦ cc ] ] ]
no_such (Some (too_long n)) f h which = elim which [ inl e ↦ cc | inr r ↦ elim r [ inl e ↦ cc | inr q ↦ elim q [ inl e ↦ cc | inr e ↦ cc ] ] ]
no_such (Some cut_off) f h which = elim which [ inl e ↦ cc | inr r ↦ elim r [ inl e ↦ cc | inr q ↦ elim q [ inl e ↦ cc | inr e ↦ cc ] ] ]

closing_none : (t : Option TextFault) (f : Fault) (b : State) (es : List Edge) → option_map trace.fault_of t ≡ Some f → closing t b es ≡ []
closing_none None f b es h = absurd cc
closing_none (Some x) f b es h = refl

-- all lines up to the fault of a trace were written
module _ (p : Plan) (v : Version) (text all : List ℕ) (s : Streams) (es : List Edge) (w : Wrote s (verdict_lines (bench p v) 1 es)) (version : Option Version) (known : version ≡ Some v) where
  at_fault : (f : Fault) → f ≢ Memory → trace.HasFault (read_of all) version es f → HasFault all f × Wrote s (report p all)
  at_fault f ne h =
      let named : (read_of all).version ≡ Some v = h.version_is ∙ known in
      let is : report p all ≡ verdict_lines (bench p v) 1 es =
      report_known p v (read_of all) (read_of all).version named
      ∙ ap (λ l. verdict_lines (bench p v) 1 l ++ closing (read_of all).fault (bench p v) (read_of all).edges) (h.edges_are ne)
      ∙ ap (λ l. verdict_lines (bench p v) 1 es ++ l) (closing_none (read_of all).fault f (bench p v) (read_of all).edges (h.fault_is ne))
      ∙ append-nil (verdict_lines (bench p v) 1 es) in
      (h.fault_is ne, rw is w)

  pub stops : (f : Fault) → trace.HasFault (read_of all) version es f → ReplayStops p text all s f
  stops Header h = at_fault Header (λ e. cc) h
  stops (Line n) h = at_fault (Line n) (λ e. cc) h
  stops (TooLong n) h = at_fault (TooLong n) (λ e. cc) h
  stops CutOff h = at_fault CutOff (λ e. cc) h
  stops Read h = absurd (no_such (read_of all).fault Read (h.fault_is (λ e. cc)) (inl refl))
  stops Memory h = (es, h.front.0, h.front.1, rw (lines_known p v es (read_of all).version (h.version_is ∙ known)) w)
  stops Failed h = absurd (no_such (read_of all).fault Failed (h.fault_is (λ e. cc)) (inr (inr (inl refl))))
  stops Write h = absurd (no_such (read_of all).fault Write (h.fault_is (λ e. cc)) (inr (inr (inr refl))))

-- all lines of what was read were written, and a read failed
pub read_failed : (p : Plan) (v : Version) (text bytes all : List ℕ) (from to old new : Option (List ℕ)) (es : List Edge) → Consumes from to (text ++ bytes)
    → CanGoOn bytes → (read_of bytes).version ≡ Some v → (read_of bytes).edges ≡ es → Appends old new (verdict_lines (bench p v) 1 es) → ReplayStops p text all (streams from to old new) Read
read_failed p v text bytes all from to old new es taken on known edges w =
    (bytes, taken, on, rw (lines_known p v (read_of bytes).edges (read_of bytes).version known) (rw edges w))

-- ---- one piece of a replay

-- A replay under way: the verdicts on the edges so far were written.
pub record IsReplaying (p : Plan) (v : Version) (text head : List ℕ) (from at old mid : Option (List ℕ)) (b : State) (reader : trace.State) (judged left : ℕ) : Type 0 where
  pub es : List Edge
  pub reading : IsReading text head from at reader left es
  pub known : reader.version ≡ Some v
  pub wrote : Appends old mid (verdict_lines (bench p v) 1 es)
  pub state : b ≡ kept (bench p v) es
  pub count : judged ≡ length es

-- A replay that ended, or that cannot go on.
abbrev pub Ended : Plan → List ℕ → List ℕ → Option (List ℕ) → Option (List ℕ) → Option (List ℕ) → Option (List ℕ) → Result Status Fault → Type 0
Ended p text head from to old new result =
    (rest : List ℕ) × IsInput from (text ++ (head ++ rest)) × Replays p text (head ++ rest) (streams from to old new) (traced result)

module _ (p : Plan) (v : Version) (text head : List ℕ) (from to old mid new : Option (List ℕ)) (b next : State) (reader : trace.State) (judged now left : ℕ) (es fs : List Edge)
    (wrote : Appends old mid (verdict_lines (bench p v) 1 es)) (state : b ≡ kept (bench p v) es) (count : judged ≡ length es) where
  -- the lines of this piece, behind those before
  all_lines : verdict_lines (bench p v) 1 (es ++ fs) ≡ verdict_lines (bench p v) 1 es ++ verdict_lines b (judged + 1) fs
  all_lines =
      lines_append (bench p v) 1 es fs
      ∙ ap (λ s. verdict_lines (bench p v) 1 es ++ verdict_lines s (1 + length es) fs) (sym state)
      ∙ ap (λ n. verdict_lines (bench p v) 1 es ++ verdict_lines b n fs) (omega arith)

  all_kept : kept (bench p v) (es ++ fs) ≡ kept b fs
  all_kept = kept_append (bench p v) es fs ∙ ap (λ s. kept s fs) (sym state)

  all_count : judged + length fs ≡ length (es ++ fs)
  all_count = let is = length-append es fs in omega (arith, is)

  wrote_piece : (answer : Result Bool Fault) (ends : ending answer (judged + length fs) (length (kept b fs).history) ≡ [])
      → Appends mid new (piece_text b judged fs answer) → Appends old new (verdict_lines (bench p v) 1 (es ++ fs))
  wrote_piece answer ends w =
      let here : piece_text b judged fs answer ≡ verdict_lines b (judged + 1) fs = ap (λ l. verdict_lines b (judged + 1) fs ++ l) ends ∙ append-nil (verdict_lines b (judged + 1) fs) in
      rw all_lines (Appends-trans old mid new (verdict_lines (bench p v) 1 es) (verdict_lines b (judged + 1) fs) wrote (rw here at w))

  -- the trace goes on
  pub goes_on : (answer : Result Bool Fault) → Comes from to text head left reader (es ++ fs) answer → reader.version ≡ Some v
      → TakesPiece b judged fs answer mid new next now (Ok None) → IsReplaying p v text head from to old new next reader now left
  goes_on answer came known h =
      let going : Comes from to text head left reader (es ++ fs) (Ok true) = subst (λ (a : Result Bool Fault). Comes from to text head left reader (es ++ fs) a) h.0 came in
      let ends : ending answer (judged + length fs) (length (kept b fs).history) ≡ [] = rw h.0 refl in
      record {
        es = es ++ fs;
        reading = reading_of text head from to reader left (es ++ fs) going;
        known = known;
        wrote = wrote_piece answer ends h.1;
        state = h.2 ∙ sym all_kept;
        count = h.3 ∙ all_count;
      }

  -- the trace ends
  closing_is : (r : Reading) → r.edges ≡ es ++ fs → r.fault ≡ None
      → closing r.fault (bench p v) r.edges ≡ closing_text (length (kept b fs).history) (judged + length fs - length (kept b fs).history)
  closing_is r edges whole =
      let accepted : accepted_count (bench p v) r.edges ≡ length (kept b fs).history = ap (λ l. length (kept (bench p v) l).history - 0) edges ∙ ap (λ s. length s.history - 0) all_kept ∙ omega arith in
      let refused : length r.edges - accepted_count (bench p v) r.edges ≡ judged + length fs - length (kept b fs).history = ap (λ l. length l - accepted_count (bench p v) r.edges) edges ∙ ap (λ n. length (es ++ fs) - n) accepted ∙ ap (λ n. n - length (kept b fs).history) (sym all_count) in
      rw whole (ap (λ n. closing_text n (length r.edges - accepted_count (bench p v) r.edges)) accepted ∙ ap (closing_text (length (kept b fs).history)) refused)

  status_is : (r : Reading) (w : Option Version) → w ≡ Some v → r.edges ≡ es ++ fs
      → status_with (refused_count p w r.edges) ≡ status_with (judged + length fs - length (kept b fs).history)
  status_is r w e edges =
      let accepted : accepted_count (bench p v) r.edges ≡ length (kept b fs).history = ap (λ l. length (kept (bench p v) l).history - 0) edges ∙ ap (λ s. length s.history - 0) all_kept ∙ omega arith in
      let refused : length r.edges - accepted_count (bench p v) r.edges ≡ judged + length fs - length (kept b fs).history = ap (λ l. length l - accepted_count (bench p v) r.edges) edges ∙ ap (λ n. length (es ++ fs) - n) accepted ∙ ap (λ n. n - length (kept b fs).history) (sym all_count) in
      rw e (ap status_with refused)

  report_is : (all : List ℕ) → (read_of all).version ≡ Some v → (read_of all).edges ≡ es ++ fs → (read_of all).fault ≡ None
      → report p all ≡ verdict_lines (bench p v) 1 es ++ piece_text b judged fs (Ok false)
  report_is all known edges whole =
      report_known p v (read_of all) (read_of all).version known
      ∙ ap (λ l. verdict_lines (bench p v) 1 l ++ closing (read_of all).fault (bench p v) (read_of all).edges) edges
      ∙ ap (λ l. l ++ closing (read_of all).fault (bench p v) (read_of all).edges) all_lines
      ∙ ap (λ l. (verdict_lines (bench p v) 1 es ++ verdict_lines b (judged + 1) fs) ++ l) (closing_is (read_of all) edges whole)
      ∙ append_assoc (verdict_lines (bench p v) 1 es) (verdict_lines b (judged + 1) fs) _

  pub ended : (answer : Result Bool Fault) (status : Status) → Comes from to text head left reader (es ++ fs) answer → reader.version ≡ Some v
      → TakesPiece b judged fs answer mid new next now (Ok (Some status)) → Ended p text head from to old new (Ok status)
  ended answer status came known h =
      let end : Comes from to text head left reader (es ++ fs) (Ok false) = subst (λ (a : Result Bool Fault). Comes from to text head left reader (es ++ fs) a) h.0 came in
      let named : (read_of (head ++ end.0)).version ≡ Some v = sym end.3 ∙ known in
      let text_is : piece_text b judged fs answer ≡ piece_text b judged fs (Ok false) = ap (piece_text b judged fs) h.0 in
      let w : Appends mid new (piece_text b judged fs (Ok false)) = rw text_is at h.1 in (
        end.0,
        read_out from to (text ++ (head ++ end.0)) end.1 end.2,
        (
          end.5,
          end.2,
          rw (report_is (head ++ end.0) named end.4 end.5) (Appends-trans old mid new (verdict_lines (bench p v) 1 es) (piece_text b judged fs (Ok false)) wrote w),
          h.2 ∙ sym (status_is (read_of (head ++ end.0)) (read_of (head ++ end.0)).version named end.4),
        ),
      )

  -- the trace cannot be read on, or nothing can be written
  fronts : (answer : Result Bool Fault) (ends : ending answer (judged + length fs) (length (kept b fs).history) ≡ [])
      → AppendsFront mid new (piece_text b judged fs answer) → AppendsFront old new (verdict_lines (bench p v) 1 (es ++ fs))
  fronts answer ends f =
      let here : piece_text b judged fs answer ≡ verdict_lines b (judged + 1) fs = ap (λ l. verdict_lines b (judged + 1) fs ++ l) ends ∙ append-nil (verdict_lines b (judged + 1) fs) in
      rw all_lines (front_behind old mid new (verdict_lines (bench p v) 1 es) (verdict_lines b (judged + 1) fs) wrote (rw here at f))

  module _ (later : List ℕ) (taken : Consumes from to (text ++ (head ++ later))) where
    -- the trace as far as it is known
    rest : List ℕ
    rest = later ++ unwrap_or to []

    all_is : (head ++ later) ++ unwrap_or to [] ≡ head ++ (later ++ unwrap_or to [])
    all_is = append_assoc head later (unwrap_or to [])

    pub is_input : IsInput from (text ++ (head ++ (later ++ unwrap_or to [])))
    is_input = subst (λ (l : List ℕ). IsInput from (text ++ l)) all_is (whole_input from to text (head ++ later) taken)

    pub unwritten : AppendsFront old new (verdict_lines (bench p v) 1 (es ++ fs)) → Begins (read_of ((head ++ later) ++ unwrap_or to [])) v (es ++ fs)
        → Ended p text head from to old new (Err Write)
    unwritten w begins =
        (later ++ unwrap_or to [], is_input, report_front p v (head ++ (later ++ unwrap_or to [])) (es ++ fs) old new (subst (λ (l : List ℕ). Begins (read_of l) v (es ++ fs)) all_is begins) w)

    pub faulted : (f : Fault) → Faults to (head ++ later) reader (es ++ fs) f → reader.version ≡ Some v → Appends old new (verdict_lines (bench p v) 1 (es ++ fs))
        → Ended p text head from to old new (Err f)
    faulted f which known w = (
      later ++ unwrap_or to [],
      is_input,
      elim which [
        | inl failed ↦ subst (ReplayStops p text (head ++ (later ++ unwrap_or to [])) (streams from to old new)) (sym failed.0)
            (read_failed p v text (head ++ later) (head ++ (later ++ unwrap_or to [])) from to old new (es ++ fs) taken failed.1.goes_on (sym failed.1.version ∙ known) failed.1.edges w)
        | inr stopped ↦ stops p v text (head ++ (later ++ unwrap_or to [])) (streams from to old new) (es ++ fs) w reader.version known f
            (subst (λ (l : List ℕ). trace.HasFault (read_of l) reader.version (es ++ fs) f) all_is stopped)
      ],
    )

  begins_at : (later : List ℕ) (f : Fault) → Faults to (head ++ later) reader (es ++ fs) f → reader.version ≡ Some v → Begins (read_of ((head ++ later) ++ unwrap_or to [])) v (es ++ fs)
  begins_at later f which known = elim which [
    | inl failed ↦ failed.1.begins v known
    | inr stopped ↦ record { version = stopped.version_is ∙ known; others = stopped.front.0; edges = stopped.front.1 }
  ]

  cut_short : (answer : Result Bool Fault) → Comes from to text head left reader (es ++ fs) answer → reader.version ≡ Some v
      → AppendsFront mid new (piece_text b judged fs answer) → Ended p text head from to old new (Err Write)
  cut_short (Ok true) h known w = unwritten h.0 h.1 (fronts (Ok true) refl w) (begins_more v reader (head ++ h.0) (es ++ fs) h.3 known (unwrap_or to []))
  cut_short (Ok false) h known w =
      let named : (read_of (head ++ h.0)).version ≡ Some v = sym h.3 ∙ known in (
        h.0,
        read_out from to (text ++ (head ++ h.0)) h.1 h.2,
        rw (report_is (head ++ h.0) named h.4 h.5) (front_behind old mid new (verdict_lines (bench p v) 1 es) (piece_text b judged fs (Ok false)) wrote w),
      )
  cut_short (Err f) h known w = unwritten h.0 h.1 (fronts (Err f) refl w) (begins_at h.0 f h.2 known)

  pub stopped : (answer : Result Bool Fault) (f : Fault) → Comes from to text head left reader (es ++ fs) answer → reader.version ≡ Some v
      → TakesPiece b judged fs answer mid new next now (Err f) → Ended p text head from to old new (Err f)
  stopped answer f came known h = elim h [
    | inl all ↦ (let here : Comes from to text head left reader (es ++ fs) (Err f) = subst (λ (a : Result Bool Fault). Comes from to text head left reader (es ++ fs) a) all.0 came in
        faulted here.0 here.1 f here.2 known (wrote_piece answer (rw all.0 refl) all.1))
    | inr part ↦ subst (λ (g : Fault). Ended p text head from to old new (Err g)) (sym part.0) (cut_short answer came known part.1)
  ]

-- what a piece did, by what is known of its edges and its answer
pub takes_is : (b : State) (judged : ℕ) (es : List Edge) (more : Result Bool Fault) (old new : Option (List ℕ)) (next : State) (now : ℕ) (o : Option Status) (fs : List Edge) (p : Option Status)
    → TakesPiece b judged es more old new next now (Ok o) → es ≡ fs → o ≡ p → TakesPiece b judged fs more old new next now (Ok p)
takes_is b judged es more old new next now o fs p h same is =
    subst (λ (q : Option Status). TakesPiece b judged fs more old new next now (Ok q)) is (subst (λ (gs : List Edge). TakesPiece b judged gs more old new next now (Ok o)) same h)

-- a flush leaves it as it is
pub flushed : (p : Plan) (v : Version) (text head : List ℕ) (from at old mid new : Option (List ℕ)) (b : State) (reader : trace.State) (judged left : ℕ)
    → IsReplaying p v text head from at old mid b reader judged left → Keeps mid new → IsReplaying p v text head from at old new b reader judged left
flushed p v text head from at old mid new b reader judged left r k = record {
  es = r.es;
  reading = r.reading;
  known = r.known;
  wrote = Appends-kept old mid new (verdict_lines (bench p v) 1 r.es) r.wrote k;
  state = r.state;
  count = r.count;
}

-- no read is left
module _ (p : Plan) (v : Version) (text head : List ℕ) (from to old new : Option (List ℕ)) (b : State) (reader : trace.State) (judged left : ℕ) (r : IsReplaying p v text head from to old new b reader judged left) where
  taken : Consumes from to (text ++ (head ++ r.reading.later))
  taken = r.reading.taken

  all_of : (head ++ r.reading.later) ++ unwrap_or to [] ≡ head ++ (r.reading.later ++ unwrap_or to [])
  all_of = append_assoc head r.reading.later (unwrap_or to [])

  here : IsInput from (text ++ (head ++ (r.reading.later ++ unwrap_or to [])))
  here = subst (λ (l : List ℕ). IsInput from (text ++ l)) all_of (whole_input from to text (head ++ r.reading.later) taken)

  named : (read_of (head ++ r.reading.later)).version ≡ Some v
  named = r.reading.read.version ∙ r.known

  pub too_many : Ended p text head from to old new (Err Read)
  too_many = (
    r.reading.later ++ unwrap_or to [],
    here,
    read_failed p v text (head ++ r.reading.later) (head ++ (r.reading.later ++ unwrap_or to [])) from to old new r.es taken (can_go_on reader (head ++ r.reading.later) r.es r.reading.read) named r.reading.read.edges r.wrote,
  )

  pub unflushed : Ended p text head from to old new (Err Write)
  unflushed = (
    r.reading.later ++ unwrap_or to [],
    here,
    report_front p v (head ++ (r.reading.later ++ unwrap_or to [])) r.es old new
        (subst (λ (l : List ℕ). Begins (read_of l) v r.es) all_of (begins_more v reader (head ++ r.reading.later) r.es r.reading.read r.known (unwrap_or to [])))
        (front_of_all old new (verdict_lines (bench p v) 1 r.es) r.wrote),
  )
