-- What is left of a trace by a replay.
use Rattle.std.proofs.Common.{◌≡◌, inl, inr, ℕ, ◌+◌, ◌-◌, List, [], ◌++◌, length, Option, Some, None, Result, Ok, Err, refl, sym, ◌∙◌, ap, append_assoc, append-nil, subst, arith, option_map}
use Rattle.std.proofs.Math.ListN.{length-append}
use Rattle.std.specs.Io.KnownBytes.{Appends, Consumes}
use Rattle.std.proofs.KnownBytes.{Appends-trans, Consumes-trans}
use Rattle.vme_model.specs.declared.signals.Version.{Version}
use Rattle.vme_model.specs.declared.signals.Edge.{Edge}
use Rattle.vme_model.specs.Plan.{Plan}
use Rattle.vme_model.specs.Verdict.{State, kept}
use Rattle.vme_model.specs.Text.{Reading, TextFault, read_of}
use Rattle.vme_model.specs.Report.{accepted_count, closing, closing_text}
use Rattle.vme_trace.specs.declared.Fault.{Fault}
use Rattle.vme_trace.specs.declared.Fault.TheVariants.{Header, Line, TooLong, CutOff, Read, Memory, Failed, Write}
use Rattle.vme_trace.specs.Reading.{fault_of}
use Rattle.vme_trace.specs.Writing.{AppendsFront}
use Rattle.vme_reading.specs.declared.LineForm.{LineForm}
use Rattle.vme_reading.specs.declared.LineForm.TheVariants.{Short, Full}
use Rattle.vme_reading.specs.declared.Status.{Status}
use Rattle.vme_reading.specs.Streams.{Streams, streams, IsInput, Wrote, WroteFront}
use Rattle.vme_reading.specs.Outcomes.{bench, form_lines, lines_of, report, report_of, refused_count, HasFault, ReplayStops, Replays}
use Rattle.vme_reading.specs.Reporting.{AreLinesAt, HasWritten, HasWrittenFront, IsTextOf, ReportsEach, StopsBetween}
use Rattle.vme_reading.specs.Steps.{traced}
use Rattle.vme_reading.specs.Waiting.{StopsWaiting}
use Rattle.vme_reading.proofs.WrittenLines.{front_of_more, front_behind, form_append, kept_append}
use Rattle.vme_replay.specs.declared.replays.Replaying.{Replaying}
use Rattle.vme_replay.specs.Replayed.{AreLines, IsKnown, IsText}

-- without edges there are no lines
pub no_lines : (form : LineForm) (b : State) → [] ≡ form_lines form b 1 []
no_lines Short b = refl
no_lines Full b = refl

-- ---- behind the lines at some edges

module _ (form : LineForm) (p : Plan) (v : Version) (es : List Edge) (first old new : Option (List ℕ)) (now : Replaying)
    (known : HasWritten (λ p v es bytes. IsKnown form p v es bytes now) p v es first old) where
  module _ (fs : List Edge) where
    lines_next : known.0 ++ form_lines now.form now.bus (now.judged + 1) fs ≡ form_lines form (bench p v) 1 (es ++ fs)
    lines_next =
        (λ i. known.1.lines i ++ form_lines (known.1.form_is i) (known.1.bus i) (known.1.judged i + 1) fs)
        ∙ ap (λ n. form_lines form (bench p v) 1 es ++ form_lines form (kept (bench p v) es) n fs) (omega arith)
        ∙ sym (form_append form (bench p v) 1 es fs)

    pub next_known : (next : Replaying) → next.form ≡ now.form → next.bus ≡ kept now.bus fs → next.judged ≡ now.judged + length fs
        → Appends old new (form_lines now.form now.bus (now.judged + 1) fs) → HasWritten (λ p v es bytes. IsKnown form p v es bytes next) p v (es ++ fs) first new
    next_known next same bus judged wrote = (
      known.0 ++ form_lines now.form now.bus (now.judged + 1) fs,
      record {
        form_is = same ∙ known.1.form_is;
        bus = bus ∙ ap (λ s. kept s fs) known.1.bus ∙ sym (kept_append (bench p v) es fs);
        judged = judged ∙ ap (λ n. n + length fs) known.1.judged ∙ sym (length-append es fs);
        lines = lines_next;
      },
      Appends-trans first old new known.0 (form_lines now.form now.bus (now.judged + 1) fs) known.2 wrote,
    )

    pub next_cut : AppendsFront old new (form_lines now.form now.bus (now.judged + 1) fs) → HasWrittenFront (AreLines form) p v (es ++ fs) first new
    next_cut wrote = (
      known.0 ++ form_lines now.form now.bus (now.judged + 1) fs,
      lines_next,
      front_behind first old new known.0 (form_lines now.form now.bus (now.judged + 1) fs) known.2 wrote,
    )

  -- the closing line
  module _ (accepted refused : ℕ) (accepted_is : accepted ≡ length now.bus.history) (refused_is : refused ≡ now.judged - accepted) where
    count : accepted ≡ accepted_count (bench p v) es
    count = let all : accepted ≡ length (kept (bench p v) es).history = accepted_is ∙ ap (λ s. length s.history) known.1.bus in omega (arith, all)

    pub all_refused : refused ≡ refused_count p (Some v) es
    all_refused = refused_is ∙ (λ i. known.1.judged i - count i)

    closing_is : closing_text accepted refused ≡ closing None (bench p v) es
    closing_is = λ i. closing_text (count i) (all_refused i)

    pub ends : Appends old new (closing_text accepted refused) → HasWritten (IsText form) p v es first new
    ends wrote = (
      known.0 ++ closing_text accepted refused,
      (λ i. known.1.lines i ++ closing_is i),
      Appends-trans first old new known.0 (closing_text accepted refused) known.2 wrote,
    )

    pub ends_cut : AppendsFront old new (closing_text accepted refused) → HasWrittenFront (IsText form) p v es first new
    ends_cut wrote = (
      known.0 ++ closing_text accepted refused,
      (λ i. known.1.lines i ++ closing_is i),
      front_behind first old new known.0 (closing_text accepted refused) known.2 wrote,
    )

-- ---- the report on a trace

module _ (form : LineForm) (p : Plan) where
  lines_are : (w : Option Version) (es : List Edge) (bytes : List ℕ) → AreLinesAt (AreLines form) p w es bytes → bytes ≡ lines_of form p w es
  lines_are None es bytes is = is
  lines_are (Some v) es bytes is = is

  text_is : (w : Option Version) (r : Reading) (bytes : List ℕ) → r.fault ≡ None → IsTextOf (IsText form) p w r.edges bytes → bytes ≡ report_of form p w r
  text_is None r bytes none is = absurd is
  text_is (Some v) r bytes none is = is ∙ ap (λ t. form_lines form (bench p v) 1 r.edges ++ closing t (bench p v) r.edges) (sym none)

  closing_none : (t : Option TextFault) (f : Fault) (b : State) (es : List Edge) → option_map fault_of t ≡ Some f → closing t b es ≡ []
  closing_none None f b es h = absurd cc
  closing_none (Some x) f b es h = refl

  -- at a fault it is the lines
  lines_all : (w : Option Version) (r : Reading) (f : Fault) → option_map fault_of r.fault ≡ Some f → lines_of form p w r.edges ≡ report_of form p w r
  lines_all None r f h = refl
  lines_all (Some v) r f h =
      sym (ap (λ l. form_lines form (bench p v) 1 r.edges ++ l) (closing_none r.fault f (bench p v) r.edges h) ∙ append-nil (form_lines form (bench p v) 1 r.edges))

  -- it begins with the lines at the first edges
  begins_with : (w : Option Version) (r : Reading) (es others : List Edge) → r.edges ≡ es ++ others → (rest : List ℕ) × (report_of form p w r ≡ lines_of form p w es ++ rest)
  begins_with None r es others edges = ([], refl)
  begins_with (Some v) r es others edges =
      let last = closing r.fault (bench p v) r.edges in
      let all = ap (form_lines form (bench p v) 1) edges ∙ form_append form (bench p v) 1 es others in
      (_, ap (λ l. l ++ last) all ∙ append_assoc (form_lines form (bench p v) 1 es) _ last)

  module _ (trace : List ℕ) (s : Streams) where
    abbrev Waits : Option Version → List Edge → Type 0
    Waits w es = (bytes : List ℕ) × AreLinesAt (AreLines form) p w es bytes × Wrote s bytes

    named : (w : Option Version) (es : List Edge) → Waits w es → Wrote s (lines_of form p w es)
    named w es h = subst (Wrote s) (lines_are w es h.0 h.1) h.2

    at_fault : (f : Fault) → HasFault trace f → Waits (read_of trace).version (read_of trace).edges → HasFault trace f × Wrote s (report form p trace)
    at_fault f fault h =
        (fault, subst (Wrote s) (lines_all (read_of trace).version (read_of trace) f fault) (named (read_of trace).version (read_of trace).edges h))

    stops : (f : Fault) → StopsWaiting Waits trace s f → ReplayStops form p [] trace s f
    stops Header h = at_fault Header h.0 h.1
    stops (Line n) h = at_fault (Line n) h.0 h.1
    stops (TooLong n) h = at_fault (TooLong n) h.0 h.1
    stops CutOff h = at_fault CutOff h.0 h.1
    stops Read h = (h.0, h.1, h.2, named (read_of h.0).version (read_of h.0).edges h.3)
    stops Memory h = (h.0, h.1, h.2, named (read_of trace).version h.0 h.3)
    stops Failed h = absurd h
    stops Write h = absurd h

    whole : (r : Reading) → r.fault ≡ None → (Writes : List ℕ → Type 0) (bytes : List ℕ) → IsTextOf (IsText form) p r.version r.edges bytes → Writes bytes
        → Writes (report_of form p r.version r)
    whole r none Writes bytes is wrote = subst Writes (text_is r.version r bytes none is) wrote

    cut : (r : Reading) → StopsBetween (AreLines form) p r (λ bytes. WroteFront s bytes) → WroteFront s (report_of form p r.version r)
    cut r (es, others, edges, bytes, are, wrote) =
        let front = begins_with r.version r es others edges in
        subst (WroteFront s) (sym front.1)
        (front_of_more s.old s.new (lines_of form p r.version es) front.0 (subst (WroteFront s) (lines_are r.version es bytes are) wrote))

    pub reported : (answer : Result Status Fault) → ReportsEach (AreLines form) (IsText form) (λ _. ⊥) p trace s answer → Replays form p [] trace s (traced answer)
    reported (Ok status) h = (h.0, h.1, whole (read_of trace) h.0 (Wrote s) h.2.0 h.2.1 h.2.2, h.3)
    reported (Err f) h = elim h [
      | inl waits ↦ stops f waits
      | inr other ↦ elim other [
        | inl never ↦ absurd never.0
        | inr write ↦ subst (λ (g : Fault). ReplayStops form p [] trace s g) (sym write.0) (elim write.1 [
          | inl lines ↦ cut (read_of trace) lines
          | inr text ↦ whole (read_of trace) text.0 (WroteFront s) text.1 text.2 text.3
        ])
      ]
    ]

-- ---- behind a text

-- what was read is the text, and what stands behind it
pub behind_text : (from at : Option (List ℕ)) (text bytes : List ℕ) → Consumes from at (text ++ bytes) → (mid : Option (List ℕ)) × Consumes from mid text × Consumes mid at bytes
behind_text None at text bytes h = (None, tt, tt)
behind_text (Some all) None text bytes h = absurd h
behind_text (Some all) (Some rest) text bytes h = (Some (bytes ++ rest), h ∙ append_assoc text bytes rest, refl)

pub input_of : (from mid : Option (List ℕ)) (text trace : List ℕ) → Consumes from mid text → IsInput mid trace → IsInput from (text ++ trace)
input_of None mid text trace h is = tt
input_of (Some all) None text trace h is = absurd h
input_of (Some all) (Some rest) text trace h is = h ∙ ap (λ l. text ++ l) is

module _ (form : LineForm) (p : Plan) (text trace : List ℕ) (from mid to old new : Option (List ℕ)) (taken : Consumes from mid text) where
  stops_behind : (f : Fault) → ReplayStops form p [] trace (streams mid to old new) f → ReplayStops form p text trace (streams from to old new) f
  stops_behind Header h = h
  stops_behind (Line n) h = h
  stops_behind (TooLong n) h = h
  stops_behind CutOff h = h
  stops_behind Read h = (h.0, Consumes-trans from mid to text h.0 taken h.1, h.2, h.3)
  stops_behind Memory h = h
  stops_behind Failed h = h
  stops_behind Write h = h

  pub replays_behind : (answer : Result Status Fault) → Replays form p [] trace (streams mid to old new) (traced answer) → Replays form p text trace (streams from to old new) (traced answer)
  replays_behind (Ok status) h = h
  replays_behind (Err f) h = stops_behind f h
