-- What is left of a trace.
use Rattle.std.proofs.Common.{◌≡◌, inl, inr, ℕ, List, [], ◌∷◌, ◌++◌, Option, Some, None, Result, Ok, Err, refl, sym, ◌∙◌, ap, append_assoc, subst}
use Rattle.std.specs.Io.KnownBytes.{Appends}
use Rattle.std.proofs.KnownBytes.{Appends-trans}
use Rattle.vme_model.specs.declared.signals.Edge.{Edge}
use Rattle.vme_model.specs.declared.signals.Version.{Version}
use Rattle.vme_model.specs.declared.signals.Wire.TheVariants.{AddressStrobe, Bbsy}
use Rattle.vme_model.specs.Numbered.{Numbered, numbered}
use Rattle.vme_model.specs.Plan.{Plan}
use Rattle.vme_model.specs.Text.{Reading, TextFault, read_of}
use Rattle.vme_trace.specs.declared.Fault.{Fault}
use Rattle.vme_trace.specs.Writing.{AppendsFront}
use Rattle.vme_trace.proofs.WrittenLines.{second_front}
use Rattle.vme_reading.specs.declared.Status.{Status}
use Rattle.vme_reading.specs.Streams.{Streams, Wrote, WroteFront}
use Rattle.vme_reading.specs.Outcomes.{bench, refused_count}
use Rattle.vme_reading.specs.Reporting.{AreLinesAt, HasWritten, HasWrittenFront, IsTextOf, ReportsEach, StopsBetween}
use Rattle.vme_reading.specs.Steps.{traced}
use Rattle.vme_reading.proofs.Waits.{stops_as}
use Rattle.vme_reading.proofs.WrittenLines.{front_behind, front_of_more}
use Rattle.vme_cycles.specs.Outcomes.{Reports, cycles_text, edge_lines, ending, last_lines, lines_by}
use Rattle.vme_cycles.specs.declared.tracking.Tracking.{Tracking}
use Rattle.vme_cycles.specs.Kept.{AreLines, IsKnown, IsText, IsTracked, next_line}
use Rattle.vme_cycles.specs.Transactions.{ended, open_lines, totals_text}
use Rattle.vme_cycles.proofs.NextLines.{lines_append, lines_next}

-- ---- the text of a trace

module _ (p : Plan) where
  pub lines_are : (w : Option Version) (es : List Edge) (bytes : List ℕ) → AreLinesAt AreLines p w es bytes → bytes ≡ edge_lines p w es
  lines_are None es bytes is = is
  lines_are (Some v) es bytes is = is

  text_is : (w : Option Version) (f : Option TextFault) (es : List Edge) (bytes : List ℕ) → f ≡ None → IsTextOf IsText p w es bytes
      → bytes ≡ edge_lines p w es ++ ending f p w es
  text_is None f es bytes none is = absurd is
  text_is (Some v) f es bytes none is = is ∙ ap (λ g. lines_by p v es ++ ending g p (Some v) es) (sym none)

  -- the lines at the edges that it begins with are a front of it
  begins_with : (w : Option Version) (f : Option TextFault) (es others : List Edge)
      → (rest : List ℕ) × (edge_lines p w (es ++ others) ++ ending f p w (es ++ others) ≡ edge_lines p w es ++ rest)
  begins_with None f es others = (ending f p None (es ++ others), refl)
  begins_with (Some v) f es others =
      let last = ending f p (Some v) (es ++ others) in
      let all = lines_append (bench p v) 0 [] es others in
      (_, ap (λ l. l ++ last) all ∙ append_assoc (lines_by p v es) _ last)

module _ (p : Plan) (trace : List ℕ) (s : Streams) where
  whole : (r : Reading) → r.fault ≡ None → (Writes : List ℕ → Type 0) (bytes : List ℕ) → IsTextOf IsText p r.version r.edges bytes → Writes bytes → Writes (cycles_text p r)
  whole r none Writes bytes is wrote = subst Writes (text_is p r.version r.fault r.edges bytes none is) wrote

  cut : (r : Reading) → StopsBetween AreLines p r (λ bytes. WroteFront s bytes) → WroteFront s (cycles_text p r)
  cut r (es, others, edges, bytes, are, wrote) =
      let front = begins_with p r.version r.fault es others in
      let all : cycles_text p r ≡ edge_lines p r.version es ++ front.0 = ap (λ l. edge_lines p r.version l ++ ending r.fault p r.version l) edges ∙ front.1 in
      subst (WroteFront s) (sym all)
      (front_of_more s.old s.new (edge_lines p r.version es) front.0 (subst (WroteFront s) (lines_are p r.version es bytes are) wrote))

  pub reported : (answer : Result Status Fault) → ReportsEach AreLines IsText (λ _. ⊥) p trace s answer → Reports p trace s (traced answer)
  reported (Ok status) h = (h.0, h.1, whole (read_of trace) h.0 (Wrote s) h.2.0 h.2.1 h.2.2, h.3)
  reported (Err f) h = elim h [
    | inl waits ↦ inl (stops_as (λ w es. (bytes : List ℕ) × AreLinesAt AreLines p w es bytes × Wrote s bytes) (λ w es. Wrote s (edge_lines p w es))
        (λ w es has. subst (Wrote s) (lines_are p w es has.0 has.1) has.2) trace s f waits)
    | inr other ↦ elim other [
      | inl never ↦ absurd never.0
      | inr write ↦ inr (
        write.0,
        elim write.1 [
          | inl lines ↦ cut (read_of trace) lines
          | inr text ↦ whole (read_of trace) text.0 (WroteFront s) text.1 text.2 text.3
        ],
      )
    ]
  ]

-- ---- behind the lines at some edges

module _ (p : Plan) (v : Version) (es : List Edge) (now : Tracking) (first old new : Option (List ℕ))
    (known : HasWritten (λ p v es bytes. IsKnown p v es bytes now) p v es first old) where
  wrote : Appends first old (lines_by p v es)
  wrote = subst (Appends first old) known.1.1 known.2

  module _ (e : Edge) (line : List ℕ) (is : line ≡ next_line p v es e) where
    behind : lines_by p v es ++ line ≡ lines_by p v (es ++ e ∷ [])
    behind = ap (λ l. lines_by p v es ++ l) is ∙ sym (lines_next p v es e)

    pub next_known : (next : Tracking) → IsTracked p v (es ++ e ∷ []) next → Appends old new line
        → HasWritten (λ p v es bytes. IsKnown p v es bytes next) p v (es ++ e ∷ []) first new
    next_known next tracked more = (lines_by p v es ++ line, (tracked, behind), Appends-trans first old new (lines_by p v es) line wrote more)

    pub next_cut : AppendsFront old new line → HasWrittenFront AreLines p v (es ++ e ∷ []) first new
    next_cut more = (lines_by p v es ++ line, behind, front_behind first old new (lines_by p v es) line wrote more)

  pub ends : Appends old new (last_lines p v es) → HasWritten IsText p v es first new
  ends more = (lines_by p v es ++ last_lines p v es, refl, Appends-trans first old new (lines_by p v es) (last_lines p v es) wrote more)

  pub ends_cut : AppendsFront old new (last_lines p v es) → HasWrittenFront IsText p v es first new
  ends_cut more = (lines_by p v es ++ last_lines p v es, refl, front_behind first old new (lines_by p v es) (last_lines p v es) wrote more)

-- ---- the last lines

module _ (p : Plan) (v : Version) (es : List Edge) (now : Tracking) (is : IsTracked p v es now) (refused : ℕ) (count : refused ≡ refused_count p (Some v) es) where
  abbrev k : Numbered
  k = numbered (bench p v) es

  abbrev totals : List ℕ
  totals = totals_text (ended AddressStrobe k) (ended Bbsy k) (refused_count p (Some v) es)

  totals_same : totals_text now.cycle.ended now.tenure.ended refused ≡ totals
  totals_same = λ i. totals_text (is.cycle.ended i) (is.tenure.ended i) (count i)

  module _ (a b c : Option (List ℕ)) (wrote : Appends a b (open_lines p k)) (x : List ℕ) (line : x ≡ totals_text now.cycle.ended now.tenure.ended refused) where
    pub all_last : Appends b c x → Appends a c (last_lines p v es)
    all_last put = Appends-trans a b c (open_lines p k) totals wrote (subst (Appends b c) (line ∙ totals_same) put)

    pub part_last : AppendsFront b c x → AppendsFront a c (last_lines p v es)
    part_last put = second_front a b c (open_lines p k) totals wrote (subst (AppendsFront b c) (line ∙ totals_same) put)
