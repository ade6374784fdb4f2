-- What is written of a trace.
use Rattle.std.proofs.Common.{◌≡◌, inl, inr, ◌+◌, ◌-◌, ◌++◌, ◌∷◌, [], ℕ, List, Option, Some, None, Result, Ok, Err, length, refl, sym, ◌∙◌, ap, subst, arith}
use Rattle.std.specs.Io.KnownBytes.{Appends, Keeps}
use Rattle.std.proofs.KnownBytes.{Appends-trans, Appends-kept}
use Rattle.std.proofs.Math.ListN.{length-append}
use Rattle.std.proofs.lemmas.List.{length-map}
use Rattle.vme_model.specs.declared.signals.Edge.{Edge}
use Rattle.vme_model.specs.declared.signals.Version.{Version}
use Rattle.vme_model.specs.Numbered.{numbered}
use Rattle.vme_model.specs.Plan.{Plan}
use Rattle.vme_model.specs.Text.{read_of}
use Rattle.vme_model.specs.Verdict.{kept}
use Rattle.vme_trace.specs.declared.Fault.{Fault}
use Rattle.vme_trace.specs.declared.Fault.TheVariants.{Memory}
use Rattle.vme_trace.specs.Writing.{AppendsFront}
use Rattle.vme_reading.specs.declared.Status.{Status}
use Rattle.vme_reading.specs.Streams.{Streams, Wrote}
use Rattle.vme_reading.specs.Outcomes.{bench, refused_count}
use Rattle.vme_reading.specs.Reporting.{AreLinesAt, HasWritten, HasWrittenFront, IsTextOf, ReportsEach, Writes}
use Rattle.vme_reading.specs.Steps.{traced}
use Rattle.vme_reading.specs.Waiting.{StopsWaiting}
use Rattle.vme_reading.proofs.KeptEdges.{edges_on}
use Rattle.vme_reading.proofs.Waits.{stops_as}
use Rattle.vme_reading.proofs.WrittenLines.{front_behind, front_of_all}
use Rattle.vme_races.specs.declared.judge.Reporting.{Reporting}
use Rattle.vme_races.specs.declared.racing.Racing.{Racing}
use Rattle.vme_races.specs.declared.walks.Walk.{Walk}
use Rattle.vme_races.specs.Lines.{counts_text, last_line, race_lines, races_in, waits_in}
use Rattle.vme_races.specs.Outcomes.{AreLines, IsText, Reports}
use Rattle.vme_races.specs.Kept.{Advances, IsKept, IsKnown}

-- what `at_each` is told
abbrev pub Lines : Writes
Lines p v es bytes = AreLines p (Some v) es bytes

abbrev pub Text : Writes
Text p v es bytes = IsText p (Some v) es bytes

-- ---- what it leaves

module _ (p : Plan) where
  lines_are : (w : Option Version) (es : List Edge) (bytes : List ℕ) → AreLinesAt Lines p w es bytes → AreLines p w es bytes
  lines_are None es bytes is = is
  lines_are (Some v) es bytes is = is

  text_is : (w : Option Version) (es : List Edge) (bytes : List ℕ) → IsTextOf Text p w es bytes → IsText p w es bytes
  text_is None es bytes is = is
  text_is (Some v) es bytes is = is

module _ (p : Plan) (trace : List ℕ) (s : Streams) where
  abbrev Waits : Option Version → List Edge → Type 0
  Waits w es = (bytes : List ℕ) × AreLines p w es bytes × Wrote s bytes

  pub reported : (answer : Result Status Fault) → ReportsEach Lines Text (λ f. f ≡ Memory) p trace s answer → Reports p trace s (traced answer)
  reported (Ok status) h = (h.0, h.1, (h.2.0, text_is p (read_of trace).version (read_of trace).edges h.2.0 h.2.1, h.2.2), h.3)
  reported (Err f) h = elim h [
    | inl waits ↦ inl (stops_as (λ w es. (bytes : List ℕ) × AreLinesAt Lines p w es bytes × Wrote s bytes) Waits
        (λ w es has. (has.0, lines_are p w es has.0 has.1, has.2)) trace s f waits)
    | inr other ↦ elim other [
      | inl own ↦ inl (subst (λ (g : Fault). StopsWaiting Waits trace s g) (sym own.0)
          (own.1.0, own.1.1, own.1.2, (own.1.3, lines_are p (read_of trace).version own.1.0 own.1.3 own.1.4, own.1.5)))
      | inr write ↦ inr (
        write.0,
        elim write.1 [
          | inl cut ↦ inl (cut.0, cut.1, cut.2, cut.3, lines_are p (read_of trace).version cut.0 cut.3 cut.4, cut.5)
          | inr text ↦ inr (text.1, text_is p (read_of trace).version (read_of trace).edges text.1 text.2, text.3)
        ],
      )
    ]
  ]

-- ---- one more edge

module _ (p : Plan) (v : Version) (es : List Edge) (first a : Option (List ℕ)) (old : Reporting)
    (known : HasWritten (λ p v es bytes. IsKnown p v es bytes old) p v es first a) where
  -- its lines so far
  pub lines_known : HasWritten Lines p v es first a
  lines_known = (known.0, (known.1.0, known.1.1.walked, known.1.3), known.2)

  module _ (e : Edge) (line : List ℕ) (b : Option (List ℕ)) (now : Racing)
      (on : (walks : List Walk) → IsKept p v es walks old.racing → old.judged + 1 ≡ length es + 1 → Advances p v es walks e line now) where
    next : Advances p v es known.1.0 e line now
    next = on known.1.0 known.1.1 (ap (λ n. n + 1) known.1.2)

    behind : known.0 ++ line ≡ race_lines (numbered (bench p v) (es ++ e ∷ [])) next.0
    behind = ap (λ l. l ++ line) known.1.3 ∙ sym next.2

    pub next_known : Appends a b line
        → HasWritten (λ p v es bytes. IsKnown p v es bytes (record { racing = now; judged = old.judged + 1 })) p v (es ++ e ∷ []) first b
    next_known more = (
      known.0 ++ line,
      (next.0, next.1, ap (λ n. n + 1) known.1.2 ∙ sym (length-append es (e ∷ [])), behind),
      Appends-trans first a b known.0 line known.2 more,
    )

    pub next_cut : AppendsFront a b line → HasWrittenFront Lines p v (es ++ e ∷ []) first b
    next_cut more = (known.0 ++ line, (next.0, next.1.walked, behind), front_behind first a b known.0 line known.2 more)

-- ---- the last line

module _ (p : Plan) (v : Version) (es : List Edge) (walks : List Walk) (now : Racing) (is : IsKept p v es walks now) where
  accepted_are : length now.bus.history ≡ length (numbered (bench p v) es)
  accepted_are =
      ap (λ s. length s.history) is.bus ∙ ap length (sym (edges_on (bench p v) 0 [] es refl))
      ∙ length-map (numbered (bench p v) es) (λ m. m.1)

  pub last_is : counts_text (length now.bus.history) now.counts.races now.counts.waits now.counts.free ≡ last_line (numbered (bench p v) es) walks
  last_is =
      let many = length (numbered (bench p v) es) in
      ap (λ n. counts_text n now.counts.races now.counts.waits now.counts.free) accepted_are
      ∙ ap (λ n. counts_text many n now.counts.waits now.counts.free) is.counts.races
      ∙ ap (λ n. counts_text many (races_in walks) n now.counts.free) is.counts.waits
      ∙ ap (λ n. counts_text many (races_in walks) (waits_in walks) n) is.counts.free

  pub refused_is : (judged : ℕ) → judged ≡ length es
      → judged - length now.bus.history ≡ refused_count p (Some v) es
  refused_is judged count =
      let none : length (kept (bench p v) es).history - 0 ≡ length (kept (bench p v) es).history = omega arith in
      ap (λ n. n - length now.bus.history) count ∙ ap (λ s. length es - length s.history) is.bus ∙ ap (λ n. length es - n) (sym none)

module _ (p : Plan) (v : Version) (es : List Edge) (first old new : Option (List ℕ)) (now : Reporting)
    (known : HasWritten (λ p v es bytes. IsKnown p v es bytes now) p v es first old) (line : List ℕ)
    (is : line ≡ counts_text (length now.racing.bus.history) now.racing.counts.races now.racing.counts.waits now.racing.counts.free) where
  whole : IsText p (Some v) es (known.0 ++ line)
  whole =
      let last = is ∙ last_is p v es known.1.0 now.racing known.1.1 in
      (known.1.0, known.1.1.walked, λ i. known.1.3 i ++ last i)

  pub ends : (mid : Option (List ℕ)) → Appends old mid line → Keeps mid new → HasWritten Text p v es first new
  ends mid wrote keeps =
      (known.0 ++ line, whole, Appends-kept first mid new (known.0 ++ line) (Appends-trans first old mid known.0 line known.2 wrote) keeps)

  pub ends_unflushed : (mid : Option (List ℕ)) → Appends old mid line → Keeps mid new → HasWrittenFront Text p v es first new
  ends_unflushed mid wrote keeps = let all = ends mid wrote keeps in (all.0, all.1, front_of_all first new all.0 all.2)

  pub ends_cut : AppendsFront old new line → HasWrittenFront Text p v es first new
  ends_cut wrote = (known.0 ++ line, whole, front_behind first old new known.0 line known.2 wrote)
