-- A trace whose header line was found behind a scenario.
use Rattle.std.proofs.Common.{◌≡◌, inl, inr, ℕ, ◌<◌, ◌≤◌, List, [], ◌∷◌, ◌++◌, length, Bool, true, false, Option, Some, unwrap_or, Result, Ok, Err, refl, sym, ◌∙◌, ap, append_assoc, subst, arith}
use Rattle.std.proofs.Math.ListN.{length-append}
use Rattle.std.specs.Io.KnownBytes.{Consumes}
use Rattle.vme_model.specs.declared.signals.Version.{Version}
use Rattle.vme_model.specs.declared.signals.Version.TheVariants.{One, Two}
use Rattle.vme_model.specs.declared.signals.Edge.{Edge}
use Rattle.vme_model.specs.Plan.{Plan}
use Rattle.vme_model.specs.Text.{header, read_of, split_lines}
use Rattle.vme_scenario.specs.Format.{scenario}
use Rattle.vme_trace.specs.declared.Fault.{Fault}
use Rattle.vme_trace.specs.Reading as trace
use Rattle.vme_reading.specs.declared.EngineFault.{EngineFault}
use Rattle.vme_reading.specs.declared.EngineFault.TheVariants as fault
use Rattle.vme_reading.specs.Streams.{IsInput}
use Rattle.vme_reading.specs.Outcomes.{scenario_limit}
use Rattle.vme_reading.specs.Steps.{IsNoPlan, IsBounded, IsCounted, Comes}
use Rattle.vme_replay.specs.Front.{IsTextOf, Starts}
use Rattle.vme_reading.proofs.TraceReads.{whole_input}

-- ---- the scenario as it was held

pub no_plan_of : (before text : List ℕ) (f : EngineFault) → IsTextOf before text → IsNoPlan text f → IsNoPlan before f
no_plan_of before text fault.TooLong which h = elim which [ inl same ↦ rw same at h | inr long ↦ long.1 ]
no_plan_of before text (fault.Scenario e) which h = elim which [ inl same ↦ rw same at h | inr long ↦ absurd (let short = h.0 in let wide = long.0 in omega arith) ]
no_plan_of before text (fault.Trace f) which h = absurd h
no_plan_of before text fault.CannotRead which h = absurd h
no_plan_of before text fault.NoMemory which h = absurd h
no_plan_of before text (fault.Beyond n) which h = absurd h

pub plan_of_text : (before text : List ℕ) (p : Plan) → IsTextOf before text → length text ≤ scenario_limit → scenario text ≡ Ok p
    → (length before ≤ scenario_limit) × (scenario before ≡ Ok p)
plan_of_text before text p which short is = elim which [
  | inl same ↦ (rw same at short, rw same at is)
  | inr long ↦ absurd (let wide = long.0 in omega arith)
]

-- ---- the header line

pub header_version : (v : Version) (more : List ℕ) → (read_of ((header v ++ 10 ∷ []) ++ more)).version ≡ Some v
unfolding read_of split_lines
header_version One more = refl
header_version Two more = refl

-- the header line is refused: what stands behind it changes nothing
pub started_not : (v : Version) (rest : List ℕ) (es new : List Edge) (reader : trace.ReaderState) (f : Fault) → trace.Fed (header v ++ 10 ∷ []) [] es new reader (Err f) → es ≡ []
    → Starts ((header v ++ 10 ∷ []) ++ rest) reader new (Err f) × (reader.version ≡ Some v)
started_not v rest es new reader f h none =
    let same : new ≡ h.0 = h.1 ∙ ap (λ l. l ++ h.0) none in
    let all : (more : List ℕ) → trace.HasFaultAfter (read_of ((header v ++ 10 ∷ []) ++ more)) reader.version h.0 f = λ more. (h.2 more).1 in (
      λ more. rw same (subst (λ (l : List ℕ). trace.HasFaultAfter (read_of l) reader.version h.0 f) (sym (append_assoc (header v ++ 10 ∷ []) rest more)) (all (rest ++ more))),
      sym (all []).version_is ∙ header_version v [],
    )

-- the header line was taken, and then the rest
pub started_on : (v : Version) (rest : List ℕ) (es mid new : List Edge) (reader next : trace.ReaderState) (f : Fault) → trace.Fed (header v ++ 10 ∷ []) [] es mid reader (Ok tt) → es ≡ []
    → (h : (fs : List Edge) → trace.HasRead reader (header v ++ 10 ∷ []) fs → mid ≡ fs → trace.Fed ((header v ++ 10 ∷ []) ++ rest) fs mid new next (Err f))
    → Starts ((header v ++ 10 ∷ []) ++ rest) next new (Err f) × (next.version ≡ Some v)
started_on v rest es mid new reader next f first none h =
    let same : mid ≡ first.0 = first.1 ∙ ap (λ l. l ++ first.0) none in
    let then = h first.0 first.2 same in
    let whole : new ≡ first.0 ++ then.0 = then.1 ∙ ap (λ l. l ++ then.0) same in
    (λ more. rw whole (then.2 more).1, sym (then.2 []).1.version_is ∙ ap (λ l. (read_of l).version) (append_assoc (header v ++ 10 ∷ []) rest []) ∙ header_version v (rest ++ []))

pub started : (v : Version) (rest : List ℕ) (es mid new : List Edge) (reader next : trace.ReaderState) → trace.Fed (header v ++ 10 ∷ []) [] es mid reader (Ok tt) → es ≡ []
    → (h : (fs : List Edge) → trace.HasRead reader (header v ++ 10 ∷ []) fs → mid ≡ fs → trace.Fed ((header v ++ 10 ∷ []) ++ rest) fs mid new next (Ok tt))
    → Starts ((header v ++ 10 ∷ []) ++ rest) next new (Ok true) × (next.version ≡ Some v)
started v rest es mid new reader next first none h =
    let same : mid ≡ first.0 = first.1 ∙ ap (λ l. l ++ first.0) none in
    let then = h first.0 first.2 same in
    let whole : new ≡ first.0 ++ then.0 = then.1 ∙ ap (λ l. l ++ then.0) same in
    (rw whole then.2, sym then.2.version ∙ header_version v rest)

bounded : (v : Version) (rest : List ℕ) (left : ℕ) → length rest ≤ 512 → left < 16777216 → IsBounded ((header v ++ 10 ∷ []) ++ rest) left
bounded One rest left short few = let n = length-append (header One ++ 10 ∷ []) rest in omega (arith, n)
bounded Two rest left short few = let n = length-append (header Two ++ 10 ∷ []) rest in omega (arith, n)

-- what `start` answered, as a first read
pub came_start : (v : Version) (from at : Option (List ℕ)) (rest : List ℕ) (left : ℕ) (reader : trace.ReaderState) (es : List Edge) (first : Result Bool Fault)
    → Consumes from at ((header v ++ 10 ∷ []) ++ rest) → length rest ≤ 512 → left < 16777216 → Starts ((header v ++ 10 ∷ []) ++ rest) reader es first
    → Comes from at (header v ++ 10 ∷ []) left reader es first
came_start v from at rest left reader es (Ok true) taken short few h = (rest, taken, bounded v rest left short few, h)
came_start v from at rest left reader es (Ok false) taken short few h = absurd h
came_start v from at rest left reader es (Err f) taken short few h = (rest, taken, inr (h (unwrap_or at [])))

pub counted_start : (v : Version) (rest : List ℕ) (left : ℕ) (reader : trace.ReaderState) (es : List Edge) (first : Result Bool Fault)
    → Starts ((header v ++ 10 ∷ []) ++ rest) reader es first → first ≡ Ok true → length rest ≤ 512 → left < 16777216 → IsCounted reader left (length es)
counted_start v rest left reader es first starts is short few =
    let read = subst (λ (a : Result Bool Fault). Starts ((header v ++ 10 ∷ []) ++ rest) reader es a) is starts in
    record { bytes = (header v ++ 10 ∷ []) ++ rest; es = es; read = read; bounded = bounded v rest left short few; count = refl }

-- what stands behind the text, as far as it is known
pub input_behind : (v : Version) (from at : Option (List ℕ)) (before rest : List ℕ) → Consumes from at (before ++ ((header v ++ 10 ∷ []) ++ rest))
    → IsInput from (before ++ ((header v ++ 10 ∷ []) ++ (rest ++ unwrap_or at [])))
input_behind v from at before rest taken =
    subst (IsInput from) (append_assoc before ((header v ++ 10 ∷ []) ++ rest) (unwrap_or at []) ∙ ap (λ l. before ++ l) (append_assoc (header v ++ 10 ∷ []) rest (unwrap_or at [])))
    (whole_input from at (before ++ ((header v ++ 10 ∷ []) ++ rest)) taken)
