-- What the edges of a trace do to an engine that follows it, up to the one that it waits for.
use Rattle.std.specs.Prelude.{◌≡◌, ◌⊎◌, ◌<◌, ◌≤◌, ◌+◌, ◌++◌, ◌∷◌, [], ℕ, Bool, true, false, List, length, take, is_ok, Option, Some, None, Result, Ok, Err}
use Rattle.std.specs.Io.KnownBytes.{Appends, Keeps}
use Rattle.vme_model.specs.declared.signals.Edge.{Edge}
use Rattle.vme_model.specs.Verdict.{State, verdict, kept}
use Rattle.vme_model.specs.Deliveries.{answer}
use Rattle.vme_model.specs.Numbered.{numbered_on}
use Rattle.vme_model.specs.Why.{why_text}
use Rattle.vme_model.specs.Stands.{stands_text}
use Rattle.vme_explain.specs.Marked.{IsMarksOf}
use Rattle.vme_trace.specs.declared.Fault.{Fault}
use Rattle.vme_trace.specs.declared.Fault.TheVariants.{Write}
use Rattle.vme_trace.specs.Writing.{AppendsFront}
use Rattle.vme_engines.specs.declared.Status.{Status}
use Rattle.vme_engines.specs.declared.Status.TheVariants.{Done}
use Rattle.vme_engines.specs.declared.following.Following.{Following}
use Rattle.vme_engines.specs.declared.following.Found.{Found}
use Rattle.vme_engines.specs.declared.following.Told.{Told}
use Rattle.vme_engines.specs.declared.following.Told.TheVariants.{Block, Beyond}
use Rattle.vme_engines.specs.declared.checks.Finding.TheVariants.{Legal}
use Rattle.vme_engines.specs.declared.EngineFault.TheVariants as fault
use Rattle.vme_engines.specs.Outcomes.{Answer}
use Rattle.vme_engines.specs.Checking.{first_refusal, finding_line}
use Rattle.vme_engines.specs.Explaining.{edge_status}
use Rattle.vme_explain.specs.Traced.{OfTrace}

-- the answer of an engine that is to tell a block
abbrev pub told_answer : Result Told Fault → Answer
told_answer (Ok (Block status)) = Ok status
told_answer (Ok (Beyond edges)) = Err (fault.Beyond edges)
told_answer (Err f) = Err (fault.Trace f)

-- these edges were followed
pub record Follows (first : Following) (es : List Edge) (now : Following) : Type 0 where
  pub bus : now.bus ≡ kept first.bus es
  pub judged : now.judged ≡ first.judged + length es
  pub marks : OfTrace first.bus first.marks
      (λ k. IsMarksOf first.bus.plan
      (numbered_on first.bus first.judged k es) now.marks)

-- ---- explain

-- behind n edges and this front, the edge is the one that is asked for
abbrev pub IsNext : Option ℕ → State → ℕ → List Edge → Edge → Type 0
IsNext (Some asked) b n front e = asked ≡ (n + length front) + 1
IsNext None b n front e =
    (first_refusal (n + 1) b front ≡ None) × (is_ok (verdict (kept b front) e) ≡ false)

-- none of the edges behind the first n is asked for
abbrev pub IsMissing : Option ℕ → State → ℕ → List Edge → Type 0
IsMissing edge b n es =
    ((asked : ℕ) → edge ≡ Some asked → n < asked → n + length es < asked)
    × (edge ≡ None → first_refusal (n + 1) b es ≡ None)

-- the edge that is asked for is one of these; those before it were followed
pub record ComesTo
    (edge : Option ℕ) (first : Following) (es : List Edge) (found : Found) (now : Following)
    : Type 0 where
  pub front : List Edge
  pub rest : List Edge
  pub split : es ≡ front ++ found.edge ∷ rest
  pub asked : IsNext edge first.bus first.judged front found.edge
  pub follows : Follows first front now
  pub answered : found.answer ≡ answer now.bus found.edge

-- the edge that is asked for is told by its block
pub record TellsEdge
    (edge : Option ℕ) (first : Following) (es : List Edge) (status : Status)
    (Writes : List ℕ → Type 0)
    : Type 0 where
  pub front : List Edge
  pub e : Edge
  pub rest : List Edge
  pub split : es ≡ front ++ e ∷ rest
  pub asked : IsNext edge first.bus first.judged front e
  pub ends : status ≡ edge_status (kept first.bus front) e
  pub block : OfTrace first.bus first.marks
      (λ k. Writes (why_text ((first.judged + length front) + 1) (kept first.bus front)
      (numbered_on first.bus first.judged k front) e))

-- no number is asked for, and at the end of the trace no edge is refused
abbrev pub TellsLegal :
    Option ℕ → Following → List Edge → Result Bool Fault → Status → (List ℕ → Type 0) → Type 0
TellsLegal edge first es more status Writes =
    (edge ≡ None) × (more ≡ Ok false)
    × (first_refusal (first.judged + 1) first.bus es ≡ None) × (status ≡ Done)
    × Writes (finding_line (Legal (first.judged + length es)))

abbrev pub Tells :
    Option ℕ → Following → List Edge → Result Bool Fault → Status → (List ℕ → Type 0) → Type 0
Tells edge first es more status Writes =
    TellsEdge edge first es status Writes ⊎ TellsLegal edge first es more status Writes

-- At the end of a trace without the edge that is asked for, behind n edges: it is told that all are
-- legal, or nothing.
abbrev pub EndsMissing :
    Option ℕ → ℕ → Option (List ℕ) → Option (List ℕ) → Result Told Fault → Type 0
EndsMissing edge n old new (Ok (Block status)) =
    (edge ≡ None) × (status ≡ Done) × Appends old new (finding_line (Legal n))
EndsMissing edge n old new (Ok (Beyond edges)) =
    (edges ≡ n) × Keeps old new × (asked : ℕ) × (edge ≡ Some asked)
EndsMissing edge n old new (Err f) =
    (f ≡ Write) × (edge ≡ None) × AppendsFront old new (finding_line (Legal n))

-- What the edges of a piece do to an explanation: `more` is what the read answered.
abbrev pub ExplainsPiece :
    Option ℕ → Following → List Edge → Result Bool Fault → Option (List ℕ) → Option (List ℕ)
    → Following → Result (Option Told) Fault → Type 0
ExplainsPiece edge first es more old new now (Ok None) =
    (more ≡ Ok true) × Keeps old new
    × IsMissing edge first.bus first.judged es × Follows first es now
ExplainsPiece edge first es more old new now (Ok (Some (Block status))) =
    Tells edge first es more status (Appends old new)
ExplainsPiece edge first es more old new now (Ok (Some (Beyond edges))) =
    (more ≡ Ok false) × Keeps old new
    × IsMissing edge first.bus first.judged es × (edges ≡ first.judged + length es)
    × (asked : ℕ) × (edge ≡ Some asked)
ExplainsPiece edge first es more old new now (Err f) =
    ((more ≡ Err f) × Keeps old new × IsMissing edge first.bus first.judged es)
    ⊎ ((f ≡ Write) × (status : Status)
    × Tells edge first es more status (AppendsFront old new))

-- ---- state

-- behind n edges, this front ends at the place that is asked for
abbrev pub IsPlace : Option ℕ → ℕ → List Edge → List Edge → Result Bool Fault → Type 0
IsPlace (Some after) n front rest more = after ≡ n + length front
IsPlace None n front rest more = (rest ≡ []) × (more ≡ Ok false)

-- the place is behind these edges, and not at their end
abbrev pub IsBehind : Option ℕ → ℕ → List Edge → Type 0
IsBehind after n es =
    (wanted : ℕ) → after ≡ Some wanted → n ≤ wanted → n + length es < wanted

-- it is at their end at the least
abbrev pub IsNotBefore : Option ℕ → ℕ → List Edge → Type 0
IsNotBefore after n es =
    (wanted : ℕ) → after ≡ Some wanted → n ≤ wanted → n + length es ≤ wanted

-- it was reached behind so many edges, which were followed; else all were
abbrev pub Reaches : Option ℕ → Following → List Edge → Following → Option ℕ → Type 0
Reaches after first es now (Some count) =
    (count ≤ length es) × (after ≡ Some (first.judged + count)) × Follows first (take count es) now
Reaches after first es now None = IsBehind after first.judged es × Follows first es now

-- where the bus stands is told by its block
pub record TellsPlace
    (after : Option ℕ) (first : Following) (es : List Edge) (more : Result Bool Fault)
    (Writes : List ℕ → Type 0)
    : Type 0 where
  pub front : List Edge
  pub rest : List Edge
  pub split : es ≡ front ++ rest
  pub reached : IsPlace after first.judged front rest more
  pub block : OfTrace first.bus first.marks
      (λ k. Writes (stands_text (first.judged + length front) (kept first.bus front)
      (numbered_on first.bus first.judged k front)))

-- At the end of a trace that was followed: where the bus stands is told, or nothing, where a place
-- further on was asked for.
abbrev pub EndsBehind :
    Option ℕ → Following → Option (List ℕ) → Option (List ℕ) → Result Told Fault → Type 0
EndsBehind after now old new (Ok (Block status)) =
    (after ≡ None) × (status ≡ Done)
    × OfTrace now.bus now.marks
    (λ k. Appends old new (stands_text now.judged now.bus k))
EndsBehind after now old new (Ok (Beyond edges)) =
    (edges ≡ now.judged) × Keeps old new × (wanted : ℕ) × (after ≡ Some wanted)
EndsBehind after now old new (Err f) =
    (f ≡ Write) × (after ≡ None)
    × OfTrace now.bus now.marks
    (λ k. AppendsFront old new (stands_text now.judged now.bus k))

-- What the edges of a piece do to an engine that tells where the bus stands.
abbrev pub StatesPiece :
    Option ℕ → Following → List Edge → Result Bool Fault → Option (List ℕ) → Option (List ℕ)
    → Following → Result (Option Told) Fault → Type 0
StatesPiece after first es more old new now (Ok None) =
    (more ≡ Ok true) × Keeps old new × IsNotBefore after first.judged es × Follows first es now
StatesPiece after first es more old new now (Ok (Some (Block status))) =
    TellsPlace after first es more (Appends old new) × (status ≡ Done)
StatesPiece after first es more old new now (Ok (Some (Beyond edges))) =
    (more ≡ Ok false) × Keeps old new
    × IsBehind after first.judged es × (edges ≡ first.judged + length es)
    × (wanted : ℕ) × (after ≡ Some wanted)
StatesPiece after first es more old new now (Err f) =
    ((more ≡ Err f) × Keeps old new × IsBehind after first.judged es)
    ⊎ ((f ≡ Write) × TellsPlace after first es more (AppendsFront old new))
