-- A trace that is followed edge by edge, up to the one that a command waits for.
use Rattle.std.specs.Prelude.{◌≡◌, ◌<◌, ◌≤◌, ◌+◌, ◌++◌, ◌∷◌, ℕ, List, length, take, is_ok, false, Option, Some, None, Result, Ok, Err}
use Rattle.vme_model.specs.declared.signals.Version.{Version}
use Rattle.vme_model.specs.declared.signals.Edge.{Edge}
use Rattle.vme_model.specs.Plan.{Plan}
use Rattle.vme_model.specs.Verdict.{State, verdict, kept}
use Rattle.vme_model.specs.Deliveries.{answer}
use Rattle.vme_model.specs.Numbered.{Numbered, numbered}
use Rattle.vme_model.specs.Why.{why_text}
use Rattle.vme_explain.specs.Marked.{IsMarksOf}
use Rattle.vme_trace.specs.declared.Fault.{Fault}
use Rattle.vme_reading.specs.declared.EngineFault.{EngineFault}
use Rattle.vme_following.specs.declared.following.Following.{Following}
use Rattle.vme_following.specs.declared.following.Found.{Found}
use Rattle.vme_following.specs.declared.following.Printed.{Printed}
use Rattle.vme_following.specs.declared.following.Printed.TheVariants.{Block, Beyond}
use Rattle.vme_reading.specs.declared.EngineFault.TheVariants as fault
use Rattle.vme_reading.specs.Outcomes.{Answer, bench}
use Rattle.vme_reading.specs.Refusals.{first_refusal}
use Rattle.vme_following.specs.Explaining.{IsUnasked}

-- the answer of a command that is to print a block
abbrev pub printed_answer : Result Printed Fault → Answer
printed_answer (Ok (Block status)) = Ok status
printed_answer (Ok (Beyond edges)) = Err (fault.Beyond edges)
printed_answer (Err f) = Err (fault.Trace f)

-- the answer of a command that is to print a block, if it may have no plan
abbrev pub printed_status : Result Printed EngineFault → Answer
printed_status (Ok (Block status)) = Ok status
printed_status (Ok (Beyond edges)) = Err (fault.Beyond edges)
printed_status (Err f) = Err f

-- ---- what was followed

-- these edges of a trace of this version were followed, on a plan
pub record IsAfter (p : Plan) (v : Version) (es : List Edge) (now : Following) : Type 0 where
  pub bus : now.bus ≡ kept (bench p v) es
  pub judged : now.judged ≡ length es
  pub marks : IsMarksOf p (numbered (bench p v) es) now.marks

-- what holds of all edges that were followed
abbrev pub OfAfter : Following → (Plan → Version → List Edge → Type 0) → Type 0
OfAfter f P = (p : Plan) (v : Version) (es : List Edge) → IsAfter p v es f → P p v es

-- with the last edge counted
abbrev pub counted : Following → Following
counted f = record f { judged = f.judged + 1 }

-- what is printed about the bus, and of the numbered edges, behind these edges
abbrev pub printed_behind : (ℕ → State → Numbered → List ℕ) → Plan → Version → List Edge → List ℕ
printed_behind T p v es = T (length es) (kept (bench p v) es) (numbered (bench p v) es)

-- ---- explain

-- what is printed about this edge behind these
abbrev pub why_behind : Edge → Plan → Version → List Edge → List ℕ
why_behind e = printed_behind (λ n b k. why_text (n + 1) b k e)

-- behind these edges, this is the one that is asked for
abbrev pub IsNext : Option ℕ → Plan → Version → List Edge → Edge → Type 0
IsNext (Some asked) p v front e = asked ≡ length front + 1
IsNext None p v front e =
    (first_refusal 1 (bench p v) front ≡ None)
    × (is_ok (verdict (kept (bench p v) front) e) ≡ false)

-- behind edges that are not asked for
abbrev pub OfUnasked : Option ℕ → Following → (Plan → Version → List Edge → Type 0) → Type 0
OfUnasked edge f P = OfAfter f (λ p v es. IsUnasked edge p (Some v) es → P p v es)

-- the edge that is asked for is one of these; those before it were followed
pub record ComesTo
    (edge : Option ℕ) (first : Following) (es : List Edge) (found : Found) (now : Following)
    : Type 0 where
  pub front : List Edge
  pub rest : List Edge
  pub split : es ≡ front ++ found.edge ∷ rest
  pub answered : found.answer ≡ answer now.bus found.edge
  pub count : now.judged ≡ first.judged + length front
  pub asked : OfUnasked edge first (λ p v before.
      IsNext edge p v (before ++ front) found.edge × IsAfter p v (before ++ front) now)

-- it is found among these edges; otherwise all were followed, and it is none of them
abbrev pub Seeks : Option ℕ → Following → List Edge → Following → Option Found → Type 0
Seeks edge first es now (Some found) = ComesTo edge first es found now
Seeks edge first es now None =
    (now.judged ≡ first.judged + length es)
    × OfUnasked edge first (λ p v before.
    IsUnasked edge p (Some v) (before ++ es) × IsAfter p v (before ++ es) now)

-- ---- state

-- the place that is asked for is behind these edges, the first n+1-th of the trace and later ones
abbrev pub IsBehind : Option ℕ → ℕ → List Edge → Type 0
IsBehind after n es =
    (wanted : ℕ) → after ≡ Some wanted → n ≤ wanted → n + length es < wanted

-- it is at their end at the least
abbrev pub IsNotBefore : Option ℕ → List Edge → Type 0
IsNotBefore (Some after) es = length es ≤ after
IsNotBefore None es = Unit {0}

-- it was reached behind so many edges, which were followed; otherwise all were
abbrev pub Reaches : Option ℕ → Following → List Edge → Following → Option ℕ → Type 0
Reaches after first es now (Some count) =
    (count ≤ length es) × (after ≡ Some (first.judged + count))
    × (now.judged ≡ first.judged + count)
    × OfAfter first (λ p v before. IsAfter p v (before ++ take count es) now)
Reaches after first es now None =
    IsBehind after first.judged es × (now.judged ≡ first.judged + length es)
    × OfAfter first (λ p v before. IsAfter p v (before ++ es) now)
