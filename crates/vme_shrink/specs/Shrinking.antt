-- What `shrink` writes and answers. (Profile.)
use Rattle.std.specs.Prelude.{◌≡◌, ◌++◌, ◌∷◌, [], ℕ, List, Option, Ok, Err}
use Rattle.std.specs.Io.KnownBytes.{Appends, Keeps}
use Rattle.vme_model.specs.declared.signals.Version.{Version}
use Rattle.vme_model.specs.declared.signals.Edge.{Edge}
use Rattle.vme_model.specs.Plan.{Plan}
use Rattle.vme_model.specs.Verdict.{State, kept}
use Rattle.vme_model.specs.Text.{text}
use Rattle.vme_trace.specs.declared.Fault.TheVariants.{Memory, Write}
use Rattle.vme_trace.specs.Writing.{AppendsFront}
use Rattle.vme_shrink_search.specs.Stories.{IsFound, accepted}
use Rattle.vme_reading.specs.declared.Status.{Status}
use Rattle.vme_reading.specs.declared.EngineFault.TheVariants as fault
use Rattle.vme_reading.specs.Streams.{Streams}
use Rattle.vme_reading.specs.Outcomes.{Answer, bench}
use Rattle.vme_reading.specs.Seeking.{Writing}
use Rattle.vme_following.specs.Explaining.{edge_status}
use Rattle.vme_following.specs.Printing.{PrintsInput}

-- what was kept of these edges of a trace of this version, on a plan
abbrev pub IsFront : Plan → Version → List Edge → State → Type 0
IsFront p v es front = front ≡ kept (bench p v) es

-- A story of this edge and of what was kept of these is written with it.
pub record IsStoryText (p : Plan) (v : Version) (before : List Edge) (e : Edge) (bytes : List ℕ)
    : Type 0 where
  pub story : List Edge
  pub found : IsFound (bench p v) (accepted (bench p v) before) e story
  pub trace : bytes ≡ text v (story ++ e ∷ [])

-- The edge is written behind such a story, or at X8 a prefix of that. X6: there was no memory for
-- the search.
abbrev pub WritesStory : Plan → Writing Status
WritesStory p v before e old new (Ok status) =
    (status ≡ edge_status (kept (bench p v) before) e)
    × (bytes : List ℕ) × IsStoryText p v before e bytes × Appends old new bytes
WritesStory p v before e old new (Err Write) =
    (bytes : List ℕ) × IsStoryText p v before e bytes × AppendsFront old new bytes
WritesStory p v before e old new (Err Memory) = Keeps old new
WritesStory p v before e old new (Err _) = ⊥

-- What is left of the whole input: the shorter trace, or that all edges are legal. X6: there was no
-- memory for the edges.
abbrev pub ShrinksInput : Option ℕ → Streams → Plan → Answer → Type 0
ShrinksInput edge s p answer = PrintsInput WritesStory (λ f. f ≡ Memory) edge s p answer
