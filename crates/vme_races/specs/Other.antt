-- What `other_order` writes and answers.
use Rattle.std.specs.Prelude.{◌≡◌, ◌⊎◌, ◌++◌, ◌∷◌, [], ℕ, List, is_ok, false, take, Some, Result, Ok, Err}
use Rattle.vme_model.specs.declared.signals.Version.{Version}
use Rattle.vme_model.specs.declared.signals.Edge.{Edge}
use Rattle.vme_model.specs.History.{in_order}
use Rattle.vme_model.specs.Plan.{Plan}
use Rattle.vme_model.specs.Numbered.{IsNth, Numbered, edges_in, numbered}
use Rattle.vme_model.specs.Text.{Reading, read_of, text}
use Rattle.vme_model.specs.Verdict.{Judgement, kept, verdict}
use Rattle.vme_trace.specs.declared.Fault.{Fault}
use Rattle.vme_trace.specs.declared.Fault.TheVariants.{Memory, Write}
use Rattle.vme_trace.specs.Texts.{whole}
use Rattle.vme_reading.specs.declared.EngineFault.TheVariants as fault
use Rattle.vme_reading.specs.LegalTraces.{IsLegalTrace}
use Rattle.vme_reading.specs.Streams.{Streams, Wrote, WroteFront, WroteNothing}
use Rattle.vme_reading.specs.Outcomes.{bench}
use Rattle.vme_following.specs.Explaining.{Explains, IsUnasked}
use Rattle.vme_reading.specs.Waiting.{StopsWaiting}
use Rattle.vme_races.specs.declared.other.OtherOrder.{OtherOrder}
use Rattle.vme_races.specs.declared.other.OtherOrder.TheVariants.{Beyond, NoRace, Written}
use Rattle.vme_swaps.specs.declared.stops.Stop.TheVariants.{Races}
use Rattle.vme_races.specs.declared.walks.Walk.{Walk}
use Rattle.vme_swaps.specs.Stops.{is_race}
use Rattle.vme_races.specs.Walks.{IsWalk}

-- The other order of the race of an accepted edge e behind these edges of a trace: the accepted
-- edges before the one that is met, then e, and then the one that is met.
pub record IsOtherOrder (p : Plan) (v : Version) (before : List Edge) (e : Edge) (bytes : List ℕ)
    : Type 0 where
  pub accepted : verdict (kept (bench p v) before) e ≡ Ok tt
  pub walk : Walk
  pub goes : IsWalk v p e (numbered (bench p v) before) walk
  pub n : ℕ
  pub met : Edge
  pub outcome : Judgement
  pub races : walk.stop ≡ Races n met outcome
  pub rest : Numbered
  pub behind : goes.rest ≡ (n, met) ∷ rest
  pub trace : bytes ≡ text v (in_order (met ∷ e ∷ edges_in rest))

-- it is refused behind these, or races with none
abbrev pub HasNoRace : Plan → Version → List Edge → Edge → Type 0
HasNoRace p v before e =
    (is_ok (verdict (kept (bench p v) before) e) ≡ false)
    ⊎ ((walk : Walk) × IsWalk v p e (numbered (bench p v) before) walk
    × (is_race walk.stop ≡ false))

-- what holds of the edge that has this number in the trace, and of the edges before it
pub record OfNth
    (edge : ℕ) (r : Reading) (P : Version → List Edge → Edge → Type 0)
    : Type 0 where
  pub version : Version
  pub named : r.version ≡ Some version
  pub e : Edge
  pub at : IsNth r.edges edge e
  pub holds : P version (take at.place r.edges) e

-- What it leaves of a trace on a plan: the trace of the other order, at X8 a prefix of it; if there
-- is none, nothing. X6: there was no memory for the edges.
abbrev pub Orders : ℕ → Plan → List ℕ → Streams → Result OtherOrder Fault → Type 0
Orders edge p trace s (Ok Written) =
    (bytes : List ℕ)
    × OfNth edge (read_of trace) (λ v before e. IsOtherOrder p v before e bytes)
    × Wrote s bytes
Orders edge p trace s (Ok NoRace) = OfNth edge (read_of trace) (HasNoRace p) × WroteNothing s
Orders edge p trace s (Ok (Beyond edges)) =
    Explains (Some edge) p trace s (Err (fault.Beyond edges))
Orders edge p trace s (Err f) =
    (StopsWaiting (IsUnasked (Some edge) p) trace s f × WroteNothing s)
    ⊎ (((f ≡ Memory) × WroteNothing s)
    ⊎ ((f ≡ Write) × (bytes : List ℕ)
    × OfNth edge (read_of trace) (λ v before e. IsOtherOrder p v before e bytes)
    × WroteFront s bytes))

-- ---- what such a trace is

-- The bytes spell the trace of these edges and of a last one. Without the last the trace is legal,
-- and the last has this verdict behind it.
pub record IsLegalButLast
    (p : Plan) (v : Version) (front : List Edge) (last : Edge) (outcome : Judgement)
    (bytes : List ℕ)
    : Type 0 where
  pub reads : read_of bytes ≡ whole v (front ++ last ∷ [])
  pub legal : IsLegalTrace p (whole v front)
  pub answered : verdict (kept (bench p v) front) last ≡ outcome
