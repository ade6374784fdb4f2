-- What a step of a reader does, between two places in a trace.
use Rattle.std.specs.Prelude.{◌≡◌, ℕ, zero, suc, List, ◌++◌, Option, All, IsTrue}
use Rattle.vme_model.specs.declared.signals.Version.{Version}
use Rattle.vme_model.specs.declared.signals.Edge.{Edge}
use Rattle.vme_model.specs.Signals.{is_well_formed}
use Rattle.vme_model.specs.Text.{edge_lines, next_number}
use Rattle.vme_trace.specs.declared.Fault.{Fault}
use Rattle.vme_trace.specs.Reading.{Place, rest_of, with_edges, HasFaultAfter}

abbrev pub place : ℕ → List ℕ → Place
place n part = record { line = n; part = part }

-- These bytes lead from one place to another, and the list grows by the edges of their lines.
pub record Leads (v : Option Version) (p : Place) (bytes : List ℕ)
    (old new : List Edge) (w : Option Version) (q : Place) : Type 0 where
  pub es : List Edge
  pub appended : new ≡ old ++ es
  pub others : (more : List ℕ) → rest_of v p (bytes ++ more) ≡ with_edges es (rest_of w q more)

-- These bytes hold a fault, and the list grows by the edges before it.
pub record Fails (v : Option Version) (p : Place) (bytes : List ℕ)
    (old new : List Edge) (w : Option Version) (fault : Fault) : Type 0 where
  pub es : List Edge
  pub appended : new ≡ old ++ es
  pub has_fault : (more : List ℕ) → HasFaultAfter (rest_of v p (bytes ++ more)) w es fault

-- The lines of edges stand at the head of these bytes, before the rest, and the list grows by the
-- edges.
pub record HasLines (bytes rest : List ℕ) (old new : List Edge) : Type 0 where
  pub es : List Edge
  pub formed : All (λ e. IsTrue (is_well_formed e)) es
  pub is : bytes ≡ edge_lines es ++ rest
  pub appended : new ≡ old ++ es

-- the number of the line that comes so many lines after another
abbrev pub number_after : ℕ → ℕ → ℕ
number_after n zero = n
number_after n (suc k) = number_after (next_number n) k
