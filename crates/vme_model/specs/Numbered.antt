-- The accepted edges of a trace with their numbers, and the edge since which something holds.
-- (Profile.)
use Rattle.std.specs.Prelude.{◌≡◌, ◌+◌, ◌&&◌, if◌then◌else◌, ℕ, Option, Some, None, List, [], ◌∷◌, map, is_ok, slice_get}
use Rattle.std.specs.Option.{option_or}
use Rattle.vme_model.specs.declared.boards.IrqKind.{IrqKind}
use Rattle.vme_model.specs.declared.signals.Driver.{Driver}
use Rattle.vme_model.specs.declared.signals.Wire.{Wire}
use Rattle.vme_model.specs.declared.signals.Wire.TheVariants.{AddressStrobe, DataStrobe, Irq, Dtack}
use Rattle.vme_model.specs.declared.signals.Edge.{Edge}
use Rattle.vme_model.specs.Signals.{is_edge_of, is_fall_of, is_grant}
use Rattle.vme_model.specs.Plan.{Plan}
use Rattle.vme_model.specs.History.{shown, serves}
use Rattle.vme_model.specs.Verdict.{State, verdict, after}

-- accepted edges, the newest first, each with its number among all edges of the trace, from 1
abbrev pub Numbered : Type 0
Numbered = List (ℕ × Edge)

-- the history of these edges
abbrev pub edges_in : Numbered → List Edge
edges_in k = map (λ m. m.1) k

-- these edges, and the n-th edge of the trace if it is accepted
abbrev pub numbered_with : State → ℕ → Edge → Numbered → Numbered
numbered_with b n e k = if is_ok (verdict b e) then (n, e) ∷ k else k

-- k, and the accepted ones among the edges after the n-th, each judged on what was kept before it
abbrev pub numbered_on : State → ℕ → Numbered → List Edge → Numbered
numbered_on b n k [] = k
numbered_on b n k (e ∷ es) = numbered_on (after b e) (n + 1) (numbered_with b (n + 1) e k) es

-- the accepted edges of a whole trace, on a backplane without edges
abbrev pub numbered : State → List Edge → Numbered
numbered b es = numbered_on b 0 [] es

-- the edge is the n-th of a trace, from 1
pub record IsNth (es : List Edge) (n : ℕ) (e : Edge) : Type 0 where
  pub place : ℕ
  pub number : n ≡ place + 1
  pub is : slice_get es place ≡ Some e

-- the number of the driver's last edge on the wire, since which the wire is as it is
abbrev pub since : Numbered → Driver → Wire → Option ℕ
since [] d w = None
since ((n, e) ∷ k) d w = if is_edge_of d w e then Some n else since k d w

-- the number of the last grant
abbrev pub granted_since : Numbered → Option ℕ
granted_since [] = None
granted_since ((n, e) ∷ k) = if is_grant e then Some n else granted_since k

-- the number of the board's first answer since its last `irq-` that serves an interrupter of this
-- kind
abbrev pub served_since : Plan → Numbered → Driver → IrqKind → Option ℕ
served_since p [] d kind = None
served_since p ((n, e) ∷ k) d kind =
    if is_fall_of d Irq e then None
    else option_or (served_since p k d kind)
    (if is_fall_of d Dtack e && serves kind (shown p (edges_in k)) then Some n else None)

-- the number of the board's last `ds-` since its last `as-`
abbrev pub strobed_at : Numbered → Driver → Option ℕ
strobed_at [] d = None
strobed_at ((n, e) ∷ k) d =
    if is_fall_of d AddressStrobe e then None
    else (if is_fall_of d DataStrobe e then Some n else strobed_at k d)
