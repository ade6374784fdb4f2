-- What is written of the answers to edges.
use Rattle.std.specs.Prelude.{ℕ, zero, suc, ◌+◌, List, [], ◌∷◌, ◌++◌, Option, None, Result, Ok}
use Rattle.vme_model.specs.declared.deliveries.Delivery.{Delivery}
use Rattle.vme_model.specs.declared.refusals.Refused.{Refused}
use Rattle.vme_model.specs.Report.{verdict_line}

-- the verdict line of each answer, the first of them that of the n-th edge
abbrev pub answer_lines : ℕ → List (Result (Option Delivery) Refused) → List ℕ
answer_lines n [] = []
answer_lines n (a ∷ xs) = verdict_line n a ++ answer_lines (n + 1) xs

-- the verdict lines of so many edges that are accepted and deliver nothing, the first of them the
-- n-th
abbrev pub plain_lines : ℕ → ℕ → List ℕ
plain_lines n zero = []
plain_lines n (suc many) = verdict_line n (Ok None) ++ plain_lines (n + 1) many
