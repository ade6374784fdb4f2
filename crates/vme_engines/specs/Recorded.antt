-- What is written of the answers to edges, and found in them.
use Rattle.std.specs.Prelude.{ℕ, zero, suc, ◌+◌, List, [], ◌∷◌, ◌++◌, Option, Some, None, Result, Ok, Err}
use Rattle.vme_model.specs.declared.deliveries.Delivery.{Delivery}
use Rattle.vme_model.specs.declared.refusals.Refused.{Refused}
use Rattle.vme_model.specs.Report.{verdict_line}

-- the verdict line of each answer, the first of them that of the n-th edge
abbrev pub answer_lines : ℕ → List (Result (Option Delivery) Refused) → List ℕ
answer_lines n [] = []
answer_lines n (a ∷ xs) = verdict_line n a ++ answer_lines (n + 1) xs

-- the verdict lines of so many edges that are accepted and deliver nothing, the first of them the
-- n-th
abbrev pub plain_lines : ℕ → ℕ → List ℕ
plain_lines n zero = []
plain_lines n (suc many) = verdict_line n (Ok None) ++ plain_lines (n + 1) many

-- the first refusal, and the number of its edge
abbrev pub first_refused_of :
    ℕ → List (Result (Option Delivery) Refused) → Option (ℕ × Refused)
first_refused_of n [] = None
first_refused_of n (Ok _ ∷ xs) = first_refused_of (n + 1) xs
first_refused_of n (Err refused ∷ xs) = Some (n, refused)
