-- The lines that report what is found of two traces. (Profile.)
use Rattle.std.specs.Prelude.{ℕ, List, [], ◌∷◌, ◌++◌, codes, decimal, Option, Some, None, Err}
use Rattle.vme_model.specs.declared.signals.Edge.{Edge}
use Rattle.vme_model.specs.Report.{verdict_text}
use Rattle.vme_swaps.specs.StopLines.{edge_text, stop_text}
use Rattle.vme_same.specs.declared.comparisons.Why.{Why}
use Rattle.vme_same.specs.declared.comparisons.Why.TheVariants.{Missing, Stops}
use Rattle.vme_same.specs.declared.comparisons.Comparison.{Comparison}
use Rattle.vme_same.specs.declared.comparisons.Comparison.TheVariants.{Same, Refuses, OtherVersion, Differs, Leaves}

abbrev pub why_text : Why → List ℕ
why_text Missing = codes " missing"
why_text (Stops met) = stop_text met

-- The first line, without its end. Of a refusal it is what comes behind the name of the file.
abbrev pub found_text : Comparison → List ℕ
found_text (Same n) = codes "same " ++ decimal n
found_text (Refuses in_first n refused) =
    (decimal n ++ codes " ") ++ verdict_text (Err refused)
found_text OtherVersion = codes "differ version"
found_text (Differs n e why own) = (codes "differ " ++ edge_text n e) ++ why_text why
found_text (Leaves n e) = (codes "differ " ++ edge_text n e) ++ codes " left"

-- what the first trace has of the driver
abbrev pub own_text : Option (ℕ × Edge) → List ℕ
own_text None = codes "none"
own_text (Some (n, a)) = edge_text n a

-- the second line, if there is one
abbrev pub second_line : Comparison → List ℕ
second_line (Differs n e why own) = (codes "    " ++ own_text own) ++ 10 ∷ []
second_line _ = []

abbrev pub found_lines : Comparison → List ℕ
found_lines found = (found_text found ++ 10 ∷ []) ++ second_line found
