-- What `rule` prints: all rules in a sentence each, or one rule with its conditions and where each
-- of them comes from. (Profile.)
use Rattle.std.specs.Prelude.{ℕ, ◌-◌, if◌then◌else◌, Option, Some, None, List, [], ◌∷◌, ◌++◌, length, max, take, codes}
use Rattle.std.specs.List.{flat_map, fold}
use Rattle.std.specs.Option.{option_map_or, option_to_list}
use Rattle.vme_model.specs.declared.boards.IrqKind.TheVariants.{Roak, Rora}
use Rattle.vme_model.specs.declared.conditions.Condition.{Condition}
use Rattle.vme_model.specs.declared.conditions.Condition.TheVariants as condition
use Rattle.vme_model.specs.declared.sentences.Rule.{Rule}
use Rattle.vme_model.specs.declared.sentences.Rule.TheVariants.{E1, E2, E5}
use Rattle.vme_model.specs.declared.signals.Wire.TheVariants.{Br, Irq}
use Rattle.vme_model.specs.declared.sources.Chapter.{Chapter}
use Rattle.vme_model.specs.declared.sources.Chapter.TheVariants.{DataTransfer, Arbitration, Interrupts}
use Rattle.vme_model.specs.declared.sources.Source.{Source}
use Rattle.vme_model.specs.declared.sources.Source.TheVariants.{Standard, EachCycle, LeastTime, Profile}
use Rattle.vme_model.specs.declared.sources.Sourced.{Sourced}
use Rattle.vme_model.specs.Sentences as sentences
use Rattle.vme_model.specs.Sentences.{rule_edge, rule_name, sentence}
use Rattle.vme_model.specs.Sources.{is_first_versions, reason_text, sources}
use Rattle.vme_model.specs.Spoken.{board_text, kind_text, part_text, pattern}

-- a rule's name, its edge, and its sentence
abbrev pub rule_line : Rule → List ℕ
rule_line r =
    ((((rule_name r ++ codes " ") ++ rule_edge r) ++ codes " ") ++ sentence r) ++ 10 ∷ []

-- the texts of a condition, with N for a level: the one of G22 has two, by the kind of interrupter
abbrev pub first_text : Condition → List ℕ
first_text condition.Served = kind_text Roak
first_text c = pattern c

abbrev pub second_text : Condition → Option (List ℕ)
second_text condition.Served = Some (kind_text Rora)
second_text c = None

abbrev pub texts : Condition → List (List ℕ)
texts c = first_text c ∷ option_to_list (second_text c)

-- the length of the longest text of a condition, and of all conditions of a rule
abbrev pub longest : Condition → ℕ
longest c = max (length (first_text c)) (option_map_or length (second_text c) 0)

abbrev pub width : Rule → ℕ
width r = fold (λ most s. max most (longest s.condition)) 0 (sources r)

-- where a condition comes from: the chapter of the standard, or the profile
abbrev pub chapter_text : Chapter → List ℕ
chapter_text DataTransfer = codes "standard 2"
chapter_text Arbitration = codes "standard 3"
chapter_text Interrupts = codes "standard 4"

abbrev pub source_text : Source → List ℕ
source_text (Standard n) = chapter_text n
source_text EachCycle = codes "standard 2 and 4"
source_text (LeastTime n) = chapter_text n
source_text (Profile why) = codes "profile"

-- in which version alone it is asked for
abbrev pub version_text : Rule → List ℕ
version_text r = if is_first_versions r then codes ", in version 1" else []

-- why
abbrev pub why_text : Source → List ℕ
why_text (LeastTime n) = codes ": it takes the place of a minimum time"
why_text (Profile why) = codes ": " ++ reason_text why
why_text _ = []

-- blanks, as many as the longest text of a condition has bytes at most
abbrev pub blanks : List ℕ
blanks = codes "                                                "

-- a text of a condition, filled up to the longest of its rule
abbrev pub column : Rule → List ℕ → List ℕ
column r text = (text ++ take (width r - length text) blanks) ++ codes "  "

-- a line for a text of a condition
abbrev pub source_line : Rule → Source → List ℕ → List ℕ
source_line r s text =
    (((column r text ++ source_text s) ++ version_text r) ++ why_text s) ++ 10 ∷ []

-- the lines of a condition
abbrev pub condition_lines : Rule → Sourced → List ℕ
condition_lines r s = flat_map (source_line r s.source) (texts s.condition)

-- the conditions of E1, E2 and E5, which have no source
abbrev pub bare_lines : Rule → List ℕ
bare_lines E1 =
    ((((board_text Br None ++ 10 ∷ []) ++ part_text Br) ++ 10 ∷ []) ++ part_text Irq) ++ 10 ∷ []
bare_lines E2 =
    codes "DRIVER WIRE is high\nDRIVER WIRE is off\nDRIVER WIRE is low\nDRIVER WIRE is on\n"
bare_lines E5 = pattern condition.HasRoom ++ 10 ∷ []
bare_lines r = []

-- one rule
abbrev pub page : Rule → List ℕ
page r = (rule_line r ++ flat_map (condition_lines r) (sources r)) ++ bare_lines r

-- all rules
abbrev pub list : List ℕ
list = flat_map rule_line sentences.all_rules
