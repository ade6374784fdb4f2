-- What is wrong with words that name nothing that a trace can reach in a version of the rules.
use Rattle.std.specs.Prelude.{◌==◌, ◌&&◌, ◌||◌, ◌++◌, ℕ, Bool, true, false, if◌then◌else◌, List, [], ◌∷◌, Option, Some, None, codes, find, length, nat_le, eqb}
use Rattle.std.specs.List.{list_all, list_any, starts_with, zip}
use Rattle.std.specs.Str.{bytes_eq}
use Rattle.vme_model.specs.declared.Rule.{Rule}
use Rattle.vme_model.specs.declared.Rule.TheVariants.{E1, E2, E5, S1, S2, S3, S4}
use Rattle.vme_model.specs.declared.Version.{Version}
use Rattle.vme_model.specs.declared.Version.TheVariants.{One, Two}
use Rattle.vme_model.specs.Sentences.{all_rules, rule_name, rule_named}
use Rattle.vme_model.specs.Spoken.{kind_text, pattern}
use Rattle.vme_goals.specs.declared.misses.Miss.{Miss}
use Rattle.vme_goals.specs.declared.misses.Miss.TheVariants as miss
use Rattle.vme_goals.specs.declared.goals.Aim.{Aim}
use Rattle.vme_goals.specs.declared.goals.Aim.TheVariants as aim
use Rattle.vme_goals.specs.Goals.{aim_of, all_misses, miss_text}
use Rattle.vme_command_line.specs.declared.mistakes.Mistake.{Mistake}
use Rattle.vme_command_line.specs.declared.mistakes.Mistake.TheVariants.{NoCondition, OtherEvent, OtherCondition, Level, Bare, Foreign, Settled, NoRule, Unknown}

abbrev pub other : Version → Version
other One = Two
other Two = One

-- the rule guards an edge
abbrev pub is_edge_rule : Rule → Bool
is_edge_rule E1 = false
is_edge_rule E2 = false
is_edge_rule E5 = false
is_edge_rule S1 = false
is_edge_rule S2 = false
is_edge_rule S3 = false
is_edge_rule S4 = false
is_edge_rule _ = true

abbrev pub is_digit : ℕ → Bool
is_digit byte = nat_le 48 byte && nat_le byte 57

-- a byte is this one, or a digit if this one is N
abbrev pub is_alike : ℕ → ℕ → Bool
is_alike byte wanted = byte == wanted || wanted == 78 && is_digit byte

-- words are a text, or have digits in the place of N
abbrev pub are_alike : List ℕ → List ℕ → Bool
are_alike words text =
    length words == length text && list_all (λ p. is_alike p.0 p.1) (zip words text)

-- the same, with the mark of `explain` or without it
abbrev pub are_marked : List ℕ → List ℕ → Bool
are_marked words text = are_alike words text || are_alike words (text ++ codes " (profile)")

-- the words of a miss with a level in the place of N
abbrev pub is_levelled : List ℕ → Miss → Bool
is_levelled words m = are_marked words (miss_text m)

-- the words of the condition of a miss, without its rule
abbrev pub is_bare : List ℕ → Miss → Bool
is_bare words (miss.Rule k c) = are_marked words (pattern c)
is_bare words (miss.Unserved kind) = are_marked words (kind_text kind)
is_bare words m = false

-- words begin with the name of a rule, which a blank follows if they are more
abbrev pub begin_with : List ℕ → Rule → Bool
begin_with words r =
    bytes_eq words (rule_name r) || starts_with eqb words (rule_name r ++ codes " ")

-- words begin as the name of a rule does, in capitals or not
abbrev pub is_letter : ℕ → Bool
is_letter byte =
    byte == 71 || byte == 103 || byte == 83 || byte == 115 || byte == 69 || byte == 101

abbrev pub are_rule_like : List ℕ → Bool
are_rule_like (letter ∷ digit ∷ rest) = is_letter letter && is_digit digit
are_rule_like _ = false

-- of words that begin with the name of a rule
abbrev pub mistake_with : Rule → Mistake
mistake_with E1 = Unknown
mistake_with E2 = Unknown
mistake_with E5 = Unknown
mistake_with S1 = Settled
mistake_with S2 = Settled
mistake_with S3 = Settled
mistake_with S4 = Settled
mistake_with _ = Foreign

-- by the rule with whose name the words begin, if they do
abbrev pub mistake_of : Option Rule → Bool → Mistake
mistake_of (Some r) is_like = mistake_with r
mistake_of None is_like = if is_like then NoRule else Unknown

abbrev pub mistake_by_rule : List ℕ → Mistake
mistake_by_rule words = mistake_of (find (begin_with words) all_rules) (are_rule_like words)

-- by the conditions of all rules
abbrev pub mistake_without : List ℕ → Mistake
mistake_without words =
    if list_any (is_bare words) all_misses then Bare else mistake_by_rule words

-- by what the words name in the other version
abbrev pub mistake_by : Option Aim → List ℕ → Mistake
mistake_by (Some (aim.Event e)) words = OtherEvent
mistake_by (Some (aim.Miss m)) words = OtherCondition
mistake_by None words =
    if list_any (is_levelled words) all_misses then Level else mistake_without words

abbrev pub mistake_beside : List ℕ → Version → Mistake
mistake_beside words version = mistake_by (aim_of words (other version)) words

-- by the rule whose name the words are: an edge rule that is no goal asks for nothing
abbrev pub mistake_at : Option Rule → Mistake → Mistake
mistake_at (Some r) beside = if is_edge_rule r then NoCondition else beside
mistake_at None beside = beside

-- what is wrong with words that name nothing that a trace can reach in that version
abbrev pub mistake_in : List ℕ → Version → Mistake
mistake_in words version = mistake_at (rule_named words) (mistake_beside words version)
