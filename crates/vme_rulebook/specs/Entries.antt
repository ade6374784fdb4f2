-- What `rule` explains: a rule with its conditions, or another code. (Profile.)
use Rattle.std.specs.Prelude.{ℕ, Option, Some, None, List, option_map}
use Rattle.vme_model.specs.declared.sentences.Rule.{Rule}
use Rattle.vme_model.specs.Sentences.{rule_named}
use Rattle.vme_rulebook.specs.declared.codes.Code.{Code}
use Rattle.vme_rulebook.specs.declared.entries.Entry.{Entry}
use Rattle.vme_rulebook.specs.declared.entries.Entry.TheVariants as entry
use Rattle.vme_rulebook.specs.Codes.{code_named, code_text}
use Rattle.vme_rulebook.specs.Pages.{page}

-- a rule if there is one, and otherwise the code if there is one
abbrev pub either : Option Rule → Option Code → Option Entry
either (Some r) c = Some (entry.Rule r)
either None c = option_map (λ k. entry.Code k) c

-- the rule or the code of that name
abbrev pub entry_named : List ℕ → Option Entry
entry_named words = either (rule_named words) (code_named words)

-- what is printed of it
abbrev pub entry_text : Entry → List ℕ
entry_text (entry.Rule r) = page r
entry_text (entry.Code c) = code_text c
