-- The laws of a line.
use Rattle.std.proofs.Common.{◌≡◌, ℕ, List, Some, sym, ◌∙◌, ap}
use Rattle.std.proofs.lemmas.Option.{same_Some}
use Rattle.vme_captures.specs.declared.signals.Entry.{Entry}
use Rattle.vme_captures.specs.Spelling.{Spells}
use Rattle.vme_captures.specs.Words.{entry_of}
use Rattle.vme_captures.proofs.Spelled.{entry_read}
use Rattle.vme_captures.proofs.Found.{entry_found}

pub says : (line : List ℕ) (e : Entry) → entry_of line ≡ Some e → Spells line e
says line e h = let k = entry_read line e h in (k.1, k.0)

pub spelled : (line : List ℕ) (e : Entry) → Spells line e → entry_of line ≡ Some e
spelled line e h = ap entry_of h.1 ∙ entry_found e h.0

pub one_thing : (line : List ℕ) (d e : Entry) → Spells line d → Spells line e → d ≡ e
one_thing line d e h k = same_Some d e (sym (spelled line d h) ∙ spelled line e k)
