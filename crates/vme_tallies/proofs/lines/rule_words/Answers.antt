use Rattle.std.proofs.Common.{◌≡◌, ◌∙◌, sym, ap, ◌+◌, ◌++◌, true, false, append_assoc, append-nil, codes, get_or, arith}
use Rattle.std.specs.Prelude.{◌==◌, decimal, filter}
use Rattle.std.specs.List.{flat_map}
use Rattle.std.proofs.lemmas.Bool.{ne_eqb}
use Rattle.vme_model.specs.Plan.{up_to}
use Rattle.vme_tallies.proofs.Words.{word_more, up_to_more}
use Rattle.vme_tallies.proofs.lines.rule_words.Goals as goal
