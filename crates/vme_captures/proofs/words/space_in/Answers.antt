use Rattle.std.proofs.Common.{◌∙◌}
use Rattle.vme_captures.specs.Words.{is_space}
use Rattle.vme_captures.proofs.FirstByte.{first_is}
use Rattle.vme_captures.proofs.words.space_in.Goals as goal

pub returns-clause-place : goal.returns-clause-place
returns-clause-place c =
    c.unwrap_or.ensures ∙ first_is is_space c.args.text.now c.memchr.result c.memchr.ensures
